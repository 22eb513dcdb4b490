-- Of the remaining tables those are written that are named.
use Rattle.std.proofs.Common.{[], ◌-◌, List, length}
use Rattle.cs_wire.specs.Changeset.{GroupData}
use Rattle.cs_file_scan.specs.Tables.{EntriesLeft}
use Rattle.cs_files.proofs.PassLemmas.{WritesTables}
use Rattle.cs_files.proofs.SelectLemmas.{group_text}
use Rattle.cs_files.proofs.selecting.write_selected.Given as goal

abbrev pub invariant-tables : goal.invariant-tables
invariant-tables l = (groups : List GroupData) → EntriesLeft l.fn.tables [] groups → WritesTables (group_text l.names) l.fn.out.items l.out.items l.left groups

abbrev pub decreases-tables : goal.decreases-tables
decreases-tables l = length l.left.file - l.left.place
