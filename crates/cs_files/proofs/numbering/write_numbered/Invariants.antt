-- Of the remaining tables some are written, with the columns of their keys numbered.
use Rattle.std.proofs.Common.{[], ◌-◌, List, length}
use Rattle.cs_wire.specs.Changeset.{GroupData, group_bytes}
use Rattle.cs_file_scan.specs.Tables.{EntriesLeft}
use Rattle.cs_group.specs.Numbering.{numbered_group}
use Rattle.cs_files.proofs.PassLemmas.{WritesTables}
use Rattle.cs_files.proofs.numbering.write_numbered.Given as goal

abbrev pub invariant-tables : goal.invariant-tables
invariant-tables l = (groups : List GroupData) → EntriesLeft l.fn.tables [] groups → WritesTables (λ g. group_bytes (numbered_group g)) l.fn.out.items l.out.items l.left groups

abbrev pub decreases-tables : goal.decreases-tables
decreases-tables l = length l.left.file - l.left.place
