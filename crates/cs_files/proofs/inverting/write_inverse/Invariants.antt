-- Of the tables that are left some are undone.
use Rattle.std.proofs.Common.{[], ◌-◌, List, length}
use Rattle.cs_wire.specs.Changeset.{GroupData, group_bytes}
use Rattle.cs_file_scan.specs.Tables.{EntriesLeft}
use Rattle.cs_group.specs.Inverse.{inverse_group}
use Rattle.cs_files.proofs.PassLemmas.{WritesTables}
use Rattle.cs_files.proofs.inverting.write_inverse.Given as goal

abbrev pub invariant-tables : goal.invariant-tables
invariant-tables l = (groups : List GroupData) → EntriesLeft l.fn.tables [] groups → WritesTables (λ g. group_bytes (inverse_group g)) l.fn.out.items l.out.items l.left groups

abbrev pub decreases-tables : goal.decreases-tables
decreases-tables l = length l.left.file - l.left.place
