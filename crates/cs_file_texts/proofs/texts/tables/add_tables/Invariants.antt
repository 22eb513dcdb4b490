use Rattle.std.proofs.Common.{[], ◌-◌, List, length}
use Rattle.cs_wire.specs.Changeset.{GroupData}
use Rattle.cs_file_scan.specs.Tables.{EntriesLeft}
use Rattle.cs_file_texts.specs.Forms.{group_part}
use Rattle.cs_file_texts.proofs.TablesLemmas.{GathersGroups}
use Rattle.cs_file_texts.proofs.texts.tables.add_tables.Given as goal

abbrev pub invariant-tables : goal.invariant-tables
invariant-tables g l =
    (groups : List GroupData) → EntriesLeft l.fn.tables [] groups → GathersGroups g.W.Write.contents (group_part l.form) l.initial.gather l.gather l.initial.out l.out l.left groups

abbrev pub decreases-tables : goal.decreases-tables
decreases-tables g l = length l.left.file - l.left.place
