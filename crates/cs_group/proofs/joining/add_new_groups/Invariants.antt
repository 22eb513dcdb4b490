-- The groups so far that are not marked are there.
use Rattle.std.proofs.Common.{◌≡◌, ◌++◌, List, take}
use Rattle.std.specs.Prelude.{filter}
use Rattle.cs_wire.specs.Changeset.{GroupData}
use Rattle.cs_group.specs.Joining.{is_new}
use Rattle.cs_group.specs.Marks.{AreMet}
use Rattle.cs_group.proofs.joining.add_new_groups.Given as goal

abbrev pub invariant-loop-index : goal.invariant-loop-index
invariant-loop-index l = (firsts : List GroupData) → AreMet (λ g. g.header.name) l.met firsts l.second
    → l.groups.items ≡ l.initial.groups.items ++ filter (is_new (λ g. g.header.name) firsts) (take l.index l.second)
