-- What a changeset does to a state with its key columns numbered.
use Rattle.std.specs.Prelude.{◌≡◌, ◌↔◌, List, map}
use Rattle.cs_value.specs.State.{State}
use Rattle.cs_wire.specs.Changeset.{GroupData}
use Rattle.cs_group.specs.Numbering.{numbered_flags, numbered}
use Rattle.cs_apply_conflict_kinds.specs.Judging.{judged}
use Rattle.cs_apply_conflict_kinds.specs.declared.conflict.Noop.{Noop}
use Rattle.cs_apply_conflict_kinds.specs.Applying.{PlacedEntry, IsClean, Choices}
use Rattle.cs_apply_conflict_kinds.specs.Applying.{skipped, ignored, met_under, written_under}
use Rattle.cs_apply_conflict_kinds.specs.Applying.{IsAppliedUnder}

-- the entry under numbered flags
abbrev pub numbered_entry : PlacedEntry → PlacedEntry
numbered_entry p = record { table = p.table; flags = numbered_flags p.flags; entry = p.entry }

-- what is chosen for the entries under numbered flags
abbrev pub as_numbered : Choices → Choices
as_numbered choose p = choose (numbered_entry p)

-- The second changeset is the first with its keys numbered, and does to every state what the first does: each table is
-- judged alike, and the same ones are skipped. With the same choices the same conflicts are encountered, the same keys
-- are written and the same states are made, whether no-ops are reported or ignored. As many entries are ignored.
pub record DoesAlike (changeset other : List GroupData) : Type 0 where
  pub judged : (state : State) → map (judged state) other ≡ map (judged state) changeset
  pub skipped : (state : State) → skipped state other ≡ skipped state changeset
  pub ignored : (noop : Noop) (state : State) → ignored noop state other ≡ ignored noop state changeset
  pub met : (noop : Noop) (state : State) (choose : Choices)
      → met_under noop state other choose ≡ met_under noop state changeset (as_numbered choose)
  pub clean : (state : State) → IsClean state changeset ↔ IsClean state other
  pub written : (noop : Noop) (state : State) (choose : Choices)
      → written_under noop state other choose ≡ written_under noop state changeset (as_numbered choose)
  pub applied : (noop : Noop) (old new : State) (choose : Choices)
      → IsAppliedUnder noop old changeset (as_numbered choose) new ↔ IsAppliedUnder noop old other choose new

abbrev pub NumberingDoes : Type 0
NumberingDoes = (changeset : List GroupData) → DoesAlike changeset (numbered changeset)
