-- What holds of all states and changesets.
use Rattle.std.specs.Prelude.{◌≡◌, ◌↔◌, ◌&&◌, ℕ, Bool, true, false, not, List, All, Option, None, Some}
use Rattle.cs_value.specs.declared.value.OwnedValue.{OwnedValue}
use Rattle.cs_value.specs.declared.value.OwnedField.{OwnedField}
use Rattle.cs_value.specs.Key.{row_key, image_key}
use Rattle.cs_value.specs.State.{State, IsState, Obeys, WrittenData, row_at}
use Rattle.cs_value.specs.Table.{IsKeyedRow}
use Rattle.cs_value.specs.Value.{IsRow}
use Rattle.cs_wire_entries.specs.declared.entry.Change.TheVariants.{Insert, Delete, Update}
use Rattle.cs_wire.specs.Entry.{IsChange}
use Rattle.cs_wire.specs.Changeset.{GroupData, IsChangeset}
use Rattle.cs_group.specs.Inverse.{IsInverse}
use Rattle.cs_apply_conflict_kinds.specs.declared.conflict.Noop.{Noop}
use Rattle.cs_apply_conflict_kinds.specs.Conflicts.{has_values, is_refused, is_idle}
use Rattle.cs_apply_conflict_kinds.specs.Applying.{Choices, IsClean, IsApplied, IsAppliedUnder, applicable, current}
use Rattle.cs_apply_conflict_kinds.specs.Applying.{ignored_of, written_under}

-- a changeset with these choices makes exactly one state
abbrev pub AppliedOnce : Type 0
AppliedOnce = (noop : Noop) (old : State) (changeset : List GroupData) (choose : Choices) (new other : State)
    → IsAppliedUnder noop old changeset choose new → IsAppliedUnder noop old changeset choose other → new ≡ other

-- after a changeset that met no conflict in a state, in which no row breaks a rule of its table, its inverse meets
-- none, and gives the state back
abbrev pub AppliedReverts : Type 0
AppliedReverts = (old : State) (changeset inverse : List GroupData) (choose again : Choices) (new : State)
    → IsState old → IsChangeset changeset → IsInverse changeset inverse → IsClean old changeset
    → IsApplied old changeset choose new → IsClean new inverse × IsApplied new inverse again old

-- a written row was there before as reported, and each other row was there as it is now
pub record TellsFormer (old new : State) (written : List WrittenData) : Type 0 where
  pub told : All (λ w. row_at old w.table w.key ≡ w.former) written
  pub others : (table key : List ℕ) → All (λ w. ¬ ((w.table ≡ table) × (w.key ≡ key))) written
      → row_at new table key ≡ row_at old table key

abbrev pub WrittenTells : Type 0
WrittenTells = (noop : Noop) (old : State) (changeset : List GroupData) (choose : Choices) (new : State)
    → IsAppliedUnder noop old changeset choose new → TellsFormer old new (written_under noop old changeset choose)

-- which changes are no-ops: a delete without a row, an insert whose row exists, and an update whose row has the new
-- values in the modified columns, and not all of the old ones
pub record IdleCases : Type 0 where
  pub deleted : (refused : Bool) (flags : List ℕ) (old : List OwnedValue) (row : Option (List OwnedValue))
      → (is_idle refused flags (Delete old) row ≡ true) ↔ (row ≡ None)
  pub inserted : (refused : Bool) (flags : List ℕ) (new : List OwnedValue) (row : Option (List OwnedValue))
      → (is_idle refused flags (Insert new) row ≡ true) ↔ (row ≡ Some new)
  pub updated : (refuses : List Bool) (flags : List ℕ) (old new : List OwnedField) (row : List OwnedValue)
      → IsChange flags (Update old new) → IsRow row → IsKeyedRow flags row → Obeys refuses row
      → row_key flags row ≡ image_key flags old
      → is_idle (is_refused refuses flags (Update old new)) flags (Update old new) (Some row)
      ≡ (not (has_values row old) && has_values row new)
  pub missing : (refused : Bool) (flags : List ℕ) (old new : List OwnedField)
      → is_idle refused flags (Update old new) None ≡ false

-- the row of an entry that is ignored stays
abbrev pub IgnoredStand : Type 0
IgnoredStand = (noop : Noop) (old : State) (changeset : List GroupData) (choose : Choices) (new : State) → IsChangeset changeset
    → IsAppliedUnder noop old changeset choose new
    → All (λ p. current new p ≡ current old p) (ignored_of noop old (applicable old changeset))
