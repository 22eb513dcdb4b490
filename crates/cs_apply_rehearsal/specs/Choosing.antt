-- Choices for the conflicts of a rehearsal.
use Rattle.std.specs.Prelude.{◌≡◌, ◌==◌, ◌⊎◌, ◌||◌, not, Bool, true, if◌then◌else◌, List, [], ◌∷◌, map, All, Any, Option, None, Some}
use Rattle.std.specs.List.{zip}
use Rattle.cs_apply_conflict_kinds.specs.declared.conflict.Choice.{Choice}
use Rattle.cs_apply_conflict_kinds.specs.declared.conflict.Choice.TheVariants.{Abort}
use Rattle.cs_apply_conflict_kinds.specs.Conflicts.{is_overcome}
use Rattle.cs_apply_conflict_kinds.specs.Applying.{ConflictData, MetData}
use Rattle.cs_apply_rehearsal.specs.Found.{FoundData}

-- ---- the choice for a conflict

-- the two conflicts are of one kind, of one entry of one table
pub record IsSame (one other : ConflictData) : Type 0 where
  pub kind : one.kind ≡ other.kind
  pub table : one.table ≡ other.table
  pub entry : one.entry ≡ other.entry

-- the choice is that for a listed conflict which is the same, or ABORT if none is
abbrev pub IsChoiceFor : List MetData → ConflictData → Choice → Type 0
IsChoiceFor listed conflict choice =
    Any (λ m. IsSame m.conflict conflict × (m.choice ≡ choice)) listed
    ⊎ (All (λ m. ¬ IsSame m.conflict conflict) listed × (choice ≡ Abort))

-- a conflict of a rehearsal, and the choice for it
pub record ChosenData : Type 0 where
  pub found : FoundData
  pub choice : Choice

-- each conflict has the choice at its place
abbrev pub chosen_for : List FoundData → List Choice → List ChosenData
chosen_for found choices = map (λ p. record { found = p.0; choice = p.1 }) (zip found choices)

abbrev pub met_by : ChosenData → MetData
met_by c = record { conflict = c.found.conflict; choice = c.choice }

-- the conflicts with these choices
abbrev pub listed_with : List FoundData → List Choice → List MetData
listed_with found choices = map met_by (chosen_for found choices)

-- ---- the conflicts that come with these choices

-- the first conflict of an entry comes, and another one if that before it is overcome
abbrev pub comes_after : Option ChosenData → ChosenData → Bool
comes_after None c = true
comes_after (Some before) c = not (before.found.index == c.found.index) || is_overcome before.found.conflict.kind before.choice

abbrev pub coming_after : Option ChosenData → List ChosenData → List MetData
coming_after before [] = []
coming_after before (c ∷ cs) = if comes_after before c then met_by c ∷ coming_after (Some c) cs else coming_after (Some c) cs

-- Those that come, in order, with their choices: all but each CONSTRAINT after a conflict of its entry that is not
-- overcome by REPLACE.
abbrev pub coming : List ChosenData → List MetData
coming chosen = coming_after None chosen
