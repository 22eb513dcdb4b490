-- Conflicts in the order of their entries. No public contract names this.
use Rattle.std.specs.Prelude.{◌≡◌, ◌⊎◌, List, [], ◌∷◌}
use Rattle.cs_apply_conflict_kinds.specs.Applying.{PlacedEntry, ConflictData}
use Rattle.cs_apply_rehearsal.specs.Found.{IsOf}

-- the first conflicts are of this entry, and `Others` holds of the others
abbrev pub BeginsAt : PlacedEntry → (List ConflictData → Type 0) → List ConflictData → Type 0
BeginsAt p Others [] = Unit {0}
BeginsAt p Others (c ∷ cs) = (IsOf c p × BeginsAt p Others cs) ⊎ Others (c ∷ cs)

-- each conflict is of one of the entries: that of the conflict before it, or a later one
abbrev pub AreAlong : List PlacedEntry → List ConflictData → Type 0
AreAlong [] cs = cs ≡ []
AreAlong (p ∷ ps) cs = BeginsAt p (AreAlong ps) cs
