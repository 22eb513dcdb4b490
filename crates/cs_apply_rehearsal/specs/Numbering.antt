-- Conflicts with the indices of their entries. No public contract names this.
use Rattle.std.specs.Prelude.{◌≡◌, ◌<◌, ℕ, List, length, map, drop, HoldsAt}
use Rattle.std.specs.List.{AllByRecursion}
use Rattle.cs_apply_conflict_kinds.specs.Applying.{PlacedEntry, ConflictData}
use Rattle.cs_apply_engine.specs.declared.conflict.Met.{Met}
use Rattle.cs_apply_engine.specs.Report.{conflict_of}
use Rattle.cs_apply_rehearsal.specs.declared.found.Found.{Found}
use Rattle.cs_apply_rehearsal.specs.Found.{IsIndexed, IsOf}
use Rattle.cs_apply_rehearsal.specs.Along.{AreAlong}
use Rattle.cs_apply_rehearsal.specs.Rehearsal.{found_of}

abbrev pub conflicts_of : List Met → List ConflictData
conflicts_of ms = map (λ m. conflict_of m.conflict) ms

-- the entry of the conflict is there, and those of the conflicts after it are there or later
pub record IsEntryAt (entries : List PlacedEntry) (conflict : ConflictData) (others : List ConflictData) (index : ℕ) : Type 0 where
  pub within : index < length entries
  pub is : HoldsAt (IsOf conflict) entries index
  pub later : AreAlong (drop index entries) others

-- these are the conflicts, each with the index of its entry
pub record AreNumbered (entries : List PlacedEntry) (conflicts : List Met) (found : List Found) : Type 0 where
  pub same : map (λ f. conflict_of f.conflict) found ≡ conflicts_of conflicts
  pub each : AllByRecursion (IsIndexed entries) (map found_of found)
