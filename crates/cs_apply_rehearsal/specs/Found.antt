-- Conflicts with their places in a file.
use Rattle.std.specs.Prelude.{◌≡◌, ℕ, ◌<◌, List, length, HoldsAt}
use Rattle.cs_apply_conflict_kinds.specs.Applying.{PlacedEntry, ConflictData}

-- a conflict, and the index of its entry in the file
pub record FoundData : Type 0 where
  pub index : ℕ
  pub conflict : ConflictData

-- the conflict is one of this entry
pub record IsOf (conflict : ConflictData) (p : PlacedEntry) : Type 0 where
  pub table : p.table ≡ conflict.table
  pub entry : p.entry ≡ conflict.entry

-- the index is that of the entry of the conflict, from 0
pub record IsIndexed (entries : List PlacedEntry) (found : FoundData) : Type 0 where
  pub within : found.index < length entries
  pub is : HoldsAt (IsOf found.conflict) entries found.index
