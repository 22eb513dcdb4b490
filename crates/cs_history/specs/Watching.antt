-- The tables that a history watches.
use Rattle.std.specs.Prelude.{◌≡◌, ◌⊎◌, ℕ, List, [], All, Any, None}
use Rattle.std.specs.FinMap as map
use Rattle.cs_value.specs.State.{State, schema_at}
use Rattle.cs_session_notes.specs.Attaching.{Attaches}
use Rattle.cs_session_notes.specs.FirstImages.{AttachedTable, Notes, HasAttached}
use Rattle.cs_history.specs.Stored.{IsHistory}

-- a table is attached as it is, it is no history, and nothing is noted of it
pub record IsWatched (tables : State) (table : AttachedTable) : Type 0 where
  pub there : HasAttached tables table
  pub other : ¬ IsHistory tables table.name
  pub fresh : table.firsts ≡ []

-- each table is attached that is no history, and no other
pub record Watches (tables : State) (notes : Notes) : Type 0 where
  pub each : All (IsWatched tables) notes
  pub all : All (λ name. (IsHistory tables name ⊎ (schema_at tables name ≡ None)) ⊎ Any (λ t. t.name ≡ name) notes) (map.keys tables)

-- a table is attached, unless it is a history, or there is none
abbrev pub MayAttach : State → List ℕ → Notes → Notes → Type 0
MayAttach tables name old new = ((IsHistory tables name ⊎ (schema_at tables name ≡ None)) × (new ≡ old))
    ⊎ ((¬ IsHistory tables name) × Attaches tables name old new)
