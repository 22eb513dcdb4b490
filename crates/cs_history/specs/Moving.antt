-- The rows of a history, one by one.
use Rattle.std.specs.Prelude.{◌≡◌, ◌++◌, ℕ, Bool, true, false, not, List, [], ◌∷◌, filter, map as map_list, Option, Some, None}
use Rattle.std.specs.FinMap as map
use Rattle.std.specs.Ordering.{nat_cmp}
use Rattle.std.specs.declared.cmp.Ordering.TheVariants.{Less}
use Rattle.std.specs.Cmp.Lexicographic.{slice_cmp}
use Rattle.cs_value.specs.declared.value.OwnedValue.{OwnedValue}
use Rattle.cs_value.specs.Key.{row_key}
use Rattle.cs_value.specs.State.{RowMap, State, rows_at, schema_at}
use Rattle.cs_store_sql.specs.Records.{is_above}
use Rattle.cs_apply_engine.specs.Running.{Leads}
use Rattle.cs_history.specs.Stored.{ActionData, IsHistory, action_of, actions_of, history_schema, last_undone, rows_of}
use Rattle.cs_history.specs.Actions.{newest, others}

abbrev pub key_of : List OwnedValue → List ℕ
key_of row = row_key history_schema.flags row

abbrev pub first_in : List (List ℕ × List OwnedValue) → Option (List OwnedValue)
first_in [] = None
first_in (e ∷ es) = Some e.1

-- the first row of the actions that are done, or else of those that are undone
abbrev pub first_of : Bool → RowMap → Option (List OwnedValue)
first_of done rows = first_in (rows_of done rows)

-- the key after which the rows of this side come
abbrev pub start_of : Bool → Option (List ℕ)
start_of true = Some last_undone
start_of false = None

-- the key is before that of the row, if there is one
abbrev pub IsInFront : List ℕ → Option (List OwnedValue) → Type 0
IsInFront key None = Unit {0}
IsInFront key (Some row) = slice_cmp nat_cmp key (key_of row) ≡ Less

-- the first row of one side is the first one of the other side, under another number
pub record MovesRow (done : Bool) (name : List ℕ) (row : List OwnedValue) (old new : State) : Type 0 where
  pub same : others new name ≡ others old name
  pub schema : schema_at new name ≡ schema_at old name
  pub moved : (rest : List (List ℕ × List OwnedValue)) → rows_of done (rows_at old name) ≡ (key_of row, row) ∷ rest
      → (rows_of done (rows_at new name) ≡ rest)
      × (key : List ℕ) × (next : List OwnedValue) × (action_of next ≡ action_of row)
      × (rows_of (not done) (rows_at new name) ≡ (key, next) ∷ rows_of (not done) (rows_at old name))

-- a row is gone, and if it was the first one of those that are undone, the actions that are done are as they were
pub record RemovesRow (name : List ℕ) (row : List OwnedValue) (old new : State) : Type 0 where
  pub history : IsHistory new name
  pub same : others new name ≡ others old name
  pub held : rows_at new name ≡ map.remove (rows_at old name) (key_of row)
  pub done : Some row ≡ first_of false (rows_at old name) → rows_of true (rows_at new name) ≡ rows_of true (rows_at old name)

-- the row of an action is the first one of those that are done
pub record AddsRow (name : List ℕ) (action : ActionData) (old new : State) : Type 0 where
  pub schema : schema_at new name ≡ schema_at old name
  pub same : others new name ≡ others old name
  pub undone : rows_of false (rows_at new name) ≡ rows_of false (rows_at old name)
  pub added : (key : List ℕ) × (row : List OwnedValue) × (action_of row ≡ action)
      × (rows_of true (rows_at new name) ≡ (key, row) ∷ rows_of true (rows_at old name))

-- where a changeset leads back to, or on to
abbrev pub Turning : Bool → List ℕ → State → State → Type 0
Turning true file old reached = Leads file reached old
Turning false file old reached = Leads file old reached

-- some of the actions that are undone may be gone
pub record Forgotten (name : List ℕ) (old new : State) : Type 0 where
  pub history : IsHistory new name
  pub same : others new name ≡ others old name
  pub done : rows_of true (rows_at new name) ≡ rows_of true (rows_at old name)

-- those that are undone are gone, and the action is the first one of those that are done
pub record NotesAction (name : List ℕ) (action : ActionData) (old new : State) : Type 0 where
  pub mid : State
  pub forgotten : Forgotten name old mid
  pub none : rows_of false (rows_at mid name) ≡ []
  pub added : AddsRow name action mid new

-- ---- the rows on both sides of a key

abbrev pub rows_after : List ℕ → RowMap → List (List ℕ × List OwnedValue)
rows_after key rows = filter (λ e. is_above key e.0) (map.entries rows)

abbrev pub rows_up_to : List ℕ → RowMap → List (List ℕ × List OwnedValue)
rows_up_to key rows = filter (λ e. not (is_above key e.0)) (map.entries rows)

-- it is the first row after a key, or there is none
abbrev pub IsNextAfter : List ℕ → Option (List OwnedValue) → RowMap → Type 0
IsNextAfter key None rows = rows_after key rows ≡ []
IsNextAfter key (Some row) rows = (rest : List (List ℕ × List OwnedValue)) × (rows_after key rows ≡ (key_of row, row) ∷ rest)

-- of the actions that are done, these rows come up to the key, and all others after it
pub record Divides (key : List ℕ) (front : List (List ℕ × List OwnedValue)) (rows : RowMap) : Type 0 where
  pub reach : (other : List ℕ) → is_above key other ≡ true → is_above last_undone other ≡ true
  pub before : filter (λ e. not (is_above key e.0)) (rows_of true rows) ≡ front
  pub all : rows_of true rows ≡ front ++ rows_after key rows

-- the newest actions that are done come up to the key
abbrev pub Keeps : ℕ → ℕ → List ℕ → RowMap → Type 0
Keeps keep bytes key rows = (front : List (List ℕ × List OwnedValue)) × Divides key front rows
    × (newest keep bytes (actions_of true rows) ≡ map_list (λ e. action_of e.1) front)

-- some of the rows after the key may be gone
pub record DropsAfter (key name : List ℕ) (old new : State) : Type 0 where
  pub history : IsHistory new name
  pub same : others new name ≡ others old name
  pub stay : rows_up_to key (rows_at new name) ≡ rows_up_to key (rows_at old name)
