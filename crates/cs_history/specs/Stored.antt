-- What the table of a history holds: a row for each action, with a number, a label and a changeset. The number of an
-- action that is done is below zero, and that of one that is undone is not. Rows are ordered by the bytes of their keys,
-- so that numbers below zero come last, and the least of them first. So the first row is that of the action to redo
-- next, and the first one after `last_undone` is that of the action to undo next. A key of another type than an integer,
-- which only another program can have put there, comes last too.
use Rattle.std.specs.Prelude.{◌≡◌, ◌⊎◌, ℕ, Bool, true, false, not, List, [], ◌∷◌, map as map_list, filter, codes}
use Rattle.std.specs.Prelude.{Some, None}
use Rattle.std.specs.FinMap as map
use Rattle.cs_value.specs.declared.value.OwnedValue.{OwnedValue}
use Rattle.cs_value.specs.declared.value.OwnedValue.TheVariants.{Int, Text, Blob, Null}
use Rattle.cs_value.specs.State.{SchemaData, RowMap, State, schema_at, rows_at, with_table}
use Rattle.cs_store_sql.specs.Records.{is_above}

abbrev pub history_schema : SchemaData
history_schema = record {
  columns = codes "action" ∷ codes "label" ∷ codes "changeset" ∷ [];
  flags = 1 ∷ 0 ∷ 0 ∷ [];
  refuses = true ∷ true ∷ true ∷ [];
}

-- the table of this name is a history
abbrev pub IsHistory : State → List ℕ → Type 0
IsHistory state name = schema_at state name ≡ Some history_schema

-- it is there, or is declared where no table has the name
abbrev pub Opens : List ℕ → State → State → Type 0
Opens name old new = (IsHistory old name × (new ≡ old)) ⊎ ((map.get old name ≡ None) × (new ≡ with_table old name history_schema))

-- ---- actions

-- an action: its label, and the file of its changeset
pub record ActionData : Type 0 where
  pub label : List ℕ
  pub changeset : List ℕ

-- the bytes of a text or a blob
abbrev pub content_of : OwnedValue → List ℕ
content_of (Int z) = []
content_of (Text text) = text
content_of (Blob bytes) = bytes
content_of Null = []

-- the action of a row
abbrev pub action_of : List OwnedValue → ActionData
action_of (number ∷ label ∷ changeset ∷ values) = record { label = content_of label; changeset = content_of changeset }
action_of values = record { label = []; changeset = [] }

-- ---- which of them are done

-- the key of the greatest number, 2^63 - 1
abbrev pub last_undone : List ℕ
last_undone = 1 ∷ 127 ∷ 255 ∷ 255 ∷ 255 ∷ 255 ∷ 255 ∷ 255 ∷ 255 ∷ []

-- the key is that of an action that is done, or else of one that is undone
abbrev pub is_of : Bool → List ℕ → Bool
is_of true key = is_above last_undone key
is_of false key = not (is_above last_undone key)

-- the rows of those that are done, or else of those that are undone, with their keys, in the order of these
abbrev pub rows_of : Bool → RowMap → List (List ℕ × List OwnedValue)
rows_of done rows = filter (λ e. is_of done e.0) (map.entries rows)

abbrev pub actions_of : Bool → RowMap → List ActionData
actions_of done rows = map_list (λ e. action_of e.1) (rows_of done rows)

-- the actions of a history that are done, the last one first
abbrev pub done_actions : State → List ℕ → List ActionData
done_actions state name = actions_of true (rows_at state name)

-- those that are undone, the one to redo next first
abbrev pub undone_actions : State → List ℕ → List ActionData
undone_actions state name = actions_of false (rows_at state name)
