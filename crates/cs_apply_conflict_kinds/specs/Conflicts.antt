-- What an entry meets where it is applied, and what it leaves: the interface of SQLite's session extension, under
-- "sqlite3changeset_apply", "constants passed to the conflict handler" and "constants returned by the conflict
-- handler".
use Rattle.std.specs.Prelude.{ℕ, Bool, true, false, ◌&&◌, ◌||◌, if◌then◌else◌, List, [], ◌∷◌}
use Rattle.std.specs.Prelude.{Option, None, Some, is_some, option_map, unwrap_or}
use Rattle.cs_value.specs.declared.value.OwnedValue.{OwnedValue}
use Rattle.cs_value.specs.declared.value.OwnedField.{OwnedField}
use Rattle.cs_value.specs.declared.value.OwnedField.TheVariants.{Undefined, Defined}
use Rattle.cs_value.specs.State.{has_null}
use Rattle.cs_wire_entries.specs.declared.entry.Change.{Change}
use Rattle.cs_wire.specs.Entry.{before_image, after_image}
use Rattle.cs_apply_conflict_kinds.specs.declared.conflict.Kind.{Kind}
use Rattle.cs_apply_conflict_kinds.specs.declared.conflict.Kind.TheVariants.{Data, NotFound, Conflict, Constraint}
use Rattle.cs_apply_conflict_kinds.specs.declared.conflict.Choice.{Choice}
use Rattle.cs_apply_conflict_kinds.specs.declared.conflict.Choice.TheVariants.{Omit, Replace, Abort}
use Rattle.cs_group.specs.Net.{is_same}

-- SQLite's numbers: SQLITE_CHANGESET_DATA, SQLITE_CHANGESET_NOTFOUND, SQLITE_CHANGESET_CONFLICT and
-- SQLITE_CHANGESET_CONSTRAINT
abbrev pub kind_number : Kind → ℕ
kind_number Data = 1
kind_number NotFound = 2
kind_number Conflict = 3
kind_number Constraint = 4

-- SQLITE_CHANGESET_OMIT, SQLITE_CHANGESET_REPLACE and SQLITE_CHANGESET_ABORT
abbrev pub choice_number : Choice → ℕ
choice_number Omit = 0
choice_number Replace = 1
choice_number Abort = 2

-- the row has the image's values in its defined columns
abbrev pub has_values : List OwnedValue → List OwnedField → Bool
has_values [] [] = true
has_values [] (field ∷ image) = false
has_values (value ∷ row) [] = false
has_values (value ∷ row) (Undefined ∷ image) = has_values row image
has_values (value ∷ row) (Defined v ∷ image) = is_same (Defined v) (Defined value) && has_values row image

-- the kind of conflict that an old image, or none, has with the current row, or none
abbrev pub kind_between : Option (List OwnedField) → Option (List OwnedValue) → Option Kind
kind_between None None = None
kind_between None (Some row) = Some Conflict
kind_between (Some image) None = Some NotFound
kind_between (Some image) (Some row) = if has_values row image then None else Some Data

-- a change would leave NULL in a column that refuses it; since no current row has NULL there, the new image decides
abbrev pub is_refused : List Bool → List ℕ → Change → Bool
is_refused refuses flags change = unwrap_or (option_map (has_null refuses) (after_image flags change)) false

-- the first conflict: with the row there, or otherwise with the rule of a column
abbrev pub or_constraint : Bool → Option Kind → Option Kind
or_constraint refused (Some kind) = Some kind
or_constraint true None = Some Constraint
or_constraint false None = None

-- the conflict that a change, which is refused or not, meets at the row with its key, if it meets one
abbrev pub conflict_kind : Bool → Change → Option (List OwnedValue) → Option Kind
conflict_kind refused change row = or_constraint refused (kind_between (before_image change) row)

-- a row has the values of an image of the row afterwards; where that image is absent there is no row
abbrev pub agrees : Option (List OwnedField) → Option (List OwnedValue) → Bool
agrees None None = true
agrees None (Some row) = false
agrees (Some image) None = false
agrees (Some image) (Some row) = has_values row image

-- a change is a no-op at a row, or none, if it has a conflict and the current row already agrees with the new one: the
-- changes for which SQLite does not call the conflict handler under SQLITE_CHANGESETAPPLY_IGNORENOOP (its "Flags for
-- sqlite3changeset_apply_v2")
abbrev pub is_idle : Bool → List ℕ → Change → Option (List OwnedValue) → Bool
is_idle refused flags change row = is_some (conflict_kind refused change row) && agrees (after_image flags change) row

-- the value of a field, or the current one of its column if the field is undefined
abbrev pub value_in : OwnedField → Option OwnedValue → Option OwnedValue
value_in Undefined stood = stood
value_in (Defined v) stood = Some v

-- an image with its undefined columns filled from a row
abbrev pub filled : List OwnedField → List OwnedValue → List OwnedValue
filled [] row = []
filled (Undefined ∷ image) [] = filled image []
filled (Undefined ∷ image) (value ∷ row) = value ∷ filled image row
filled (Defined v ∷ image) [] = v ∷ filled image []
filled (Defined v ∷ image) (value ∷ row) = v ∷ filled image row

-- what a change that is carried out leaves of a row: none, or what it says, with the other values of the previous row
abbrev pub row_after : List ℕ → Change → Option (List OwnedValue) → Option (List OwnedValue)
row_after flags change row = option_map (λ image. filled image (unwrap_or row [])) (after_image flags change)

-- a conflict is overcome where the row in the way is to be replaced
abbrev pub is_overcome : Kind → Choice → Bool
is_overcome Data Replace = true
is_overcome Conflict Replace = true
is_overcome NotFound Replace = false
is_overcome Constraint Replace = false
is_overcome kind Omit = false
is_overcome kind Abort = false

-- a conflict ends all where the choice says so, where a row is to be replaced that is not there, and where a change is
-- to be carried out that the rule of a column refuses
abbrev pub ends : Kind → Choice → Bool
ends kind Omit = false
ends kind Abort = true
ends Data Replace = false
ends Conflict Replace = false
ends NotFound Replace = true
ends Constraint Replace = true

-- after a conflict that is overcome, the change is refused if it breaks the rule of a column
abbrev pub kinds_from : Bool → (Kind → Choice) → Option Kind → List Kind
kinds_from refused choose None = []
kinds_from refused choose (Some kind) =
    kind ∷ (if refused && is_overcome kind (choose kind) then Constraint ∷ [] else [])

-- the conflicts that a change meets at a row, one after another, under a choice for each kind
abbrev pub kinds_met : Bool → Change → Option (List OwnedValue) → (Kind → Choice) → List Kind
kinds_met refused change row choose = kinds_from refused choose (conflict_kind refused change row)

-- a change is carried out where each of the conflicts that it meets is overcome, under a choice for each kind
abbrev pub is_carried_out : List Kind → (Kind → Choice) → Bool
is_carried_out [] choose = true
is_carried_out (kind ∷ kinds) choose = is_overcome kind (choose kind) && is_carried_out kinds choose

-- all ends where one of these ends it
abbrev pub is_ended : List Kind → (Kind → Choice) → Bool
is_ended [] choose = false
is_ended (kind ∷ kinds) choose = ends kind (choose kind) || is_ended kinds choose

-- the row at the key of a change after it, or none, under the choices; nothing if they end the apply
abbrev pub entry_result : Bool → List ℕ → Change → Option (List OwnedValue) → (Kind → Choice)
    → Option (Option (List OwnedValue))
entry_result refused flags change row choose =
    let kinds = kinds_met refused change row choose in
    if is_ended kinds choose then None
    else if is_carried_out kinds choose then Some (row_after flags change row)
    else Some row
