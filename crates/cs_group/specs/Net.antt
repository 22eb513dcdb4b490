-- The net change of a row: the introduction to SQLite's session extension, under "changesets and patchsets": a row that
-- is there after and was not before is an INSERT, one that was there and is not a DELETE, and for one that was changed
-- the columns that differ are an UPDATE.
use Rattle.std.specs.Prelude.{ℕ, zero, suc, Bool, false, if◌then◌else◌, List, [], ◌∷◌, map, filter_map}
use Rattle.std.specs.Prelude.{Option, None, Some, option_map}
use Rattle.std.specs.Cmp.Lexicographic.{pointwise}
use Rattle.cs_value.specs.declared.value.OwnedValue.{OwnedValue}
use Rattle.cs_value.specs.declared.value.OwnedField.{OwnedField}
use Rattle.cs_value.specs.declared.value.OwnedField.TheVariants.{Undefined, Defined}
use Rattle.cs_value.specs.contracts.value.OwnedFieldPartialEq.TheImpl as field_eq
use Rattle.cs_wire_entries.specs.declared.entry.Change.{Change}
use Rattle.cs_wire_entries.specs.declared.entry.Change.TheVariants.{Insert, Delete, Update}
use Rattle.cs_wire_entries.specs.declared.entry.Entry.{Entry}
use Rattle.cs_wire.specs.Changeset.{ImageData}

-- whether two fields are equal: both are undefined, or their values have one type and content
abbrev pub is_same : OwnedField → OwnedField → Bool
is_same = (field_eq.ghosts).eq

-- this field, or nothing where two are the same
abbrev pub unless_same : OwnedField → OwnedField → OwnedField → OwnedField
unless_same b a field = if is_same b a then Undefined else field

-- the one in a column outside the key, the other in a column of the key
abbrev pub by_flag : {X : Type 0} → ℕ → X → X → X
by_flag zero outside of_key = outside
by_flag (suc flag) outside of_key = of_key

-- for each column what f makes of its flag and its fields in two images
abbrev pub by_column : (ℕ → OwnedField → OwnedField → OwnedField) → List ℕ → List OwnedField → List OwnedField
    → List OwnedField
by_column f [] before after = []
by_column f (flag ∷ flags) [] after = []
by_column f (flag ∷ flags) (b ∷ before) [] = []
by_column f (flag ∷ flags) (b ∷ before) (a ∷ after) = f flag b a ∷ by_column f flags before after

-- from one image to another: the key, and what was in the other columns where they differ
abbrev pub old_record : List ℕ → List OwnedField → List OwnedField → List OwnedField
old_record = by_column (λ flag b a. by_flag flag (unless_same b a b) b)

-- and what comes to be in these columns
abbrev pub new_record : List ℕ → List OwnedField → List OwnedField → List OwnedField
new_record = by_column (λ flag b a. by_flag flag (unless_same b a a) Undefined)

-- the values of the columns that are defined
abbrev pub defined : OwnedField → Option OwnedValue
defined Undefined = None
defined (Defined v) = Some v

abbrev pub values_of : List OwnedField → List OwnedValue
values_of image = filter_map defined image

-- the change from the row, or none, before to the row, or none, after: none where these are alike
abbrev pub net_between : List ℕ → Option (List OwnedField) → Option (List OwnedField) → Option Change
net_between flags None None = None
net_between flags None (Some after) = Some (Insert (values_of after))
net_between flags (Some before) None = Some (Delete (values_of before))
net_between flags (Some before) (Some after) =
    if pointwise is_same before after then None
    else Some (Update (old_record flags before after) (new_record flags before after))

abbrev pub net_change : List ℕ → ImageData → Option Change
net_change flags image = net_between flags image.before image.after

-- what is known of a row that is known whole, or of none
abbrev pub image_of_row : Option (List OwnedValue) → Option (List OwnedField)
image_of_row = option_map (map Defined)

-- the change from a row to a row
abbrev pub net_row_change : List ℕ → Option (List OwnedValue) → Option (List OwnedValue) → Option Change
net_row_change flags before after = net_between flags (image_of_row before) (image_of_row after)

-- the net change of a row, as an entry
abbrev pub net_entry : List ℕ → Option (List OwnedValue) → Option (List OwnedValue) → Option Entry
net_entry flags before after = option_map (λ change. let e : Entry = record { indirect = false; change = change } in e) (net_row_change flags before after)
