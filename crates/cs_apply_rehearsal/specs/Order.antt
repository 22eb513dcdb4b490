-- An order of entries, by which conflicts are searched. No public contract names this.
use Rattle.std.specs.Prelude.{ℕ, ℤ, pos, List, [], Option, Some, None}
use Rattle.std.specs.Option.{option_cmp}
use Rattle.std.specs.Ordering.{nat_cmp, int_cmp, bool_cmp, on, then_cmp}
use Rattle.std.specs.Cmp.Lexicographic.{slice_cmp}
use Rattle.std.specs.List.Sorted.{IsSortedByKey}
use Rattle.std.specs.declared.cmp.Ordering.{Ordering}
use Rattle.cs_value.specs.declared.value.OwnedValue.{OwnedValue}
use Rattle.cs_value.specs.declared.value.OwnedValue.TheVariants.{Int, Text, Blob, Null}
use Rattle.cs_value.specs.declared.value.OwnedField.{OwnedField}
use Rattle.cs_value.specs.declared.value.OwnedField.TheVariants.{Undefined, Defined}
use Rattle.cs_wire_entries.specs.declared.entry.Change.{Change}
use Rattle.cs_wire_entries.specs.declared.entry.Change.TheVariants.{Insert, Delete, Update}
use Rattle.cs_wire_entries.specs.declared.entry.Entry.{Entry}
use Rattle.cs_apply_conflict_kinds.specs.Conflicts.{kind_number}
use Rattle.cs_apply_conflict_kinds.specs.Applying.{ConflictData}
use Rattle.cs_apply_engine.specs.declared.conflict.Met.{Met}
use Rattle.cs_apply_engine.specs.Report.{conflict_of}

-- ---- values: by type, and then by content

abbrev pub value_type : OwnedValue → ℕ
value_type (Int number) = 0
value_type (Text text) = 1
value_type (Blob bytes) = 2
value_type Null = 3

abbrev pub number_in : OwnedValue → ℤ
number_in (Int number) = number
number_in (Text text) = pos 0
number_in (Blob bytes) = pos 0
number_in Null = pos 0

abbrev pub bytes_in : OwnedValue → List ℕ
bytes_in (Int number) = []
bytes_in (Text text) = text
bytes_in (Blob bytes) = bytes
bytes_in Null = []

abbrev pub value_cmp : OwnedValue → OwnedValue → Ordering
value_cmp = then_cmp (then_cmp (on value_type nat_cmp) (on number_in int_cmp)) (on bytes_in (slice_cmp nat_cmp))

-- ---- fields: an undefined one first

abbrev pub value_of_field : OwnedField → Option OwnedValue
value_of_field Undefined = None
value_of_field (Defined value) = Some value

abbrev pub field_cmp : OwnedField → OwnedField → Ordering
field_cmp = on value_of_field (option_cmp value_cmp)

-- ---- changes: by type, and then by their records

abbrev pub change_type : Change → ℕ
change_type (Insert row) = 0
change_type (Delete row) = 1
change_type (Update old new) = 2

abbrev pub row_in : Change → List OwnedValue
row_in (Insert row) = row
row_in (Delete row) = row
row_in (Update old new) = []

abbrev pub old_in : Change → List OwnedField
old_in (Insert row) = []
old_in (Delete row) = []
old_in (Update old new) = old

abbrev pub new_in : Change → List OwnedField
new_in (Insert row) = []
new_in (Delete row) = []
new_in (Update old new) = new

abbrev pub change_cmp : Change → Change → Ordering
change_cmp = then_cmp (then_cmp (then_cmp (on change_type nat_cmp) (on row_in (slice_cmp value_cmp))) (on old_in (slice_cmp field_cmp)))
    (on new_in (slice_cmp field_cmp))

abbrev pub entry_cmp : Entry → Entry → Ordering
entry_cmp = then_cmp (on (λ e. e.change) change_cmp) (on (λ e. e.indirect) bool_cmp)

-- ---- conflicts: by kind, table and entry

abbrev pub conflict_cmp : ConflictData → ConflictData → Ordering
conflict_cmp = then_cmp (then_cmp (on (λ c. kind_number c.kind) nat_cmp) (on (λ c. c.table) (slice_cmp nat_cmp))) (on (λ c. c.entry) entry_cmp)

-- conflicts with choices, in this order
abbrev pub IsInOrder : List Met → Type 0
IsInOrder ms = IsSortedByKey (λ m. conflict_of m.conflict) conflict_cmp ms
