-- The definitions of changesets, their files and their faults, on a table `t` of two columns, of which the first is
-- the key.
use Rattle.std.proofs.Common.{◌≡◌, ◌≢◌, ℕ, zero, suc, ◌+◌, ◌<◌, pos, negsuc, true, false, List, [], ◌∷◌, ◌++◌, map, All, slice_index_or}
use Rattle.std.proofs.Common.{length, drop, get_or, true≢false, codes, refl, sym, ap, inl, inr, arith}
use Rattle.std.specs.Char.{encode_utf8}
use Rattle.std.specs.Str.{chars, is_utf8}
use Rattle.std.proofs.lemmas.List.Elements.{All-nil, All-cons}
use Rattle.std.proofs.lemmas.Str.{IsUtf8-from_is_utf8, is_utf8-from_IsUtf8}
use Rattle.cs_value.specs.declared.value.OwnedValue.{OwnedValue}
use Rattle.cs_value.specs.declared.value.OwnedValue.TheVariants.{Int, Text, Null}
use Rattle.cs_value.specs.declared.value.OwnedField.{OwnedField}
use Rattle.cs_value.specs.declared.value.OwnedField.TheVariants.{Undefined, Defined}
use Rattle.cs_value.specs.Value.{IsRow}
use Rattle.cs_value.specs.Varint.{leading_digits, varint}
use Rattle.cs_value.specs.Spelling.{counted, value_bytes, field_bytes}
use Rattle.cs_value.specs.declared.fault.FieldFaultKind.{FieldFaultKind}
use Rattle.cs_value.specs.declared.fault.FieldFaultKind.TheVariants as field
use Rattle.cs_value.specs.FieldFaults.{HasBadText, VarintFails, FieldFails}
use Rattle.cs_wire_entries.specs.declared.entry.Change.{Change}
use Rattle.cs_wire_entries.specs.declared.entry.Change.TheVariants.{Insert, Delete, Update}
use Rattle.cs_wire_entries.specs.declared.entry.Entry.{Entry}
use Rattle.cs_wire_entries.specs.declared.fault.ReadFaultKind.{ReadFaultKind}
use Rattle.cs_wire_entries.specs.declared.fault.ReadFaultKind.TheVariants.{Truncated, NotTable, Patchset, BadVarint, ColumnCount, NoKey, BadName, DuplicateTable, EmptyGroup, BadOp, BadFlag, BadType, RealValue, BadText, UndefinedField, Unpaired, NullKey, DuplicateKey}
use Rattle.cs_value.specs.Table.{IsName, IsFlags, IsKeyedRow}
use Rattle.cs_wire_entries.specs.Entry.{IsKeyedUpdate, IsEntry, IsChange, fields_of, entry_bytes}
use Rattle.cs_wire_entries.specs.Changeset.{HeaderData, IsHeader, GroupData, IsGroup, IsChangeset, flags_bytes, header_bytes, group_bytes, file_bytes, IsAccepted}
use Rattle.cs_wire_entries.specs.ReadFaults.{Stands, TableStart, HeaderPart, EntryStart, FieldStart, change_front, IsOperation, HasNoCount, HasNoField, StandsBefore, ReadCase, ReadFails}
use Rattle.cs_wire.proofs.GroupsLemmas.{EntryStart-none}

computing : Unit {0}
unfolding leading_digits varint counted value_bytes field_bytes entry_bytes flags_bytes header_bytes group_bytes encode_utf8 chars is_utf8
computing = tt

-- what holds of one element holds of each of the list with only it
pub one : {X : Type 0} (P : X → Type 0) (e : X) → P e → All P (e ∷ [])
one P e h = All-cons P e [] h (All-nil P)

-- the table, rows and changes of the examples

abbrev pub flags : List ℕ
flags = 1 ∷ 0 ∷ []

abbrev pub header : HeaderData
header = record { name = codes "t"; flags = flags }

abbrev pub direct : Change → Entry
direct change = record { indirect = false; change = change }

-- these changes of the table, none of them indirect
abbrev pub group : List Change → GroupData
group changes = record { header = header; entries = map direct changes }

abbrev pub one_change_of : HeaderData → Change → List GroupData
one_change_of head change = record { header = head; entries = direct change ∷ [] } ∷ []

abbrev pub one_change : Change → List GroupData
one_change change = one_change_of header change

abbrev pub x : OwnedValue
x = Text (codes "x")

abbrev pub y : OwnedValue
y = Text (codes "y")

-- the row (1, 'x')
abbrev pub row : List OwnedValue
row = Int (pos 1) ∷ x ∷ []

-- a change of the second column where the first is 1
abbrev pub update : OwnedValue → OwnedValue → Change
update from to = Update (Defined (Int (pos 1)) ∷ Defined from ∷ []) (Undefined ∷ Defined to ∷ [])

-- the files of the examples

abbrev pub insert_file : List ℕ
insert_file = 0x54 ∷ 0x02 ∷ 0x01 ∷ 0x00 ∷ 0x74 ∷ 0x00 ∷ 0x12 ∷ 0x00 ∷ 0x01 ∷ 0 ∷ 0 ∷ 0 ∷ 0 ∷ 0 ∷ 0 ∷ 0 ∷ 1 ∷ 0x03 ∷ 0x01 ∷ 0x78 ∷ []

abbrev pub delete_file : List ℕ
delete_file = 0x54 ∷ 0x02 ∷ 0x01 ∷ 0x00 ∷ 0x74 ∷ 0x00 ∷ 0x09 ∷ 0x00 ∷ 0x01 ∷ 0 ∷ 0 ∷ 0 ∷ 0 ∷ 0 ∷ 0 ∷ 0 ∷ 1 ∷ 0x03 ∷ 0x01 ∷ 0x78 ∷ []

abbrev pub update_file : List ℕ
update_file = 0x54 ∷ 0x02 ∷ 0x01 ∷ 0x00 ∷ 0x74 ∷ 0x00 ∷ 0x17 ∷ 0x00 ∷ 0x01 ∷ 0 ∷ 0 ∷ 0 ∷ 0 ∷ 0 ∷ 0 ∷ 0 ∷ 1 ∷ 0x03 ∷ 0x01 ∷ 0x78
    ∷ 0x00 ∷ 0x03 ∷ 0x01 ∷ 0x79 ∷ []

abbrev pub update_back_file : List ℕ
update_back_file = 0x54 ∷ 0x02 ∷ 0x01 ∷ 0x00 ∷ 0x74 ∷ 0x00 ∷ 0x17 ∷ 0x00 ∷ 0x01 ∷ 0 ∷ 0 ∷ 0 ∷ 0 ∷ 0 ∷ 0 ∷ 0 ∷ 1 ∷ 0x03 ∷ 0x01 ∷ 0x79
    ∷ 0x00 ∷ 0x03 ∷ 0x01 ∷ 0x78 ∷ []

-- the insertion of (1, 'x')
pub insert_is_spelled : file_bytes (one_change (Insert row)) ≡ insert_file
unfolding computing
insert_is_spelled = refl

-- the deletion of (1, 'x')
pub delete_is_spelled : file_bytes (one_change (Delete row)) ≡ delete_file
unfolding computing
delete_is_spelled = refl

-- the update of 'x' to 'y' where the key is 1
pub update_is_spelled : file_bytes (one_change (update x y)) ≡ update_file
unfolding computing
update_is_spelled = refl

-- and that of 'y' to 'x'
pub update_back_is_spelled : file_bytes (one_change (update y x)) ≡ update_back_file
unfolding computing
update_back_is_spelled = refl

-- what is a changeset

-- the flags 1 0 mark a key
pub flags_are : IsFlags flags
flags_are = record {
  bytes = (omega arith, (omega arith, tt));
  few = omega arith;
  some_key = (0, 1, omega arith, refl, omega arith);
}

-- they and the name `t` are a header
pub header_is : IsHeader header
unfolding computing
header_is = record {
  name = record {
    some = omega arith;
    text = IsUtf8-from_is_utf8 (codes "t") refl;
    no_zero = (λ same. absurd (omega (arith, same)), tt);
  };
  flags = flags_are;
}

pub one_is_changeset : (head : HeaderData) (change : Change) → IsHeader head → IsChange head.flags change → IsChangeset (one_change_of head change)
one_is_changeset head change is h = record {
  each = one IsGroup (record { header = head; entries = direct change ∷ [] }) (record {
    header = is;
    some = omega arith;
    each = one (IsEntry head.flags) (direct change) h;
    once = λ i j d lt in_list. absurd (omega arith);
  });
  once = λ i j d lt in_list. absurd (omega arith);
}

pub one_change_is_changeset : (change : Change) → IsChange flags change → IsChangeset (one_change change)
one_change_is_changeset change h = one_is_changeset header change header_is h

-- 1 and 'x' are values
pub row_is : IsRow row
unfolding computing
row_is = (record { sfits = omega arith }, ((IsUtf8-from_is_utf8 (codes "x") refl, omega arith), tt))

-- and 1 may be in the key
pub row_is_keyed : IsKeyedRow flags row
row_is_keyed = (λ same. cc, tt)

-- the insertion of (1, 'x') is a changeset
pub insert_is_changeset : IsChangeset (one_change (Insert row))
insert_is_changeset = one_change_is_changeset (Insert row) (row_is, row_is_keyed)

-- and so is the deletion
pub delete_is_changeset : IsChangeset (one_change (Delete row))
delete_is_changeset = one_change_is_changeset (Delete row) (row_is, row_is_keyed)

-- an update of one value to another under the key 1
pub update_is_change : (from to : OwnedValue) → IsRow (from ∷ []) → IsRow (to ∷ []) → IsChange flags (update from to)
update_is_change from to f t = ((row_is.0, (f.0, tt)), (tt, (t.0, tt)), (λ same. cc, (tt, tt)))

pub x_is : IsRow (x ∷ [])
unfolding computing
x_is = ((IsUtf8-from_is_utf8 (codes "x") refl, omega arith), tt)

pub y_is : IsRow (y ∷ [])
unfolding computing
y_is = ((IsUtf8-from_is_utf8 (codes "y") refl, omega arith), tt)

-- the update of 'x' to 'y' is a changeset
pub update_is_changeset : IsChangeset (one_change (update x y))
update_is_changeset = one_change_is_changeset (update x y) (update_is_change x y x_is y_is)

-- and so is that of 'y' to 'x'
pub update_back_is_changeset : IsChangeset (one_change (update y x))
update_back_is_changeset = one_change_is_changeset (update y x) (update_is_change y x y_is x_is)

abbrev pub null_row : List OwnedValue
null_row = Int (negsuc 9223372036854775807) ∷ Null ∷ []

-- NULL may be outside the key: the insertion of the least integer and NULL is a changeset
pub null_row_is_changeset : IsChangeset (one_change (Insert null_row))
null_row_is_changeset = one_change_is_changeset (Insert null_row) ((record { sfits = omega arith }, (tt, tt)), (λ same. cc, tt))

-- what else is spelled
others_are_spelled :
    (file_bytes [] ≡ [])
    -- the indirect flag is the byte after the operation
    × (entry_bytes (record { indirect = true; change = Delete row })
    ≡ 0x09 ∷ 0x01 ∷ 0x01 ∷ 0 ∷ 0 ∷ 0 ∷ 0 ∷ 0 ∷ 0 ∷ 0 ∷ 1 ∷ 0x03 ∷ 0x01 ∷ 0x78 ∷ [])
    -- NULL is only its type
    × (file_bytes (one_change (Insert null_row))
    ≡ 0x54 ∷ 0x02 ∷ 0x01 ∷ 0x00 ∷ 0x74 ∷ 0x00 ∷ 0x12 ∷ 0x00 ∷ 0x01 ∷ 0x80 ∷ 0 ∷ 0 ∷ 0 ∷ 0 ∷ 0 ∷ 0 ∷ 0 ∷ 0x05 ∷ [])
unfolding computing
others_are_spelled = (refl, refl, refl)

-- an update may leave a value as it is
pub update_of_same_is_changeset : IsChangeset (one_change (update x x))
update_of_same_is_changeset = one_change_is_changeset (update x x) (update_is_change x x x_is x_is)

abbrev pub idle_update : Change
idle_update = Update (Defined (Int (pos 1)) ∷ Undefined ∷ []) (Undefined ∷ Undefined ∷ [])

-- an update may modify no column
pub idle_update_is_change : IsChange flags idle_update
idle_update_is_change = ((row_is.0, (tt, tt)), (tt, (tt, tt)), (λ same. cc, (tt, tt)))

-- a changeset may have no table
pub no_group_is_changeset : IsChangeset []
no_group_is_changeset = record {
  each = All-nil IsGroup;
  once = λ i j d lt in_list. absurd (omega arith);
}

-- a table `k` of two key columns, in whose flags the first is the second of the key
abbrev pub keys_header : HeaderData
keys_header = record { name = codes "k"; flags = 2 ∷ 1 ∷ [] }

abbrev pub keys_row : List OwnedValue
keys_row = Int (pos 1) ∷ Int (pos 2) ∷ []

pub keys_header_is : IsHeader keys_header
unfolding computing
keys_header_is = record {
  name = record {
    some = omega arith;
    text = IsUtf8-from_is_utf8 (codes "k") refl;
    no_zero = (λ same. absurd (omega (arith, same)), tt);
  };
  flags = record {
    bytes = (omega arith, (omega arith, tt));
    few = omega arith;
    some_key = (0, 2, omega arith, refl, omega arith);
  };
}

pub keys_row_is : IsRow keys_row
keys_row_is = (record { sfits = omega arith }, (record { sfits = omega arith }, tt))

pub keys_row_is_keyed : IsKeyedRow (2 ∷ 1 ∷ []) keys_row
keys_row_is_keyed = (λ same. cc, (λ same. cc, tt))

-- the file of the change of (1, 2) with this operation
abbrev pub keys_file : ℕ → List ℕ
keys_file operation = 0x54 ∷ 0x02 ∷ 0x02 ∷ 0x01 ∷ 0x6b ∷ 0x00 ∷ operation ∷ 0x00
    ∷ 0x01 ∷ 0 ∷ 0 ∷ 0 ∷ 0 ∷ 0 ∷ 0 ∷ 0 ∷ 1 ∷ 0x01 ∷ 0 ∷ 0 ∷ 0 ∷ 0 ∷ 0 ∷ 0 ∷ 0 ∷ 2 ∷ []

-- the insertion of (1, 2) is a changeset
pub keys_insert_is_changeset : IsChangeset (one_change_of keys_header (Insert keys_row))
keys_insert_is_changeset = one_is_changeset keys_header (Insert keys_row) keys_header_is (keys_row_is, keys_row_is_keyed)

-- and so is the deletion
pub keys_delete_is_changeset : IsChangeset (one_change_of keys_header (Delete keys_row))
keys_delete_is_changeset = one_is_changeset keys_header (Delete keys_row) keys_header_is (keys_row_is, keys_row_is_keyed)

-- in their files the flags are unchanged
pub keys_insert_is_spelled : file_bytes (one_change_of keys_header (Insert keys_row)) ≡ keys_file 0x12
unfolding computing
keys_insert_is_spelled = refl

pub keys_delete_is_spelled : file_bytes (one_change_of keys_header (Delete keys_row)) ≡ keys_file 0x09
unfolding computing
keys_delete_is_spelled = refl

-- the file of the insertion is accepted
pub insert_file_is_accepted : IsAccepted insert_file
insert_file_is_accepted = (one_change (Insert row), insert_is_changeset, sym insert_is_spelled)

-- and so are no bytes
pub no_byte_is_accepted : IsAccepted []
no_byte_is_accepted = ([], no_group_is_changeset, refl)

-- what is none

-- a file that begins with another byte than 0x54
other_begin_is_none : (b : ℕ) (rest : List ℕ) → b ≢ 0x54 → IsAccepted (b ∷ rest) → ⊥
unfolding group_bytes header_bytes
other_begin_is_none b rest other ([], is, e) = cc e
other_begin_is_none b rest other (g ∷ groups, is, e) = other (ap (λ bytes. get_or bytes 0 0) e)

-- these tables, changesets and names
groups_are_none :
    (IsGroup (group []) → ⊥)
    × (IsGroup (group (Insert row ∷ Delete row ∷ [])) → ⊥)  -- two changes of one key
    × ((changes more : List Change) → IsChangeset (group changes ∷ group more ∷ []) → ⊥)  -- one table twice
    × (IsName [] → ⊥)
groups_are_none = (
  λ g. absurd (omega (arith, g.some)),
  λ g. g.once 0 1 (direct (Insert row)) (omega arith) (omega arith) refl,
  λ changes more c. c.once 0 1 (group []) (omega arith) (omega arith) refl,
  λ n. absurd (omega (arith, n.some)),
)

-- these rows and updates
rows_are_none :
    (IsKeyedRow flags (Null ∷ x ∷ []) → ⊥)  -- NULL in the key
    × (IsKeyedRow flags (Int (pos 1) ∷ []) → ⊥)  -- no value for the second column
    -- an update of the key
    × (IsKeyedUpdate flags (Defined (Int (pos 1)) ∷ Undefined ∷ []) (Defined (Int (pos 2)) ∷ Undefined ∷ []) → ⊥)
    -- one without its key, and one of NULL in the key
    × (IsKeyedUpdate flags (Undefined ∷ Defined x ∷ []) (Undefined ∷ Defined y ∷ []) → ⊥)
    × (IsKeyedUpdate flags (Defined Null ∷ Defined x ∷ []) (Undefined ∷ Defined y ∷ []) → ⊥)
    -- one that has only the value before, and one that has only the value after
    × (IsKeyedUpdate flags (Defined (Int (pos 1)) ∷ Defined x ∷ []) (Undefined ∷ Undefined ∷ []) → ⊥)
    × (IsKeyedUpdate flags (Defined (Int (pos 1)) ∷ Undefined ∷ []) (Undefined ∷ Defined y ∷ []) → ⊥)
rows_are_none = (λ h. h.0 refl, λ h. h.1, λ h. h.0, λ h. h.0, λ h. h.0 refl, λ h. h.1.0, λ h. h.1.0)

-- 0 marks no column
no_flag_at : (place flag : ℕ) → place < 1 → slice_index_or (0 ∷ []) place flag ≡ flag → 0 < flag → ⊥
no_flag_at zero flag within is some = absurd (omega arith)
no_flag_at (suc place) flag within is some = absurd (omega arith)

-- the flags of a table without a key
no_flag_is_none : IsFlags (0 ∷ []) → ⊥
no_flag_is_none h = no_flag_at h.some_key.0 h.some_key.1 h.some_key.2 h.some_key.3 h.some_key.4

-- faults

-- the header of the table `t`
abbrev pub header_file : List ℕ
header_file = 0x54 ∷ 0x02 ∷ 0x01 ∷ 0x00 ∷ 0x74 ∷ 0x00 ∷ []

-- the field 1
abbrev pub one_field : List ℕ
one_field = 0x01 ∷ 0 ∷ 0 ∷ 0 ∷ 0 ∷ 0 ∷ 0 ∷ 0 ∷ 1 ∷ []

-- the field 'x'
abbrev x_field : List ℕ
x_field = 0x03 ∷ 0x01 ∷ 0x78 ∷ []

-- each file begins with that of the changeset of no table
no_table : (file : List ℕ) → TableStart file 0 []
no_table file = record { are = no_group_is_changeset; stand = record { spelled = refl; within = omega arith } }

-- a text comes after the first byte of a header that begins the file
in_header : (file text : List ℕ) (at : ℕ) → Stands file 0 (0x54 ∷ text) at → HeaderPart file text at
in_header file text at stands = record { from = 0; groups = []; start = no_table file; stands = stands }

-- after the header an entry may begin
after_header : (rest : List ℕ) → EntryStart (header_file ++ rest) 6 header []
unfolding computing
after_header rest =
    EntryStart-none (header_file ++ rest) 0 6 [] header (no_table (header_file ++ rest)) header_is (All-nil (λ g. g.header.name ≢ header.name)) (record { spelled = refl; within = omega arith })

-- if the first entry begins with these bytes, its next field: after so many fields of this change
field_behind : (entry : List ℕ) (at : ℕ) (change : Change) (count : ℕ) → IsChange flags change
    → count < length (fields_of change) → Stands (header_file ++ entry) 6 (change_front change false count) at
    → FieldStart (header_file ++ entry) at flags change count
field_behind entry at change count is more stand = record {
  from = 6;
  header = header;
  entries = [];
  start = after_header entry;
  flags_are = refl;
  is_change = is;
  more = more;
  indirect = false;
  stand = stand;
}

-- after its operation and its indirect flag the first field of an insert
insert_field : (rest : List ℕ) → FieldStart (header_file ++ 0x12 ∷ 0x00 ∷ rest) 8 flags (Insert row) 0
unfolding computing
insert_field rest =
    field_behind (0x12 ∷ 0x00 ∷ rest) 8 (Insert row) 0 (row_is, row_is_keyed) (omega arith)
    (record { spelled = refl; within = omega arith })

-- and after the field 1 the second
second_insert_field : (rest : List ℕ) → FieldStart (header_file ++ 0x12 ∷ 0x00 ∷ (one_field ++ rest)) 17 flags (Insert row) 1
unfolding computing
second_insert_field rest =
    field_behind (0x12 ∷ 0x00 ∷ (one_field ++ rest)) 17 (Insert row) 1 (row_is, row_is_keyed) (omega arith)
    (record { spelled = refl; within = omega arith })

-- the first field of the old record of an update
old_field : (rest : List ℕ) → FieldStart (header_file ++ 0x17 ∷ 0x00 ∷ rest) 8 flags (update x y) 0
unfolding computing
old_field rest =
    field_behind (0x17 ∷ 0x00 ∷ rest) 8 (update x y) 0 (update_is_change x y x_is y_is) (omega arith)
    (record { spelled = refl; within = omega arith })

-- and the first of the new record, after the old one
new_field : (rest : List ℕ) → FieldStart (header_file ++ 0x17 ∷ 0x00 ∷ (one_field ++ x_field ++ rest)) 20 flags (update x y) 2
unfolding computing
new_field rest =
    field_behind (0x17 ∷ 0x00 ∷ (one_field ++ x_field ++ rest)) 20 (update x y) 2 (update_is_change x y x_is y_is)
    (omega arith) (record { spelled = refl; within = omega arith })

-- after 54 there is no count, for this reason
no_count : (rest : List ℕ) (kind : FieldFaultKind) (behind : ℕ) → VarintFails rest kind behind
    → HasNoCount (0x54 ∷ rest) kind (1 + behind)
no_count rest kind behind fails = record {
  at = 1;
  behind = behind;
  part = in_header (0x54 ∷ rest) [] 1 (record { spelled = refl; within = omega arith });
  fails = fails;
  place_is = refl;
}

-- where a field may begin there is none, for this reason
no_field : {file : List ℕ} {at : ℕ} {change : Change} {count : ℕ} (kind : FieldFaultKind) (behind : ℕ)
    → FieldStart file at flags change count → FieldFails (drop at file) kind behind → HasNoField file kind (at + behind)
no_field {at = at} {change = change} {count = count} kind behind start fails = record {
  at = at;
  behind = behind;
  flags = flags;
  change = change;
  count = count;
  start = start;
  fails = fails;
  place_is = refl;
}

-- this field is in the first column of a row or of an old record
first_field : {file : List ℕ} {change : Change} {found : OwnedField} {Holds : List ℕ → Change → ℕ → Type 0}
    → FieldStart file 8 flags change 0 → Stands file 8 (field_bytes found) 9 → Holds flags change 0
    → StandsBefore file 8 found Holds
first_field {change = change} start stands holds = record {
  flags = flags;
  change = change;
  column = 0;
  to = 9;
  start = start;
  in_row = omega arith;
  stands = stands;
  holds = holds;
}

-- after 54 there is no count
no_count_is_truncated : ReadCase (0x54 ∷ []) Truncated 1
no_count_is_truncated =
    inl (inl (no_count [] field.Truncated 0 (record { few = omega arith; go_on = tt; shortest = λ same. cc }, refl)))

-- of two columns one has a flag
one_flag_is_truncated : ReadCase (0x54 ∷ 0x02 ∷ 0x01 ∷ []) Truncated 3
unfolding computing
one_flag_is_truncated = inr (
  inl (record {
    count = 2;
    at = 2;
    part = in_header (0x54 ∷ 0x02 ∷ 0x01 ∷ []) (0x02 ∷ []) 2 (record { spelled = refl; within = omega arith });
    is_count = (omega arith, omega arith);
    fewer = omega arith;
  }),
  refl,
)

-- the name has no end
open_name_is_truncated : ReadCase (0x54 ∷ 0x02 ∷ 0x01 ∷ 0x00 ∷ 0x74 ∷ []) Truncated 5
unfolding computing
open_name_is_truncated = inr (
  inr (inl (record {
    flags = flags;
    at = 4;
    are_flags = flags_are;
    part = in_header (0x54 ∷ 0x02 ∷ 0x01 ∷ 0x00 ∷ 0x74 ∷ []) (0x02 ∷ 0x01 ∷ 0x00 ∷ []) 4 (record { spelled = refl; within = omega arith });
    no_end = (λ same. absurd (omega (arith, same)), tt);
  })),
  refl,
)

-- after an operation there is no indirect flag
no_flag_byte_is_truncated : ReadCase (header_file ++ 0x12 ∷ []) Truncated 7
no_flag_byte_is_truncated = inr (
  inr (inr (record {
    at = 6;
    header = header;
    entries = [];
    byte = 0x12;
    start = after_header (0x12 ∷ []);
    is_operation = inl refl;
    stands = record { spelled = refl; within = omega arith };
  })),
  refl,
)

-- a row ends after its first field
no_second_field_is_truncated : ReadCase (header_file ++ 0x12 ∷ 0x00 ∷ (one_field ++ [])) Truncated 17
no_second_field_is_truncated = inl (inr (no_field field.Truncated 0 (second_insert_field []) (inl refl, refl)))

-- a file begins with the byte 41
letter_is_no_table : ReadCase (0x41 ∷ []) NotTable 0
letter_is_no_table = (refl, record { within = omega arith; no_table = λ same. absurd (omega (arith, same)); no_patchset = λ same. absurd (omega (arith, same)) })

-- and so it is refused
pub letter_is_refused : ReadFails (0x41 ∷ []) NotTable 0
letter_is_refused = record { refused = other_begin_is_none 0x41 [] (λ same. absurd (omega (arith, same))); case = letter_is_no_table }

-- a file begins with the byte of a patchset
p_is_patchset : ReadCase (0x50 ∷ []) Patchset 0
p_is_patchset = record { groups = []; start = no_table (0x50 ∷ []); byte = refl }

-- the count of columns has a leading zero
long_count_is_bad : ReadCase (0x54 ∷ 0x80 ∷ 0x01 ∷ []) BadVarint 1
long_count_is_bad = inl (no_count (0x80 ∷ 0x01 ∷ []) field.BadVarint 0 (inl refl, refl))

-- a table has no column
no_column_is_counted : ReadCase (0x54 ∷ 0x00 ∷ []) ColumnCount 1
unfolding computing
no_column_is_counted = record {
  count = 0;
  to = 2;
  part = in_header (0x54 ∷ 0x00 ∷ []) [] 1 (record { spelled = refl; within = omega arith });
  stands = record { spelled = refl; within = omega arith };
  is_number = omega arith;
  no_column_count = λ count. absurd (omega (arith, count.0));
}

-- the one column of a table is none of the key
no_key_is_marked : ReadCase (0x54 ∷ 0x01 ∷ 0x00 ∷ []) NoKey 2
unfolding computing
no_key_is_marked = record {
  flags = 0 ∷ [];
  to = 3;
  part = in_header (0x54 ∷ 0x01 ∷ 0x00 ∷ []) (0x01 ∷ []) 2 (record { spelled = refl; within = omega arith });
  is_count = (omega arith, omega arith);
  stand = record { spelled = refl; within = omega arith };
  all_zero = (refl, tt);
}

-- the name of a table is empty
empty_name_is_bad : ReadCase (0x54 ∷ 0x01 ∷ 0x01 ∷ 0x00 ∷ []) BadName 3
unfolding computing
empty_name_is_bad = record {
  flags = 1 ∷ [];
  name = [];
  to = 4;
  are_flags = record { bytes = (omega arith, tt); few = omega arith; some_key = (0, 1, omega arith, refl, omega arith) };
  part = in_header (0x54 ∷ 0x01 ∷ 0x01 ∷ 0x00 ∷ []) (0x01 ∷ 0x01 ∷ []) 3 (record { spelled = refl; within = omega arith });
  stands = record { spelled = refl; within = omega arith };
  no_zero = tt;
  bad = inl refl;
}

-- the table `t` is there twice
second_table_is_duplicate : ReadCase (insert_file ++ insert_file) DuplicateTable 20
unfolding computing
second_table_is_duplicate = record {
  groups = one_change (Insert row);
  header = header;
  to = 26;
  start = record { are = insert_is_changeset; stand = record { spelled = refl; within = omega arith } };
  is_header = header_is;
  stands = record { spelled = refl; within = omega arith };
  not_new = λ fresh. fresh 0 (group []) (omega arith) refl;
}

-- a table has no change
no_change_is_empty : ReadCase header_file EmptyGroup 6
no_change_is_empty = record { header = header; start = after_header []; no_entry = λ entry. absurd (omega (arith, entry.within)) }

-- and neither has one that a patchset follows
patchset_behind_header_is_empty : ReadCase (header_file ++ 0x50 ∷ []) EmptyGroup 6
patchset_behind_header_is_empty = record { header = header; start = after_header (0x50 ∷ []); no_entry = λ entry. entry.no_patchset refl }

-- no operation is 13
thirteen_is_no_operation : IsOperation 0x13 → ⊥
thirteen_is_no_operation (inl same) = absurd (omega (arith, same))
thirteen_is_no_operation (inr (inl same)) = absurd (omega (arith, same))
thirteen_is_no_operation (inr (inr same)) = absurd (omega (arith, same))

thirteen_is_bad : ReadCase (header_file ++ 0x13 ∷ []) BadOp 6
thirteen_is_bad = record {
  header = header;
  entries = [];
  start = after_header (0x13 ∷ []);
  entry = record { within = omega arith; no_table = λ same. absurd (omega (arith, same)); no_patchset = λ same. absurd (omega (arith, same)) };
  no_operation = thirteen_is_no_operation;
}

-- no indirect flag is 2
two_is_bad_flag : ReadCase (header_file ++ 0x12 ∷ 0x02 ∷ []) BadFlag 7
two_is_bad_flag = record {
  at = 6;
  header = header;
  entries = [];
  byte = 0x12;
  start = after_header (0x12 ∷ 0x02 ∷ []);
  is_operation = inl refl;
  stands = record { spelled = refl; within = omega arith };
  within = omega arith;
  above_one = omega arith;
}

ff_is_no_text : HasBadText (0x03 ∷ 0x01 ∷ 0xff ∷ []) 2
unfolding computing
ff_is_no_text = record {
  text = 0xff ∷ [];
  rest = [];
  spelled = refl;
  short = omega arith;
  not_utf8 = λ text. true≢false (sym (is_utf8-from_IsUtf8 (0xff ∷ []) text));
  behind_count = refl;
}

-- fields that are none
fields_are_refused :
    ReadCase (header_file ++ 0x12 ∷ 0x00 ∷ 0x06 ∷ []) BadType 8  -- no type is 06
    × ReadCase (header_file ++ 0x12 ∷ 0x00 ∷ 0x02 ∷ []) RealValue 8  -- the type 02 is that of reals
    × ReadCase (header_file ++ 0x12 ∷ 0x00 ∷ 0x03 ∷ 0x01 ∷ 0xff ∷ []) BadText 10
    × ReadCase (header_file ++ 0x12 ∷ 0x00 ∷ (one_field ++ 0x03 ∷ 0x01 ∷ 0xff ∷ [])) BadText 19  -- in the second column
fields_are_refused = (
  no_field field.BadType 0 (insert_field (0x06 ∷ []))
      (record { kind = 6; rest = []; spelled = refl; no_type = omega arith }, refl),
  no_field field.RealValue 0 (insert_field (0x02 ∷ [])) (refl, refl),
  no_field field.BadText 2 (insert_field (0x03 ∷ 0x01 ∷ 0xff ∷ [])) ff_is_no_text,
  no_field field.BadText 2 (second_insert_field (0x03 ∷ 0x01 ∷ 0xff ∷ [])) ff_is_no_text,
)

-- fields that may not be there
fields_may_not_stand :
    ReadCase (header_file ++ 0x12 ∷ 0x00 ∷ 0x00 ∷ []) UndefinedField 8  -- the first of a row
    × ReadCase (header_file ++ 0x17 ∷ 0x00 ∷ 0x00 ∷ []) UndefinedField 8  -- the key of an old record
    × ReadCase (header_file ++ 0x12 ∷ 0x00 ∷ 0x05 ∷ []) NullKey 8
unfolding computing
fields_may_not_stand = (
  first_field (insert_field (0x00 ∷ [])) (record { spelled = refl; within = omega arith }) (inl tt),
  first_field (old_field (0x00 ∷ [])) (record { spelled = refl; within = omega arith }) (inr (omega arith)),
  first_field (insert_field (0x05 ∷ [])) (record { spelled = refl; within = omega arith }) (omega arith),
)

-- a new record has the key
new_key_is_unpaired : ReadCase (header_file ++ 0x17 ∷ 0x00 ∷ (one_field ++ x_field ++ one_field)) Unpaired 20
unfolding computing
new_key_is_unpaired = record {
  flags = flags;
  change = update x y;
  count = 2;
  found = Defined (Int (pos 1));
  to = 29;
  start = new_field one_field;
  in_new = omega arith;
  is_field = row_is.0;
  stands = record { spelled = refl; within = omega arith };
  unlike = λ alike. alike;
}

-- a second change has the key of the first
second_change_is_duplicate : ReadCase (insert_file ++ 0x09 ∷ 0x00 ∷ (one_field ++ x_field)) DuplicateKey 20
unfolding computing
second_change_is_duplicate = record {
  header = header;
  entries = direct (Insert row) ∷ [];
  entry = direct (Delete row);
  to = 34;
  start = record {
    from = 0;
    groups = [];
    start = no_table (insert_file ++ 0x09 ∷ 0x00 ∷ (one_field ++ x_field));
    is_header = header_is;
    new_table = All-nil (λ g. g.header.name ≢ header.name);
    each = one (IsEntry flags) (direct (Insert row)) (row_is, row_is_keyed);
    once = λ i j d lt in_list. absurd (omega arith);
    stand = record { spelled = refl; within = omega arith };
  };
  is_entry = (row_is, row_is_keyed);
  stands = record { spelled = refl; within = omega arith };
  not_new = λ fresh. fresh 0 (direct (Insert row)) (omega arith) refl;
}

-- what is accepted has no fault
accepted_is_not_refused : (kind : ReadFaultKind) (place : ℕ) → ReadFails insert_file kind place → ⊥
accepted_is_not_refused kind place h = h.refused insert_file_is_accepted
