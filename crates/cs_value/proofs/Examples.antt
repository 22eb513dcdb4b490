-- The definitions of varints, values, rows, keys and faults, computed at some of them.
use Rattle.std.proofs.Common.{◌≡◌, ◌≢◌, ℕ, pos, negsuc, Bool, true, bytes_eq, true≢false, List, [], ◌∷◌, replicate, codes, refl, inl, inr, arith, unwrap_or, get_or, length, drop, sym, ap, subst, ◌∙◌}
use Rattle.std.specs.List.{AllPairs}
use Rattle.std.specs.Char.{encode_utf8}
use Rattle.std.specs.Str.{chars, is_utf8}
use Rattle.std.proofs.lemmas.List.{nil_from_length}
use Rattle.std.proofs.lemmas.Str.{IsUtf8-from_is_utf8, is_utf8-from_IsUtf8}
use Rattle.cs_value.specs.declared.fault.FieldFaultKind.{FieldFaultKind}
use Rattle.cs_value.specs.declared.fault.FieldFaultKind.TheVariants.{Truncated, BadVarint, BadType, RealValue, BadText}
use Rattle.cs_value.specs.declared.value.OwnedValue.TheVariants.{Int, Text, Blob, Null}
use Rattle.cs_value.specs.declared.value.OwnedField.{OwnedField}
use Rattle.cs_value.specs.declared.value.OwnedField.TheVariants.{Undefined, Defined}
use Rattle.cs_value.specs.Value.{IsValue, IsRow}
use Rattle.cs_value.specs.Key.{key_columns}
use Rattle.cs_value.specs.Varint.{leading_digits, varint}
use Rattle.cs_value.specs.Spelling.{counted, value_bytes, field_bytes, row_bytes, record_bytes, BeginsWith}
use Rattle.cs_value.specs.FieldFaults.{IsCutVarint, IsCutContent, HasContent, VarintFails, FieldFails}
use Rattle.cs_value.specs.ImageFaults.{RecordFails}
use Rattle.cs_value.specs.Reading.{fault, number_from, number_at}
use Rattle.cs_value.specs.State.{SchemaData, IsColumnName, IsSchema}
use Rattle.cs_value.proofs.ListLemmas.{AllPairs-from_recursion}
use Rattle.cs_value.proofs.VarintLemmas.{number_faults}

computing : Unit {0}
unfolding leading_digits varint counted value_bytes field_bytes encode_utf8 chars is_utf8
computing = tt

-- varints

varints_are_spelled :
    (varint 0 ≡ 0x00 ∷ [])
    × (varint 127 ≡ 0x7f ∷ [])  -- the largest of one byte
    × (varint 128 ≡ 0x81 ∷ 0x00 ∷ [])
    × (varint 16383 ≡ 0xff ∷ 0x7f ∷ [])
    × (varint 16384 ≡ 0x81 ∷ 0x80 ∷ 0x00 ∷ [])
    × (varint 32767 ≡ 0x81 ∷ 0xff ∷ 0x7f ∷ [])  -- the largest count of columns
    × (varint 2147483647 ≡ 0x87 ∷ 0xff ∷ 0xff ∷ 0xff ∷ 0x7f ∷ [])  -- the largest of all
unfolding computing
varints_are_spelled = (refl, refl, refl, refl, refl, refl, refl)

-- values, fields and records

fields_are_spelled :
    (field_bytes (Defined (Int (pos 1))) ≡ 0x01 ∷ 0 ∷ 0 ∷ 0 ∷ 0 ∷ 0 ∷ 0 ∷ 0 ∷ 1 ∷ [])
    -- two's complement
    × (field_bytes (Defined (Int (negsuc 0))) ≡ 0x01 ∷ 0xff ∷ 0xff ∷ 0xff ∷ 0xff ∷ 0xff ∷ 0xff ∷ 0xff ∷ 0xff ∷ [])
    × (field_bytes (Defined (Int (negsuc 9223372036854775807))) ≡ 0x01 ∷ 0x80 ∷ 0 ∷ 0 ∷ 0 ∷ 0 ∷ 0 ∷ 0 ∷ 0 ∷ [])
    × (field_bytes (Defined (Text (codes "x"))) ≡ 0x03 ∷ 0x01 ∷ 0x78 ∷ [])
    × (field_bytes (Defined (Blob [])) ≡ 0x04 ∷ 0x00 ∷ [])
    × (field_bytes (Defined (Blob (replicate 127 0))) ≡ 0x04 ∷ 0x7f ∷ replicate 127 0)
    × (field_bytes (Defined (Blob (replicate 128 0))) ≡ 0x04 ∷ 0x81 ∷ 0x00 ∷ replicate 128 0)
    × (field_bytes (Defined Null) ≡ 0x05 ∷ [])
    × (field_bytes Undefined ≡ 0x00 ∷ [])
unfolding computing
fields_are_spelled = (refl, refl, refl, refl, refl, refl, refl, refl, refl)

-- a row, the new record of an update of its second column, and an old image of it: the key, and the column's value
records_are_spelled :
    (row_bytes (Int (pos 1) ∷ Text (codes "x") ∷ []) ≡ 0x01 ∷ 0 ∷ 0 ∷ 0 ∷ 0 ∷ 0 ∷ 0 ∷ 0 ∷ 1 ∷ 0x03 ∷ 0x01 ∷ 0x78 ∷ [])
    × (record_bytes (Undefined ∷ Defined (Text (codes "y")) ∷ []) ≡ 0x00 ∷ 0x03 ∷ 0x01 ∷ 0x79 ∷ [])
    × (record_bytes (Defined (Int (pos 1)) ∷ Defined (Text (codes "x")) ∷ Undefined ∷ [])
    ≡ 0x01 ∷ 0 ∷ 0 ∷ 0 ∷ 0 ∷ 0 ∷ 0 ∷ 0 ∷ 1 ∷ 0x03 ∷ 0x01 ∷ 0x78 ∷ 0x00 ∷ [])
unfolding computing
records_are_spelled = (refl, refl, refl)

-- 1 and 'x' are values
row_is : IsRow (Int (pos 1) ∷ Text (codes "x") ∷ [])
unfolding computing
row_is = (record { sfits = omega arith }, ((IsUtf8-from_is_utf8 (codes "x") refl, omega arith), tt))

-- the least integer of 64 bits is a value
least_is_value : IsValue (Int (negsuc 9223372036854775807))
least_is_value = record { sfits = omega arith }

-- and the one below it is none
below_least_is_none : IsValue (Int (negsuc 9223372036854775808)) → ⊥
below_least_is_none h = absurd (omega (arith, h.sfits))

-- the byte ff is no text
ff_is_no_text : IsValue (Text (0xff ∷ [])) → ⊥
unfolding computing
ff_is_no_text h = true≢false (sym (is_utf8-from_IsUtf8 (0xff ∷ []) h.0))

-- but it is a blob
ff_is_blob : IsValue (Blob (0xff ∷ []))
ff_is_blob = ((omega arith, tt), omega arith)

-- the bytes of NULL begin what follows them
null_begins : BeginsWith (0x05 ∷ 0x03 ∷ []) (field_bytes (Defined Null)) 1
unfolding computing
null_begins = record { whole = refl; count = refl }

-- the columns of the key are in the order of the table
flagged_columns_are_key :
    (key_columns (1 ∷ 0 ∷ []) (Int (pos 1) ∷ Text (codes "x") ∷ []) ≡ Int (pos 1) ∷ [])
    × (key_columns (2 ∷ 0 ∷ 1 ∷ []) (Text (codes "x") ∷ Null ∷ Int (pos 1) ∷ [])
    ≡ Text (codes "x") ∷ Int (pos 1) ∷ [])
    × (key_columns (2 ∷ 1 ∷ []) (Int (pos 1) ∷ Text (codes "x") ∷ []) ≡ Int (pos 1) ∷ Text (codes "x") ∷ [])
flagged_columns_are_key = (refl, refl, refl)

-- faults of varints

cut_is : IsCutVarint (0x81 ∷ [])
cut_is = record { few = omega arith; go_on = (omega arith, tt); shortest = λ same. absurd (omega (arith, ap (λ o. unwrap_or o 0) same)) }

varints_fail :
    VarintFails (0x81 ∷ []) Truncated 1  -- 81 goes on, and nothing follows
    × VarintFails [] Truncated 0
    × VarintFails (0x80 ∷ 0x01 ∷ []) BadVarint 0  -- a leading zero
    × VarintFails (0x80 ∷ []) BadVarint 0
    × VarintFails (0x88 ∷ 0x80 ∷ 0x80 ∷ 0x80 ∷ 0x00 ∷ []) BadVarint 0  -- 2147483648, which is too large
    × VarintFails (0x81 ∷ 0x80 ∷ 0x80 ∷ 0x80 ∷ 0x80 ∷ []) BadVarint 0  -- it does not end
unfolding number_at number_from
varints_fail = (
  (cut_is, refl),
  (record { few = omega arith; go_on = tt; shortest = λ same. cc }, refl),
  (inl refl, refl),
  (inl refl, refl),
  number_faults (0x88 ∷ 0x80 ∷ 0x80 ∷ 0x80 ∷ 0x00 ∷ []) (fault BadVarint 0) refl,
  number_faults (0x81 ∷ 0x80 ∷ 0x80 ∷ 0x80 ∷ 0x80 ∷ []) (fault BadVarint 0) refl,
)

-- faults of fields

no_field_is_truncated : FieldFails [] Truncated 0
no_field_is_truncated = (inl refl, refl)

short_blob : IsCutContent (0x02 ∷ 0xff ∷ [])
unfolding computing
short_blob = record { count = 2; rest = 0xff ∷ []; is_number = omega arith; spelled = refl; fewer = omega arith }

fields_fail :
    FieldFails (0x01 ∷ 0x00 ∷ 0x00 ∷ []) Truncated 3  -- an integer of two bytes
    × FieldFails (0x03 ∷ 0x81 ∷ []) Truncated 2  -- a text whose count is cut off
    × FieldFails (0x04 ∷ 0x02 ∷ 0xff ∷ []) Truncated 3  -- a blob of two bytes, of which one is there
    -- a text whose count has a leading zero: the place is that of the count
    × FieldFails (0x03 ∷ 0x80 ∷ 0x01 ∷ 0x78 ∷ []) BadVarint 1
    × FieldFails (0x06 ∷ []) BadType 0
    × FieldFails (0x02 ∷ []) RealValue 0  -- the bytes of reals are not looked at
unfolding computing
fields_fail = (
  (inr (inl (record { content = 0x00 ∷ 0x00 ∷ []; spelled = refl; fewer = omega arith })), refl),
  (inr (inr (record { content = 0x81 ∷ []; has_content = inl refl; cut = inl cut_is })), refl),
  (inr (inr (record { content = 0x02 ∷ 0xff ∷ []; has_content = inr refl; cut = inr short_blob })), refl),
  (record { content = 0x80 ∷ 0x01 ∷ 0x78 ∷ []; has_content = inl refl; no_count = inl refl }, refl),
  (record { kind = 6; rest = []; spelled = refl; no_type = omega arith }, refl),
  (refl, refl),
)

-- a text of the byte ff: the place is that of the text
ff_is_bad_text : FieldFails (0x03 ∷ 0x01 ∷ 0xff ∷ []) BadText 2
unfolding computing
ff_is_bad_text = record {
  text = 0xff ∷ [];
  rest = [];
  spelled = refl;
  short = omega arith;
  not_utf8 = λ text. true≢false (sym (is_utf8-from_IsUtf8 (0xff ∷ []) text));
  behind_count = refl;
}

first_byte : List ℕ → ℕ
first_byte bytes = get_or bytes 0 0

-- NULL has no content
null_has_no_content : (content : List ℕ) → HasContent (0x05 ∷ []) content → ⊥
unfolding first_byte
null_has_no_content content (inl text) = absurd (omega (arith, ap first_byte text))
null_has_no_content content (inr blob) = absurd (omega (arith, ap first_byte blob))

-- NULL has no fault
null_is_no_fault : (kind : FieldFaultKind) (place : ℕ) → FieldFails (0x05 ∷ []) kind place → ⊥
unfolding first_byte
null_is_no_fault Truncated place (inl none, at) = cc none
null_is_no_fault Truncated place (inr (inl integer), at) = absurd (omega (arith, ap first_byte integer.spelled))
null_is_no_fault Truncated place (inr (inr cut), at) = null_has_no_content cut.content cut.has_content
null_is_no_fault BadVarint place (bad, at) = null_has_no_content bad.content bad.has_content
null_is_no_fault BadType place (bad, at) = absurd (omega (arith, ap first_byte bad.spelled, bad.no_type))
null_is_no_fault RealValue place (is, at) = absurd (omega (arith, ap (λ o. unwrap_or o 0) is))
null_is_no_fault BadText place h = absurd (omega (arith, ap first_byte h.spelled))

-- faults of images

-- one field of two: the place is the end of the bytes
image_of_one_field_is_truncated : RecordFails (0x00 ∷ []) 2 Truncated 1
unfolding computing
image_of_one_field_is_truncated = record {
  fields = Undefined ∷ [];
  at = 1;
  behind = 0;
  are_fields = (tt, tt);
  few = omega arith;
  begins = record { whole = refl; count = refl };
  fails = no_field_is_truncated;
  place_is = refl;
}

-- NULL and a text of the byte ff: the place is that of the text, from the start of the image
second_text_is_bad : RecordFails (0x05 ∷ 0x03 ∷ 0x01 ∷ 0xff ∷ []) 2 BadText 3
unfolding computing
second_text_is_bad = record {
  fields = Defined Null ∷ [];
  at = 1;
  behind = 2;
  are_fields = (tt, tt);
  few = omega arith;
  begins = record { whole = refl; count = refl };
  fails = ff_is_bad_text;
  place_is = refl;
}

-- NULL is an image of one column
null_is_image : (kind : FieldFaultKind) (place : ℕ) → RecordFails (0x05 ∷ []) 1 kind place → ⊥
null_is_image kind place h =
    let none : h.fields ≡ [] = nil_from_length h.fields (omega (arith, h.few)) in
    let start : h.at ≡ 0 = h.begins.count ∙ ap (λ (fields : List OwnedField). length (record_bytes fields)) none in
    null_is_no_fault kind h.behind (subst (λ (n : ℕ). FieldFails (drop n (0x05 ∷ [])) kind h.behind) start h.fails)

-- a table

-- the columns a and b, with the key a; b refuses NULL if it is marked
abbrev pub columns_with : Bool → SchemaData
columns_with mark = record { columns = codes "a" ∷ codes "b" ∷ []; flags = 1 ∷ 0 ∷ []; refuses = true ∷ mark ∷ [] }

names_are : IsColumnName (codes "a") × IsColumnName (codes "b")
unfolding computing
names_are = (
  record { some = omega arith; text = IsUtf8-from_is_utf8 (codes "a") refl; short = omega arith },
  record { some = omega arith; text = IsUtf8-from_is_utf8 (codes "b") refl; short = omega arith },
)

names_are_apart : AllPairs ◌≢◌ (codes "a" ∷ codes "b" ∷ [])
names_are_apart =
    AllPairs-from_recursion ◌≢◌ (codes "a" ∷ codes "b" ∷ [])
    ((λ same. true≢false (ap (bytes_eq (codes "a")) same), tt), (tt, tt))

-- the table may be declared
pub columns_are_schema : (mark : Bool) → IsSchema (columns_with mark)
columns_are_schema mark = record {
  flags = record {
    bytes = (omega arith, (omega arith, tt));
    few = omega arith;
    some_key = (0, 1, omega arith, refl, omega arith);
  };
  bits = (omega arith, (omega arith, tt));
  rules = (refl, tt);
  as_many = refl;
  named = (names_are.0, (names_are.1, tt));
  apart = names_are_apart;
}
