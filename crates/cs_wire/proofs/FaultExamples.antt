-- What is no fault: for each kind of read fault a file that has none of that kind at any place, and files that differ
-- from those of the examples of faults in the one byte that matters.
use Rattle.std.proofs.Common.{◌≡◌, ◌≢◌, ℕ, zero, suc, ◌/◌, ◌%◌, ◌<◌, ◌≤◌, ◌==◌, false, Some, List, [], ◌∷◌, ◌++◌, length, drop, get_or, unwrap_or, codes, refl, sym, ap, subst, inl, inr, arith, length-append, length-drop}
use Rattle.std.specs.Prelude.{◌⊎◌, IsUtf8, slice_get}
use Rattle.std.specs.List.{AllByRecursion, list_any}
use Rattle.std.specs.Str.{chars, is_utf8}
use Rattle.std.specs.Char.{encode_utf8}
use Rattle.std.proofs.lemmas.Bool.{or_parts, eqb-false}
use Rattle.std.proofs.lemmas.List.Elements.{All-nil}
use Rattle.std.proofs.lemmas.Str.{IsUtf8-from_is_utf8}
use Rattle.cs_value.specs.declared.value.OwnedValue.TheVariants.{Int, Text, Blob, Null}
use Rattle.cs_value.specs.declared.value.OwnedField.{OwnedField}
use Rattle.cs_value.specs.declared.value.OwnedField.TheVariants.{Undefined, Defined}
use Rattle.cs_value.specs.Varint.{leading_digits, varint}
use Rattle.cs_value.specs.Spelling.{value_bytes, field_bytes}
use Rattle.cs_value.specs.FieldFaults.{HasContent, BeginsNoVarint, HasBadType}
use Rattle.cs_value.proofs.Spellings.{varint_spellings}
use Rattle.cs_value.proofs.VarintLoops.{last_digit}
use Rattle.cs_wire_entries.specs.declared.entry.Change.{Change}
use Rattle.cs_wire_entries.specs.declared.entry.Entry.{Entry}
use Rattle.cs_wire_entries.specs.declared.fault.ReadFaultKind.{ReadFaultKind}
use Rattle.cs_wire_entries.specs.declared.fault.ReadFaultKind.TheVariants.{Truncated, NotTable, Patchset, BadVarint, ColumnCount, NoKey, BadName, DuplicateTable, EmptyGroup, BadOp, BadFlag, BadType, RealValue, BadText, UndefinedField, Unpaired, NullKey, DuplicateKey}
use Rattle.cs_wire_entries.specs.Entry.{key_of, entry_bytes}
use Rattle.cs_wire_entries.specs.Changeset.{HeaderData, GroupData, IsHeader, IsNewKey, IsNewName, flags_bytes, header_bytes, entries_bytes, group_bytes, file_bytes}
use Rattle.cs_wire_entries.specs.ReadFaults.{Stands, TableStart, HeaderPart, EntryStart, FieldStart, ReadCase}
use Rattle.cs_wire.proofs.GroupsLemmas.{group_bytes_some}
use Rattle.cs_wire.proofs.Examples.{header_file, one_field, insert_file}

-- files that begin with another byte than 54

abbrev first : List ℕ → ℕ
first bytes = get_or bytes 0 0

-- a table begins at once, or the file begins with 54
table_first : (file : List ℕ) (at : ℕ) (groups : List GroupData) → TableStart file at groups → (at ≡ 0) ⊎ (first file ≡ 0x54)
unfolding group_bytes header_bytes
table_first file at [] start = inl (omega (arith, ap length start.stand.spelled, length-drop 0 file, length-drop at file, start.stand.within))
table_first file at (g ∷ groups) start = inr (ap first start.stand.spelled)

-- the byte 54 where a table begins
begin_first : (file : List ℕ) (from at : ℕ) (groups : List GroupData) (text : List ℕ) → TableStart file from groups → Stands file from (0x54 ∷ text) at → first file ≡ 0x54
begin_first file from at groups text start stands =
    elim (table_first file from groups start) [
      | inl zero_is ↦ let stand = subst (λ (n : ℕ). Stands file n (0x54 ∷ text) at) zero_is stands in ap first stand.spelled
      | inr same ↦ same
    ]

header_first : (file text : List ℕ) (at : ℕ) → HeaderPart file text at → first file ≡ 0x54
header_first file text at part = begin_first file part.from at part.groups text part.start part.stands

whole_header_first : (file : List ℕ) (place to : ℕ) (groups : List GroupData) (header : HeaderData) → TableStart file place groups → Stands file place (header_bytes header) to → first file ≡ 0x54
unfolding header_bytes
whole_header_first file place to groups header start stands = begin_first file place to groups (flags_bytes header.flags ++ (header.name ++ 0 ∷ [])) start stands

entry_first : (file : List ℕ) (at : ℕ) (header : HeaderData) (entries : List Entry) → EntryStart file at header entries → first file ≡ 0x54
unfolding header_bytes
entry_first file at header entries start =
    begin_first file start.from at start.groups ((flags_bytes header.flags ++ (header.name ++ 0 ∷ [])) ++ entries_bytes entries) start.start start.stand

field_first : (file : List ℕ) (at : ℕ) (flags : List ℕ) (change : Change) (count : ℕ) → FieldStart file at flags change count → first file ≡ 0x54
field_first file at flags change count start = entry_first file start.from start.header start.entries start.start

-- a file that begins with another byte has no fault but NotTable and Patchset
other_begin : (file : List ℕ) → (first file ≡ 0x54 → ⊥) → (kind : ReadFaultKind) (place : ℕ) → ReadCase file kind place → (kind ≡ NotTable) ⊎ (kind ≡ Patchset)
other_begin file other Truncated place (inl (inl h)) = absurd (other (header_first file [] h.at h.part))
other_begin file other Truncated place (inl (inr h)) = absurd (other (field_first file h.at h.flags h.change h.count h.start))
other_begin file other Truncated place (inr (inl h, end)) = absurd (other (header_first file (varint h.count) h.at h.part))
other_begin file other Truncated place (inr (inr (inl h), end)) = absurd (other (header_first file (flags_bytes h.flags) h.at h.part))
other_begin file other Truncated place (inr (inr (inr h), end)) = absurd (other (entry_first file h.at h.header h.entries h.start))
other_begin file other NotTable place h = inl refl
other_begin file other Patchset place h = inr refl
other_begin file other BadVarint place (inl h) = absurd (other (header_first file [] h.at h.part))
other_begin file other BadVarint place (inr h) = absurd (other (field_first file h.at h.flags h.change h.count h.start))
other_begin file other ColumnCount place h = absurd (other (header_first file [] place h.part))
other_begin file other NoKey place h = absurd (other (header_first file (varint (length h.flags)) place h.part))
other_begin file other BadName place h = absurd (other (header_first file (flags_bytes h.flags) place h.part))
other_begin file other DuplicateTable place h = absurd (other (whole_header_first file place h.to h.groups h.header h.start h.stands))
other_begin file other EmptyGroup place h = absurd (other (entry_first file place h.header [] h.start))
other_begin file other BadOp place h = absurd (other (entry_first file place h.header h.entries h.start))
other_begin file other BadFlag place h = absurd (other (entry_first file h.at h.header h.entries h.start))
other_begin file other BadType place h = absurd (other (field_first file h.at h.flags h.change h.count h.start))
other_begin file other RealValue place h = absurd (other (field_first file h.at h.flags h.change h.count h.start))
other_begin file other BadText place h = absurd (other (field_first file h.at h.flags h.change h.count h.start))
other_begin file other UndefinedField place h = absurd (other (field_first file place h.flags h.change h.column h.start))
other_begin file other Unpaired place h = absurd (other (field_first file place h.flags h.change h.count h.start))
other_begin file other NullKey place h = absurd (other (field_first file place h.flags h.change h.column h.start))
other_begin file other DuplicateKey place h = absurd (other (entry_first file place h.header h.entries h.start))

-- the file of the byte 41 has exactly one fault
pub letter_has_one_fault : (kind : ReadFaultKind) (place : ℕ) → ReadCase (0x41 ∷ []) kind place → (kind ≡ NotTable) × (place ≡ 0)
letter_has_one_fault kind place h =
    elim (other_begin (0x41 ∷ []) (λ same. absurd (omega (arith, same))) kind place h) [
      | inl other ↦ let no_table = subst (λ (k : ReadFaultKind). ReadCase (0x41 ∷ []) k place) other h in (other, no_table.0)
      | inr patchset ↦ absurd (letter_is_no_patchset place (subst (λ (k : ReadFaultKind). ReadCase (0x41 ∷ []) k place) patchset h))
    ]
  where
    letter_is_no_patchset : (at : ℕ) → ReadCase (0x41 ∷ []) Patchset at → ⊥
    letter_is_no_patchset at p =
        elim (table_first (0x41 ∷ []) at p.groups p.start) [
          | inl zero_is ↦ absurd (omega (arith, ap (λ o. unwrap_or o 0) (subst (λ (n : ℕ). ReadCase (0x41 ∷ []) Patchset n) zero_is p).byte))
          | inr same ↦ absurd (omega (arith, same))
        ]

-- and so has the file of the byte 50
pub patchset_has_one_fault : (kind : ReadFaultKind) (place : ℕ) → ReadCase (0x50 ∷ []) kind place → (kind ≡ Patchset) × (place ≡ 0)
patchset_has_one_fault kind place h =
    elim (other_begin (0x50 ∷ []) (λ same. absurd (omega (arith, same))) kind place h) [
      | inl other ↦ let no_table = subst (λ (k : ReadFaultKind). ReadCase (0x50 ∷ []) k place) other h in absurd (no_table.1.no_patchset refl)
      | inr patchset ↦
          let p = subst (λ (k : ReadFaultKind). ReadCase (0x50 ∷ []) k place) patchset h in
          elim (table_first (0x50 ∷ []) place p.groups p.start) [ inl zero_is ↦ (patchset, zero_is) | inr same ↦ absurd (omega (arith, same)) ]
    ]

-- the place and the one byte that matter

-- Truncated has its place at the end
pub truncated_at_end : (file : List ℕ) (place : ℕ) → ReadCase file Truncated place → place ≡ length file
truncated_at_end file place (inl (inl h)) = omega (arith, h.place_is, h.fails.1, length-drop h.at file, h.part.stands.within)
truncated_at_end file place (inl (inr h)) = omega (arith, h.place_is, h.fails.1, length-drop h.at file, h.start.stand.within)
truncated_at_end file place (inr h) = h.1

-- 2 is a count of columns
two_is_a_count : ReadCase (0x54 ∷ 0x02 ∷ []) ColumnCount 1 → ⊥
unfolding leading_digits varint
two_is_a_count h =
    let same = varint_spellings 2 h.count [] (drop h.to (0x54 ∷ 0x02 ∷ [])) (omega arith) h.is_number h.stands.spelled in
    h.no_column_count (omega (arith, same.0), omega (arith, same.0))

-- and so it is a varint
two_is_a_varint : ReadCase (0x54 ∷ 0x02 ∷ []) BadVarint 1 → ⊥
two_is_a_varint (inl h) =
    let at_is : h.at ≡ 1 = omega (arith, h.place_is, h.fails.1) in no_fault (subst (λ (n : ℕ). BeginsNoVarint (drop n (0x54 ∷ 0x02 ∷ []))) at_is h.fails.0)
  where
    no_fault : BeginsNoVarint (0x02 ∷ []) → ⊥
    no_fault (inl zero_first) = absurd (omega (arith, ap (λ o. unwrap_or o 0) zero_first))
    no_fault (inr long) = absurd (omega (arith, long.0))
two_is_a_varint (inr h) =
    let at_is : h.at ≡ 0 = omega (arith, h.place_is, h.fails.1) in
    no_content (subst (λ (n : ℕ). HasContent (drop n (0x54 ∷ 0x02 ∷ [])) h.fails.0.content) at_is h.fails.0.has_content)
  where
    no_content : HasContent (0x54 ∷ 0x02 ∷ []) h.fails.0.content → ⊥
    no_content (inl text) = absurd (omega (arith, ap first text))
    no_content (inr blob) = absurd (omega (arith, ap first blob))

-- flags of which one is not 0 mark a key
marked_flags : (flags rest bytes : List ℕ) → bytes ≡ flags ++ rest → 0 < length flags → AllByRecursion (λ flag. flag ≡ 0) flags → first bytes ≡ 0
marked_flags [] rest bytes is some zeros = absurd (omega (arith, some))
marked_flags (flag ∷ flags) rest bytes is some zeros = let here : first bytes ≡ flag = ap first is in omega (arith, here, zeros.0)

key_is_marked : ReadCase (0x54 ∷ 0x02 ∷ 0x01 ∷ 0x00 ∷ []) NoKey 2 → ⊥
key_is_marked h = absurd (omega (arith, marked_flags h.flags (drop h.to (0x54 ∷ 0x02 ∷ 0x01 ∷ 0x00 ∷ [])) (0x01 ∷ 0x00 ∷ []) h.stand.spelled h.is_count.0 h.all_zero))

t_is_text : IsUtf8 (codes "t")
unfolding encode_utf8 chars is_utf8
t_is_text = IsUtf8-from_is_utf8 (codes "t") refl

-- `t` is a name
t_is_a_name : ReadCase (0x54 ∷ 0x01 ∷ 0x01 ∷ 0x74 ∷ 0x00 ∷ []) BadName 3 → ⊥
t_is_a_name h = good_name h.name (drop h.to (0x54 ∷ 0x01 ∷ 0x01 ∷ 0x74 ∷ 0x00 ∷ [])) h.stands.spelled h.no_zero h.bad
  where
    good_name : (name rest : List ℕ) → 0x74 ∷ 0x00 ∷ [] ≡ (name ++ 0 ∷ []) ++ rest → AllByRecursion (λ b. b ≢ 0) name → (name ≡ []) ⊎ (IsUtf8 name → ⊥) → ⊥
    good_name [] rest is no_zero bad = absurd (omega (arith, ap first is))
    good_name (a ∷ []) rest is no_zero (inl none) = cc none
    good_name (a ∷ []) rest is no_zero (inr not) = not (subst (λ (b : ℕ). IsUtf8 (b ∷ [])) (ap first is) t_is_text)
    good_name (a ∷ b ∷ name) rest is no_zero bad = no_zero.1.0 (sym (ap (λ (bytes : List ℕ). get_or bytes 1 0) is))

-- the first table repeats none
first_table_is_new : (file : List ℕ) → ReadCase file DuplicateTable 0 → ⊥
first_table_is_new file h = h.not_new (no_group h.groups h.start)
  where
    no_group : (groups : List GroupData) → TableStart file 0 groups → IsNewName groups h.header.name
    no_group [] start = All-nil (λ g. g.header.name ≢ h.header.name)
    no_group (g ∷ groups) start =
        let bytes = group_bytes g ++ file_bytes groups in
        absurd (omega (arith, ap length start.stand.spelled, length-append bytes (drop 0 file), length-append (group_bytes g) (file_bytes groups), group_bytes_some g))

varint_some : (n : ℕ) → 0 < length (varint n)
varint_some n = omega (arith, ap length (last_digit n), length-append (leading_digits 4 (n / 128)) ((n % 128) ∷ []))

-- a header has five bytes at least, and an entry two
header_five : (header : HeaderData) → IsHeader header → 5 ≤ length (header_bytes header)
unfolding header_bytes flags_bytes
header_five header is =
    omega (arith, length-append (varint (length header.flags) ++ header.flags) (header.name ++ 0 ∷ []), length-append (varint (length header.flags)) header.flags, length-append header.name (0 ∷ []), varint_some (length header.flags), is.flags.some_key.2, is.name.some)

entry_two : (entry : Entry) → 2 ≤ length (entry_bytes entry)
unfolding entry_bytes
entry_two entry = omega arith

-- before the seventh byte there is no entry
no_entry_yet : (file : List ℕ) (header : HeaderData) (entries : List Entry) → EntryStart file 6 header entries → entries ≡ []
no_entry_yet file header [] start = refl
no_entry_yet file header (entry ∷ entries) start =
    let text = header_bytes header ++ entries_bytes (entry ∷ entries) in
    absurd (omega (arith, ap length start.stand.spelled, start.stand.within, length-drop start.from file, length-drop 6 file, length-append text (drop 6 file), length-append (header_bytes header) (entries_bytes (entry ∷ entries)), length-append (entry_bytes entry) (entries_bytes entries), header_five header start.is_header, entry_two entry))

-- the first entry of the table `t` repeats no key
first_entry_is_new : ReadCase insert_file DuplicateKey 6 → ⊥
first_entry_is_new h =
    let none = no_entry_yet insert_file h.header h.entries h.start in
    h.not_new (subst (λ (entries : List Entry). IsNewKey h.header.flags entries (key_of h.header.flags h.entry.change)) (sym none) (All-nil (λ e. key_of h.header.flags e.change ≢ key_of h.header.flags h.entry.change)))

-- what is there where an entry may begin, and is no such fault
entries_are_no_faults :
    (ReadCase (header_file ++ 0x13 ∷ []) EmptyGroup 6 → ⊥)  -- a byte is met: the table is not empty
    × (ReadCase (header_file ++ 0x50 ∷ []) BadOp 6 → ⊥)  -- 50 begins no entry
    × (ReadCase header_file BadOp 6 → ⊥)  -- and nor does the end
    × (ReadCase (header_file ++ 0x13 ∷ []) BadOp 7 → ⊥)  -- a bad operation stands at its own place, and not behind it
    × (ReadCase (header_file ++ 0x12 ∷ 0x01 ∷ []) BadFlag 7 → ⊥)  -- 1 is an indirect flag
entries_are_no_faults = (
  λ h. h.no_entry (record {
    within = omega arith;
    no_table = λ same. absurd (omega (arith, same));
    no_patchset = λ same. absurd (omega (arith, same));
  }),
  λ h. h.entry.no_patchset refl,
  λ h. absurd (omega (arith, h.entry.within)),
  λ h. absurd (omega (arith, h.entry.within)),
  λ h. absurd (omega (arith, h.above_one)),
)

-- 05 is a type
five_is_a_type : ReadCase (header_file ++ 0x12 ∷ 0x00 ∷ 0x05 ∷ []) BadType 8 → ⊥
five_is_a_type h =
    let at_is : h.at ≡ 8 = omega (arith, h.place_is, h.fails.1) in
    no_fault (subst (λ (n : ℕ). HasBadType (drop n (header_file ++ 0x12 ∷ 0x00 ∷ 0x05 ∷ []))) at_is h.fails.0)
  where
    no_fault : HasBadType (0x05 ∷ []) → ⊥
    no_fault bad = absurd (omega (arith, ap first bad.spelled, bad.no_type))

abbrev BeginsReal : List ℕ → Type 0
BeginsReal bytes = slice_get bytes 0 ≡ Some 2

-- and 01 is no real's
integer_is_no_real : ReadCase (header_file ++ 0x12 ∷ 0x00 ∷ one_field) RealValue 8 → ⊥
integer_is_no_real h =
    let at_is : h.at ≡ 8 = omega (arith, h.place_is, h.fails.1) in
    no_real (subst (λ (n : ℕ). BeginsReal (drop n (header_file ++ 0x12 ∷ 0x00 ∷ one_field))) at_is h.fails.0)
  where
    no_real : BeginsReal one_field → ⊥
    no_real real = absurd (omega (arith, ap (λ o. unwrap_or o 0) real))

-- a byte that a list has not is found nowhere
found_nowhere : (byte : ℕ) (bytes : List ℕ) (at : ℕ) (rest : List ℕ) → list_any (λ b. b == byte) bytes ≡ false
    → drop at bytes ≡ byte ∷ rest → ⊥
found_nowhere byte [] zero rest others is = cc is
found_nowhere byte [] (suc at) rest others is = cc is
found_nowhere byte (b ∷ bytes) zero rest others is =
    eqb-false b byte (or_parts (b == byte) (list_any (λ b. b == byte) bytes) others).0 (ap first is)
found_nowhere byte (b ∷ bytes) (suc at) rest others is =
    found_nowhere byte bytes at rest (or_parts (b == byte) (list_any (λ b. b == byte) bytes) others).1 is

-- a blob of the byte ff is no text
blob_is_no_text : (place : ℕ) → ReadCase (header_file ++ 0x12 ∷ 0x00 ∷ 0x04 ∷ 0x01 ∷ 0xff ∷ []) BadText place → ⊥
blob_is_no_text place h =
    found_nowhere 3 (header_file ++ 0x12 ∷ 0x00 ∷ 0x04 ∷ 0x01 ∷ 0xff ∷ []) h.at _ refl h.fails.spelled

-- 1 is a value, and not NULL
one_is_a_value :
    (ReadCase (header_file ++ 0x12 ∷ 0x00 ∷ one_field) UndefinedField 8 → ⊥)
    × (ReadCase (header_file ++ 0x12 ∷ 0x00 ∷ one_field) NullKey 8 → ⊥)
unfolding value_bytes field_bytes
one_is_a_value = (
  λ h. absurd (omega (arith, ap first h.stands.spelled)),
  λ h. absurd (omega (arith, ap first h.stands.spelled)),
)

-- each field has a byte
field_some : (f : OwnedField) → 0 < length (field_bytes f)
unfolding value_bytes field_bytes
field_some Undefined = omega arith
field_some (Defined (Int z)) = omega arith
field_some (Defined (Text t)) = omega arith
field_some (Defined (Blob b)) = omega arith
field_some (Defined Null) = omega arith

-- and so there is none at the end, as for an unpaired one
end_is_not_unpaired : ReadCase header_file Unpaired 6 → ⊥
end_is_not_unpaired h = absurd (omega (arith, ap length h.stands.spelled, length-append (field_bytes h.found) (drop h.to header_file), field_some h.found))
