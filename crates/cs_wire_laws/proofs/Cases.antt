-- Each case of a read fault states where the file stops being that of a changeset.
use Rattle.std.proofs.Common.{◌≡◌, ◌≢◌, ℕ, zero, suc, ◌+◌, ◌<◌, ◌≤◌, cond, List, [], ◌∷◌, ◌++◌, length, get_or, take, drop, Some, refl, sym, ap, subst, ◌∙◌, append_assoc, arith, length-append, inl, inr}
use Rattle.std.specs.Prelude.{◌⊎◌, slice_get}
use Rattle.std.proofs.lemmas.Bool.{cases_eq}
use Rattle.std.proofs.lemmas.List.{length-drop, drop_all, drop_more, get_or_at}
use Rattle.cs_value.specs.declared.fault.FieldFaultKind.{FieldFaultKind}
use Rattle.cs_value.specs.declared.fault.FieldFaultKind.TheVariants as field
use Rattle.cs_value.specs.declared.value.OwnedValue.TheVariants.{Null}
use Rattle.cs_value.specs.declared.value.OwnedField.{OwnedField}
use Rattle.cs_value.specs.declared.value.OwnedField.TheVariants.{Undefined, Defined}
use Rattle.cs_value.specs.Value.{IsField}
use Rattle.cs_value.specs.Varint.{varint}
use Rattle.cs_value.specs.Table.{IsFlags}
use Rattle.cs_value.specs.Spelling.{field_bytes, record_bytes}
use Rattle.cs_wire_entries.specs.declared.entry.Change.{Change}
use Rattle.cs_wire_entries.specs.declared.entry.Entry.{Entry}
use Rattle.cs_wire_entries.specs.declared.fault.ReadFault.{ReadFault}
use Rattle.cs_wire_entries.specs.declared.fault.ReadFaultKind.{ReadFaultKind}
use Rattle.cs_wire_entries.specs.declared.fault.ReadFaultKind.TheVariants.{Truncated, NotTable, Patchset, BadVarint, ColumnCount, NoKey, BadName, DuplicateTable}
use Rattle.cs_wire_entries.specs.declared.fault.ReadFaultKind.TheVariants.{EmptyGroup, BadOp, BadFlag, BadType, RealValue, BadText, UndefinedField, Unpaired, NullKey, DuplicateKey}
use Rattle.cs_wire_entries.specs.Entry.{fields_of}
use Rattle.cs_wire_entries.specs.Changeset.{HeaderData, GroupData, IsChangeset, flags_bytes, file_bytes}
use Rattle.cs_wire_entries.specs.ReadFaults.{kind_of, Stands, HasEntry, TableStart, HeaderPart, EntryStart, change_front, FieldStart, HasPatchset, HasNoCount, HasBadCount, IsCutFlags, HasNoKey, IsCutName, HasBadName, RepeatsTable}
use Rattle.cs_wire_entries.specs.ReadFaults.{IsOperation, HasNoEntry, HasBadOperation, IsCutEntry, HasBadFlag, RepeatsKey, HasNoField, ReadCase, ReadFails}
use Rattle.cs_wire_entries.specs.Reading.{refusal}
use Rattle.cs_wire_entries.proofs.ReadingLemmas.{flags_bytes-append, flags_some, first_byte}
use Rattle.cs_wire.proofs.CursorLemmas.{IsOpen-changeset, Begins-open, between_start}
use Rattle.cs_wire_laws.proofs.Outcomes.{Outcome, Fails, fails_is}
use Rattle.cs_wire_laws.proofs.HeaderOnce.{Header, Flagged, AtTable, header_found}
use Rattle.cs_wire_laws.proofs.WantsOnce.{want, null_refused, undefined_refused, unpaired_refused}
use Rattle.cs_wire_laws.proofs.EntryOnce.{AtEntry, AfterFields, change_found, entry_found, flag_le}
use Rattle.cs_wire_laws.proofs.Prefixes.{Full, group_of}
use Rattle.cs_wire_laws.proofs.Stops.{Stop, stop_once}

-- ---- places

-- where a text ends
end_is : (file text : List ℕ) (from to : ℕ) → from ≤ length file → Stands file from text to → to ≡ from + length text
end_is file text from to le h = omega (arith, ap length h.spelled, length-append text (drop to file), length-drop from file, length-drop to file, h.within)

-- the place of a fault, computed in another way
at_place : (k : ReadFaultKind) (p q : ℕ) → p ≡ q → Fails k p ≡ Fails k q
at_place k p q e = ap (Fails k) e

-- ---- where a table is to begin

full : (groups : List GroupData) → IsChangeset groups → Full groups
full groups are before header e =
    let bare = group_of header [] in
    let at : get_or groups (length before) bare ≡ bare = rw e (get_or_at before bare [] bare (length before) refl) in
    let some = (are.each (length before) bare (omega (arith, ap length e, length-append before (bare ∷ [])))).some in
    let none = rw at at some in
    omega (arith, none)

table_stop : (file : List ℕ) (at : ℕ) (groups : List GroupData) (o : Outcome) → TableStart file at groups → AtTable groups (drop at file) at o → Stop file o
table_stop file at groups o start found =
    let place : at ≡ length (file_bytes groups) = omega (arith, end_is file (file_bytes groups) 0 at (omega arith) start.stand) in
    record {
      groups = groups;
      rest = drop at file;
      is_open = IsOpen-changeset groups start.are;
      spelled = start.stand.spelled;
      found = inl (full groups start.are, subst (λ (p : ℕ). AtTable groups (drop at file) p o) place found);
    }

module _ (file text : List ℕ) (at : ℕ) (part : HeaderPart file text at) where
  part_end : at ≡ part.from + 1 + length text
  part_end = omega (arith, end_is file (0x54 ∷ text) part.from at part.start.stand.within part.stands)

  header_stop : (o : Outcome) → Header part.groups part.from (text ++ drop at file) (part.from + 1) o → Stop file o
  header_stop o found = table_stop file part.from part.groups o part.start (rw part.stands.spelled (inl (refl, found)))

no_count : (file : List ℕ) (kind : FieldFaultKind) (place : ℕ) → HasNoCount file kind place → Stop file (Fails (kind_of kind) place)
no_count file kind place h =
    header_stop file [] h.at h.part (Fails (kind_of kind) place)
    (inl (record { why = kind; behind = h.behind; fails = h.fails; is = at_place (kind_of kind) place _ (omega (arith, h.place_is, part_end file [] h.at h.part)) }))

bad_count : (file : List ℕ) (place : ℕ) → HasBadCount file place → Stop file (Fails ColumnCount place)
bad_count file place h =
    header_stop file [] place h.part (Fails ColumnCount place)
    (inr (record { count = h.count; rest = drop h.to file; is_number = h.is_number; spelled = h.stands.spelled; after = inl (h.no_column_count, at_place ColumnCount place _ (omega (arith, part_end file [] place h.part))) }))

cut_flags : (file : List ℕ) (place : ℕ) → place ≡ length file → IsCutFlags file → Stop file (Fails Truncated place)
cut_flags file place end h =
    let at = part_end file (varint h.count) h.at h.part in
    header_stop file (varint h.count) h.at h.part (Fails Truncated place)
    (inr (record {
      count = h.count;
      rest = drop h.at file;
      is_number = omega (arith, h.is_count);
      spelled = refl;
      after = inr (h.is_count, inl (omega (arith, h.fewer, length-drop h.at file), at_place Truncated place _ (omega (arith, end, at, length-drop h.at file, h.part.stands.within))));
    }))

no_key : (file : List ℕ) (place : ℕ) → HasNoKey file place → Stop file (Fails NoKey place)
no_key file place h =
    let count = length h.flags in
    header_stop file (varint count) place h.part (Fails NoKey place)
    (inr (record {
      count = count;
      rest = drop place file;
      is_number = omega (arith, h.is_count);
      spelled = refl;
      after = inr (
        h.is_count,
        inr (record {
          flags = h.flags;
          rest = drop h.to file;
          spelled = h.stand.spelled;
          count_is = refl;
          after = inl (h.all_zero, at_place NoKey place _ (part_end file (varint count) place h.part));
        }),
      );
    }))

-- after flags
flags_stop : (file flags : List ℕ) (at : ℕ) (o : Outcome) (part : HeaderPart file (flags_bytes flags) at) → IsFlags flags → Flagged part.groups part.from (drop at file) at o → Stop file o
flags_stop file flags at o part are found =
    let count = length flags in
    let spelled = flags_bytes-append flags (drop at file) in
    let place : at ≡ part.from + 1 + length (varint count) + count =
    omega (arith, part_end file (flags_bytes flags) at part, ap length spelled, length-append (flags_bytes flags) (drop at file), length-append (varint count) (flags ++ drop at file), length-append flags (drop at file)) in
    header_stop file (flags_bytes flags) at part o (inr (record {
      count = count;
      rest = flags ++ drop at file;
      is_number = omega (arith, are.few);
      spelled = spelled;
      after = inr (
        (flags_some flags are, are.few),
        inr (record {
          flags = flags;
          rest = drop at file;
          spelled = refl;
          count_is = refl;
          after = inr (are, subst (λ (p : ℕ). Flagged part.groups part.from (drop at file) p o) place found);
        }),
      );
    }))

cut_name : (file : List ℕ) (place : ℕ) → place ≡ length file → IsCutName file → Stop file (Fails Truncated place)
cut_name file place end h =
    flags_stop file h.flags h.at (Fails Truncated place) h.part h.are_flags (inl (h.no_end, at_place Truncated place _ (omega (arith, end, length-drop h.at file, h.part.stands.within))))

bad_name : (file : List ℕ) (place : ℕ) → HasBadName file place → Stop file (Fails BadName place)
bad_name file place h =
    flags_stop file h.flags place (Fails BadName place) h.part h.are_flags
    (inr (record { name = h.name; rest = drop h.to file; spelled = h.stands.spelled ∙ append_assoc h.name (0 ∷ []) (drop h.to file); no_zero = h.no_zero; after = inl (h.bad, refl) }))

repeats_table : (file : List ℕ) (place : ℕ) → RepeatsTable file place → Stop file (Fails DuplicateTable place)
repeats_table file place h =
    table_stop file place h.groups (Fails DuplicateTable place) h.start
    (rw h.stands.spelled (header_found h.groups h.header (drop h.to file) place (Fails DuplicateTable place) h.is_header (inl (h.not_new, refl))))

byte_at : (bytes : List ℕ) (at b : ℕ) → slice_get bytes at ≡ Some b → (rest : List ℕ) × (drop at bytes ≡ b ∷ rest)
byte_at [] at b e = absurd cc
byte_at (c ∷ bytes) zero b e = (bytes, cc)
byte_at (c ∷ bytes) (suc at) b e = byte_at bytes at b e

has_patchset : (file : List ℕ) (place : ℕ) → HasPatchset file place → Stop file (Fails Patchset place)
has_patchset file place h =
    let byte = byte_at file place 0x50 h.byte in
    table_stop file place h.groups (Fails Patchset place) h.start (rw byte.1 (inr (inl (refl, refl))))

not_table : (file : List ℕ) (place : ℕ) → place ≡ 0 → HasEntry file 0 → Stop file (Fails NotTable place)
not_table file place first h =
    let start = between_start file in
    table_stop file 0 [] (Fails NotTable place) (record { are = start.are; stand = start.stand }) (by file h)
  where
    by : (bytes : List ℕ) → HasEntry bytes 0 → AtTable [] bytes 0 (Fails NotTable place)
    by [] h = absurd (omega (arith, h.within))
    by (b ∷ bytes) h = inr (inr (refl, h.no_table, h.no_patchset, at_place NotTable place 0 first))

-- ---- where an entry may begin

entry_stop : (file : List ℕ) (at : ℕ) (header : HeaderData) (entries : List Entry) (o : Outcome) → EntryStart file at header entries → AtEntry header.flags entries at (drop at file) o → Stop file o
entry_stop file at header entries o start found =
    let begins = Begins-open file at header entries start in
    let groups = start.groups ++ group_of header entries ∷ [] in
    let place : at ≡ length (file_bytes groups) = omega (arith, end_is file (file_bytes groups) 0 at (omega arith) begins.stand) in
    record {
      groups = groups;
      rest = drop at file;
      is_open = begins.is_open;
      spelled = begins.stand.spelled;
      found = inr (record { groups = start.groups; header = header; entries = entries; is = refl; outcome = subst (λ (p : ℕ). AtEntry header.flags entries p (drop at file) o) place found });
    }

no_entry : (file : List ℕ) (place : ℕ) → HasNoEntry file place → Stop file (Fails EmptyGroup place)
no_entry file place h = entry_stop file place h.header [] (Fails EmptyGroup place) h.start (by (drop place file) refl)
  where
    by : (bytes : List ℕ) → drop place file ≡ bytes → AtEntry h.header.flags [] place bytes (Fails EmptyGroup place)
    by [] e = (refl, refl)
    by (b ∷ bytes) e =
        let within : place < length file = omega (arith, ap length e, length-drop place file) in
        let first = first_byte file place b bytes within e in
        elim (cases_eq b 0x54) [
          | inl table ↦ inl (inl table, refl, refl)
          | inr other ↦ elim (cases_eq b 0x50) [
            | inl patchset ↦ inl (inr patchset, refl, refl)
            | inr neither ↦ absurd (h.no_entry (record { within = within; no_table = λ is. other (sym first ∙ is); no_patchset = λ is. neither (sym first ∙ is) }))
          ]
        ]

no_header : (byte : ℕ) → IsOperation byte → (byte ≢ 0x54) × (byte ≢ 0x50)
no_header byte is = (λ e. by (rw e at is), λ e. other (rw e at is))
  where
    by : IsOperation 0x54 → ⊥
    by (inl e) = omega arith
    by (inr (inl e)) = omega arith
    by (inr (inr e)) = omega arith

    other : IsOperation 0x50 → ⊥
    other (inl e) = omega arith
    other (inr (inl e)) = omega arith
    other (inr (inr e)) = omega arith

bad_operation : (file : List ℕ) (place : ℕ) → HasBadOperation file place → Stop file (Fails BadOp place)
bad_operation file place h =
    entry_stop file place h.header h.entries (Fails BadOp place) h.start
    (rw (drop_more file place 0 h.entry.within) (inr (h.entry.no_table, h.entry.no_patchset, inl (h.no_operation, refl))))

cut_entry : (file : List ℕ) (place : ℕ) → place ≡ length file → IsCutEntry file → Stop file (Fails Truncated place)
cut_entry file place end h =
    let no = no_header h.byte h.is_operation in
    let at = end_is file (h.byte ∷ []) h.at (length file) h.start.stand.within h.stands in
    let rest : drop h.at file ≡ h.byte ∷ [] = h.stands.spelled ∙ ap (λ (x : List ℕ). h.byte ∷ x) (drop_all (length file) file (omega arith)) in
    entry_stop file h.at h.header h.entries (Fails Truncated place) h.start
    (rw rest (inr (no.0, no.1, inr (h.is_operation, at_place Truncated place (h.at + 1) (omega (arith, end, at))))))

bad_flag : (file : List ℕ) (place : ℕ) → HasBadFlag file place → Stop file (Fails BadFlag place)
bad_flag file place h =
    let no = no_header h.byte h.is_operation in
    let at = end_is file (h.byte ∷ []) h.at place h.start.stand.within h.stands in
    let rest = h.stands.spelled ∙ ap (λ (x : List ℕ). h.byte ∷ x) (drop_more file place 0 h.within) in
    entry_stop file h.at h.header h.entries (Fails BadFlag place) h.start
    (rw rest (inr (no.0, no.1, inr (h.is_operation, inl (h.above_one, at_place BadFlag place (h.at + 1) (omega (arith, at)))))))

repeats_key : (file : List ℕ) (place : ℕ) → RepeatsKey file place → Stop file (Fails DuplicateKey place)
repeats_key file place h =
    entry_stop file place h.header h.entries (Fails DuplicateKey place) h.start
    (rw h.stands.spelled (entry_found h.header.flags h.entries place h.entry (drop h.to file) (Fails DuplicateKey place) h.is_entry (inl (h.not_new, refl))))

-- ---- where a field is to begin

field_stop : (file : List ℕ) (at : ℕ) (flags : List ℕ) (change : Change) (count : ℕ) (o : Outcome) (start : FieldStart file at flags change count)
    → AfterFields flags start.entries start.from change count (drop at file) at o → Stop file o
field_stop file at flags change count o start found =
    let front = change_front change start.indirect count in
    let place : at ≡ start.from + 1 + 1 + length (record_bytes (take count (fields_of change))) = omega (arith, end_is file front start.from at start.start.stand.within start.stand) in
    entry_stop file start.from start.header start.entries o start.start
    (rw start.stand.spelled (change_found start.header.flags start.entries start.from change count (cond start.indirect 1 0) (drop at file) o (rw start.flags_are at start.is_change) (omega (arith, start.more)) (flag_le start.indirect)
    (moved flags start.header.flags start.flags_are at _ place found)))
  where
    moved : (f g : List ℕ) → f ≡ g → (p q : ℕ) → p ≡ q → AfterFields f start.entries start.from change count (drop at file) p o → AfterFields g start.entries start.from change count (drop at file) q o
    moved f g e p q d h = rw (← e, ← d) h

no_field : (file : List ℕ) (kind : FieldFaultKind) (place : ℕ) → HasNoField file kind place → Stop file (Fails (kind_of kind) place)
no_field file kind place h =
    field_stop file h.at h.flags h.change h.count (Fails (kind_of kind) place) h.start
    (inl (h.start.more, inl (record { why = kind; behind = h.behind; fails = h.fails; is = at_place (kind_of kind) place (h.at + h.behind) h.place_is })))

-- a field that is not wanted
other_field : (file : List ℕ) (place : ℕ) (flags : List ℕ) (change : Change) (count to : ℕ) (found : OwnedField) (kind : ReadFaultKind) → FieldStart file place flags change count → IsField found
    → Stands file place (field_bytes found) to → refusal (want flags change count) found ≡ Some kind → Stop file (Fails kind place)
other_field file place flags change count to found kind start is stands refused =
    field_stop file place flags change count (Fails kind place) start
    (inl (start.more, inr (record { found = found; more = drop to file; kind = kind; is_field = is; spelled = stands.spelled; refused = refused; is = refl })))

-- ---- the cases

case_stop : (file : List ℕ) (kind : ReadFaultKind) (place : ℕ) → ReadCase file kind place → Stop file (Fails kind place)
case_stop file Truncated place (inl (inl h)) = no_count file field.Truncated place h
case_stop file Truncated place (inl (inr h)) = no_field file field.Truncated place h
case_stop file Truncated place (inr h) = cut h.0
  where
    cut : IsCutFlags file ⊎ IsCutName file ⊎ IsCutEntry file → Stop file (Fails Truncated place)
    cut (inl flags) = cut_flags file place h.1 flags
    cut (inr (inl name)) = cut_name file place h.1 name
    cut (inr (inr entry)) = cut_entry file place h.1 entry
case_stop file NotTable place h = not_table file place h.0 h.1
case_stop file Patchset place h = has_patchset file place h
case_stop file BadVarint place (inl h) = no_count file field.BadVarint place h
case_stop file BadVarint place (inr h) = no_field file field.BadVarint place h
case_stop file ColumnCount place h = bad_count file place h
case_stop file NoKey place h = no_key file place h
case_stop file BadName place h = bad_name file place h
case_stop file DuplicateTable place h = repeats_table file place h
case_stop file EmptyGroup place h = no_entry file place h
case_stop file BadOp place h = bad_operation file place h
case_stop file BadFlag place h = bad_flag file place h
case_stop file BadType place h = no_field file field.BadType place h
case_stop file RealValue place h = no_field file field.RealValue place h
case_stop file BadText place h = no_field file field.BadText place h
case_stop file UndefinedField place h =
    other_field file place h.flags h.change h.column h.to Undefined UndefinedField h.start tt h.stands (undefined_refused h.flags h.change h.column h.in_row h.holds)
case_stop file Unpaired place h =
    other_field file place h.flags h.change h.count h.to h.found Unpaired h.start h.is_field h.stands (unpaired_refused h.flags h.change h.count h.found h.start.is_change h.in_new h.start.more h.unlike)
case_stop file NullKey place h =
    other_field file place h.flags h.change h.column h.to (Defined Null) NullKey h.start tt h.stands (null_refused h.flags h.change h.column h.in_row h.holds)
case_stop file DuplicateKey place h = repeats_key file place h

same_fault : (one two : ReadFault) → one.kind ≡ two.kind → one.place ≡ two.place → one ≡ two
same_fault one two p q = λ i. record { kind = p i; place = q i }

-- bytes have one read fault at most
pub read_fault_once : (file : List ℕ) (one two : ReadFault) → ReadFails file one.kind one.place → ReadFails file two.kind two.place → one ≡ two
read_fault_once file one two p q =
    let same = stop_once file one.kind two.kind one.place two.place (case_stop file one.kind one.place p.case) (case_stop file two.kind two.place q.case) in
    let both = fails_is one.kind two.kind one.place two.place same in
    same_fault one two both.0 both.1
