-- From one change of a file to the next.
use Rattle.std.proofs.Common.{◌≡◌, ℕ, ◌+◌, ◌-◌, ◌<◌, ◌≤◌, List, [], ◌∷◌, ◌++◌, length, length-append, drop, refl, sym, ap, subst, ◌∙◌, append_assoc, append-nil, arith, cond, inl, inr}
use Rattle.std.specs.Prelude.{ℤ, pos}
use Rattle.std.specs.List.{AllByRecursion}
use Rattle.std.proofs.lemmas.List.{drop_at}
use Rattle.std.proofs.lemmas.List.Concat.{flat_map-append}
use Rattle.std.proofs.lemmas.List.Elements.{recursion_from_All}
use Rattle.cs_value.specs.Varint.{varint}
use Rattle.cs_value.specs.Spelling.{record_bytes}
use Rattle.cs_value.proofs.ListLemmas.{AllByRecursion-append_right}
use Rattle.cs_wire_entries.specs.declared.entry.Entry.{Entry}
use Rattle.cs_wire_entries.specs.Entry.{IsEntry, entry_bytes, fields_of, operation}
use Rattle.cs_wire_entries.specs.Changeset.{HeaderData, GroupData, IsFileOf, IsGroup, IsHeader, entries_bytes, file_bytes, flags_bytes, group_bytes, header_bytes}
use Rattle.cs_wire_entries.specs.ReadFaults.{HasEntry, Stands}
use Rattle.cs_wire_entries.proofs.ReadingLemmas.{first_byte, rest_is}
use Rattle.cs_wire.proofs.GroupsLemmas.{group_bytes-append, same_group}
use Rattle.cs_file_scan.specs.Tables.{TablesData, EntriesLeft}
use Rattle.cs_file_scan.proofs.TablesLemmas.{entry_left, no_entry_left, no_table_left, table_left}
use Rattle.cs_file_iterator.specs.declared.change.ChangeSpan.{ChangeSpan}
use Rattle.cs_file_iterator.specs.Changes.{ChangesLeft, IsInTable, IsStep, ShowsTable, TableChange, changes_of, changes_with, passed_bytes}
use Rattle.cs_file_iterator.specs.Steps.{IsBetween}
use Rattle.cs_file_iterator.proofs.PartLemmas.{Stands-length, Stands-part}

abbrev at_place : List ℕ → ℕ → List ℕ → TablesData
at_place file place flags = record { file = file; place = place; flags = flags }

-- ---- bytes

regroup : (a b c d e : List ℕ) → a ++ (b ++ ((c ++ d) ++ e)) ≡ (a ++ (b ++ c)) ++ (d ++ e)
regroup a b c d e = simp append_assoc

-- what was passed, and what is left
pub file_split : (closed : List GroupData) (header : HeaderData) (passed more : List Entry) (others : List GroupData)
    → file_bytes (closed ++ record { header = header; entries = passed ++ more } ∷ others) ≡ passed_bytes closed header passed ++ (entries_bytes more ++ file_bytes others)
file_split closed header passed more others =
    let group : GroupData = record { header = header; entries = passed ++ more } in
    flat_map-append group_bytes closed (group ∷ others)
    ∙ ap (λ (x : List ℕ). file_bytes closed ++ x) (group_bytes-append group (file_bytes others) ∙ ap (λ (x : List ℕ). header_bytes header ++ (x ++ file_bytes others)) (flat_map-append entry_bytes passed more))
    ∙ regroup (file_bytes closed) (header_bytes header) (entries_bytes passed) (entries_bytes more) (file_bytes others)

-- one more entry is passed
pub passed_more : (closed : List GroupData) (header : HeaderData) (passed : List Entry) (entry : Entry) → passed_bytes closed header (passed ++ entry ∷ []) ≡ passed_bytes closed header passed ++ entry_bytes entry
passed_more closed header passed entry =
    ap (λ (x : List ℕ). file_bytes closed ++ (header_bytes header ++ x)) (flat_map-append entry_bytes passed (entry ∷ []) ∙ ap (λ (x : List ℕ). entries_bytes passed ++ x) (append-nil (entry_bytes entry)))
    ∙ ap (λ (x : List ℕ). file_bytes closed ++ x) (sym (append_assoc (header_bytes header) (entries_bytes passed) (entry_bytes entry)))
    ∙ sym (append_assoc (file_bytes closed) (header_bytes header ++ entries_bytes passed) (entry_bytes entry))

-- the whole table is passed
pub passed_group : (closed : List GroupData) (header : HeaderData) (passed : List Entry) → passed_bytes closed header passed ≡ file_bytes (closed ++ record { header = header; entries = passed } ∷ [])
unfolding group_bytes
passed_group closed header passed = sym (flat_map-append group_bytes closed (record { header = header; entries = passed } ∷ []) ∙ ap (λ (x : List ℕ). file_bytes closed ++ x) (append-nil (group_bytes (record { header = header; entries = passed }))))

-- ---- between two tables

module _ (file : List ℕ) (all : List GroupData) (left : List TableChange) (place : ℕ) (is_file : IsFileOf file all) (so : IsBetween all left place) where
  between_file : file ≡ file_bytes so.closed ++ file_bytes so.others
  between_file = is_file.1 ∙ ap file_bytes so.all_is ∙ flat_map-append group_bytes so.closed so.others

  pub between_within : place ≤ length file
  between_within = omega (arith, ap length between_file, so.place_is, length-append (file_bytes so.closed) (file_bytes so.others))

  pub between_left : EntriesLeft (at_place file place []) [] so.others
  between_left = record {
    within = between_within;
    each = tt;
    are_groups = AllByRecursion-append_right IsGroup so.closed so.others (subst (AllByRecursion IsGroup) so.all_is (recursion_from_All IsGroup all is_file.0.each));
    spelled = ap (drop place) between_file ∙ drop_at (file_bytes so.closed) (file_bytes so.others) place (sym so.place_is);
  }

  -- at the end of the file nothing is left
  pub between_end : place ≡ length file → left ≡ []
  between_end at_end = so.left_is ∙ ap changes_of (no_table_left (at_place file place []) so.others between_left (omega (arith, at_end))).0

-- ---- in a table

module _ (file : List ℕ) (all : List GroupData) (left : List TableChange) (place : ℕ) (span : ChangeSpan) (is_file : IsFileOf file all) (so : IsInTable file all left place span) where
  in_table_file : file ≡ passed_bytes so.closed so.header so.passed ++ (entries_bytes so.more ++ file_bytes so.others)
  in_table_file = is_file.1 ∙ ap file_bytes so.all_is ∙ file_split so.closed so.header so.passed so.more so.others

  in_table_groups : AllByRecursion IsGroup (record { header = so.header; entries = so.passed ++ so.more } ∷ so.others)
  in_table_groups = AllByRecursion-append_right IsGroup so.closed (record { header = so.header; entries = so.passed ++ so.more } ∷ so.others) (subst (AllByRecursion IsGroup) so.all_is (recursion_from_All IsGroup all is_file.0.each))

  pub in_table_within : place ≤ length file
  in_table_within = omega (arith, ap length in_table_file, so.place_is, length-append (passed_bytes so.closed so.header so.passed) (entries_bytes so.more ++ file_bytes so.others))

  pub in_table_left : EntriesLeft (at_place file place so.header.flags) so.more so.others
  in_table_left = record {
    within = in_table_within;
    each = AllByRecursion-append_right (IsEntry so.header.flags) so.passed so.more (recursion_from_All (IsEntry so.header.flags) (so.passed ++ so.more) in_table_groups.0.each);
    are_groups = in_table_groups.1;
    spelled = ap (drop place) in_table_file ∙ drop_at (passed_bytes so.closed so.header so.passed) (entries_bytes so.more ++ file_bytes so.others) place (sym so.place_is);
  }

  -- no change of the table is left
  pub in_table_done : (HasEntry file place → ⊥) → IsBetween all left place
  in_table_done none =
      let over = (no_entry_left (at_place file place so.header.flags) so.more so.others in_table_left none).0 in
      let whole : so.passed ++ so.more ≡ so.passed = ap (λ (es : List Entry). so.passed ++ es) over ∙ append-nil so.passed in
      record {
        closed = so.closed ++ record { header = so.header; entries = so.passed } ∷ [];
        others = so.others;
        all_is = so.all_is ∙ ap (λ (es : List Entry). so.closed ++ record { header = so.header; entries = es } ∷ so.others) whole
            ∙ sym (append_assoc so.closed (record { header = so.header; entries = so.passed } ∷ []) so.others);
        left_is = so.left_is ∙ ap (λ (es : List Entry). changes_with so.header es ++ changes_of so.others) over;
        place_is = so.place_is ∙ ap length (passed_group so.closed so.header so.passed);
      }

-- where no change of the open table is next, a table is, or the end
pub between_of : (file : List ℕ) (all : List GroupData) (left : List TableChange) (place : ℕ) (span : ChangeSpan) → IsFileOf file all → ChangesLeft file all left place span → (0 < place → HasEntry file place → ⊥) → IsBetween all left place
unfolding header_bytes
between_of file all left place span is_file (inl start) none = record {
  closed = [];
  others = all;
  all_is = refl;
  left_is = start.all_left;
  place_is = start.place_is;
}
between_of file all left place span is_file (inr so) none = in_table_done file all left place span is_file so (none (some so))
  where
    some : IsInTable file all left place span → 0 < place
    some so = omega (arith, so.place_is, length-append (file_bytes so.closed) (header_bytes so.header ++ entries_bytes so.passed), length-append (header_bytes so.header) (entries_bytes so.passed))

-- ---- a table is opened

-- the name and the flags of a header at its offset
pub ShowsTable-header : (file : List ℕ) (place end : ℕ) (header : HeaderData) (span : ChangeSpan) → Stands file place (header_bytes header) end → place ≤ length file
    → span.name ≡ end - 1 - length header.name → span.name_length ≡ length header.name → span.flags ≡ span.name - length header.flags → span.columns ≡ length header.flags → ShowsTable file span header
unfolding header_bytes flags_bytes
ShowsTable-header file place end header span stands le name name_length flags columns =
    let count = varint (length header.flags) in
    let ends = Stands-length file place end _ stands le in
    let sizes : length ((count ++ header.flags) ++ (header.name ++ 0 ∷ [])) ≡ length count + length header.flags + (length header.name + 1) =
    omega (arith, length-append (count ++ header.flags) (header.name ++ 0 ∷ []), length-append count header.flags, length-append header.name (0 ∷ [])) in
    let as_name : 0x54 ∷ ((count ++ header.flags) ++ (header.name ++ 0 ∷ [])) ≡ (0x54 ∷ (count ++ header.flags)) ++ (header.name ++ 0 ∷ []) = refl in
    let as_flags : 0x54 ∷ ((count ++ header.flags) ++ (header.name ++ 0 ∷ [])) ≡ (0x54 ∷ count) ++ (header.flags ++ (header.name ++ 0 ∷ [])) =
    ap (λ (x : List ℕ). 0x54 ∷ x) (append_assoc count header.flags (header.name ++ 0 ∷ [])) in
    let name_end : span.name + span.name_length ≡ end - 1 = omega (arith, name, name_length, ends, sizes) in
    let zero = Stands-part file place end ((0x54 ∷ (count ++ header.flags)) ++ header.name) (0 ∷ []) [] (subst (λ (x : List ℕ). Stands file place x end) (as_zero count header.flags header.name) stands) le (span.name + span.name_length) end
    (omega (arith, name_end, ends, sizes, length-append (count ++ header.flags) header.name, length-append count header.flags)) (omega (arith, name_end, ends, sizes)) in
    let within : span.name + span.name_length < length file = omega (arith, name_end, ends, sizes, stands.within) in
    record {
      name = Stands-part file place end (0x54 ∷ (count ++ header.flags)) header.name (0 ∷ []) stands le span.name (span.name + span.name_length)
          (omega (arith, name, ends, sizes, length-append count header.flags)) (omega (arith, name_length));
      name_ends = record { within = within; zero = first_byte file (span.name + span.name_length) 0 (drop end file) within zero.spelled };
      flags = Stands-part file place end (0x54 ∷ count) header.flags (header.name ++ 0 ∷ []) (subst (λ (x : List ℕ). Stands file place x end) as_flags stands) le span.flags (span.flags + span.columns)
          (omega (arith, name, flags, ends, sizes)) (omega (arith, columns));
    }
  where
    -- the last byte of a header by itself
    as_zero : (c f n : List ℕ) → 0x54 ∷ ((c ++ f) ++ (n ++ 0 ∷ [])) ≡ ((0x54 ∷ (c ++ f)) ++ n) ++ (0 ∷ [] ++ [])
    as_zero c f n = ap (λ (x : List ℕ). 0x54 ∷ x) (sym (append_assoc (c ++ f) n (0 ∷ [])))

-- the bytes of a header before its last: so many at least
pub header_length : (file : List ℕ) (place end : ℕ) (header : HeaderData) → Stands file place (header_bytes header) end → place ≤ length file → place + 2 + length header.flags + length header.name ≤ end
unfolding header_bytes flags_bytes
header_length file place end header stands le =
    let count = varint (length header.flags) in
    omega (arith, Stands-length file place end _ stands le, length-append (count ++ header.flags) (header.name ++ 0 ∷ []), length-append count header.flags, length-append header.name (0 ∷ []))

module _ (file : List ℕ) (all : List GroupData) (left : List TableChange) (place : ℕ) (is_file : IsFileOf file all) (so : IsBetween all left place) (within : place < length file) where
  -- a header is there, and is read
  pub table_next : (group : GroupData) × (others : List GroupData) × (so.others ≡ group ∷ others) × IsGroup group × (drop place file ≡ header_bytes group.header ++ (entries_bytes group.entries ++ file_bytes others))
      × AllByRecursion IsGroup others
  table_next = table_left (at_place file place []) so.others (between_left file all left place is_file so) within

  pub table_opened : (header : HeaderData) (end : ℕ) (span : ChangeSpan) → Stands file place (header_bytes header) end
      → ((h : HeaderData) (rest : List ℕ) → IsHeader h → drop place file ≡ header_bytes h ++ rest → header ≡ h) → ShowsTable file span header → IsInTable file all left end span
  table_opened header end span stands only shows =
      let next = table_next in
      let group = next.0 in
      let same : header ≡ group.header = only group.header _ next.3.header next.4 in
      let ends = Stands-length file place end (header_bytes header) stands (omega (arith, within)) in
      record {
        closed = so.closed;
        header = header;
        passed = [];
        more = group.entries;
        others = next.1;
        all_is = so.all_is ∙ ap (λ (gs : List GroupData). so.closed ++ gs) next.2 ∙ ap (λ (g : GroupData). so.closed ++ g ∷ next.1) (same_group group (record { header = header; entries = group.entries }) (sym same) refl);
        left_is = so.left_is ∙ ap changes_of next.2 ∙ ap (λ (h : HeaderData). changes_with h group.entries ++ changes_of next.1) (sym same);
        place_is = omega (arith, ends, so.place_is, length-append (file_bytes so.closed) (header_bytes header ++ []), length-append {A = ℕ} (header_bytes header) []);
        table = shows;
      }

-- a table that is opened has a change
pub opened_has_entry : (file : List ℕ) (all : List GroupData) (left : List TableChange) (place : ℕ) (is_file : IsFileOf file all) (so : IsBetween all left place) (within : place < length file)
    → (header : HeaderData) (end : ℕ) → Stands file place (header_bytes header) end → ((h : HeaderData) (rest : List ℕ) → IsHeader h → drop place file ≡ header_bytes h ++ rest → header ≡ h)
    → (HasEntry file end → ⊥) → ⊥
opened_has_entry file all left place is_file so within header end stands only none =
    let next = table_next file all left place is_file so within in
    let group = next.0 in
    let same : header ≡ group.header = only group.header _ next.3.header next.4 in
    let rest : drop end file ≡ entries_bytes group.entries ++ file_bytes next.1 =
    rest_is file place end (header_bytes header) _ stands (next.4 ∙ ap (λ (h : HeaderData). header_bytes h ++ (entries_bytes group.entries ++ file_bytes next.1)) (sym same)) in
    let are : EntriesLeft (at_place file end group.header.flags) group.entries next.1 = record {
      within = stands.within;
      each = recursion_from_All (IsEntry group.header.flags) group.entries next.3.each;
      are_groups = next.5;
      spelled = rest;
    } in
    omega (arith, next.3.some, ap length (no_entry_left (at_place file end group.header.flags) group.entries next.1 are none).0)

-- ---- a change is passed

-- the records of an entry, after its first two bytes
pub records_stand : (file : List ℕ) (place end : ℕ) (entry : Entry) → Stands file place (entry_bytes entry) end → place ≤ length file
    → Stands file (place + 2) (record_bytes (fields_of entry.change)) (place + 2 + (end - (place + 2)))
unfolding entry_bytes
records_stand file place end entry stands le =
    let fields = record_bytes (fields_of entry.change) in
    let front : List ℕ = operation entry.change ∷ (cond entry.indirect 1 0 ∷ []) in
    let ends = Stands-length file place end (entry_bytes entry) stands le in
    Stands-part file place end front fields [] (subst (λ (x : List ℕ). Stands file place (front ++ x) end) (sym (append-nil fields)) stands) le (place + 2) (place + 2 + (end - (place + 2))) refl (omega arith)

-- an entry has two bytes at least
pub entry_ends : (file : List ℕ) (place end : ℕ) (entry : Entry) → Stands file place (entry_bytes entry) end → place ≤ length file → place + 2 ≤ end
unfolding entry_bytes
entry_ends file place end entry stands le = omega (arith, Stands-length file place end (entry_bytes entry) stands le)

-- the span of the next change of the table
abbrev pub span_after : ChangeSpan → ℕ → ℕ → ℤ → ℤ → ChangeSpan
span_after span place end does indirect = record {
  name = span.name;
  name_length = span.name_length;
  flags = span.flags;
  columns = span.columns;
  records = place + 2;
  records_length = end - (place + 2);
  operation = does;
  indirect = indirect;
}

module _ (file : List ℕ) (all : List GroupData) (left : List TableChange) (place : ℕ) (span : ChangeSpan) (is_file : IsFileOf file all) (so : IsInTable file all left place span) (here : HasEntry file place) where
  pub entry_next : (entry : Entry) × (others : List Entry) × (so.more ≡ entry ∷ others) × IsEntry so.header.flags entry × (drop place file ≡ entry_bytes entry ++ (entries_bytes others ++ file_bytes so.others))
      × AllByRecursion (IsEntry so.header.flags) others
  entry_next = entry_left (at_place file place so.header.flags) so.more so.others (in_table_left file all left place span is_file so) here

  pub stepped : (entry : Entry) (end : ℕ) (does indirect : ℤ) → Stands file place (entry_bytes entry) end
      → ((e : Entry) (rest : List ℕ) → IsEntry so.header.flags e → drop place file ≡ entry_bytes e ++ rest → entry ≡ e)
      → does ≡ pos (operation entry.change) → indirect ≡ cond entry.indirect (pos 1) (pos 0) → IsStep file all left (span_after span place end does indirect) end
  stepped entry end does indirect stands only does_is indirect_is =
      let next = entry_next in
      let others = next.1 in
      let same : entry ≡ next.0 = only next.0 _ next.3 next.4 in
      let more_is : so.more ≡ entry ∷ others = next.2 ∙ ap (λ (e : Entry). e ∷ others) (sym same) in
      let le = in_table_within file all left place span is_file so in
      let ends = Stands-length file place end (entry_bytes entry) stands le in
      let table : ShowsTable file (span_after span place end does indirect) so.header = record { name = so.table.name; name_ends = record { within = so.table.name_ends.within; zero = so.table.name_ends.zero }; flags = so.table.flags } in
      record {
        change = record { header = so.header; entry = entry };
        others = changes_with so.header others ++ changes_of so.others;
        left_is = so.left_is ∙ ap (λ (es : List Entry). changes_with so.header es ++ changes_of so.others) more_is;
        shows = record {
          is_entry = subst (IsEntry so.header.flags) (sym same) next.3;
          table = table;
          operation = does_is;
          indirect = indirect_is;
          records = records_stand file place end entry stands le;
        };
        are_left = inr (record {
          closed = so.closed;
          header = so.header;
          passed = so.passed ++ entry ∷ [];
          more = others;
          others = so.others;
          all_is = so.all_is ∙ ap (λ (es : List Entry). so.closed ++ record { header = so.header; entries = es } ∷ so.others) (ap (λ (es : List Entry). so.passed ++ es) more_is ∙ sym (append_assoc so.passed (entry ∷ []) others));
          left_is = refl;
          place_is = omega (arith, ends, so.place_is, ap length (passed_more so.closed so.header so.passed entry), length-append (passed_bytes so.closed so.header so.passed) (entry_bytes entry));
          table = table;
        });
      }

-- after the start of the file a table is open
pub in_table_of : (file : List ℕ) (all : List GroupData) (left : List TableChange) (place : ℕ) (span : ChangeSpan) → ChangesLeft file all left place span → 0 < place → IsInTable file all left place span
in_table_of file all left place span (inl start) some = absurd (omega (arith, start.place_is))
in_table_of file all left place span (inr so) some = so
