-- Changesets with one file are equal: no spelling of a part begins another's.
use Rattle.std.proofs.Common.{◌≡◌, ◌≢◌, ℕ, ◌≤◌, Bool, true, false, cond, List, [], ◌∷◌, ◌++◌, length, refl, sym, ap, ◌∙◌, append_assoc, arith, length-append, inl, inr}
use Rattle.std.specs.List.{AllByRecursion}
use Rattle.std.proofs.lemmas.List.{length-map}
use Rattle.std.proofs.lemmas.List.Elements.{recursion_from_All}
use Rattle.cs_value.specs.declared.TheConstants.{MAX_CONTENT_LEN}
use Rattle.cs_value.specs.declared.value.OwnedField.TheVariants.{Defined}
use Rattle.cs_value.specs.Value.{IsField, IsRecord}
use Rattle.cs_value.specs.Varint.{varint}
use Rattle.cs_value.specs.Spelling.{record_bytes}
use Rattle.cs_wire_entries.specs.declared.entry.Change.{Change}
use Rattle.cs_wire_entries.specs.declared.entry.Change.TheVariants.{Insert, Delete, Update}
use Rattle.cs_wire_entries.specs.declared.entry.Entry.{Entry}
use Rattle.cs_value.specs.Table.{IsFlags}
use Rattle.cs_wire_entries.specs.Entry.{IsChange, IsEntry, operation, fields_of, entry_bytes}
use Rattle.cs_wire_entries.specs.Changeset.{HeaderData, GroupData, IsHeader, IsGroup, IsChangeset, flags_bytes, header_bytes, entries_bytes, group_bytes, file_bytes}
use Rattle.cs_wire_entries.specs.Reading.{EndsGroup}
use Rattle.cs_wire_entries.proofs.ReadingLemmas.{flags_bytes-append, header_bytes-append, same_header}
use Rattle.cs_value.proofs.KeyedRows.{length-IsKeyedRow}
use Rattle.cs_wire_entries.proofs.EntryLemmas.{length-IsKeyedUpdate, entry_bytes-append, same_entry}
use Rattle.cs_value.proofs.RowImages.{IsRecord-map, same_from_fields}
use Rattle.cs_wire.proofs.EntriesLemmas.{operation_no_header}
use Rattle.cs_wire.proofs.GroupsLemmas.{group_bytes-append, group_bytes_some, same_group, ends_group}
use Rattle.cs_value.specs.Laws.{RecordSpellings}
use Rattle.cs_value.proofs.ListLemmas.{same_from_append, AllByRecursion-append}

-- no varint begins another's spelling
abbrev pub VarintSpellings : Type 0
VarintSpellings = (m n : ℕ) (x y : List ℕ) → m ≤ MAX_CONTENT_LEN → n ≤ MAX_CONTENT_LEN → varint m ++ x ≡ varint n ++ y → (m ≡ n) × (x ≡ y)

-- ---- lists

-- the first zero byte ends a name
split_zero : (m n x y : List ℕ) → AllByRecursion (λ b. b ≢ 0) m → AllByRecursion (λ b. b ≢ 0) n → m ++ 0 ∷ x ≡ n ++ 0 ∷ y → (m ≡ n) × (x ≡ y)
split_zero [] [] x y h k e = (refl, cc)
split_zero [] (q ∷ n) x y h k e = absurd (k.0 (cc))
split_zero (p ∷ m) [] x y h k e = absurd (h.0 (cc))
split_zero (p ∷ m) (q ∷ n) x y h k e =
    let others = split_zero m n x y h.1 k.1 (cc) in
    (cc (others.0), others.1)

-- ---- entries

-- the records of changes with one operation have as many fields
same_width : (flags : List ℕ) (c d : Change) → IsChange flags c → IsChange flags d → operation c ≡ operation d → length (fields_of c) ≡ length (fields_of d)
same_width flags (Insert row) (Insert other) h k e = omega (arith, length-map row Defined, length-map other Defined, length-IsKeyedRow flags row h.1, length-IsKeyedRow flags other k.1)
same_width flags (Delete row) (Delete other) h k e = omega (arith, length-map row Defined, length-map other Defined, length-IsKeyedRow flags row h.1, length-IsKeyedRow flags other k.1)
same_width flags (Update old new) (Update before after) h k e =
    let widths = length-IsKeyedUpdate flags old new h.2 in
    let others = length-IsKeyedUpdate flags before after k.2 in
    omega (arith, length-append old new, length-append before after, widths.0, widths.1, others.0, others.1)
same_width flags (Insert row) (Delete other) h k e = absurd (omega arith)
same_width flags (Insert row) (Update before after) h k e = absurd (omega arith)
same_width flags (Delete row) (Insert other) h k e = absurd (omega arith)
same_width flags (Delete row) (Update before after) h k e = absurd (omega arith)
same_width flags (Update old new) (Insert other) h k e = absurd (omega arith)
same_width flags (Update old new) (Delete other) h k e = absurd (omega arith)

-- and if these are equal, so are the changes
same_change : (flags : List ℕ) (c d : Change) → IsChange flags c → IsChange flags d → operation c ≡ operation d → fields_of c ≡ fields_of d → c ≡ d
same_change flags (Insert row) (Insert other) h k e same = ap Insert (same_from_fields row other same)
same_change flags (Delete row) (Delete other) h k e same = ap Delete (same_from_fields row other same)
same_change flags (Update old new) (Update before after) h k e same =
    let width : length old ≡ length before = sym (length-IsKeyedUpdate flags old new h.2).0 ∙ (length-IsKeyedUpdate flags before after k.2).0 in
    let both = same_from_append old before new after width same in
    cc (both.0, both.1)
same_change flags (Insert row) (Delete other) h k e same = absurd (omega arith)
same_change flags (Insert row) (Update before after) h k e same = absurd (omega arith)
same_change flags (Delete row) (Insert other) h k e same = absurd (omega arith)
same_change flags (Delete row) (Update before after) h k e same = absurd (omega arith)
same_change flags (Update old new) (Insert other) h k e same = absurd (omega arith)
same_change flags (Update old new) (Delete other) h k e same = absurd (omega arith)

fields_are : (flags : List ℕ) (c : Change) → IsChange flags c → IsRecord (fields_of c)
fields_are flags (Insert row) h = IsRecord-map row h.0
fields_are flags (Delete row) h = IsRecord-map row h.0
fields_are flags (Update old new) h = AllByRecursion-append IsField old new h.0 h.1

-- the indirect flag is known by its byte
same_flag : (a b : Bool) → ◌≡◌ {A = ℕ} (cond a 1 0) (cond b 1 0) → a ≡ b
same_flag true true e = refl
same_flag false false e = refl
same_flag true false e = absurd (omega arith)
same_flag false true e = absurd (omega arith)

-- the first two bytes and what follows them
heads : (a b c d : ℕ) (x y : List ℕ) → a ∷ b ∷ x ≡ c ∷ d ∷ y → (a ≡ c) × (b ≡ d) × (x ≡ y)
heads a b c d x y e = (cc, cc, cc)

-- bytes that begin with two entries of a table begin with one
entry_spellings : RecordSpellings → (flags : List ℕ) (d e : Entry) (x y : List ℕ) → IsEntry flags d → IsEntry flags e → entry_bytes d ++ x ≡ entry_bytes e ++ y → (d ≡ e) × (x ≡ y)
entry_spellings law flags d e x y h k same =
    let parts = heads (operation d.change) (cond d.indirect 1 0) (operation e.change) (cond e.indirect 1 0) (record_bytes (fields_of d.change) ++ x) (record_bytes (fields_of e.change) ++ y)
    (sym (entry_bytes-append d x) ∙ same ∙ entry_bytes-append e y) in
    let both = law (fields_of d.change) (fields_of e.change) x y (fields_are flags d.change h) (fields_are flags e.change k) (same_width flags d.change e.change h k parts.0) parts.2 in
    (same_entry d.indirect d.change e (same_flag d.indirect e.indirect parts.1) (same_change flags d.change e.change h k parts.0 both.0), both.1)

-- an entry does not end its group
entry_goes_on : (entry : Entry) (tail rest : List ℕ) → EndsGroup rest → rest ≡ entry_bytes entry ++ tail → ⊥
entry_goes_on entry tail rest (inl none) e = cc (sym none ∙ e ∙ entry_bytes-append entry tail)
entry_goes_on entry tail rest (inr table) e =
    (operation_no_header entry.change).0 (cc (rw (e ∙ entry_bytes-append entry tail) at table))

entries_cons : (entry : Entry) (entries : List Entry) (x : List ℕ) → entries_bytes (entry ∷ entries) ++ x ≡ entry_bytes entry ++ (entries_bytes entries ++ x)
entries_cons entry entries x = append_assoc (entry_bytes entry) (entries_bytes entries) x

-- bytes that begin with the entries of a group, which end there, begin with no others
entries_spellings : RecordSpellings → (flags : List ℕ) (c d : List Entry) (x y : List ℕ) → AllByRecursion (IsEntry flags) c → AllByRecursion (IsEntry flags) d → EndsGroup x → EndsGroup y
    → entries_bytes c ++ x ≡ entries_bytes d ++ y → (c ≡ d) × (x ≡ y)
entries_spellings law flags [] [] x y h k p q same = (refl, same)
entries_spellings law flags [] (e ∷ d) x y h k p q same = absurd (entry_goes_on e (entries_bytes d ++ y) x p (same ∙ entries_cons e d y))
entries_spellings law flags (f ∷ c) [] x y h k p q same = absurd (entry_goes_on f (entries_bytes c ++ x) y q (sym same ∙ entries_cons f c x))
entries_spellings law flags (f ∷ c) (e ∷ d) x y h k p q same =
    let first = entry_spellings law flags f e (entries_bytes c ++ x) (entries_bytes d ++ y) h.0 k.0 (sym (entries_cons f c x) ∙ same ∙ entries_cons e d y) in
    let others = entries_spellings law flags c d x y h.1 k.1 p q first.1 in
    (cc (first.0, others.0), others.1)

-- ---- headers

flags_spellings : VarintSpellings → (f g x y : List ℕ) → IsFlags f → IsFlags g → flags_bytes f ++ x ≡ flags_bytes g ++ y → (f ≡ g) × (x ≡ y)
flags_spellings law f g x y h k same =
    let count = law (length f) (length g) (f ++ x) (g ++ y) (omega (arith, h.few)) (omega (arith, k.few)) (sym (flags_bytes-append f x) ∙ same ∙ flags_bytes-append g y) in
    same_from_append f g x y count.0 count.1

behind_first : (a b : ℕ) (x y : List ℕ) → a ∷ x ≡ b ∷ y → x ≡ y
behind_first a b x y e = cc

header_spellings : VarintSpellings → (g h : HeaderData) (x y : List ℕ) → IsHeader g → IsHeader h → header_bytes g ++ x ≡ header_bytes h ++ y → (g ≡ h) × (x ≡ y)
header_spellings law g h x y is_g is_h same =
    let behind = behind_first 0x54 0x54 _ _ (sym (header_bytes-append g x) ∙ same ∙ header_bytes-append h y) in
    let flags = flags_spellings law g.flags h.flags (g.name ++ 0 ∷ x) (h.name ++ 0 ∷ y) is_g.flags is_h.flags behind in
    let name = split_zero g.name h.name x y is_g.name.no_zero is_h.name.no_zero flags.1 in
    (same_header g.name g.flags h name.0 flags.0, name.1)

-- ---- groups

group_spellings : VarintSpellings → RecordSpellings → (g h : GroupData) (x y : List ℕ) → IsGroup g → IsGroup h → EndsGroup x → EndsGroup y → group_bytes g ++ x ≡ group_bytes h ++ y → (g ≡ h) × (x ≡ y)
group_spellings varints records g h x y is_g is_h p q same =
    let head = header_spellings varints g.header h.header (entries_bytes g.entries ++ x) (entries_bytes h.entries ++ y) is_g.header is_h.header (sym (group_bytes-append g x) ∙ same ∙ group_bytes-append h y) in
    let flags : List ℕ = g.header.flags in
    let each_g = recursion_from_All (IsEntry flags) g.entries is_g.each in
    let each_h = recursion_from_All (IsEntry flags) h.entries (rw head.0 is_h.each) in
    let entries = entries_spellings records flags g.entries h.entries x y each_g each_h p q head.1 in
    (same_group g h head.0 entries.0, entries.1)

groups_same : VarintSpellings → RecordSpellings → (c d : List GroupData) → AllByRecursion IsGroup c → AllByRecursion IsGroup d → file_bytes c ≡ file_bytes d → c ≡ d
groups_same varints records [] [] h k same = refl
groups_same varints records [] (g ∷ d) h k same = absurd (omega (arith, ap length same, length-append (group_bytes g) (file_bytes d), group_bytes_some g))
groups_same varints records (f ∷ c) [] h k same = absurd (omega (arith, ap length same, length-append (group_bytes f) (file_bytes c), group_bytes_some f))
groups_same varints records (f ∷ c) (g ∷ d) h k same =
    let first = group_spellings varints records f g (file_bytes c) (file_bytes d) h.0 k.0 (ends_group c) (ends_group d) same in
    let others = groups_same varints records c d h.1 k.1 first.1 in
    cc (first.0, others)

-- changesets with one file are equal
pub changeset_files : VarintSpellings → RecordSpellings → (c d : List GroupData) → IsChangeset c → IsChangeset d → file_bytes c ≡ file_bytes d → c ≡ d
changeset_files varints records c d h k same = groups_same varints records c d (recursion_from_All IsGroup c h.each) (recursion_from_All IsGroup d k.each) same
