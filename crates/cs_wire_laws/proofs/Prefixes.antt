-- Of two lists of groups that a file begins with, one goes on with an entry or a header where the other ends.
use Rattle.std.proofs.Common.{◌≡◌, ℕ, ◌<◌, cond, Bool, true, false, List, [], ◌∷◌, ◌++◌, length, get_or, refl, sym, ap, ◌∙◌, append_assoc, arith, length-append, inl, inr}
use Rattle.std.specs.Prelude.{◌⊎◌}
use Rattle.std.specs.List.{AllByRecursion}
use Rattle.std.proofs.lemmas.List.{get_or_at, get_or_append_left}
use Rattle.std.proofs.lemmas.List.Elements.{recursion_from_All}
use Rattle.cs_value.specs.Spelling.{record_bytes}
use Rattle.cs_value.specs.Table.{IsFlags}
use Rattle.cs_value.proofs.ListLemmas.{same_from_append}
use Rattle.cs_value.proofs.Spellings.{varint_spellings, record_spellings}
use Rattle.cs_wire_entries.specs.declared.entry.Entry.{Entry}
use Rattle.cs_wire_entries.specs.Entry.{IsEntry, key_of, operation, fields_of, entry_bytes}
use Rattle.cs_wire_entries.specs.Changeset.{HeaderData, GroupData, IsNewKey, IsNewName, IsHeader, flags_bytes, header_bytes, entries_bytes, group_bytes, file_bytes}
use Rattle.cs_wire_entries.proofs.ReadingLemmas.{flags_bytes-append, header_bytes-append, same_header}
use Rattle.cs_wire_entries.proofs.EntryLemmas.{entry_bytes-append, same_entry}
use Rattle.cs_wire.specs.Cursor.{IsBegun, IsOpen}
use Rattle.cs_wire.proofs.EntriesLemmas.{operation_no_header}
use Rattle.cs_wire.proofs.GroupsLemmas.{group_bytes-append, same_group}
use Rattle.cs_wire.proofs.CursorLemmas.{begun_behind, new_behind}
use Rattle.cs_wire_laws.proofs.WantsOnce.{same_width, same_change, fields_are}
use Rattle.cs_wire_laws.proofs.HeaderOnce.{split_zero}

-- ---- one part

same_flag : (a b : Bool) → ◌≡◌ {A = ℕ} (cond a 1 0) (cond b 1 0) → a ≡ b
same_flag true true e = refl
same_flag false false e = refl
same_flag true false e = absurd (omega arith)
same_flag false true e = absurd (omega arith)

heads : (a b c d : ℕ) (x y : List ℕ) → a ∷ b ∷ x ≡ c ∷ d ∷ y → (a ≡ c) × (b ≡ d) × (x ≡ y)
heads a b c d x y e = (cc, cc, cc)

-- bytes that begin with two entries of a table begin with one
entry_spellings : (flags : List ℕ) (d e : Entry) (x y : List ℕ) → IsEntry flags d → IsEntry flags e → entry_bytes d ++ x ≡ entry_bytes e ++ y → (d ≡ e) × (x ≡ y)
entry_spellings flags d e x y h k same =
    let parts = heads (operation d.change) (cond d.indirect 1 0) (operation e.change) (cond e.indirect 1 0) (record_bytes (fields_of d.change) ++ x) (record_bytes (fields_of e.change) ++ y)
    (sym (entry_bytes-append d x) ∙ same ∙ entry_bytes-append e y) in
    let both = record_spellings (fields_of d.change) (fields_of e.change) x y (fields_are flags d.change h) (fields_are flags e.change k) (same_width flags d.change e.change h k parts.0) parts.2 in
    (same_entry d.indirect d.change e (same_flag d.indirect e.indirect parts.1) (same_change flags d.change e.change h k parts.0 both.0), both.1)

flags_spellings : (f g x y : List ℕ) → IsFlags f → IsFlags g → flags_bytes f ++ x ≡ flags_bytes g ++ y → (f ≡ g) × (x ≡ y)
flags_spellings f g x y h k same =
    let count = varint_spellings (length f) (length g) (f ++ x) (g ++ y) (omega (arith, h.few)) (omega (arith, k.few)) (sym (flags_bytes-append f x) ∙ same ∙ flags_bytes-append g y) in
    same_from_append f g x y count.0 count.1

after_first : (a b : ℕ) (x y : List ℕ) → a ∷ x ≡ b ∷ y → x ≡ y
after_first a b x y e = cc

-- bytes that begin with two headers begin with one
pub header_spellings : (g h : HeaderData) (x y : List ℕ) → IsHeader g → IsHeader h → header_bytes g ++ x ≡ header_bytes h ++ y → (g ≡ h) × (x ≡ y)
header_spellings g h x y is_g is_h same =
    let after = after_first 0x54 0x54 _ _ (sym (header_bytes-append g x) ∙ same ∙ header_bytes-append h y) in
    let flags = flags_spellings g.flags h.flags (g.name ++ 0 ∷ x) (h.name ++ 0 ∷ y) is_g.flags is_h.flags after in
    let name = split_zero g.name h.name x y is_g.name.no_zero is_h.name.no_zero flags.1 in
    (same_header g.name g.flags h name.0 flags.0, name.1)

-- no header begins as an entry does
pub table_no_entry : (group : GroupData) (entry : Entry) (x y : List ℕ) → group_bytes group ++ x ≡ entry_bytes entry ++ y → ⊥
table_no_entry group entry x y e =
    (operation_no_header entry.change).0 (first (sym (entry_bytes-append entry y) ∙ sym e ∙ group_bytes-append group x ∙ header_bytes-append group.header (entries_bytes group.entries ++ x)))
  where
    first : {a b : ℕ} {v w : List ℕ} → a ∷ v ≡ b ∷ w → a ≡ b
    first e = cc

-- ---- entries

-- the second list goes on with an entry
pub record MoreEntries (c d : List Entry) (x : List ℕ) : Type 0 where
  pub entry : Entry
  pub more : List Entry
  pub rest : List ℕ
  pub is : d ≡ c ++ entry ∷ more
  pub spelled : x ≡ entry_bytes entry ++ rest

pub entries_cons : (entry : Entry) (entries : List Entry) (x : List ℕ) → entries_bytes (entry ∷ entries) ++ x ≡ entry_bytes entry ++ (entries_bytes entries ++ x)
entries_cons entry entries x = append_assoc (entry_bytes entry) (entries_bytes entries) x

more_cons : (d e : Entry) (c f : List Entry) (x : List ℕ) → d ≡ e → MoreEntries c f x → MoreEntries (d ∷ c) (e ∷ f) x
more_cons d e c f x same m = record { entry = m.entry; more = m.more; rest = m.rest; is = cc (same, m.is); spelled = m.spelled }

pub compare_entries : (flags : List ℕ) (c d : List Entry) (x y : List ℕ) → AllByRecursion (IsEntry flags) c → AllByRecursion (IsEntry flags) d → entries_bytes c ++ x ≡ entries_bytes d ++ y
    → ((c ≡ d) × (x ≡ y)) ⊎ (MoreEntries c d x ⊎ MoreEntries d c y)
compare_entries flags [] [] x y h k e = inl (refl, e)
compare_entries flags [] (g ∷ d) x y h k e = inr (inl (record { entry = g; more = d; rest = entries_bytes d ++ y; is = refl; spelled = e ∙ entries_cons g d y }))
compare_entries flags (f ∷ c) [] x y h k e = inr (inr (record { entry = f; more = c; rest = entries_bytes c ++ x; is = refl; spelled = sym e ∙ entries_cons f c x }))
compare_entries flags (f ∷ c) (g ∷ d) x y h k e =
    let first = entry_spellings flags f g (entries_bytes c ++ x) (entries_bytes d ++ y) h.0 k.0 (sym (entries_cons f c x) ∙ e ∙ entries_cons g d y) in
    elim (compare_entries flags c d x y h.1 k.1 first.1) [
      | inl same ↦ inl (cc (first.0, same.0), same.1)
      | inr (inl m) ↦ inr (inl (more_cons f g c d x first.0 m))
      | inr (inr m) ↦ inr (inr (more_cons g f d c y (sym first.0) m))
    ]

-- ---- groups

abbrev pub group_of : HeaderData → List Entry → GroupData
group_of header entries = record { header = header; entries = entries }

-- the second list goes on with a group
record MoreGroups (c d : List GroupData) (x : List ℕ) : Type 0 where
  group : GroupData
  others : List GroupData
  rest : List ℕ
  is : d ≡ c ++ group ∷ others
  spelled : x ≡ group_bytes group ++ rest

-- or with an entry of its last group
record MoreInLast (c d : List GroupData) (x : List ℕ) : Type 0 where
  groups : List GroupData
  header : HeaderData
  entries : List Entry
  entry : Entry
  more : List Entry
  others : List GroupData
  rest : List ℕ
  shorter_is : c ≡ groups ++ group_of header entries ∷ []
  is : d ≡ groups ++ group_of header (entries ++ entry ∷ more) ∷ others
  spelled : x ≡ entry_bytes entry ++ rest

abbrev Longer : List GroupData → List GroupData → List ℕ → Type 0
Longer c d x = MoreGroups c d x ⊎ MoreInLast c d x

pub groups_cons : (group : GroupData) (groups : List GroupData) (x : List ℕ) → file_bytes (group ∷ groups) ++ x ≡ group_bytes group ++ (file_bytes groups ++ x)
groups_cons group groups x = append_assoc (group_bytes group) (file_bytes groups) x

longer_cons : (g h : GroupData) (c d : List GroupData) (x : List ℕ) → g ≡ h → Longer c d x → Longer (g ∷ c) (h ∷ d) x
longer_cons g h c d x same (inl m) = inl (record { group = m.group; others = m.others; rest = m.rest; is = cc (same, m.is); spelled = m.spelled })
longer_cons g h c d x same (inr m) = inr (record {
  groups = g ∷ m.groups;
  header = m.header;
  entries = m.entries;
  entry = m.entry;
  more = m.more;
  others = m.others;
  rest = m.rest;
  shorter_is = ap (λ (gs : List GroupData). g ∷ gs) m.shorter_is;
  is = cc (same, m.is);
  spelled = m.spelled;
})

-- a group that goes on with an entry, where the other is the last
longer_first : (g h : GroupData) (c d : List GroupData) (x : List ℕ) → g.header ≡ h.header → MoreEntries g.entries h.entries (file_bytes c ++ x) → Longer (g ∷ c) (h ∷ d) x
longer_first g h (f ∷ c) d x same m = absurd (table_no_entry f m.entry (file_bytes c ++ x) m.rest (sym (groups_cons f c x) ∙ m.spelled))
longer_first g h [] d x same m = inr (record {
  groups = [];
  header = g.header;
  entries = g.entries;
  entry = m.entry;
  more = m.more;
  others = d;
  rest = m.rest;
  shorter_is = refl;
  is = ap (λ (f : GroupData). f ∷ d) (same_group h (group_of g.header (g.entries ++ m.entry ∷ m.more)) (sym same) m.is);
  spelled = m.spelled;
})

compare_groups : (c d : List GroupData) (x y : List ℕ) → AllByRecursion IsBegun c → AllByRecursion IsBegun d → file_bytes c ++ x ≡ file_bytes d ++ y
    → ((c ≡ d) × (x ≡ y)) ⊎ (Longer c d x ⊎ Longer d c y)
compare_groups [] [] x y h k e = inl (refl, e)
compare_groups [] (g ∷ d) x y h k e = inr (inl (inl (record { group = g; others = d; rest = file_bytes d ++ y; is = refl; spelled = e ∙ groups_cons g d y })))
compare_groups (f ∷ c) [] x y h k e = inr (inr (inl (record { group = f; others = c; rest = file_bytes c ++ x; is = refl; spelled = sym e ∙ groups_cons f c x })))
compare_groups (f ∷ c) (g ∷ d) x y h k e =
    let u = file_bytes c ++ x in
    let v = file_bytes d ++ y in
    let whole : group_bytes f ++ u ≡ group_bytes g ++ v = sym (groups_cons f c x) ∙ e ∙ groups_cons g d y in
    let head = header_spellings f.header g.header (entries_bytes f.entries ++ u) (entries_bytes g.entries ++ v) h.0.header k.0.header (sym (group_bytes-append f u) ∙ whole ∙ group_bytes-append g v) in
    let flags : List ℕ = f.header.flags in
    let each_f = recursion_from_All (IsEntry flags) f.entries h.0.each in
    let each_g = recursion_from_All (IsEntry flags) g.entries (rw head.0 k.0.each) in
    elim (compare_entries flags f.entries g.entries u v each_f each_g head.1) [
      | inl same ↦
          let first = same_group f g head.0 same.0 in
          elim (compare_groups c d x y h.1 k.1 same.1) [
            | inl others ↦ inl (cc (first, others.0), others.1)
            | inr (inl m) ↦ inr (inl (longer_cons f g c d x first m))
            | inr (inr m) ↦ inr (inr (longer_cons g f d c y (sym first) m))
          ]
      | inr (inl m) ↦ inr (inl (longer_first f g c d x head.0 m))
      | inr (inr m) ↦ inr (inr (longer_first g f d c y (sym head.0) m))
    ]

-- ---- what is next

-- the last group has an entry
abbrev pub Full : List GroupData → Type 0
Full all = (groups : List GroupData) (header : HeaderData) → all ≡ groups ++ group_of header [] ∷ [] → ⊥

-- after the groups is the header of a new table
pub record NextHeader (all : List GroupData) (bytes : List ℕ) : Type 0 where
  pub header : HeaderData
  pub rest : List ℕ
  pub full : Full all
  pub is_header : IsHeader header
  pub fresh : IsNewName all header.name
  pub spelled : bytes ≡ header_bytes header ++ rest

-- after the groups is an entry of the last, with a new key
pub record NextEntry (all : List GroupData) (bytes : List ℕ) : Type 0 where
  pub groups : List GroupData
  pub header : HeaderData
  pub entries : List Entry
  pub entry : Entry
  pub rest : List ℕ
  pub is : all ≡ groups ++ group_of header entries ∷ []
  pub is_entry : IsEntry header.flags entry
  pub fresh : IsNewKey header.flags entries (key_of header.flags entry.change)
  pub spelled : bytes ≡ entry_bytes entry ++ rest

abbrev pub Next : List GroupData → List ℕ → Type 0
Next all bytes = NextHeader all bytes ⊎ NextEntry all bytes

next_of : (c d : List GroupData) (x : List ℕ) → IsOpen d → Longer c d x → Next c x
next_of c d x are (inl m) =
    let group = m.group in
    inl (record {
      header = group.header;
      rest = entries_bytes group.entries ++ m.rest;
      full = λ groups header e.
          let bare = group_of header [] in
          let d_is : d ≡ groups ++ bare ∷ (group ∷ m.others) = m.is ∙ ap (λ (gs : List GroupData). gs ++ group ∷ m.others) e ∙ append_assoc groups (bare ∷ []) (group ∷ m.others) in
          let at : get_or d (length groups) bare ≡ bare = rw d_is (get_or_at groups bare (group ∷ m.others) bare (length groups) refl) in
          let some = are.some (length groups) (length c) bare (omega (arith, ap length e, length-append groups (bare ∷ []))) (omega (arith, ap length m.is, length-append c (group ∷ m.others))) in
          let none = rw at at some in
          omega (arith, none);
      is_header = (begun_behind c m.others d group are m.is).header;
      fresh = new_behind c m.others d group are m.is;
      spelled = m.spelled ∙ group_bytes-append group m.rest;
    })
next_of c d x are (inr m) =
    let flags = m.header.flags in
    let all = m.entries ++ m.entry ∷ m.more in
    let begun = begun_behind m.groups m.others d (group_of m.header all) are m.is in
    let within : length m.entries < length all = omega (arith, length-append m.entries (m.entry ∷ m.more)) in
    let here : (e : Entry) → get_or all (length m.entries) e ≡ m.entry = λ e. get_or_at m.entries m.entry m.more e (length m.entries) refl in
    inr (record {
      groups = m.groups;
      header = m.header;
      entries = m.entries;
      entry = m.entry;
      rest = m.rest;
      is = m.shorter_is;
      is_entry = rw (here m.entry) at (begun.each (length m.entries) m.entry within);
      fresh = λ k e lt same.
          let before : get_or all k e ≡ get_or m.entries k e = get_or_append_left m.entries (m.entry ∷ m.more) e k lt in
          begun.once k (length m.entries) e lt within (ap (λ (f : Entry). key_of flags f.change) before ∙ same ∙ ap (λ (f : Entry). key_of flags f.change) (sym (here e)));
      spelled = m.spelled;
    })

-- two lists of groups that one file begins with are equal, or one goes on where the other ends
pub compare : (c d : List GroupData) (x y : List ℕ) → IsOpen c → IsOpen d → file_bytes c ++ x ≡ file_bytes d ++ y → ((c ≡ d) × (x ≡ y)) ⊎ (Next c x ⊎ Next d y)
compare c d x y h k e =
    elim (compare_groups c d x y (recursion_from_All IsBegun c h.each) (recursion_from_All IsBegun d k.each) e) [
      | inl same ↦ inl same
      | inr (inl longer) ↦ inr (inl (next_of c d x k longer))
      | inr (inr longer) ↦ inr (inr (next_of d c y h longer))
    ]
