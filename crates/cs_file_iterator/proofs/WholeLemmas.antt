-- Of bytes that are changes to their end, one more can be read wherever they do not end.
use Rattle.std.proofs.Common.{◌≡◌, ℕ, ◌<◌, List, [], ◌∷◌, ◌++◌, length, length-append, drop, refl, sym, ap, subst, ◌∙◌, append_assoc, append-nil, arith, inl, inr}
use Rattle.std.specs.List.{AllByRecursion}
use Rattle.std.proofs.lemmas.List.{drop_all, drop_at, length-drop}
use Rattle.std.proofs.lemmas.List.Concat.{flat_map-append}
use Rattle.std.proofs.lemmas.List.Elements.{All-from_recursion, All-push, recursion_from_All}
use Rattle.cs_value.proofs.ListLemmas.{AllByRecursion-append_right}
use Rattle.cs_wire_entries.specs.declared.entry.Entry.{Entry}
use Rattle.cs_wire_entries.specs.Entry.{IsEntry, entry_bytes}
use Rattle.cs_wire_entries.specs.Changeset.{HeaderData, GroupData, IsHeader, header_bytes, entries_bytes, group_bytes, file_bytes}
use Rattle.cs_wire_entries.specs.ReadFaults.{Stands}
use Rattle.cs_wire_entries.proofs.EntryLemmas.{entry_bytes_some}
use Rattle.cs_wire.proofs.GroupsLemmas.{group_bytes-append, same_group}
use Rattle.cs_wire_laws.proofs.Prefixes.{header_spellings, table_no_entry, MoreEntries, compare_entries, entries_cons, groups_cons}
use Rattle.cs_file_iterator.specs.Changes.{TableChange}
use Rattle.cs_file_iterator.specs.Readable.{AddsChange, AreAll, IsReadable, ReadsAs}
use Rattle.cs_file_iterator.proofs.ReadableLemmas.{group_of, change_of, one_entry}

-- ---- groups

-- one more change is in the bytes after the groups
record Further (c : List GroupData) (x : List ℕ) : Type 0 where
  change : TableChange
  after : List GroupData
  rest : List ℕ
  adds : AddsChange c change after
  are : AllByRecursion IsReadable after
  spelled : file_bytes c ++ x ≡ file_bytes after ++ rest

-- the first change of a table
first_of : (header : HeaderData) (entries : List Entry) (x y : List ℕ) → IsHeader header → AllByRecursion (IsEntry header.flags) entries → 0 < length entries → x ≡ header_bytes header ++ (entries_bytes entries ++ y) → Further [] x
first_of header [] x y is each some same = absurd (omega (arith, some))
first_of header (entry ∷ entries) x y is each some same =
    let group = group_of header (entry ∷ []) in
    let rest = entries_bytes entries ++ y in
    record {
      change = change_of header entry;
      after = group ∷ [];
      rest = rest;
      adds = inr refl;
      are = (one_entry header entry is each.0, tt);
      spelled = same ∙ ap (λ (z : List ℕ). header_bytes header ++ z) (entries_cons entry entries y)
          ∙ sym (groups_cons group [] rest ∙ group_bytes-append group rest ∙ ap (λ (z : List ℕ). header_bytes header ++ z) (entries_cons entry [] rest));
    }

adds_cons : (g : GroupData) (c after : List GroupData) (change : TableChange) → AddsChange c change after → AddsChange (g ∷ c) change (g ∷ after)
adds_cons g c after change (inl a) = inl (record {
  closed = g ∷ a.closed;
  entries = a.entries;
  before_is = ap (λ (gs : List GroupData). g ∷ gs) a.before_is;
  after_is = ap (λ (gs : List GroupData). g ∷ gs) a.after_is;
})
adds_cons g c after change (inr is) = inr (ap (λ (gs : List GroupData). g ∷ gs) is)

further_cons : (g : GroupData) (c : List GroupData) (x : List ℕ) → IsReadable g → Further c x → Further (g ∷ c) x
further_cons g c x is f = record {
  change = f.change;
  after = g ∷ f.after;
  rest = f.rest;
  adds = adds_cons g c f.after f.change f.adds;
  are = (is, f.are);
  spelled = groups_cons g c x ∙ ap (λ (z : List ℕ). group_bytes g ++ z) f.spelled ∙ sym (groups_cons g f.after f.rest);
}

-- one more change of the last table
further_last : (g : GroupData) (all : List Entry) (x : List ℕ) → IsReadable g → AllByRecursion (IsEntry g.header.flags) all → MoreEntries g.entries all x → Further (g ∷ []) x
further_last g all x is each m =
    let entries = g.entries ++ m.entry ∷ [] in
    let group = group_of g.header entries in
    let is_entry = (AllByRecursion-append_right (IsEntry g.header.flags) g.entries (m.entry ∷ m.more) (subst (AllByRecursion (IsEntry g.header.flags)) m.is each)).0 in
    let readable : IsReadable group = record {
      header = is.header;
      some = omega (arith, length-append g.entries (m.entry ∷ []));
      each = All-push (IsEntry g.header.flags) g.entries m.entry is.each is_entry;
    } in
    let longer : entries_bytes entries ++ m.rest ≡ entries_bytes g.entries ++ x =
    ap (λ (z : List ℕ). z ++ m.rest) (flat_map-append entry_bytes g.entries (m.entry ∷ []))
    ∙ append_assoc (entries_bytes g.entries) (entries_bytes (m.entry ∷ [])) m.rest
    ∙ ap (λ (z : List ℕ). entries_bytes g.entries ++ z) (entries_cons m.entry [] m.rest ∙ sym m.spelled) in
    record {
      change = change_of g.header m.entry;
      after = group ∷ [];
      rest = m.rest;
      adds = inl (record { closed = []; entries = g.entries; before_is = ap (λ (h : GroupData). h ∷ []) (same_group g (group_of g.header g.entries) refl refl); after_is = refl });
      are = (readable, tt);
      spelled = groups_cons g [] x ∙ group_bytes-append g x ∙ ap (λ (z : List ℕ). header_bytes g.header ++ z) (sym longer) ∙ sym (groups_cons group [] m.rest ∙ group_bytes-append group m.rest);
    }

no_more : (d : List GroupData) (c e : List Entry) → MoreEntries c e (file_bytes d) → ⊥
no_more [] c e m = omega (arith, ap length m.spelled, length-append (entry_bytes m.entry) m.rest, entry_bytes_some m.entry)
no_more (f ∷ d) c e m = table_no_entry f m.entry (file_bytes d) m.rest m.spelled

further : (c d : List GroupData) (x : List ℕ) → AllByRecursion IsReadable c → AllByRecursion IsReadable d → file_bytes c ++ x ≡ file_bytes d → 0 < length x → Further c x
further [] [] x h k e some = absurd (omega (arith, ap length e))
further [] (g ∷ d) x h k e some =
    first_of g.header g.entries x (file_bytes d) k.0.header (recursion_from_All (IsEntry g.header.flags) g.entries k.0.each) k.0.some (e ∙ group_bytes-append g (file_bytes d))
further (f ∷ c) [] x h k e some = absurd (omega (arith, ap length e, length-append (group_bytes f ++ file_bytes c) x))
further (f ∷ c) (g ∷ d) x h k e some =
    let u = file_bytes c ++ x in
    let v = file_bytes d in
    let whole : group_bytes f ++ u ≡ group_bytes g ++ v = sym (groups_cons f c x) ∙ e in
    let head = header_spellings f.header g.header (entries_bytes f.entries ++ u) (entries_bytes g.entries ++ v) h.0.header k.0.header (sym (group_bytes-append f u) ∙ whole ∙ group_bytes-append g v) in
    let flags : List ℕ = f.header.flags in
    let each_f = recursion_from_All (IsEntry flags) f.entries h.0.each in
    let each_g = recursion_from_All (IsEntry flags) g.entries (rw head.0 k.0.each) in
    elim (compare_entries flags f.entries g.entries u v each_f each_g head.1) [
      | inl same ↦ further_cons f c x h.0 (further c d x h.1 k.1 same.1 some)
      | inr (inl m) ↦ last c each_g m
      | inr (inr m) ↦ absurd (no_more d g.entries f.entries m)
    ]
  where
    last : (c : List GroupData) → AllByRecursion (IsEntry f.header.flags) g.entries → MoreEntries f.entries g.entries (file_bytes c ++ x) → Further (f ∷ c) x
    last [] each m = further_last f g.entries x h.0 each m
    last (b ∷ c) each m = absurd (table_no_entry b m.entry (file_bytes c ++ x) m.rest (sym (groups_cons b c x) ∙ m.spelled))

-- a file that begins with these groups
read_as : (file rest : List ℕ) (groups : List GroupData) → AllByRecursion IsReadable groups → file ≡ file_bytes groups ++ rest → ReadsAs file groups (length (file_bytes groups))
read_as file rest groups are spelled =
    let bytes : List ℕ = file_bytes groups in
    record {
      each = All-from_recursion IsReadable groups are;
      stand = stands file rest bytes spelled;
    }
  where
    stands : (file rest bytes : List ℕ) → file ≡ bytes ++ rest → Stands file 0 bytes (length bytes)
    stands file rest bytes spelled = record {
      spelled = spelled ∙ ap (λ (x : List ℕ). bytes ++ x) (sym (ap (drop (length bytes)) spelled ∙ drop_at bytes rest (length bytes) refl));
      within = omega (arith, ap length spelled, length-append bytes rest);
    }

-- where bytes that are changes to their end do not end, one more is read
pub goes_on : (file : List ℕ) (groups all : List GroupData) (place : ℕ) → ReadsAs file groups place → ReadsAs file all (length file) → place < length file → AreAll file groups → ⊥
goes_on file groups all place begins whole more are_all =
    let at_end : file ≡ file_bytes all = whole.stand.spelled ∙ ap (λ (x : List ℕ). file_bytes all ++ x) (drop_all (length file) file (omega arith)) ∙ append-nil (file_bytes all) in
    by (further groups all (drop place file) (recursion_from_All IsReadable groups begins.each) (recursion_from_All IsReadable all whole.each) (sym begins.stand.spelled ∙ at_end) (omega (arith, length-drop place file)))
  where
    by : Further groups (drop place file) → ⊥
    by f = are_all f.change f.after (length (file_bytes f.after)) f.adds (read_as file f.rest f.after f.are (begins.stand.spelled ∙ f.spelled))
