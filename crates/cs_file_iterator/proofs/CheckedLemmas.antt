-- Of bytes with a fault other than a repeated table or key, what was read has neither twice.
use Rattle.std.proofs.Common.{◌≡◌, ℕ, ◌+◌, ◌<◌, ◌≤◌, List, [], ◌∷◌, ◌++◌, length, length-append, get_or, refl, sym, ap, subst, ◌∙◌, append_assoc, append-nil, arith, inl, inr}
use Rattle.std.specs.Prelude.{AllPairs}
use Rattle.std.specs.List.{AllByRecursion}
use Rattle.std.proofs.lemmas.Bool.{cases_lt}
use Rattle.std.proofs.lemmas.List.{drop_all, get_or_append_left}
use Rattle.std.proofs.lemmas.List.Concat.{flat_map-append}
use Rattle.std.proofs.lemmas.List.Elements.{All-nil, All-push, recursion_from_All}
use Rattle.std.proofs.lemmas.List.Quantifiers.{all_pairs_push}
use Rattle.cs_wire_entries.specs.declared.entry.Entry.{Entry}
use Rattle.cs_wire_entries.specs.declared.fault.ReadFault.{ReadFault}
use Rattle.cs_wire_entries.specs.declared.fault.ReadFaultKind.TheVariants.{DuplicateTable, DuplicateKey}
use Rattle.cs_wire_entries.specs.Entry.{IsEntry, entry_bytes, key_of}
use Rattle.cs_wire_entries.specs.Changeset.{HeaderData, GroupData, IsChangeset, IsGroup, IsHeader, IsNewKey, IsNewName, entries_bytes, file_bytes, group_bytes, header_bytes}
use Rattle.cs_wire_entries.specs.ReadFaults.{EntryStart, HasEntry, ReadCase, Stands, TableStart}
use Rattle.cs_wire_entries.proofs.ReadingLemmas.{Stands-then}
use Rattle.cs_wire.proofs.CursorLemmas.{IsOpen-changeset, begun_behind, new_behind}
use Rattle.cs_wire.proofs.GroupLemmas.{HasOtherKey, IsChangeset-push}
use Rattle.cs_wire.proofs.GroupsLemmas.{EntryStart-none}
use Rattle.cs_wire_laws.proofs.Cases.{read_fault_once}
use Rattle.cs_wire_laws.proofs.HeaderSome.{new_or_not}
use Rattle.cs_file_iterator.specs.declared.change.ChangeSpan.{ChangeSpan}
use Rattle.cs_file_iterator.specs.Readable.{ReadsAs, IsReadable, IsUnreadable, ShowsLast, WereRead}
use Rattle.cs_file_iterator.proofs.PartLemmas.{Stands-length, Stands-part}

-- ---- two texts, one after the other

stands_first : (file : List ℕ) (a b c : ℕ) (s t : List ℕ) → Stands file a (s ++ t) c → a ≤ length file → b ≡ a + length s → Stands file a s b
stands_first file a b c s t h le is = Stands-part file a c [] s t h le a b (omega arith) is

stands_second : (file : List ℕ) (a b c : ℕ) (s t : List ℕ) → Stands file a (s ++ t) c → a ≤ length file → b ≡ a + length s → Stands file b t c
stands_second file a b c s t h le is =
    Stands-part file a c s t [] (subst (λ (x : List ℕ). Stands file a (s ++ x) c) (sym (append-nil t)) h) le b c is
    (omega (arith, is, Stands-length file a c (s ++ t) h le, length-append s t))

module _ (file : List ℕ) (fault : ReadFault) (unreadable : IsUnreadable file fault) where
  -- a fault of the bytes is this one
  pub fault_is : (found : ReadFault) → ReadCase file found.kind found.place → found ≡ fault
  fault_is found case = read_fault_once file found fault (record { refused = unreadable.fails.refused; case = case }) unreadable.fails

  -- a table is another than those before it
  pub new_name : (at to : ℕ) (groups : List GroupData) (header : HeaderData) → TableStart file at groups → IsHeader header → Stands file at (header_bytes header) to → IsNewName groups header.name
  new_name at to groups header start is stands =
      elim (new_or_not (λ (g : GroupData). g.header.name) header.name groups) [
        | inl new ↦ new
        | inr old ↦ absurd (unreadable.no_table (sym (ap (λ (f : ReadFault). f.kind) (fault_is (record { kind = DuplicateTable; place = at })
            (record { groups = groups; header = header; to = to; start = start; is_header = is; stands = stands; not_new = old })))))
      ]

  -- a key is another than those before it
  new_key : (at to : ℕ) (header : HeaderData) (entries : List Entry) (entry : Entry) → EntryStart file at header entries → IsEntry header.flags entry → Stands file at (entry_bytes entry) to
      → IsNewKey header.flags entries (key_of header.flags entry.change)
  new_key at to header entries entry start is stands =
      elim (new_or_not (λ (e : Entry). key_of header.flags e.change) (key_of header.flags entry.change) entries) [
        | inl new ↦ new
        | inr old ↦ absurd (unreadable.no_key (sym (ap (λ (f : ReadFault). f.kind) (fault_is (record { kind = DuplicateKey; place = at })
            (record { header = header; entries = entries; entry = entry; to = to; start = start; is_entry = is; stands = stands; not_new = old })))))
      ]

  -- after a header and the first entry
  pub opened : (at to : ℕ) (groups : List GroupData) (header : HeaderData) → TableStart file at groups → IsHeader header → Stands file at (header_bytes header) to → EntryStart file to header []
  opened at to groups header start is stands = EntryStart-none file at to groups header start is (new_name at to groups header start is stands) stands

  -- no key is twice in a table
  keys_once : (at to : ℕ) (header : HeaderData) (entries more : List Entry) → EntryStart file at header entries → AllByRecursion (IsEntry header.flags) more → Stands file at (entries_bytes more) to
      → AllPairs (HasOtherKey header.flags) (entries ++ more)
  keys_once at to header entries [] start are stands = rw (append-nil entries) start.once
  keys_once at to header entries (entry ∷ more) start are stands =
      let le = start.stand.within in
      let next = at + length (entry_bytes entry) in
      let first = stands_first file at next to (entry_bytes entry) (entries_bytes more) stands le refl in
      let fresh = new_key at next header entries entry start are.0 first in
      let pushed : EntryStart file next header (entries ++ entry ∷ []) = record {
        from = start.from;
        groups = start.groups;
        start = start.start;
        is_header = start.is_header;
        new_table = start.new_table;
        each = All-push (IsEntry header.flags) entries entry start.each are.0;
        once = all_pairs_push (HasOtherKey header.flags) entries entry start.once (λ k d lt. fresh k d lt);
        stand = rw (flat_map-append entry_bytes entries (entry ∷ []), append-nil, ← append_assoc (header_bytes header) (entries_bytes entries) (entry_bytes entry))
            (Stands-then file start.from at next _ (entry_bytes entry) start.stand first);
      } in
      subst (AllPairs (HasOtherKey header.flags)) (append_assoc entries (entry ∷ []) more)
      (keys_once next to header (entries ++ entry ∷ []) more pushed are.1 (stands_second file at next to (entry_bytes entry) (entries_bytes more) stands le refl))

  -- no table is twice, and no key in a table
  tables_once : (at to : ℕ) (closed groups : List GroupData) → TableStart file at closed → AllByRecursion IsReadable groups → Stands file at (file_bytes groups) to → IsChangeset (closed ++ groups)
  unfolding group_bytes
  tables_once at to closed [] start are stands = rw (append-nil closed) start.are
  tables_once at to closed (group ∷ groups) start are stands =
      let header = group.header in
      let le = start.stand.within in
      let middle = at + length (header_bytes header) in
      let next = at + length (group_bytes group) in
      let whole = stands_first file at next to (group_bytes group) (file_bytes groups) stands le refl in
      let first = stands_first file at middle next (header_bytes header) (entries_bytes group.entries) whole le refl in
      let second = stands_second file at middle next (header_bytes header) (entries_bytes group.entries) whole le refl in
      let begun = opened at middle closed header start are.0.header first in
      let is_group : IsGroup group = record {
        header = are.0.header;
        some = are.0.some;
        each = are.0.each;
        once = keys_once middle next header [] group.entries begun (recursion_from_All (IsEntry header.flags) group.entries are.0.each) second;
      } in
      let pushed : TableStart file next (closed ++ group ∷ []) = record {
        are = IsChangeset-push closed group start.are is_group (new_name at middle closed header start are.0.header first);
        stand = rw (flat_map-append group_bytes closed (group ∷ []), append-nil) (Stands-then file 0 at next (file_bytes closed) (group_bytes group) start.stand whole);
      } in
      subst IsChangeset (append_assoc closed (group ∷ []) groups)
      (tables_once next to (closed ++ group ∷ []) groups pushed are.1 (stands_second file at next to (group_bytes group) (file_bytes groups) stands le refl))

  no_tables : TableStart file 0 []
  no_tables = record {
    are = record { each = All-nil IsGroup; once = λ i j d lt within. absurd (omega arith) };
    stand = record { spelled = refl; within = omega arith };
  }

  -- what was read is the file of a changeset
  pub table_start : (groups : List GroupData) (place : ℕ) → ReadsAs file groups place → TableStart file place groups
  table_start groups place begins = record {
    are = tables_once 0 place [] groups no_tables (recursion_from_All IsReadable groups begins.each) begins.stand;
    stand = begins.stand;
  }

  module _ (groups : List GroupData) (place : ℕ) (span : ChangeSpan) (so : WereRead file groups place span) where
    -- an entry of the open table may begin here
    pub entry_start : (last : ShowsLast file groups span) → EntryStart file place last.last.header last.last.entries
    unfolding group_bytes
    entry_start last =
        let are = (table_start groups place so.begins).are in
        let begun = begun_behind last.closed [] groups last.last (IsOpen-changeset groups are) last.groups_are in
        let bytes = ap file_bytes last.groups_are ∙ flat_map-append group_bytes last.closed (last.last ∷ []) ∙ ap (λ (x : List ℕ). file_bytes last.closed ++ x) (append-nil (group_bytes last.last)) in
        let stand = subst (λ (x : List ℕ). Stands file 0 x place) bytes so.begins.stand in
        let from = length (file_bytes last.closed) in
        record {
          from = from;
          groups = last.closed;
          start = record { are = closed_are last.closed last.last groups last.groups_are are; stand = stands_first file 0 from place (file_bytes last.closed) (group_bytes last.last) stand (omega arith) (omega arith) };
          is_header = begun.header;
          new_table = new_behind last.closed [] groups last.last (IsOpen-changeset groups are) last.groups_are;
          each = begun.each;
          once = begun.once;
          stand = stands_second file 0 from place (file_bytes last.closed) (group_bytes last.last) stand (omega arith) (omega arith);
        }
      where
        closed_are : (closed : List GroupData) (last : GroupData) (groups : List GroupData) → groups ≡ closed ++ last ∷ [] → IsChangeset groups → IsChangeset closed
        closed_are closed last groups is are =
            let before : (i : ℕ) (d : GroupData) → i < length closed → get_or groups i d ≡ get_or closed i d = λ i d lt. ap (λ (gs : List GroupData). get_or gs i d) is ∙ get_or_append_left closed (last ∷ []) d i lt in
            let more : length groups ≡ length closed + 1 = ap length is ∙ length-append closed (last ∷ []) in
            record {
              each = λ i d lt. subst IsGroup (before i d lt) (are.each i d (omega (arith, lt, more)));
              once = λ i j d lt within same.
                  are.once i j d lt (omega (arith, within, more)) (ap (λ (g : GroupData). g.header.name) (before i d (omega (arith, lt, within))) ∙ same ∙ ap (λ (g : GroupData). g.header.name) (sym (before j d within)));
            }

    -- the bytes do not end here
    pub not_all : place ≡ length file → ⊥
    not_all end =
        unreadable.fails.refused (
          groups,
          (table_start groups place so.begins).are,
          so.begins.stand.spelled ∙ ap (λ (x : List ℕ). file_bytes groups ++ x) (drop_all place file (omega (arith, end))) ∙ append-nil (file_bytes groups),
        )

-- where no entry of a table is next, none is, but at the start
pub none_here : (file : List ℕ) (place : ℕ) → (0 < place → HasEntry file place → ⊥) → HasEntry file place → place ≡ 0
none_here file place none here =
    elim (cases_lt 0 place) [ inl some ↦ absurd (none some here) | inr zero ↦ omega (arith, zero) ]
