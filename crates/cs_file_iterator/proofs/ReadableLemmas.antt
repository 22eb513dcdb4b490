-- The changes that can be read of any bytes.
use Rattle.std.proofs.Common.{◌≡◌, ℕ, ◌+◌, ◌<◌, ◌≤◌, List, [], ◌∷◌, ◌++◌, length, length-append, drop, refl, sym, ap, subst, ◌∙◌, append_assoc, append-nil, arith, inl, inr}
use Rattle.std.specs.Prelude.{◌⊎◌, All}
use Rattle.std.proofs.lemmas.List.{length-drop, length-map, same_from_push}
use Rattle.std.proofs.lemmas.List.Concat.{flat_map-append}
use Rattle.std.proofs.lemmas.List.Elements.{All-from_recursion, All-nil, All-push, recursion_from_All}
use Rattle.cs_value.proofs.ListLemmas.{AllByRecursion-append_left, AllByRecursion-append_right}
use Rattle.cs_wire_entries.specs.declared.entry.Entry.{Entry}
use Rattle.cs_wire_entries.specs.Entry.{IsEntry, entry_bytes}
use Rattle.cs_wire_entries.specs.Changeset.{HeaderData, GroupData, IsHeader, file_bytes, group_bytes, header_bytes}
use Rattle.cs_wire_entries.specs.ReadFaults.{HasEntry, Stands}
use Rattle.cs_wire_entries.proofs.ReadingLemmas.{Stands-then, first_byte, header_bytes-append, rest_is}
use Rattle.cs_wire.proofs.EntriesLemmas.{HasEntry-entry}
use Rattle.cs_wire.proofs.GroupsLemmas.{group_bytes_some}
use Rattle.cs_file_iterator.specs.declared.change.ChangeSpan.{ChangeSpan}
use Rattle.cs_file_iterator.specs.Changes.{TableChange, changes_of, changes_with}
use Rattle.cs_file_iterator.specs.Readable.{AddsChange, AddsToLast, AreAll, ReadsAs, IsReadable, ReadsOn, ShowsLast, WereRead}
use Rattle.cs_file_iterator.specs.Steps.{NoEntry, NoTable, OpensTable, PassesEntry}
use Rattle.cs_file_iterator.proofs.PartLemmas.{Stands-length}
use Rattle.cs_file_iterator.proofs.StepLemmas.{passed_group, passed_more}

abbrev pub group_of : HeaderData → List Entry → GroupData
group_of header entries = record { header = header; entries = entries }

abbrev pub change_of : HeaderData → Entry → TableChange
change_of header entry = record { header = header; entry = entry }

-- ---- lists

pub All-before : {X : Type 0} (P : X → Type 0) (xs : List X) (x : X) → All P (xs ++ x ∷ []) → All P xs
All-before P xs x all = All-from_recursion P xs (AllByRecursion-append_left P xs (x ∷ []) (recursion_from_All P (xs ++ x ∷ []) all))

pub All-last : {X : Type 0} (P : X → Type 0) (xs : List X) (x : X) → All P (xs ++ x ∷ []) → P x
All-last P xs x all = (AllByRecursion-append_right P xs (x ∷ []) (recursion_from_All P (xs ++ x ∷ []) all)).0

-- ---- bytes

-- the bytes of one more entry
entry_more : (closed : List GroupData) (header : HeaderData) (entries : List Entry) (entry : Entry)
    → file_bytes (closed ++ group_of header (entries ++ entry ∷ []) ∷ []) ≡ file_bytes (closed ++ group_of header entries ∷ []) ++ entry_bytes entry
entry_more closed header entries entry =
    sym (passed_group closed header (entries ++ entry ∷ []))
    ∙ passed_more closed header entries entry
    ∙ ap (λ (x : List ℕ). x ++ entry_bytes entry) (passed_group closed header entries)

-- those of another table
table_more : (groups : List GroupData) (header : HeaderData) (entry : Entry) → file_bytes (groups ++ group_of header (entry ∷ []) ∷ []) ≡ file_bytes groups ++ (header_bytes header ++ entry_bytes entry)
table_more groups header entry =
    sym (passed_group groups header (entry ∷ [])) ∙ ap (λ (x : List ℕ). file_bytes groups ++ (header_bytes header ++ x)) (append-nil (entry_bytes entry))

-- what follows the groups, where more is known to follow
rest_after : (file : List ℕ) (groups : List GroupData) (place to : ℕ) (all more : List ℕ) → ReadsAs file groups place → Stands file 0 all to → all ≡ file_bytes groups ++ more → drop place file ≡ more ++ drop to file
rest_after file groups place to all more begins there is =
    rest_is file 0 place (file_bytes groups) (more ++ drop to file) begins.stand
    (there.spelled ∙ ap (λ (x : List ℕ). x ++ drop to file) is ∙ append_assoc (file_bytes groups) more (drop to file))

-- ---- one more change is read

pub one_entry : (header : HeaderData) (entry : Entry) → IsHeader header → IsEntry header.flags entry → IsReadable (group_of header (entry ∷ []))
one_entry header entry h e = record {
  header = h;
  some = omega arith;
  each = All-push (IsEntry header.flags) [] entry (All-nil (IsEntry header.flags)) e;
}

module _ (file : List ℕ) (groups : List GroupData) (place : ℕ) (span : ChangeSpan) (so : WereRead file groups place span) where
  -- a table is open
  pub last_of : 0 < place → ShowsLast file groups span
  last_of some = by so.last
    where
      by : (groups ≡ []) ⊎ ShowsLast file groups span → ShowsLast file groups span
      by (inl none) = absurd (omega (arith, some, Stands-length file 0 place (file_bytes groups) so.begins.stand (omega arith), ap (λ (gs : List GroupData). length (file_bytes gs)) none))
      by (inr last) = last

  -- a change of the open table
  pub reads_entry : (last : ShowsLast file groups span) (next : ChangeSpan) (end : ℕ) → PassesEntry file last.last.header place next end → ReadsOn file groups next end
  reads_entry last next end passes =
      let header = last.last.header in
      let entries = last.last.entries ++ passes.entry ∷ [] in
      let after = last.closed ++ group_of header entries ∷ [] in
      let readable = subst (All IsReadable) last.groups_are so.begins.each in
      let old = All-last IsReadable last.closed last.last readable in
      record {
        change = record { header = header; entry = passes.entry };
        after = after;
        adds = inl (record { closed = last.closed; entries = last.last.entries; before_is = last.groups_are; after_is = refl });
        shows = passes.shows;
        were_read = record {
          begins = record {
            each = All-push IsReadable last.closed (group_of header entries) (All-before IsReadable last.closed last.last readable) (record {
              header = old.header;
              some = omega (arith, length-append last.last.entries (passes.entry ∷ []));
              each = All-push (IsEntry header.flags) last.last.entries passes.entry old.each passes.shows.is_entry;
            });
            stand = subst (λ (x : List ℕ). Stands file 0 x end) (ap (λ (gs : List GroupData). file_bytes gs ++ entry_bytes passes.entry) last.groups_are ∙ sym (entry_more last.closed header last.last.entries passes.entry))
                (Stands-then file 0 place end (file_bytes groups) (entry_bytes passes.entry) so.begins.stand passes.stands);
          };
          last = inr (record { closed = last.closed; last = group_of header entries; groups_are = refl; table = passes.shows.table });
        };
      }

  -- the first change of another table
  pub reads_table : (table next : ChangeSpan) (start end : ℕ) (opens : OpensTable file place table start) → PassesEntry file opens.header start next end → ReadsOn file groups next end
  reads_table table next start end opens passes =
      let header = opens.header in
      let group = group_of header (passes.entry ∷ []) in
      record {
        change = record { header = header; entry = passes.entry };
        after = groups ++ group ∷ [];
        adds = inr refl;
        shows = passes.shows;
        were_read = record {
          begins = record {
            each = All-push IsReadable groups group so.begins.each (one_entry header passes.entry opens.is_header passes.shows.is_entry);
            stand = subst (λ (x : List ℕ). Stands file 0 x end) (sym (table_more groups header passes.entry))
                (Stands-then file 0 place end (file_bytes groups) (header_bytes header ++ entry_bytes passes.entry) so.begins.stand (Stands-then file place start end _ _ opens.stands passes.stands));
          };
          last = inr (record { closed = groups; last = group; groups_are = refl; table = passes.shows.table });
        };
      }

  -- ---- no further change is read

  -- one of the last table would be an entry here
  entry_here : (change : TableChange) (after : List GroupData) (to : ℕ) (adds : AddsToLast groups change after) → ReadsAs file after to → IsEntry change.header.flags change.entry × (drop place file ≡ entry_bytes change.entry ++ drop to file)
  entry_here change after to adds begins =
      let header = change.header in
      let all = subst (All IsReadable) adds.after_is begins.each in
      let readable = All-last IsReadable adds.closed (group_of header (adds.entries ++ change.entry ∷ [])) all in (
        All-last (IsEntry header.flags) adds.entries change.entry readable.each,
        rest_after file groups place to (file_bytes after) (entry_bytes change.entry) so.begins begins.stand
            (ap file_bytes adds.after_is ∙ entry_more adds.closed header adds.entries change.entry ∙ ap (λ (gs : List GroupData). file_bytes gs ++ entry_bytes change.entry) (sym adds.before_is)),
      )

  -- the first of another would be a header here
  header_here : (change : TableChange) (after : List GroupData) (to : ℕ) → after ≡ groups ++ group_of change.header (change.entry ∷ []) ∷ [] → ReadsAs file after to
      → IsHeader change.header × IsEntry change.header.flags change.entry × (drop place file ≡ header_bytes change.header ++ (entry_bytes change.entry ++ drop to file))
  header_here change after to is begins =
      let header = change.header in
      let group = group_of header (change.entry ∷ []) in
      let readable = All-last IsReadable groups group (subst (All IsReadable) is begins.each) in (
        readable.header,
        All-last (IsEntry header.flags) [] change.entry readable.each,
        rest_after file groups place to (file_bytes after) (header_bytes header ++ entry_bytes change.entry) so.begins begins.stand (ap file_bytes is ∙ table_more groups header change.entry)
            ∙ append_assoc (header_bytes header) (entry_bytes change.entry) (drop to file),
      )

  -- after an open table, at the start of an entry
  pub no_entry_read : (last : ShowsLast file groups span) → HasEntry file place → NoEntry file last.last.header place → AreAll file groups
  no_entry_read last here none change after to (inl adds) begins =
      let same = (same_from_push last.closed adds.closed last.last (group_of change.header adds.entries) (sym last.groups_are ∙ adds.before_is)).1 in
      let entry = entry_here change after to adds begins in
      none change.entry (drop to file) (subst (λ (h : HeaderData). IsEntry h.flags change.entry) (sym (ap (λ (g : GroupData). g.header) same)) entry.0) entry.1
  no_entry_read last here none change after to (inr is) begins =
      here.no_table (first_byte file place 0x54 _ here.within ((header_here change after to is begins).2 ∙ header_bytes-append change.header (entry_bytes change.entry ++ drop to file)))

  -- where a table is to begin
  pub no_table_read : (0 < place → HasEntry file place → ⊥) → NoTable file place → AreAll file groups
  no_table_read no_entry none change after to (inl adds) begins =
      let size : length (file_bytes groups) ≡ place = omega (arith, Stands-length file 0 place (file_bytes groups) so.begins.stand (omega arith)) in
      no_entry (omega (arith, size, some_bytes adds.closed (group_of change.header adds.entries), ap (λ (gs : List GroupData). length (file_bytes gs)) adds.before_is))
      (HasEntry-entry file place change.entry (drop to file) so.begins.stand.within (entry_here change after to adds begins).1)
    where
      some_bytes : (closed : List GroupData) (last : GroupData) → 0 < length (file_bytes (closed ++ last ∷ []))
      some_bytes [] last = omega (arith, group_bytes_some last, length-append (group_bytes last) [])
      some_bytes (group ∷ closed) last = omega (arith, group_bytes_some group, length-append (group_bytes group) (file_bytes (closed ++ last ∷ [])))
  no_table_read no_entry none change after to (inr is) begins =
      let header = header_here change after to is begins in
      none change.header change.entry (drop to file) header.0 header.1 header.2

-- a header without an entry
pub opened_none : (file : List ℕ) (place start : ℕ) (table : ChangeSpan) (opens : OpensTable file place table start) → NoEntry file opens.header start → NoTable file place
opened_none file place start table opens none header entry rest is_header is_entry spelled =
    let same = opens.only header (entry_bytes entry ++ rest) is_header spelled in
    none entry rest (subst (λ (h : HeaderData). IsEntry h.flags entry) (sym same) is_entry)
    (rest_is file place start (header_bytes opens.header) (entry_bytes entry ++ rest) opens.stands (spelled ∙ ap (λ (h : HeaderData). header_bytes h ++ (entry_bytes entry ++ rest)) (sym same)))

pub bare_none : (file : List ℕ) (place start : ℕ) (header : HeaderData) → Stands file place (header_bytes header) start → ((other : HeaderData) (rest : List ℕ) → IsHeader other → drop place file ≡ header_bytes other ++ rest → header ≡ other)
    → (HasEntry file start → ⊥) → NoTable file place
bare_none file place start header stands only none other entry rest is_header is_entry spelled =
    let same = only other (entry_bytes entry ++ rest) is_header spelled in
    none (HasEntry-entry file start entry rest stands.within
    (rest_is file place start (header_bytes header) (entry_bytes entry ++ rest) stands (spelled ∙ ap (λ (h : HeaderData). header_bytes h ++ (entry_bytes entry ++ rest)) (sym same))))

-- ---- a header

-- exactly one header is at an offset, and ends at one offset
pub same_end : (file : List ℕ) (place a b : ℕ) (found header : HeaderData) → place ≤ length file → Stands file place (header_bytes found) a
    → ((other : HeaderData) (rest : List ℕ) → IsHeader other → drop place file ≡ header_bytes other ++ rest → found ≡ other) → IsHeader header → Stands file place (header_bytes header) b → a ≡ b
same_end file place a b found header within one only is two =
    omega (
      arith,
      ap (λ (h : HeaderData). length (header_bytes h)) (only header (drop b file) is two.spelled),
      Stands-length file place a (header_bytes found) one within,
      Stands-length file place b (header_bytes header) two within,
    )

-- a header begins before the end of the file
pub header_before : (file : List ℕ) (place end : ℕ) (header : HeaderData) → Stands file place (header_bytes header) end → place < length file
header_before file place end header stands = omega (arith, ap length (stands.spelled ∙ header_bytes-append header (drop end file)), length-drop place file)

-- where an entry may begin is no header
pub no_header_here : (file : List ℕ) (place end : ℕ) (header : HeaderData) → HasEntry file place → Stands file place (header_bytes header) end → ⊥
no_header_here file place end header here stands = here.no_table (first_byte file place 0x54 _ here.within (stands.spelled ∙ header_bytes-append header (drop end file)))

-- ---- how many there are

one_more : (groups : List GroupData) (header : HeaderData) (entries : List Entry) → length (changes_of (groups ++ group_of header entries ∷ [])) ≡ length (changes_of groups) + length entries
one_more groups header entries =
    omega (
      arith,
      ap length (flat_map-append (λ (g : GroupData). changes_with g.header g.entries) groups (group_of header entries ∷ [])),
      length-append (changes_of groups) (changes_with header entries ++ []),
      length-append {A = TableChange} (changes_with header entries) [],
      length-map entries (λ (e : Entry). change_of header e),
    )

pub counted_more : (groups : List GroupData) (change : TableChange) (after : List GroupData) → AddsChange groups change after → length (changes_of after) ≡ length (changes_of groups) + 1
counted_more groups change after (inl adds) =
    omega (
      arith,
      ap (λ (gs : List GroupData). length (changes_of gs)) adds.before_is,
      ap (λ (gs : List GroupData). length (changes_of gs)) adds.after_is,
      one_more adds.closed change.header adds.entries,
      one_more adds.closed change.header (adds.entries ++ change.entry ∷ []),
      length-append adds.entries (change.entry ∷ []),
    )
counted_more groups change after (inr is) = omega (arith, ap (λ (gs : List GroupData). length (changes_of gs)) is, one_more groups change.header (change.entry ∷ []))
