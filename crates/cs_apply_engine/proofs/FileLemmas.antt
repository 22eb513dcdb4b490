-- A run through a file, table by table.
use Rattle.std.proofs.Common.{◌≡◌, ◌≢◌, ℕ, List, [], ◌∷◌, ◌++◌, append_assoc, refl, sym, ap, subst, ◌∙◌}
use Rattle.std.specs.List.{AllByRecursion}
use Rattle.std.proofs.lemmas.List.{append-nil}
use Rattle.cs_value.specs.State.{State}
use Rattle.cs_wire_entries.specs.declared.entry.Entry.{Entry}
use Rattle.cs_wire.specs.declared.header.HeaderRef.{HeaderRef}
use Rattle.cs_wire.specs.Changeset.{GroupData, HeaderData, IsFileOf, IsGroup}
use Rattle.cs_wire.specs.Headers.{header_of}
use Rattle.cs_wire.specs.Items.{FlaggedEntry}
use Rattle.cs_file_scan.specs.Tables.{EntriesLeft, IsNextEntry, IsNextTable, TablesData}
use Rattle.cs_file_scan.proofs.TablesLemmas.{PassedEntries, PassedEntries-all, PassedEntries-next}
use Rattle.cs_apply_engine.specs.declared.run.Run.{Run}
use Rattle.cs_apply_engine.specs.declared.running.Direction.{Direction}
use Rattle.cs_apply_engine.specs.Running.{Handler, directed}
use Rattle.cs_apply_engine.specs.Run.{IsBehind, IsNewEntry, directed_entry, directed_group, group_of}
use Rattle.cs_apply_engine.proofs.DirectedLemmas.{directed_entries, directed_more, directed_one, entry_behind, group_whole, table_new}

-- ---- the entries of a table

-- of the entries that were left these were carried out, which take a run past tables of other names further
pub record RunsEntries (chooses : Handler) (d : Direction) (h : HeaderData) (now : TablesData) (start run : Run) (honest : Type 0) (first after : State) (entries : List Entry) (others : List GroupData) : Type 0 where
  pub done : List Entry
  pub passed : PassedEntries done now entries others
  pub behind : honest → (before : State) (closed : List GroupData) → IsGroup (group_of h entries) → AllByRecursion (λ g. g.header.name ≢ h.name) closed → IsBehind chooses before closed start first
      → IsBehind chooses before (closed ++ group_of h (directed_entries d h.flags done) ∷ []) run after

module _ (chooses : Handler) (d : Direction) (h : HeaderData) (now : TablesData) (start run : Run) (honest : Type 0) (first a : State) (entries : List Entry) (others : List GroupData)
    (so : RunsEntries chooses d h now start run honest first a entries others) (own : now.flags ≡ h.flags) where
  pub entries_next : (next : TablesData) (seen : FlaggedEntry) (shown : FlaggedEntry) (further : Run) (later : Type 0) (b : State) → IsNextEntry now.flags so.passed.others others seen next
      → shown ≡ record { flags = seen.flags; entry = directed_entry d seen.flags seen.entry } → (later → honest)
      → (later → (before : State) (closed : List GroupData) (header : HeaderData) (es : List Entry) → shown.flags ≡ header.flags → IsNewEntry closed header es shown.entry
      → IsBehind chooses before (closed ++ group_of header es ∷ []) run a → IsBehind chooses before (closed ++ group_of header (es ++ shown.entry ∷ []) ∷ []) further b)
      → RunsEntries chooses d h next start further later first b entries others
  entries_next next seen shown further later b is shown_is back step =
      let flags : seen.flags ≡ h.flags = is.flags_are ∙ own in
      let shown_flags : shown.flags ≡ h.flags = ap (λ (x : FlaggedEntry). x.flags) shown_is ∙ flags in
      let entry_is : shown.entry ≡ directed_entry d h.flags seen.entry = ap (λ (x : FlaggedEntry). x.entry) shown_is ∙ ap (λ fs. directed_entry d fs seen.entry) flags in
      let whole : entries ≡ so.done ++ seen.entry ∷ is.others = so.passed.whole ∙ ap (λ (es : List Entry). so.done ++ es) is.is in
      record {
        done = so.done ++ seen.entry ∷ [];
        passed = PassedEntries-next so.done (so.done ++ seen.entry ∷ []) now next entries others so.passed seen is refl;
        behind = λ l before closed group names was.
            let new = entry_behind d closed h so.done is.others seen.entry (rw (← whole) group) names in
            rw (directed_more d h.flags so.done seen.entry, ← entry_is)
            (step l before closed h (directed_entries d h.flags so.done) shown_flags (rw entry_is new) (so.behind (back l) before closed group names was));
      }

  pub entries_all : so.passed.others ≡ [] → honest → (before : State) (closed : List GroupData) → IsGroup (group_of h entries) → AllByRecursion (λ g. g.header.name ≢ h.name) closed → IsBehind chooses before closed start first
      → IsBehind chooses before (closed ++ directed_group d (group_of h entries) ∷ []) run a
  entries_all none is before closed group names was =
      let all = PassedEntries-all so.done now entries others so.passed none in
      let whole = ap (λ (es : List Entry). group_of h (directed_entries d h.flags es)) (sym all) ∙ group_whole d (group_of h entries) in
      rw (← whole) (so.behind is before closed group names was)

-- ---- the tables of a file

-- the run is past these tables of a file
pub record RunsTables (chooses : Handler) (d : Direction) (file : List ℕ) (now : TablesData) (run : Run) (honest was_honest : Type 0) (before after : State) : Type 0 where
  pub groups : List GroupData
  pub is_file : IsFileOf file groups
  pub closed : List GroupData
  pub others : List GroupData
  pub whole : groups ≡ closed ++ others
  pub are_left : EntriesLeft now [] others
  pub behind : honest → was_honest × IsBehind chooses before (directed d closed) run after

module _ (chooses : Handler) (d : Direction) (file : List ℕ) (now : TablesData) (run : Run) (honest was : Type 0) (s a : State) (so : RunsTables chooses d file now run honest was s a) where
  pub tables_next : (header : HeaderRef) (opened next : TablesData) (further : Run) (later : Type 0) (b : State) (is : IsNextTable so.others header opened) → EntriesLeft next [] is.others → (later → honest)
      → (later → (before : State) (closed : List GroupData) (entries : List Entry) (others : List GroupData) → EntriesLeft opened entries others → IsGroup (group_of (header_of header) entries)
      → AllByRecursion (λ g. g.header.name ≢ (header_of header).name) closed → IsBehind chooses before closed run a
      → IsBehind chooses before (closed ++ directed_group d (group_of (header_of header) entries) ∷ []) further b)
      → RunsTables chooses d file next further later was s b
  tables_next header opened next further later b is left back step =
      let group : group_of (header_of header) is.group.entries ≡ is.group = ap (λ h. group_of h is.group.entries) is.header_is in
      let whole : so.groups ≡ so.closed ++ is.group ∷ is.others = so.whole ∙ ap (λ (gs : List GroupData). so.closed ++ gs) is.is in
      let names = table_new d so.closed is.others is.group (rw (← whole) so.is_file.0) in
      let own = subst (λ (name : List ℕ). AllByRecursion (λ g. g.header.name ≢ name) (directed d so.closed)) (sym (ap (λ (h : HeaderData). h.name) is.header_is)) names in
      record {
        groups = so.groups;
        is_file = so.is_file;
        closed = so.closed ++ is.group ∷ [];
        others = is.others;
        whole = whole ∙ sym (append_assoc so.closed (is.group ∷ []) is.others);
        are_left = left;
        behind = λ l.
            let it = so.behind (back l) in (
              it.0,
              rw (directed_one d so.closed is.group)
                  (rw group at (step l s (directed d so.closed) is.group.entries is.others is.are_left (rw group is.is_group) own it.1)),
            );
      }

  pub tables_all : so.others ≡ [] → honest → IsBehind chooses s (directed d so.groups) run a
  tables_all none is = rw (so.whole, none, append-nil so.closed) ((so.behind is).1)
