-- What a script sees of a session: whole tables, where the session has first images.
use Rattle.std.proofs.Common.{bytes_eq, ◌≡◌, ◌≢◌, ℕ, suc, ◌+◌, ◌||◌, Bool, true, false, cond, List, [], ◌∷◌, ◌++◌, length, map, filter_map, Option, Some, None, option_map, refl, sym, ap, ◌∙◌, arith, length-append}
use Rattle.std.specs.Prelude.{unwrap_or, is_some}
use Rattle.std.specs.List.{AllByRecursion, AllZip, flat_map, list_any, cons_option}
use Rattle.std.specs.FinMap.{get}
use Rattle.std.specs.Cmp.Lexicographic.{same_text, nat_list_eq_equiv}
use Rattle.std.proofs.lemmas.List.{map-append, length-map}
use Rattle.std.proofs.lemmas.List.Elements.{recursion_from_All}
use Rattle.cs_value.specs.declared.value.OwnedValue.{OwnedValue}
use Rattle.cs_value.specs.State.{State, WrittenData, schema_at, rows_at, row_at, with_rows}
use Rattle.cs_value.proofs.ListLemmas.{PairsByRecursion, recursion_from_AllPairs}
use Rattle.cs_wire_entries.specs.declared.entry.Entry.{Entry}
use Rattle.cs_wire.specs.Changeset.{HeaderData, GroupData}
use Rattle.cs_wire.specs.Inverse.{IsInverseGroup, IsInverseEntry}
use Rattle.cs_apply_conflict_kinds.specs.declared.conflict.Kind.{Kind}
use Rattle.cs_apply_conflict_kinds.specs.declared.judging.Judgement.TheVariants.{Compatible}
use Rattle.cs_apply_conflict_kinds.specs.Judging.{judgement, judged}
use Rattle.cs_group.specs.Net.{net_entry}
use Rattle.cs_apply_conflict_kinds.specs.declared.conflict.Noop.TheVariants as noop
use Rattle.cs_apply_conflict_kinds.specs.Applying.{PlacedEntry, placed, placed_in, placed_by, placed_kind, Choices, met_at, met_under, written_for, written, compatible_groups, applicable}
use Rattle.cs_session_notes.specs.FirstImages.{FirstImage, AttachedTable, Notes, IsAttachedTable, IsNotes, HasAttached, first_at, rewound_rows, rewound, rewound_state, noted, noted_in, writes_of, recorded, entry_since, header_of, group_of, recorded_changes}
use Rattle.cs_session_notes.proofs.FirstLemmas.{put_all_at}
use Rattle.cs_session.proofs.ChangesLemmas.{all_compatible}
use Rattle.cs_shell_executor.specs.ShellState.{with_keys, touch, net_entries, net_of, net_count, put_back}
use Rattle.cs_shell_executor.specs.Works.{seen_table}

-- ---- keys that are noted

first_some : (firsts : List FirstImage) (key : List ℕ) → is_some (first_at firsts key) ≡ list_any (λ k. bytes_eq k key) (map (λ (f : FirstImage). f.key) firsts)
first_some [] key = refl
first_some (f ∷ firsts) key = at (bytes_eq f.key key) (first_some firsts key)
  where
    at : (b : Bool) → is_some (first_at firsts key) ≡ list_any (λ k. bytes_eq k key) (map (λ (f : FirstImage). f.key) firsts)
        → is_some (cond b (Some f.row) (first_at firsts key)) ≡ (b || list_any (λ k. bytes_eq k key) (map (λ (f : FirstImage). f.key) firsts))
    at true others = refl
    at false others = others

noted_keys : (firsts : List FirstImage) (written : List WrittenData)
    → map (λ (f : FirstImage). f.key) (noted firsts written) ≡ with_keys (map (λ (f : FirstImage). f.key) firsts) (map (λ (w : WrittenData). w.key) written)
noted_keys firsts [] = refl
noted_keys firsts (w ∷ written) =
    at (is_some (first_at firsts w.key)) (list_any (λ k. bytes_eq k w.key) keys) (first_some firsts w.key)
    (noted_keys firsts written)
    (noted_keys (firsts ++ new ∷ []) written ∙ ap (λ (ks : List (List ℕ)). with_keys ks more) (map-append (λ (f : FirstImage). f.key) firsts (new ∷ [])))
  where
    new : FirstImage
    new = record { key = w.key; row = w.former }

    keys : List (List ℕ)
    keys = map (λ (f : FirstImage). f.key) firsts

    more : List (List ℕ)
    more = map (λ (w : WrittenData). w.key) written

    at : (b c : Bool) → b ≡ c → map (λ (f : FirstImage). f.key) (noted firsts written) ≡ with_keys keys more
        → map (λ (f : FirstImage). f.key) (noted (firsts ++ new ∷ []) written) ≡ with_keys (keys ++ w.key ∷ []) more
        → map (λ (f : FirstImage). f.key) (cond b (noted firsts written) (noted (firsts ++ new ∷ []) written)) ≡ cond c (with_keys keys more) (with_keys (keys ++ w.key ∷ []) more)
    at true true same here there = here
    at true false same here there = absurd (cc)
    at false true same here there = absurd (cc)
    at false false same here there = there

-- ---- tables that are seen

seen_noted : (old new : State) (w : List WrittenData) (table : AttachedTable) → rewound_rows new (noted_in w table) ≡ rewound_rows old table
    → seen_table new (noted_in w table) ≡ touch w (seen_table old table)
seen_noted old new w table same =
    let keys = noted_keys table.firsts (writes_of table.name w) in
    λ i. record { name = table.name; schema = table.schema; saved = same i; touched = keys i }

-- writes are noted where the rows from before stay
pub seen_recorded : (old new : State) (w : List WrittenData) (notes : Notes) → rewound (recorded notes w) new ≡ rewound notes old
    → map (seen_table new) (recorded notes w) ≡ map (touch w) (map (seen_table old) notes)
seen_recorded old new w [] same = refl
seen_recorded old new w (table ∷ notes) same =
    let head : rewound_rows new (noted_in w table) ≡ rewound_rows old table = cc in
    let tail : rewound (recorded notes w) new ≡ rewound notes old = cc in
    let first = seen_noted old new w table head in
    let others = seen_recorded old new w notes tail in
    cc (first, others)

-- nothing is noted
pub seen_same : (old new : State) (notes : Notes) → rewound notes new ≡ rewound notes old → map (seen_table new) notes ≡ map (seen_table old) notes
seen_same old new [] same = refl
seen_same old new (table ∷ notes) same =
    let head : rewound_rows new table ≡ rewound_rows old table = cc in
    let tail : rewound notes new ≡ rewound notes old = cc in
    let first : seen_table new table ≡ seen_table old table =
    λ i. record { name = table.name; schema = table.schema; saved = head i; touched = map (λ (f : FirstImage). f.key) table.firsts } in
    let others = seen_same old new notes tail in
    cc (first, others)

-- ---- the net changes

module _ (state : State) where
  -- the first row of a key is the one in the whole table
  IsSaved : AttachedTable → FirstImage → Type 0
  IsSaved table first = first_at table.firsts first.key ≡ Some first.row

  saved_entry : (table : AttachedTable) (first : FirstImage) → IsSaved table first
      → net_entry table.schema.flags (get (rewound_rows state table) first.key) (row_at state table.name first.key) ≡ entry_since state table first
  unfolding IsSaved
  saved_entry table first saved =
      let there : get (rewound_rows state table) first.key ≡ first.row =
      put_all_at table.firsts (rows_at state table.name) first.key ∙ ap (λ (o : Option (Option (List OwnedValue))). unwrap_or o (row_at state table.name first.key)) saved in
      ap (λ (row : Option (List OwnedValue)). net_entry table.schema.flags row (row_at state table.name first.key)) there

  saved_entries : (table : AttachedTable) (firsts : List FirstImage) → AllByRecursion (IsSaved table) firsts
      → filter_map (λ key. net_entry table.schema.flags (get (rewound_rows state table) key) (row_at state table.name key)) (map (λ (f : FirstImage). f.key) firsts)
      ≡ filter_map (entry_since state table) firsts
  saved_entries table [] saved = refl
  saved_entries table (first ∷ firsts) saved =
      let here = saved_entry table first saved.0 in
      let others = saved_entries table firsts saved.1 in
      rw (here, others) refl

  first_apart : (first : FirstImage) (firsts more : List FirstImage) → AllByRecursion (λ (g : FirstImage). first.key ≢ g.key) more → AllByRecursion (λ (g : FirstImage). first_at firsts g.key ≡ Some g.row) more
      → AllByRecursion (λ (g : FirstImage). first_at (first ∷ firsts) g.key ≡ Some g.row) more
  first_apart first firsts [] apart saved = tt
  first_apart first firsts (g ∷ more) apart saved = (at (bytes_eq first.key g.key) refl, first_apart first firsts more apart.1 saved.1)
    where
      at : (b : Bool) → bytes_eq first.key g.key ≡ b → cond b (Some first.row) (first_at firsts g.key) ≡ Some g.row
      at true same = absurd (apart.0 (same_text first.key g.key (sym same)))
      at false same = saved.0

  first_here : (first : FirstImage) (firsts : List FirstImage) → first_at (first ∷ firsts) first.key ≡ Some first.row
  first_here first firsts = rw (nat_list_eq_equiv.refl first.key) refl

  each_first : (firsts : List FirstImage) → PairsByRecursion (λ (f g : FirstImage). f.key ≢ g.key) firsts → AllByRecursion (λ (g : FirstImage). first_at firsts g.key ≡ Some g.row) firsts
  each_first [] apart = tt
  each_first (first ∷ firsts) apart = (first_here first firsts, first_apart first firsts firsts apart.0 (each_first firsts apart.1))

  each_saved : (table : AttachedTable) → IsAttachedTable table → AllByRecursion (IsSaved table) table.firsts
  unfolding IsSaved
  each_saved table is = each_first table.firsts (recursion_from_AllPairs (λ (f g : FirstImage). f.key ≢ g.key) table.firsts is.once)

  -- the entries of a table
  pub seen_entries : (table : AttachedTable) → IsAttachedTable table → net_entries state (seen_table state table) ≡ filter_map (entry_since state table) table.firsts
  seen_entries table is = saved_entries table table.firsts (each_saved table is)

  each_net : (notes : Notes) → AllByRecursion IsAttachedTable notes → net_of state (map (seen_table state) notes) ≡ recorded_changes notes state
  each_net [] each = refl
  each_net (table ∷ notes) each =
      let here = seen_entries table each.0 in
      let others = each_net notes each.1 in
      rw (here, others) refl

  -- the net changeset of a session is that of the whole tables
  pub seen_net : (notes : Notes) → IsNotes notes → net_of state (map (seen_table state) notes) ≡ recorded_changes notes state
  seen_net notes are = each_net notes (recursion_from_All IsAttachedTable notes are.each)

  -- the tables are put back
  pub seen_back : (notes : Notes) → put_back (map (seen_table state) notes) state ≡ rewound_state notes state
  seen_back [] = refl
  seen_back (table ∷ notes) = ap (λ (tables : State). with_rows tables table.name (rewound_rows state table)) (seen_back notes)

  -- ---- how many there are

  each_count : (notes : Notes) → AllByRecursion IsAttachedTable notes → net_count state (map (seen_table state) notes) ≡ length (placed (recorded_changes notes state))
  each_count [] each = refl
  each_count (table ∷ notes) each =
      let here = seen_entries table each.0 in
      rw here (at (filter_map (entry_since state table) table.firsts) (each_count notes each.1))
    where
      at : (es : List Entry) → net_count state (map (seen_table state) notes) ≡ length (placed (recorded_changes notes state))
          → length (es ++ flat_map (net_entries state) (map (seen_table state) notes)) ≡ length (placed (cons_option (group_of (header_of table) es) (recorded_changes notes state)))
      at [] others = others
      at (e ∷ es) others =
          length-append (e ∷ es) (flat_map (net_entries state) (map (seen_table state) notes))
          ∙ ap (λ n. length (e ∷ es) + n) others
          ∙ ap (λ n. n + length (placed (recorded_changes notes state))) (sym (length-map (e ∷ es) (placed_by (header_of table))))
          ∙ sym (length-append (map (placed_by (header_of table)) (e ∷ es)) (placed (recorded_changes notes state)))

zip_length : {X Y : Type 0} (R : X → Y → Type 0) (xs : List X) (ys : List Y) → AllZip R xs ys → length ys ≡ length xs
zip_length R [] [] zip = refl
zip_length R [] (y ∷ ys) zip = absurd zip
zip_length R (x ∷ xs) [] zip = absurd zip
zip_length R (x ∷ xs) (y ∷ ys) zip = ap (λ n. suc n) (zip_length R xs ys zip.1)

module _ (state : State) where
  -- an inverse has as many entries, and its tables are as well there
  inverse_count : (changeset inverse : List GroupData) → AllByRecursion (λ g. judged state g ≡ Compatible) changeset → AllZip IsInverseGroup changeset inverse
      → length (placed (compatible_groups state inverse)) ≡ length (placed changeset)
  inverse_count [] [] all zip = refl
  inverse_count [] (h ∷ inverse) all zip = absurd zip
  inverse_count (g ∷ changeset) [] all zip = absurd zip
  inverse_count (g ∷ changeset) (h ∷ inverse) all zip =
      let same : judged state h ≡ Compatible = ap (λ (header : HeaderData). judgement header.flags (option_map (λ s. s.flags) (schema_at state header.name))) zip.0.header ∙ all.0 in
      let many : length (placed_in h) ≡ length (placed_in g) =
      length-map h.entries (placed_by h.header) ∙ zip_length (IsInverseEntry g.header.flags) g.entries h.entries zip.0.entries ∙ sym (length-map g.entries (placed_by g.header)) in
      let others = inverse_count changeset inverse all.1 zip.1 in
      rw same (length-append (placed_in h) (placed (compatible_groups state inverse)) ∙ omega (arith, many, others) ∙ sym (length-append (placed_in g) (placed changeset)))

  -- if there is no conflict each entry is carried out
  all_written : (choose : Choices) (ps : List PlacedEntry) → flat_map (met_at state choose) ps ≡ [] → length (filter_map (written_for state choose) ps) ≡ length ps
  all_written choose [] none = refl
  all_written choose (p ∷ ps) none = at (placed_kind state p) refl (all_written choose ps)
    where
      at : (o : Option Kind) → placed_kind state p ≡ o → (flat_map (met_at state choose) ps ≡ [] → length (filter_map (written_for state choose) ps) ≡ length ps)
          → length (filter_map (written_for state choose) (p ∷ ps)) ≡ length (p ∷ ps)
      at None is others = rw is (ap (λ n. suc n) (others (rw is at none)))
      at (Some kind) is others = absurd (let some = rw is at none in cc)

  -- an undo writes as many keys as there are net changes
  pub undo_count : (notes : Notes) → IsNotes notes → AllByRecursion (HasAttached state) notes → (inverse : List GroupData) (choose : Choices)
      → AllZip IsInverseGroup (recorded_changes notes state) inverse → met_under noop.Report state inverse choose ≡ []
      → length (written state inverse choose) ≡ net_count state (map (seen_table state) notes)
  undo_count notes are has inverse choose zip none =
      all_written choose (applicable state inverse) none
      ∙ inverse_count (recorded_changes notes state) inverse (all_compatible state state notes has) zip
      ∙ sym (each_count state notes (recursion_from_All IsAttachedTable notes are.each))
