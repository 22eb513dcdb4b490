-- A changeset does the same to every state with its key columns numbered.
use Rattle.std.proofs.Common.{◌≡◌, ◌≢◌, ℕ, suc, Bool, true, false, cond, not, List, [], ◌∷◌, length, map, Option, Some, None, All, refl, sym, ap, ◌∙◌}
use Rattle.std.specs.Prelude.{filter, filter_map, option_map}
use Rattle.std.specs.List.{AllByRecursion, cons_option, flat_map}
use Rattle.std.proofs.lemmas.List.{map-append}
use Rattle.std.proofs.lemmas.List.Elements.{recursion_from_All, All-from_recursion}
use Rattle.cs_value.specs.declared.value.OwnedValue.{OwnedValue}
use Rattle.cs_value.specs.State.{SchemaData, State, schema_at, row_at}
use Rattle.cs_wire_entries.specs.declared.entry.Entry.{Entry}
use Rattle.cs_wire.specs.Entry.{after_image}
use Rattle.cs_wire.specs.Changeset.{HeaderData, GroupData}
use Rattle.cs_apply_conflict_kinds.specs.declared.conflict.Noop.{Noop}
use Rattle.cs_apply_conflict_kinds.specs.declared.conflict.Noop.TheVariants.{Report, Ignore}
use Rattle.cs_apply_conflict_kinds.specs.declared.judging.Judgement.TheVariants.{Wider}
use Rattle.cs_apply_conflict_kinds.specs.Judging.{judged, is_skipped, is_compatible}
use Rattle.cs_group.specs.Joining.{table_name}
use Rattle.cs_apply_conflict_kinds.specs.Applying.{PlacedEntry, placed_by, placed_in, placed, placed_key, current, refused_at, IsElsewhere, NoneWider, skipped, compatible_groups, applicable, is_idle_at, ignored_of, heeded_of, heeded, placed_kind, Choices, met_at, met_under, written_for, placed_result, AreApplied}
use Rattle.cs_group.specs.Numbering.{numbered_flags, numbered_header, numbered_group, numbered}
use Rattle.cs_apply_conflict_kinds.proofs.JudgingLemmas.{judgement_same}
use Rattle.cs_group.proofs.KeyPlaceLemmas.{after_image_same}
use Rattle.cs_group.proofs.NumberingLemmas.{places_stay, key_stays}
use Rattle.cs_apply_conflict_kinds.specs.NumberingLaw.{numbered_entry, as_numbered, NumberingDoes}

module _ (state : State) where
  judged_stays : (group : GroupData) → judged state (numbered_group group) ≡ judged state group
  judged_stays group = sym (judgement_same group.header.flags (numbered_flags group.header.flags) (option_map (λ (s : SchemaData). s.flags) (schema_at state group.header.name)) (places_stay group.header.flags))

  judged_each : (groups : List GroupData) → map (judged state) (numbered groups) ≡ map (judged state) groups
  judged_each [] = refl
  judged_each (g ∷ gs) = rw (judged_stays g, judged_each gs) refl

  skipped_stay : (groups : List GroupData) → skipped state (numbered groups) ≡ skipped state groups
  skipped_stay [] = refl
  skipped_stay (g ∷ gs) = rw (judged_stays g) (at (is_skipped (judged state g)) (skipped_stay gs))
    where
      others : List GroupData → List GroupData
      others groups = filter (λ h. is_skipped (judged state h)) groups

      at : (b : Bool) → map table_name (others (numbered gs)) ≡ map table_name (others gs)
          → map table_name (cond b (numbered_group g ∷ others (numbered gs)) (others (numbered gs))) ≡ map table_name (cond b (g ∷ others gs) (others gs))
      at true same = ap (λ (l : List (List ℕ)). g.header.name ∷ l) same
      at false same = same

  compatible_numbered : (groups : List GroupData) → compatible_groups state (numbered groups) ≡ numbered (compatible_groups state groups)
  compatible_numbered [] = refl
  compatible_numbered (g ∷ gs) = rw (judged_stays g, compatible_numbered gs) (at (is_compatible (judged state g)))
    where
      at : (b : Bool) → cond b (numbered_group g ∷ numbered (compatible_groups state gs)) (numbered (compatible_groups state gs)) ≡ numbered (cond b (g ∷ compatible_groups state gs) (compatible_groups state gs))
      at true = refl
      at false = refl

  placed_numbered_in : (header : HeaderData) (entries : List Entry) → map (placed_by (numbered_header header)) entries ≡ map numbered_entry (map (placed_by header) entries)
  placed_numbered_in header [] = refl
  placed_numbered_in header (e ∷ es) = ap (λ (l : List PlacedEntry). placed_by (numbered_header header) e ∷ l) (placed_numbered_in header es)

  placed_numbered : (groups : List GroupData) → placed (numbered groups) ≡ map numbered_entry (placed groups)
  placed_numbered [] = refl
  placed_numbered (g ∷ gs) = rw (placed_numbered_in g.header g.entries, placed_numbered gs) (sym (map-append numbered_entry (placed_in g) (placed gs)))

  applicable_numbered : (groups : List GroupData) → applicable state (numbered groups) ≡ map numbered_entry (applicable state groups)
  applicable_numbered groups = ap placed (compatible_numbered groups) ∙ placed_numbered (compatible_groups state groups)

  placed_key_stays : (p : PlacedEntry) → placed_key (numbered_entry p) ≡ placed_key p
  placed_key_stays p = key_stays p.flags p.entry

  current_stays : (p : PlacedEntry) → current state (numbered_entry p) ≡ current state p
  current_stays p = ap (row_at state p.table) (placed_key_stays p)

  after_stays : (p : PlacedEntry) → after_image (numbered_flags p.flags) p.entry.change ≡ after_image p.flags p.entry.change
  after_stays p = sym (after_image_same p.flags (numbered_flags p.flags) p.entry.change (places_stay p.flags))

  refused_stays : (p : PlacedEntry) → refused_at state (numbered_entry p) ≡ refused_at state p
  refused_stays p = rw (after_stays p) refl

  kind_stays : (p : PlacedEntry) → placed_kind state (numbered_entry p) ≡ placed_kind state p
  kind_stays p = rw (refused_stays p, current_stays p) refl

  idle_stays : (p : PlacedEntry) → is_idle_at state (numbered_entry p) ≡ is_idle_at state p
  idle_stays p = rw (after_stays p, current_stays p) refl

  met_stays : (choose : Choices) (p : PlacedEntry) → met_at state choose (numbered_entry p) ≡ met_at state (as_numbered choose) p
  met_stays choose p = rw (refused_stays p, current_stays p) refl

  written_stays : (choose : Choices) (p : PlacedEntry) → written_for state choose (numbered_entry p) ≡ written_for state (as_numbered choose) p
  written_stays choose p = rw (refused_stays p, placed_key_stays p) refl

  result_stays : (choose : Choices) (p : PlacedEntry) → placed_result state choose (numbered_entry p) ≡ placed_result state (as_numbered choose) p
  result_stays choose p = rw (placed_key_stays p, after_stays p) refl

-- what is taken of numbered entries is what is taken of the entries
filter_map_numbered : {Y : Type 0} (h k : PlacedEntry → Option Y) → ((p : PlacedEntry) → h (numbered_entry p) ≡ k p) → (ps : List PlacedEntry) → filter_map h (map numbered_entry ps) ≡ filter_map k ps
filter_map_numbered h k same [] = refl
filter_map_numbered {Y} h k same (p ∷ ps) = rw (same p) (ap (cons_option (k p)) (filter_map_numbered h k same ps))

flat_map_numbered : {Y : Type 0} (h k : PlacedEntry → List Y) → ((p : PlacedEntry) → h (numbered_entry p) ≡ k p) → (ps : List PlacedEntry) → flat_map h (map numbered_entry ps) ≡ flat_map k ps
flat_map_numbered h k same [] = refl
flat_map_numbered h k same (p ∷ ps) = rw (same p, flat_map_numbered h k same ps) refl

-- and what holds of the ones holds of the others
all_numbered : (P Q : PlacedEntry → Type 0) → ((p : PlacedEntry) → P (numbered_entry p) → Q p) → (ps : List PlacedEntry) → All P (map numbered_entry ps) → All Q ps
all_numbered P Q give ps each = All-from_recursion Q ps (of ps (recursion_from_All P (map numbered_entry ps) each))
  where
    of : (ps : List PlacedEntry) → AllByRecursion P (map numbered_entry ps) → AllByRecursion Q ps
    of [] each = tt
    of (p ∷ ps) each = (give p each.0, of ps each.1)

all_unnumbered : (P Q : PlacedEntry → Type 0) → ((p : PlacedEntry) → Q p → P (numbered_entry p)) → (ps : List PlacedEntry) → All Q ps → All P (map numbered_entry ps)
all_unnumbered P Q give ps each = All-from_recursion P (map numbered_entry ps) (of ps (recursion_from_All Q ps each))
  where
    of : (ps : List PlacedEntry) → AllByRecursion Q ps → AllByRecursion P (map numbered_entry ps)
    of [] each = tt
    of (p ∷ ps) each = (give p each.0, of ps each.1)

module _ (old new : State) (choose : Choices) (ps : List PlacedEntry) where
  abbrev Result : Choices → PlacedEntry → Type 0
  Result choices p = placed_result old choices p ≡ Some (current new p)

  elsewhere : (table key : List ℕ) (p : PlacedEntry) → IsElsewhere (numbered_entry p) table key → IsElsewhere p table key
  elsewhere table key p apart h = apart (h.0, placed_key_stays old p ∙ h.1)

  elsewhere_back : (table key : List ℕ) (p : PlacedEntry) → IsElsewhere p table key → IsElsewhere (numbered_entry p) table key
  elsewhere_back table key p apart h = apart (h.0, sym (placed_key_stays old p) ∙ h.1)

  applied_numbered : AreApplied old ps (as_numbered choose) new → AreApplied old (map numbered_entry ps) choose new
  applied_numbered is = record {
    schemas = is.schemas;
    results = all_unnumbered (Result choose) (Result (as_numbered choose))
        (λ p h. result_stays old choose p ∙ h ∙ ap (λ (o : Option (List OwnedValue)). Some o) (sym (current_stays new p))) ps is.results;
    others = λ table key each.
        is.others table key (all_numbered (λ p. IsElsewhere p table key) (λ p. IsElsewhere p table key) (elsewhere table key) ps each);
  }

  numbered_applied : AreApplied old (map numbered_entry ps) choose new → AreApplied old ps (as_numbered choose) new
  numbered_applied is = record {
    schemas = is.schemas;
    results = all_numbered (Result choose) (Result (as_numbered choose))
        (λ p h. sym (result_stays old choose p) ∙ h ∙ ap (λ (o : Option (List OwnedValue)). Some o) (current_stays new p)) ps is.results;
    others = λ table key each.
        is.others table key (all_unnumbered (λ p. IsElsewhere p table key) (λ p. IsElsewhere p table key) (elsewhere_back table key) ps each);
  }

-- the entries for which a choice is asked
heeded_of_numbered : (noop : Noop) (state : State) (ps : List PlacedEntry) → heeded_of noop state (map numbered_entry ps) ≡ map numbered_entry (heeded_of noop state ps)
heeded_of_numbered Report state ps = refl
heeded_of_numbered Ignore state [] = refl
heeded_of_numbered Ignore state (p ∷ ps) = rw (idle_stays state p, heeded_of_numbered Ignore state ps) (at (not (is_idle_at state p)))
  where
    others : List PlacedEntry
    others = heeded_of Ignore state ps

    at : (b : Bool) → cond b (numbered_entry p ∷ map numbered_entry others) (map numbered_entry others) ≡ map numbered_entry (cond b (p ∷ others) others)
    at true = refl
    at false = refl

-- as many entries are ignored
ignored_of_numbered : (noop : Noop) (state : State) (ps : List PlacedEntry) → length (ignored_of noop state (map numbered_entry ps)) ≡ length (ignored_of noop state ps)
ignored_of_numbered Report state ps = refl
ignored_of_numbered Ignore state [] = refl
ignored_of_numbered Ignore state (p ∷ ps) =
    rw (idle_stays state p) (at (is_idle_at state p) (ignored_of Ignore state (map numbered_entry ps)) (ignored_of Ignore state ps) (ignored_of_numbered Ignore state ps))
  where
    at : (b : Bool) (ns others : List PlacedEntry) → length ns ≡ length others → length (cond b (numbered_entry p ∷ ns) ns) ≡ length (cond b (p ∷ others) others)
    at true ns others same = ap suc same
    at false ns others same = same

heeded_numbered : (noop : Noop) (state : State) (changeset : List GroupData) → heeded noop state (numbered changeset) ≡ map numbered_entry (heeded noop state changeset)
heeded_numbered noop state changeset = ap (heeded_of noop state) (applicable_numbered state changeset) ∙ heeded_of_numbered noop state (applicable state changeset)

met_stay : (noop : Noop) (state : State) (changeset : List GroupData) (choose : Choices) → met_under noop state (numbered changeset) choose ≡ met_under noop state changeset (as_numbered choose)
met_stay noop state changeset choose =
    ap (flat_map (met_at state choose)) (heeded_numbered noop state changeset)
    ∙ flat_map_numbered (met_at state choose) (met_at state (as_numbered choose)) (met_stays state choose) (heeded noop state changeset)

abbrev MeetsNone : State → PlacedEntry → Type 0
MeetsNone state p = placed_kind state p ≡ None

none_meets : (state : State) (changeset : List GroupData) → All (MeetsNone state) (applicable state changeset) → All (MeetsNone state) (applicable state (numbered changeset))
none_meets state changeset each =
    rw (applicable_numbered state changeset) (all_unnumbered (MeetsNone state) (MeetsNone state) (λ p none. kind_stays state p ∙ none) (applicable state changeset) each)

meets_none : (state : State) (changeset : List GroupData) → All (MeetsNone state) (applicable state (numbered changeset)) → All (MeetsNone state) (applicable state changeset)
meets_none state changeset each =
    all_numbered (MeetsNone state) (MeetsNone state) (λ p none. sym (kind_stays state p) ∙ none) (applicable state changeset) (rw (applicable_numbered state changeset) at each)

none_wider : (state : State) (changeset : List GroupData) → NoneWider state changeset → NoneWider state (numbered changeset)
none_wider state changeset none = All-from_recursion _ (numbered changeset) (of changeset (recursion_from_All _ changeset none))
  where
    of : (groups : List GroupData) → AllByRecursion (λ g. judged state g ≢ Wider) groups → AllByRecursion (λ g. judged state g ≢ Wider) (numbered groups)
    of [] each = tt
    of (g ∷ gs) each = (λ wider. each.0 (sym (judged_stays state g) ∙ wider), of gs each.1)

wider_none : (state : State) (changeset : List GroupData) → NoneWider state (numbered changeset) → NoneWider state changeset
wider_none state changeset none = All-from_recursion _ changeset (of changeset (recursion_from_All _ (numbered changeset) none))
  where
    of : (groups : List GroupData) → AllByRecursion (λ g. judged state g ≢ Wider) (numbered groups) → AllByRecursion (λ g. judged state g ≢ Wider) groups
    of [] each = tt
    of (g ∷ gs) each = (λ wider. each.0 (judged_stays state g ∙ wider), of gs each.1)

-- a changeset does the same to every state
pub does_alike : NumberingDoes
does_alike changeset = record {
  judged = λ state. judged_each state changeset;
  skipped = λ state. skipped_stay state changeset;
  ignored = λ noop state. ap (λ (ps : List PlacedEntry). length (ignored_of noop state ps)) (applicable_numbered state changeset) ∙ ignored_of_numbered noop state (applicable state changeset);
  met = λ noop state choose. met_stay noop state changeset choose;
  clean = λ state. (
    λ is. record { none_wider = none_wider state changeset is.none_wider; no_conflict = none_meets state changeset is.no_conflict },
    λ is. record { none_wider = wider_none state changeset is.none_wider; no_conflict = meets_none state changeset is.no_conflict },
  );
  written = λ noop state choose.
      ap (filter_map (written_for state choose)) (heeded_numbered noop state changeset)
      ∙ filter_map_numbered (written_for state choose) (written_for state (as_numbered choose)) (written_stays state choose) (heeded noop state changeset);
  applied = λ noop old new choose. (
    λ is. rw (heeded_numbered noop old changeset) (applied_numbered old new choose (heeded noop old changeset) is),
    λ is. numbered_applied old new choose (heeded noop old changeset) (rw (heeded_numbered noop old changeset) at is),
  );
}
