-- How runs go on, one after another.
use Rattle.std.proofs.Common.{◌≡◌, Bool, true, false, if◌then◌else◌, ◌&&◌, ◌||◌, nat_eq, List, [], ◌∷◌, ◌++◌, map, filter_map, Option, Some, None, append_assoc, refl, sym, ap, ap₂, subst, ◌∙◌, arith}
use Rattle.std.specs.List.{AllByRecursion, flat_map}
use Rattle.std.specs.Cmp.Lexicographic.{pointwise, same_text, nat_list_eq_equiv}
use Rattle.std.proofs.lemmas.Bool.{or_right}
use Rattle.std.proofs.lemmas.List.{append-nil}
use Rattle.std.proofs.lemmas.List.Elements.{filter_map-append, recursion_from_All, All-from_recursion}
use Rattle.std.proofs.lemmas.Grind.{flat_map-append}
use Rattle.cs_value.specs.declared.value.OwnedValue.{OwnedValue}
use Rattle.cs_value.specs.State.{State, WrittenData}
use Rattle.cs_value.proofs.ListLemmas.{AllByRecursion-append, AllByRecursion-append_left, AllByRecursion-append_right, AllByRecursion-weaker}
use Rattle.cs_apply_conflict_kinds.specs.declared.conflict.Kind.{Kind}
use Rattle.cs_apply_conflict_kinds.specs.declared.conflict.Choice.{Choice}
use Rattle.cs_apply_conflict_kinds.specs.Conflicts.{is_refused, kinds_met, is_carried_out, entry_result}
use Rattle.cs_apply_conflict_kinds.specs.Applying.{PlacedEntry, placed_key, current, refused_at, IsElsewhere, MetData, Choices, met_with, met_at, written_for, placed_result, AreApplied, omit_all}
use Rattle.cs_apply_conflict_kinds.proofs.ApplyLemmas.{refuses_same}
use Rattle.cs_apply_engine.specs.declared.conflict.Met.{Met}
use Rattle.cs_apply_engine.specs.declared.tally.Tally.{Tally}
use Rattle.cs_apply_engine.specs.Report.{met_of}
use Rattle.cs_apply_engine.specs.Tally.{Tallies}
use Rattle.cs_apply_engine.specs.Running.{Handler}
use Rattle.cs_apply_engine.specs.Steps.{Carries, Stops}

-- ---- lists

pub each_both : {X : Type 0} (P Q R : X → Type 0) (xs : List X) → ((x : X) → P x → Q x → R x) → AllByRecursion P xs → AllByRecursion Q xs → AllByRecursion R xs
each_both P Q R [] f p q = tt
each_both P Q R (x ∷ xs) f p q = (f x p.0 q.0, each_both P Q R xs f p.1 q.1)

filter_map_same : {X Y : Type 0} (f g : X → Option Y) (xs : List X) → AllByRecursion (λ x. f x ≡ g x) xs → filter_map f xs ≡ filter_map g xs
filter_map_same f g [] same = refl
filter_map_same f g (x ∷ xs) same = let first = same.0 in let others = filter_map_same f g xs same.1 in cc (first, others)

flat_map_same : {X Y : Type 0} (f g : X → List Y) (xs : List X) → AllByRecursion (λ x. f x ≡ g x) xs → flat_map f xs ≡ flat_map g xs
flat_map_same f g [] same = refl
flat_map_same f g (x ∷ xs) same = let first = same.0 in let others = flat_map_same f g xs same.1 in cc (first, others)

-- ---- entries of other rows

-- each of the second entries is of another row than each of the first
abbrev pub Apart : List PlacedEntry → List PlacedEntry → Type 0
Apart ps qs = AllByRecursion (λ q. AllByRecursion (λ p. IsElsewhere p q.table (placed_key q)) ps) qs

flip : (p q : PlacedEntry) → IsElsewhere p q.table (placed_key q) → IsElsewhere q p.table (placed_key p)
flip p q apart here = apart (sym here.0, sym here.1)

apart_head : (p : PlacedEntry) (ps qs : List PlacedEntry) → Apart (p ∷ ps) qs → AllByRecursion (λ q. IsElsewhere q p.table (placed_key p)) qs
apart_head p ps [] apart = tt
apart_head p ps (q ∷ qs) apart = (flip p q apart.0.0, apart_head p ps qs apart.1)

apart_tail : (p : PlacedEntry) (ps qs : List PlacedEntry) → Apart (p ∷ ps) qs → Apart ps qs
apart_tail p ps [] apart = tt
apart_tail p ps (q ∷ qs) apart = (apart.0.1, apart_tail p ps qs apart.1)

-- whether an entry is of the row of one of these
abbrev is_at : PlacedEntry → PlacedEntry → Bool
is_at q p = pointwise nat_eq p.table q.table && pointwise nat_eq (placed_key p) (placed_key q)

abbrev is_among : List PlacedEntry → PlacedEntry → Bool
is_among [] q = false
is_among (p ∷ ps) q = is_at q p || is_among ps q

at_itself : (p : PlacedEntry) → is_at p p ≡ true
at_itself p = rw (nat_list_eq_equiv.refl p.table, nat_list_eq_equiv.refl (placed_key p)) refl

not_at : (p q : PlacedEntry) → IsElsewhere p q.table (placed_key q) → is_at q p ≡ false
not_at p q apart = by (pointwise nat_eq p.table q.table) (pointwise nat_eq (placed_key p) (placed_key q)) refl refl
  where
    by : (a b : Bool) → a ≡ pointwise nat_eq p.table q.table → b ≡ pointwise nat_eq (placed_key p) (placed_key q) → (a && b) ≡ false
    by true true e f = absurd (apart (same_text p.table q.table e, same_text (placed_key p) (placed_key q) f))
    by true false e f = refl
    by false b e f = refl

not_among : (ps : List PlacedEntry) (q : PlacedEntry) → AllByRecursion (λ p. IsElsewhere p q.table (placed_key q)) ps → is_among ps q ≡ false
not_among [] q apart = refl
not_among (p ∷ ps) q apart = rw (not_at p q apart.0, not_among ps q apart.1) refl

all_among : (ps : List PlacedEntry) → AllByRecursion (λ p. is_among ps p ≡ true) ps
all_among [] = tt
all_among (p ∷ ps) = (rw (at_itself p) refl, AllByRecursion-weaker _ _ (λ q e. or_right (is_at q p) (is_among ps q) e) ps (all_among ps))

-- ---- one run after another

abbrev met_by : Bool → PlacedEntry → Option (List OwnedValue) → (Kind → Choice) → List MetData
met_by refused p row choose = met_with refused p row choose

abbrev written_by : Bool → PlacedEntry → Option (List OwnedValue) → (Kind → Choice) → Option WrittenData
written_by refused p row choose = if is_carried_out (kinds_met refused p.entry.change row choose) choose then Some (record { table = p.table; key = placed_key p; former = row }) else None

-- the choices of the first run for its entries, and else those of the second
abbrev both_choices : List PlacedEntry → Choices → Choices → Choices
both_choices ps first second p = if is_among ps p then first p else second p

module _ (ps qs : List PlacedEntry) (a b : State) (first second : Choices) (apart : Apart ps qs) (applied : AreApplied a ps first b) where
  abbrev both : Choices
  both = both_choices ps first second

  chosen_first : AllByRecursion (λ p. both p ≡ first p) ps
  chosen_first = AllByRecursion-weaker _ _ (λ p e. rw e refl) ps (all_among ps)

  -- the rows of the second run are as before the first
  pub same_rows : AllByRecursion (λ q. current b q ≡ current a q) qs
  same_rows = AllByRecursion-weaker _ _ (λ q away. applied.others q.table (placed_key q) (All-from_recursion _ ps away)) qs apart

  chosen_second : AllByRecursion (λ q. both q ≡ second q) qs
  chosen_second = AllByRecursion-weaker _ (λ q. both q ≡ second q) (λ q away. rw (not_among ps q away) refl) qs apart

  -- and so are the rules of its tables
  pub same_rules : (q : PlacedEntry) → refused_at b q ≡ refused_at a q
  same_rules q = ap (λ (rules : List Bool). is_refused rules q.flags q.entry.change) (refuses_same a b applied.schemas q.table)

  -- what is reported by rules, row and choice is reported alike
  by_row : {Y : Type 0} (f : Bool → PlacedEntry → Option (List OwnedValue) → (Kind → Choice) → Option Y)
      → filter_map (λ p. f (refused_at a p) p (current a p) (first p)) ps ++ filter_map (λ q. f (refused_at b q) q (current b q) (second q)) qs ≡ filter_map (λ p. f (refused_at a p) p (current a p) (both p)) (ps ++ qs)
  by_row {Y} f =
      let one : filter_map (λ p. f (refused_at a p) p (current a p) (first p)) ps ≡ filter_map (λ p. f (refused_at a p) p (current a p) (both p)) ps =
      filter_map_same _ _ ps (AllByRecursion-weaker _ _ (λ p e. ap (f (refused_at a p) p (current a p)) (sym e)) ps chosen_first) in
      let two : filter_map (λ q. f (refused_at b q) q (current b q) (second q)) qs ≡ filter_map (λ q. f (refused_at a q) q (current a q) (both q)) qs =
      filter_map_same _ _ qs (each_both _ _ _ qs (λ q row e. ap₂ (λ refused o. f refused q o (second q)) (same_rules q) row ∙ ap (f (refused_at a q) q (current a q)) (sym e)) same_rows chosen_second) in
      ap (λ (l : List Y). l ++ filter_map (λ q. f (refused_at b q) q (current b q) (second q)) qs) one
      ∙ ap (λ (l : List Y). filter_map (λ p. f (refused_at a p) p (current a p) (both p)) ps ++ l) two
      ∙ sym (filter_map-append (λ p. f (refused_at a p) p (current a p) (both p)) ps qs)

  -- and so are conflicts; one entry may have several
  all_by_row : {Y : Type 0} (f : Bool → PlacedEntry → Option (List OwnedValue) → (Kind → Choice) → List Y)
      → flat_map (λ p. f (refused_at a p) p (current a p) (first p)) ps ++ flat_map (λ q. f (refused_at b q) q (current b q) (second q)) qs ≡ flat_map (λ p. f (refused_at a p) p (current a p) (both p)) (ps ++ qs)
  all_by_row {Y} f =
      let one : flat_map (λ p. f (refused_at a p) p (current a p) (first p)) ps ≡ flat_map (λ p. f (refused_at a p) p (current a p) (both p)) ps =
      flat_map_same _ _ ps (AllByRecursion-weaker _ _ (λ p e. ap (f (refused_at a p) p (current a p)) (sym e)) ps chosen_first) in
      let two : flat_map (λ q. f (refused_at b q) q (current b q) (second q)) qs ≡ flat_map (λ q. f (refused_at a q) q (current a q) (both q)) qs =
      flat_map_same _ _ qs (each_both _ _ _ qs (λ q row e. ap₂ (λ refused o. f refused q o (second q)) (same_rules q) row ∙ ap (f (refused_at a q) q (current a q)) (sym e)) same_rows chosen_second) in
      ap (λ (l : List Y). l ++ flat_map (λ q. f (refused_at b q) q (current b q) (second q)) qs) one
      ∙ ap (λ (l : List Y). flat_map (λ p. f (refused_at a p) p (current a p) (both p)) ps ++ l) two
      ∙ sym (flat_map-append (λ p. f (refused_at a p) p (current a p) (both p)) ps qs)

turned : (ps qs : List PlacedEntry) → Apart ps qs → Apart qs ps
turned [] qs apart = tt
turned (p ∷ ps) qs apart = (apart_head p ps qs apart, turned ps qs (apart_tail p ps qs apart))

module _ (ps qs : List PlacedEntry) (a b d : State) (first second : Choices) (apart : Apart ps qs) (one : AreApplied a ps first b) (two : AreApplied b qs second d) where
  result_first : (p : PlacedEntry) → both_choices ps first second p ≡ first p → AllByRecursion (λ q. IsElsewhere q p.table (placed_key p)) qs
      → placed_result a first p ≡ Some (current b p) → placed_result a (both_choices ps first second) p ≡ Some (current d p)
  result_first p same away result =
      ap (entry_result (refused_at a p) p.flags p.entry.change (current a p)) same ∙ result ∙ ap Some (sym (two.others p.table (placed_key p) (All-from_recursion _ qs away)))

  result_second : (q : PlacedEntry) → current b q ≡ current a q → both_choices ps first second q ≡ second q
      → placed_result b second q ≡ Some (current d q) → placed_result a (both_choices ps first second) q ≡ Some (current d q)
  result_second q row same result =
      ap₂ (λ (refused : Bool) (o : Option (List OwnedValue)). entry_result refused q.flags q.entry.change o (both_choices ps first second q)) (sym (same_rules ps qs a b first second apart one q)) (sym row)
      ∙ ap (entry_result (refused_at b q) q.flags q.entry.change (current b q)) same ∙ result

  abbrev Left : State → Choices → State → PlacedEntry → Type 0
  Left old choose new p = placed_result old choose p ≡ Some (current new p)

  abbrev Away : PlacedEntry → Type 0
  Away p = AllByRecursion (λ q. IsElsewhere q p.table (placed_key p)) qs

  abbrev ChosenFirst : PlacedEntry → Type 0
  ChosenFirst p = both_choices ps first second p ≡ first p

  abbrev ChosenSecond : PlacedEntry → Type 0
  ChosenSecond q = both_choices ps first second q ≡ second q

  results_first : AllByRecursion (Left a (both_choices ps first second) d) ps
  results_first =
      each_both (λ p. ChosenFirst p × Away p) (Left a first b) (Left a (both_choices ps first second) d) ps (λ p h result. result_first p h.0 h.1 result)
      (each_both ChosenFirst Away (λ p. ChosenFirst p × Away p) ps (λ p same away. (same, away)) (chosen_first ps qs a b first second apart one) (turned ps qs apart))
      (recursion_from_All (Left a first b) ps one.results)

  results_second : AllByRecursion (Left a (both_choices ps first second) d) qs
  results_second =
      each_both (λ q. (current b q ≡ current a q) × ChosenSecond q) (Left b second d) (Left a (both_choices ps first second) d) qs (λ q h result. result_second q h.0 h.1 result)
      (each_both (λ q. current b q ≡ current a q) ChosenSecond (λ q. (current b q ≡ current a q) × ChosenSecond q) qs (λ q row same. (row, same)) (same_rows ps qs a b first second apart one) (chosen_second ps qs a b first second apart one))
      (recursion_from_All (Left b second d) qs two.results)

  applied_then : AreApplied a (ps ++ qs) (both_choices ps first second) d
  applied_then = record {
    schemas = λ table. two.schemas table ∙ one.schemas table;
    results = All-from_recursion (Left a (both_choices ps first second) d) (ps ++ qs) (AllByRecursion-append (Left a (both_choices ps first second) d) ps qs results_first results_second);
    others = λ table key away.
        let all = recursion_from_All (λ p. IsElsewhere p table key) (ps ++ qs) away in
        two.others table key (All-from_recursion (λ p. IsElsewhere p table key) qs (AllByRecursion-append_right (λ p. IsElsewhere p table key) ps qs all))
        ∙ one.others table key (All-from_recursion (λ p. IsElsewhere p table key) ps (AllByRecursion-append_left (λ p. IsElsewhere p table key) ps qs all));
  }

module _ (chooses : Handler) where
  pub carries_none : (s : State) (r : Tally) → Carries chooses [] s r s r
  carries_none s r = record {
    choose = omit_all;
    applied = record { schemas = λ table. refl; results = λ k x lt. absurd (omega arith); others = λ table key away. refl };
    conflicts = sym (append-nil (map met_of r.conflicts.items));
    chosen = λ all. all;
    written = λ reported was. rw (append-nil reported) was;
  }

  module _ (ps qs : List PlacedEntry) (a b : State) (r s : Tally) (apart : Apart ps qs) (one : Carries chooses ps a r b s) where
    pub carries_then : (d : State) (t : Tally) → Carries chooses qs b s d t → Carries chooses (ps ++ qs) a r d t
    carries_then d t two = record {
      choose = both_choices ps one.choose two.choose;
      applied = applied_then ps qs a b d one.choose two.choose apart one.applied two.applied;
      conflicts =
          two.conflicts ∙ ap (λ (l : List MetData). l ++ flat_map (met_at b two.choose) qs) one.conflicts
          ∙ append_assoc (map met_of r.conflicts.items) (flat_map (met_at a one.choose) ps) (flat_map (met_at b two.choose) qs)
          ∙ ap (λ (l : List MetData). map met_of r.conflicts.items ++ l) (all_by_row ps qs a b one.choose two.choose apart one.applied met_by);
      chosen = λ all. two.chosen (one.chosen all);
      written = λ reported was.
          subst (Tallies t.written)
          (append_assoc reported (filter_map (written_for a one.choose) ps) (filter_map (written_for b two.choose) qs)
          ∙ ap (λ (l : List WrittenData). reported ++ l) (by_row ps qs a b one.choose two.choose apart one.applied written_by))
          (two.written (reported ++ filter_map (written_for a one.choose) ps) (one.written reported was));
    }

-- ---- a run that ends

module _ (chooses : Handler) (ps : List PlacedEntry) (a : State) (r : Tally) where
  -- entries after the end of the run
  pub stops_more : (qs : List PlacedEntry) (t : Tally) (last : Met) → Stops chooses ps a r t last → Stops chooses (ps ++ qs) a r t last
  stops_more qs t last ended = record {
    choose = ended.choose;
    later = ended.later ++ flat_map (met_at a ended.choose) qs;
    chosen = ended.chosen;
    listed =
        ap (λ (l : List MetData). map met_of r.conflicts.items ++ l) (flat_map-append (met_at a ended.choose) ps qs)
        ∙ sym (append_assoc (map met_of r.conflicts.items) (flat_map (met_at a ended.choose) ps) (flat_map (met_at a ended.choose) qs))
        ∙ ap (λ (l : List MetData). l ++ flat_map (met_at a ended.choose) qs) ended.listed
        ∙ append_assoc (map met_of t.conflicts.items) (met_of last ∷ ended.later) (flat_map (met_at a ended.choose) qs);
    ended = ended.ended;
  }

  -- and entries before it
  pub stops_then : (qs : List PlacedEntry) (b : State) (s t : Tally) (last : Met) → Apart ps qs → Carries chooses ps a r b s → Stops chooses qs b s t last → Stops chooses (ps ++ qs) a r t last
  stops_then qs b s t last apart one ended = record {
    choose = both_choices ps one.choose ended.choose;
    later = ended.later;
    chosen = λ all. ended.chosen (one.chosen all);
    listed =
        ap (λ (l : List MetData). map met_of r.conflicts.items ++ l) (sym (all_by_row ps qs a b one.choose ended.choose apart one.applied met_by))
        ∙ sym (append_assoc (map met_of r.conflicts.items) (flat_map (met_at a one.choose) ps) (flat_map (met_at b ended.choose) qs))
        ∙ ap (λ (l : List MetData). l ++ flat_map (met_at b ended.choose) qs) (sym one.conflicts)
        ∙ ended.listed;
    ended = ended.ended;
  }
