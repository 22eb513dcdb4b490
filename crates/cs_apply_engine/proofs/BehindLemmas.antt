-- How a run goes on from one item to the next.
use Rattle.std.proofs.Common.{◌≡◌, ◌≢◌, ℕ, suc, ◌+◌, Bool, true, false, cond, if◌then◌else◌, List, [], ◌∷◌, ◌++◌, length, length-append, take, map, Option, Some, None, option_map, append_assoc, refl, sym, ap, ap₂, subst, ◌∙◌, arith}
use Rattle.std.specs.Prelude.{string_bytes}
use Rattle.std.specs.List.{AllByRecursion}
use Rattle.std.specs.Rc.{rc_str_bytes}
use Rattle.std.proofs.lemmas.List.{append-nil, length-map, map-append}
use Rattle.std.proofs.lemmas.List.Elements.{All-nil, All-cons}
use Rattle.std.proofs.lemmas.Option.{none-some}
use Rattle.cs_value.specs.State.{SchemaData, State, schema_at}
use Rattle.cs_value.proofs.ListLemmas.{AllByRecursion-append, AllByRecursion-weaker}
use Rattle.cs_wire_entries.specs.declared.entry.Entry.{Entry}
use Rattle.cs_wire.specs.Entry.{key_of}
use Rattle.cs_wire.specs.Changeset.{HeaderData, GroupData}
use Rattle.cs_wire.specs.Items.{FlaggedEntry}
use Rattle.cs_apply_conflict_kinds.specs.declared.judging.Judgement.{Judgement}
use Rattle.cs_apply_conflict_kinds.specs.declared.judging.Judgement.TheVariants.{Skipped, Wider, Compatible}
use Rattle.cs_apply_conflict_kinds.specs.declared.conflict.Noop.{Noop}
use Rattle.cs_apply_conflict_kinds.specs.Judging.{judgement, judged, is_compatible, is_skipped}
use Rattle.cs_apply_conflict_kinds.specs.Applying.{PlacedEntry, placed, placed_by, placed_in, IsElsewhere, NoneWider, FirstWider, current, refuses_at, refused_at, applicable, heeded, heeded_of, ignored, ignored_of, skipped}
use Rattle.cs_apply_engine.specs.declared.halt.Halt.{Halt}
use Rattle.cs_apply_engine.specs.declared.conflict.Met.{Met}
use Rattle.cs_apply_engine.specs.declared.tally.Tally.{Tally}
use Rattle.cs_apply_engine.specs.declared.run.Run.{Run}
use Rattle.cs_apply_engine.specs.Report.{met_of}
use Rattle.cs_apply_engine.specs.Running.{Handler}
use Rattle.cs_apply_engine.specs.Steps.{HasTable, Carries, Stops, ComesTo, last_of, header_in, placed_in_table}
use Rattle.cs_apply_engine.specs.Run.{IsAtStart, IsBehind, IsNewEntry, CameTo, TakesEntries, TakesTable, first_wider, group_of, last_group, wider_then}
use Rattle.cs_apply_conflict_kinds.proofs.ApplyLemmas.{refuses_same}
use Rattle.cs_apply_engine.proofs.RunLemmas.{applicable_more, each_map, has_table, other_tables, skipped_more}
use Rattle.cs_apply_engine.proofs.StepLemmas.{Apart, carries_none, carries_then, same_rows, same_rules, stops_more, stops_then}
use Rattle.cs_apply_engine.proofs.HeededLemmas.{heeded_before, heeded_behind, heeded_more, heeded_none, heeded_same, ignored_more, ignored_none, ignored_same}

-- ---- the last of some groups

pub last_is : (closed : List GroupData) (group : GroupData) → last_group (closed ++ group ∷ []) ≡ Some group
last_is [] group = refl
last_is (g ∷ []) group = refl
last_is (g ∷ h ∷ closed) group = last_is (h ∷ closed) group

-- ---- tables that are wider

wider_behind : (o : Option ℕ) (place : ℕ) (j : Judgement) → option_map suc (wider_then o place j) ≡ wider_then (option_map suc o) (suc place) j
wider_behind None place Skipped = refl
wider_behind None place Wider = refl
wider_behind None place Compatible = refl
wider_behind (Some first) place j = refl

wider_more : (js : List Judgement) (j : Judgement) → first_wider (js ++ j ∷ []) ≡ wider_then (first_wider js) (length js) j
wider_more [] Skipped = refl
wider_more [] Wider = refl
wider_more [] Compatible = refl
wider_more (Wider ∷ js) j = refl
wider_more (Skipped ∷ js) j = ap (option_map suc) (wider_more js j) ∙ wider_behind (first_wider js) (length js) j
wider_more (Compatible ∷ js) j = ap (option_map suc) (wider_more js j) ∙ wider_behind (first_wider js) (length js) j

-- the first of them
module _ (state : State) where
  later_wider : (g : GroupData) (gs : List GroupData) → judged state g ≢ Wider → ((place : ℕ) → first_wider (map (judged state) gs) ≡ Some place → FirstWider state gs place)
      → (o : Option ℕ) → first_wider (map (judged state) gs) ≡ o → (place : ℕ) → option_map suc o ≡ Some place → FirstWider state (g ∷ gs) place
  later_wider g gs other others None none place e = absurd (none-some place e)
  later_wider g gs other others (Some q) some place e =
      let one = others q some in
      let same : suc q ≡ place = let p = e in cc in
      subst (FirstWider state (g ∷ gs)) same (record {
        within = omega (arith, one.within);
        before = All-cons (λ h. judged state h ≢ Wider) g (take q gs) other one.before;
        wider = λ d. one.wider d;
      })

  wider_at : (g : GroupData) (gs : List GroupData) (j : Judgement) → judged state g ≡ j → ((place : ℕ) → first_wider (map (judged state) gs) ≡ Some place → FirstWider state gs place)
      → (place : ℕ) → first_wider (j ∷ map (judged state) gs) ≡ Some place → FirstWider state (g ∷ gs) place
  wider_at g gs Wider is others place e =
      let same : 0 ≡ place = let p = e in cc in
      subst (FirstWider state (g ∷ gs)) same (record { within = omega arith; before = All-nil (λ h. judged state h ≢ Wider); wider = λ d. is })
  wider_at g gs Skipped is others place e = later_wider g gs (λ w. absurd (let v = sym is ∙ w in cc)) others (first_wider (map (judged state) gs)) refl place e
  wider_at g gs Compatible is others place e = later_wider g gs (λ w. absurd (let v = sym is ∙ w in cc)) others (first_wider (map (judged state) gs)) refl place e

  pub some_wider : (gs : List GroupData) (place : ℕ) → first_wider (map (judged state) gs) ≡ Some place → FirstWider state gs place
  some_wider [] place e = absurd (none-some place e)
  some_wider (g ∷ gs) place e = wider_at g gs (judged state g) refl (λ q some. some_wider gs q some) place e

  -- or none
  later_none : (g : GroupData) (gs : List GroupData) → judged state g ≢ Wider → (first_wider (map (judged state) gs) ≡ None → NoneWider state gs)
      → (o : Option ℕ) → first_wider (map (judged state) gs) ≡ o → option_map suc o ≡ None → NoneWider state (g ∷ gs)
  later_none g gs other others None none e = All-cons (λ h. judged state h ≢ Wider) g gs other (others none)
  later_none g gs other others (Some q) some e = absurd (none-some (suc q) (sym e))

  none_at : (g : GroupData) (gs : List GroupData) (j : Judgement) → judged state g ≡ j → (first_wider (map (judged state) gs) ≡ None → NoneWider state gs) → first_wider (j ∷ map (judged state) gs) ≡ None → NoneWider state (g ∷ gs)
  none_at g gs Wider is others e = absurd (none-some 0 (sym e))
  none_at g gs Skipped is others e = later_none g gs (λ w. absurd (let v = sym is ∙ w in cc)) others (first_wider (map (judged state) gs)) refl e
  none_at g gs Compatible is others e = later_none g gs (λ w. absurd (let v = sym is ∙ w in cc)) others (first_wider (map (judged state) gs)) refl e

  pub none_wider : (gs : List GroupData) → first_wider (map (judged state) gs) ≡ None → NoneWider state gs
  none_wider [] e = All-nil (λ h. judged state h ≢ Wider)
  none_wider (g ∷ gs) e = none_at g gs (judged state g) refl (λ none. none_wider gs none) e

-- a first place stays the first
was_none : (o : Option ℕ) (place : ℕ) (j : Judgement) → wider_then o place j ≡ None → o ≡ None
was_none None place j e = refl
was_none (Some first) place j e = absurd (none-some first (sym e))

-- ---- tallies that tell the same

carries_same : (chooses : Handler) (ps : List PlacedEntry) (a b : State) (r s t : Tally) → Carries chooses ps a r b s → t.conflicts ≡ s.conflicts → t.written ≡ s.written → Carries chooses ps a r b t
carries_same chooses ps a b r s t one conflicts written = record {
  choose = one.choose;
  applied = one.applied;
  conflicts = ap (λ v. map met_of v.items) conflicts ∙ one.conflicts;
  chosen = λ all. rw conflicts (one.chosen all);
  written = λ reported was. rw written (one.written reported was);
}

stops_same : (chooses : Handler) (ps : List PlacedEntry) (a : State) (r s t : Tally) (last : Met) → Stops chooses ps a r s last → t.conflicts ≡ s.conflicts → Stops chooses ps a r t last
stops_same chooses ps a r s t last h same = record { choose = h.choose; later = h.later; chosen = λ all. rw same (h.chosen all); listed = rw same h.listed; ended = h.ended }

-- ---- before the first item

pub behind_start : (chooses : Handler) (s : State) (run : Run) → IsAtStart run → IsBehind chooses s [] run s
behind_start chooses s run is = record {
  start = run.tally;
  empty = is.empty;
  tables = is.tables;
  opened = tt;
  schemas = λ table. refl;
  wider = is.wider;
  came_to = λ none.
      rw (is.ended, heeded_none run.noop s, ignored_none run.noop s)
      (carries_none chooses s run.tally, sym (append-nil (map string_bytes run.tally.skipped.items)), omega arith);
}

-- ---- a table

module _ (s : State) (gs : List GroupData) (h : HeaderData) where
  abbrev opened : List GroupData
  opened = gs ++ group_of h [] ∷ []

  abbrev new_judgement : Judgement
  new_judgement = judged s (group_of h [])

  applicable_opened : applicable s opened ≡ applicable s gs
  applicable_opened = applicable_more s gs (group_of h [] ∷ []) ∙ ap (λ (l : List PlacedEntry). applicable s gs ++ l) (at (is_compatible new_judgement)) ∙ append-nil (applicable s gs)
    where
      at : (b : Bool) → placed (cond b (group_of h [] ∷ []) []) ≡ []
      at true = refl
      at false = refl

  skipped_opened : skipped s opened ≡ skipped s gs ++ (if is_skipped new_judgement then h.name ∷ [] else [])
  skipped_opened = skipped_more s gs (group_of h [] ∷ []) ∙ ap (λ (l : List (List ℕ)). skipped s gs ++ l) (at (is_skipped new_judgement))
    where
      at : (b : Bool) → map (λ (g : GroupData). g.header.name) (cond b (group_of h [] ∷ []) []) ≡ (if b then h.name ∷ [] else [])
      at true = refl
      at false = refl

  module _ (chooses : Handler) (run next : Run) (a b : State) (is : IsBehind chooses s gs run a) (takes : TakesTable a run h next b) where
    judged_now : next.judgement ≡ new_judgement
    judged_now = takes.judged ∙ ap (λ (o : Option SchemaData). judgement h.flags (option_map (λ schema. schema.flags) o)) (is.schemas h.name)

    wider_now : next.wider ≡ first_wider (map (judged s) opened)
    wider_now =
        takes.wider ∙ rw (is.wider, is.tables, judged_now) (ap (λ (n : ℕ). wider_then (first_wider (map (judged s) gs)) n new_judgement) (sym (length-map gs (judged s))))
        ∙ sym (wider_more (map (judged s) gs) new_judgement) ∙ ap first_wider (sym (map-append (judged s) gs (group_of h [] ∷ [])))

    came_now : next.wider ≡ None → CameTo chooses next.noop s opened is.start next.tally b next.ended
    came_now none = rw (takes.same, takes.ended, takes.noop) (by run.ended (is.came_to (was_none run.wider run.tables next.judgement (sym takes.wider ∙ none))))
      where
        by : (o : Option Halt) → CameTo chooses run.noop s gs is.start run.tally a o → CameTo chooses run.noop s opened is.start next.tally a o
        by None came = (
          rw applicable_opened (carries_same chooses (heeded run.noop s gs) s a is.start run.tally next.tally came.0 takes.conflicts takes.written),
          takes.skipped ∙ ap (λ (l : List (List ℕ)). l ++ (if is_skipped next.judgement then h.name ∷ [] else [])) came.1
              ∙ append_assoc (map string_bytes is.start.skipped.items) (skipped s gs) (if is_skipped next.judgement then h.name ∷ [] else [])
              ∙ ap (λ (l : List (List ℕ)). map string_bytes is.start.skipped.items ++ l)
              (ap (λ (j : Judgement). skipped s gs ++ (if is_skipped j then h.name ∷ [] else [])) judged_now ∙ sym skipped_opened),
          takes.ignored ∙ came.2 ∙ ap (λ (ps : List PlacedEntry). is.start.ignored + length (ignored_of run.noop s ps)) (sym applicable_opened),
        )
        by (Some e) came = rw applicable_opened (stops_same chooses (heeded run.noop s gs) s is.start run.tally next.tally (last_of e) came takes.conflicts)

    pub behind_table : IsBehind chooses s opened next b
    behind_table = record {
      start = is.start;
      empty = is.empty;
      tables = takes.tables ∙ rw is.tables (omega (arith, length-append gs (group_of h [] ∷ [])));
      opened = rw (last_is gs (group_of h [])) (takes.table, judged_now, takes.rules ∙ refuses_same s a is.schemas h.name);
      schemas = rw takes.same is.schemas;
      wider = wider_now;
      came_to = came_now;
    }

-- ---- an entry of the table that is open

is_passed : (j : Judgement) → j ≢ Compatible → is_compatible j ≡ false
is_passed Skipped other = refl
is_passed Wider other = refl
is_passed Compatible other = absurd (other refl)

module _ (s : State) (closed : List GroupData) (h : HeaderData) (es : List Entry) (e : Entry) where
  abbrev here : List GroupData
  here = closed ++ group_of h es ∷ []

  abbrev grown : List GroupData
  grown = closed ++ group_of h (es ++ e ∷ []) ∷ []

  abbrev its_judgement : Judgement
  its_judgement = judged s (group_of h es)

  same_judged : map (judged s) grown ≡ map (judged s) here
  same_judged = map-append (judged s) closed (group_of h (es ++ e ∷ []) ∷ []) ∙ sym (map-append (judged s) closed (group_of h es ∷ []))

  same_count : length grown ≡ length here
  same_count = omega (arith, length-append closed (group_of h (es ++ e ∷ []) ∷ []), length-append closed (group_of h es ∷ []))

  abbrev added : List PlacedEntry
  added = if is_compatible its_judgement then placed_by h e ∷ [] else []

  applicable_grown : applicable s grown ≡ applicable s here ++ added
  applicable_grown =
      applicable_more s closed (group_of h (es ++ e ∷ []) ∷ [])
      ∙ ap (λ (l : List PlacedEntry). applicable s closed ++ l) (at (is_compatible its_judgement))
      ∙ sym (append_assoc (applicable s closed) (applicable s (group_of h es ∷ [])) added)
      ∙ ap (λ (l : List PlacedEntry). l ++ added) (sym (applicable_more s closed (group_of h es ∷ [])))
    where
      at : (b : Bool) → placed (cond b (group_of h (es ++ e ∷ []) ∷ []) []) ≡ placed (cond b (group_of h es ∷ []) []) ++ (if b then placed_by h e ∷ [] else [])
      at true =
          append-nil (placed_in (group_of h (es ++ e ∷ []))) ∙ map-append (placed_by h) es (e ∷ [])
          ∙ ap (λ (l : List PlacedEntry). l ++ placed_by h e ∷ []) (sym (append-nil (placed_in (group_of h es))))
      at false = refl

  skipped_grown : skipped s grown ≡ skipped s here
  skipped_grown =
      skipped_more s closed (group_of h (es ++ e ∷ []) ∷ []) ∙ ap (λ (l : List (List ℕ)). skipped s closed ++ l) (at (is_skipped its_judgement)) ∙ sym (skipped_more s closed (group_of h es ∷ []))
    where
      at : (b : Bool) → map (λ (g : GroupData). g.header.name) (cond b (group_of h (es ++ e ∷ []) ∷ []) []) ≡ map (λ (g : GroupData). g.header.name) (cond b (group_of h es ∷ []) [])
      at true = refl
      at false = refl

  abbrev Away : PlacedEntry → Type 0
  Away p = IsElsewhere p h.name (key_of h.flags e.change)

  apart_grown : IsNewEntry closed h es e → Apart (applicable s here) (placed_by h e ∷ [])
  apart_grown new =
      let others = AllByRecursion-weaker (λ p. p.table ≢ h.name) Away (λ p apart here. apart here.0) (applicable s closed) (other_tables s h.name closed new.table) in
      (rw (applicable_more s closed (group_of h es ∷ [])) (AllByRecursion-append Away (applicable s closed) (applicable s (group_of h es ∷ [])) others (at (is_compatible its_judgement))), tt)
    where
      at : (b : Bool) → AllByRecursion Away (placed (cond b (group_of h es ∷ []) []))
      at true =
          AllByRecursion-append Away (placed_in (group_of h es)) []
          (each_map (placed_by h) (λ d. key_of h.flags d.change ≢ key_of h.flags e.change) Away es (λ d apart here. apart here.1) new.key) tt
      at false = tt

  module _ (chooses : Handler) (run : Run) (a : State) (is : IsBehind chooses s here run a) where
    is_open : (rc_str_bytes run.table ≡ h.name) × (run.judgement ≡ its_judgement) × (run.refuses.items ≡ refuses_at s h.name)
    is_open = rw (last_is closed (group_of h es)) at is.opened

    -- it is passed over
    pub behind_passed : (TakesEntries run → ⊥) → IsBehind chooses s grown run a
    behind_passed passed = record {
      start = is.start;
      empty = is.empty;
      tables = is.tables ∙ sym same_count;
      opened = rw (last_is closed (group_of h (es ++ e ∷ []))) is_open;
      schemas = is.schemas;
      wider = is.wider ∙ ap first_wider (sym same_judged);
      came_to = λ none. by none run.ended refl (is.came_to none);
    }
      where
        by : run.wider ≡ None → (o : Option Halt) → run.ended ≡ o → CameTo chooses run.noop s here is.start run.tally a o → CameTo chooses run.noop s grown is.start run.tally a o
        by none None goes_on came =
            let none_added : added ≡ [] =
            rw (is_passed its_judgement (λ compatible. passed (record { compatible = is_open.1 ∙ compatible; none_wider = none; goes_on = goes_on }))) refl in (
              rw (applicable_grown, none_added, append-nil (applicable s here)) came.0,
              rw skipped_grown came.1,
              rw (applicable_grown, none_added, append-nil (applicable s here)) came.2,
            )
        by none (Some ending) goes_on came =
            rw (applicable_grown, heeded_more run.noop s (applicable s here) added) (stops_more chooses (heeded run.noop s here) s is.start (heeded_of run.noop s added) run.tally (last_of ending) came)

    -- it is carried out, or has no conflict, or ends the run
    pub behind_taken : (next : Run) (b : State) (seen : FlaggedEntry) → TakesEntries run → IsNewEntry closed h es e → seen.flags ≡ h.flags → seen.entry ≡ e
        → next.table ≡ run.table → next.judgement ≡ run.judgement → next.refuses ≡ run.refuses → next.tables ≡ run.tables → next.wider ≡ run.wider → next.noop ≡ run.noop → next.tally.skipped ≡ run.tally.skipped
        → ComesTo chooses run.noop (placed_in_table (rc_str_bytes run.table) seen) a run.tally b next.tally next.ended → IsBehind chooses s grown next b
    behind_taken next b seen takes new flags entry table judged_as rules tables wider noop skips comes = record {
      start = is.start;
      empty = is.empty;
      tables = tables ∙ is.tables ∙ sym same_count;
      opened = rw (last_is closed (group_of h (es ++ e ∷ []))) (rw table is_open.0, judged_as ∙ is_open.1, ap (λ v. v.items) rules ∙ is_open.2);
      schemas = (by next.ended comes_here).0;
      wider = wider ∙ is.wider ∙ ap first_wider (sym same_judged);
      came_to = λ none. rw noop (by next.ended comes_here).1;
    }
      where
        same : placed_in_table (rc_str_bytes run.table) seen ≡ placed_by h e
        same =
            ap₂ (λ (table flags : List ℕ). record { table = table; flags = flags; entry = seen.entry }) is_open.0 flags
            ∙ ap (λ (entry : Entry). record { table = h.name; flags = h.flags; entry = entry }) entry

        comes_here : ComesTo chooses run.noop (placed_by h e) a run.tally b next.tally next.ended
        comes_here = rw same at comes

        was : CameTo chooses run.noop s here is.start run.tally a None
        was = rw takes.goes_on at (is.came_to takes.none_wider)

        one_added : added ≡ placed_by h e ∷ []
        one_added = let compatible : its_judgement ≡ Compatible = sym is_open.1 ∙ takes.compatible in rw compatible refl

        -- its row is as before the run, so it is a no-op if it was one
        apart : Apart (heeded run.noop s here) (placed_by h e ∷ [])
        apart = heeded_before run.noop s (applicable s here) (placed_by h e ∷ []) (apart_grown new)

        same_row : current a (placed_by h e) ≡ current s (placed_by h e)
        same_row = (same_rows (heeded run.noop s here) (placed_by h e ∷ []) s a was.0.choose was.0.choose apart was.0.applied).0

        same_rule : refused_at a (placed_by h e) ≡ refused_at s (placed_by h e)
        same_rule = same_rules (heeded run.noop s here) (placed_by h e ∷ []) s a was.0.choose was.0.choose apart was.0.applied (placed_by h e)

        heeded_here : heeded_of run.noop a (placed_by h e ∷ []) ≡ heeded_of run.noop s (placed_by h e ∷ [])
        heeded_here = heeded_same s (placed_by h e) a same_row same_rule run.noop

        heeded_grown : heeded run.noop s grown ≡ heeded run.noop s here ++ heeded_of run.noop s (placed_by h e ∷ [])
        heeded_grown = ap (heeded_of run.noop s) (applicable_grown ∙ ap (λ (l : List PlacedEntry). applicable s here ++ l) one_added) ∙ heeded_more run.noop s (applicable s here) (placed_by h e ∷ [])

        ignored_grown : ignored run.noop s grown ≡ ignored run.noop s here + length (ignored_of run.noop a (placed_by h e ∷ []))
        ignored_grown =
            ap (λ (l : List PlacedEntry). length (ignored_of run.noop s l)) (applicable_grown ∙ ap (λ (l : List PlacedEntry). applicable s here ++ l) one_added)
            ∙ ignored_more run.noop s (applicable s here) (placed_by h e ∷ [])
            ∙ ap (λ (n : ℕ). ignored run.noop s here + n) (sym (ignored_same s (placed_by h e) a same_row same_rule run.noop))

        by : (o : Option Halt) → ComesTo chooses run.noop (placed_by h e) a run.tally b next.tally o
            → ((t : List ℕ) → schema_at b t ≡ schema_at s t) × CameTo chooses run.noop s grown is.start next.tally b o
        by None two = (
          λ t. two.0.applied.schemas t ∙ is.schemas t,
          (
            subst (λ (l : List PlacedEntry). Carries chooses l s is.start b next.tally) (sym heeded_grown)
                (carries_then chooses (heeded run.noop s here) (heeded_of run.noop s (placed_by h e ∷ [])) s a is.start run.tally (heeded_behind run.noop s (heeded run.noop s here) (placed_by h e ∷ []) apart) was.0 b next.tally
                (subst (λ (l : List PlacedEntry). Carries chooses l a run.tally b next.tally) heeded_here two.0)),
            rw (skips, skipped_grown) was.1,
            omega (arith, two.1, was.2, ignored_grown),
          ),
        )
        by (Some ending) two = (
          λ t. ap (λ (n : State). schema_at n t) two.1 ∙ is.schemas t,
          subst (λ (l : List PlacedEntry). Stops chooses l s is.start next.tally (last_of ending)) (sym heeded_grown)
              (stops_then chooses (heeded run.noop s here) s is.start (heeded_of run.noop s (placed_by h e ∷ [])) a run.tally next.tally (last_of ending) (heeded_behind run.noop s (heeded run.noop s here) (placed_by h e ∷ []) apart) was.0
              (subst (λ (l : List PlacedEntry). Stops chooses l a run.tally next.tally (last_of ending)) heeded_here two.0)),
        )

-- an entry leaves the schemas as they were
pub comes_schemas : (chooses : Handler) (noop : Noop) (p : PlacedEntry) (a : State) (r : Tally) (b : State) (t : Tally) (o : Option Halt) → ComesTo chooses noop p a r b t o → (name : List ℕ) → schema_at b name ≡ schema_at a name
comes_schemas chooses noop p a r b t None two name = two.0.applied.schemas name
comes_schemas chooses noop p a r b t (Some ending) two name = ap (λ (n : State). schema_at n name) two.1

-- the table of a group is there where it was judged compatible
pub has_judged_table : (a : State) (run : Run) (h : HeaderData) (seen : FlaggedEntry) → rc_str_bytes run.table ≡ h.name → run.judgement ≡ judged a (group_of h []) → seen.flags ≡ h.flags → run.judgement ≡ Compatible
    → HasTable a (header_in (rc_str_bytes run.table) seen)
has_judged_table a run h seen name judged_as flags compatible =
    let same : header_in (rc_str_bytes run.table) seen ≡ h = ap₂ (λ (n f : List ℕ). record { name = n; flags = f }) name flags in
    rw same (has_table a (group_of h []) (sym judged_as ∙ compatible))
