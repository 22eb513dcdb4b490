-- One entry, applied.
use Rattle.std.proofs.Common.{◌≡◌, Bool, true, false, List, [], ◌∷◌, ◌++◌, map, All, Option, Some, append_assoc, refl, sym, ap, subst, ◌∙◌}
use Rattle.std.specs.Prelude.{Result, Ok, Err, OnOk}
use Rattle.std.specs.List.{AllByRecursion, flat_map}
use Rattle.std.specs.FinMap.{get}
use Rattle.std.proofs.lemmas.List.{append-nil, map-append}
use Rattle.std.proofs.lemmas.List.Elements.{All-nil, All-cons, All-append, All-head, recursion_from_All}
use Rattle.cs_value.specs.declared.value.OwnedValue.{OwnedValue}
use Rattle.cs_value.specs.State.{TableData, State, WrittenData, schema_at, row_at}
use Rattle.cs_apply_conflict_kinds.specs.declared.conflict.Kind.{Kind}
use Rattle.cs_apply_conflict_kinds.specs.declared.conflict.Choice.{Choice}
use Rattle.cs_apply_conflict_kinds.specs.Conflicts.{kinds_met, row_after, ends, is_ended, is_carried_out}
use Rattle.cs_apply_conflict_kinds.specs.Applying.{PlacedEntry, placed_key, current, refused_at, IsElsewhere, MetData, Choices, conflict_with, met_with, met_at, placed_kinds, placed_result, omit_all}
use Rattle.cs_apply_engine.specs.declared.conflict.Met.{Met}
use Rattle.cs_apply_engine.specs.declared.tally.Tally.{Tally}
use Rattle.cs_apply_engine.specs.Report.{met_of}
use Rattle.cs_apply_engine.specs.Tally.{Tallies}
use Rattle.cs_apply_engine.specs.Running.{Handler, GoesOn}
use Rattle.cs_apply_engine.specs.Steps.{Settles, EndsAtEntry, Carries, Stops, with_result}
use Rattle.cs_apply_engine.proofs.WriteLemmas.{result_schemas, result_here, result_elsewhere}

-- the same choices for each entry
abbrev for_each : (Kind → Choice) → Choices
for_each choose p = choose

-- where the run went on at each conflict that was reported, none of them ended it
not_ended : (chooses : Handler) (p : PlacedEntry) (row : Option (List OwnedValue)) (choose : Kind → Choice) (kinds : List Kind) (reported : List Met)
    → map (λ kind. record { conflict = conflict_with p row kind; choice = choose kind }) kinds ≡ map met_of reported → AllByRecursion (GoesOn chooses) reported → is_ended kinds choose ≡ false
not_ended chooses p row choose [] reported e all = refl
not_ended chooses p row choose (kind ∷ kinds) [] e all = absurd (cc)
not_ended chooses p row choose (kind ∷ kinds) (m ∷ reported) e all =
    let first : record { conflict = conflict_with p row kind; choice = choose kind } ≡ met_of m = cc in
    let rest : map (λ kind. record { conflict = conflict_with p row kind; choice = choose kind }) kinds ≡ map met_of reported = cc in
    let here : ends kind (choose kind) ≡ false = ap (λ (n : MetData). ends n.conflict.kind n.choice) first ∙ all.0.goes_on in
    rw (here, not_ended chooses p row choose kinds reported rest all.1) refl

module _ (chooses : Handler) (s : State) (p : PlacedEntry) (row : Option (List OwnedValue)) (r t : Tally) (is : row ≡ current s p) where
  -- the conflicts that the entry meets at that row
  met_here : (choose : Kind → Choice) → flat_map (met_at s (for_each choose)) (p ∷ []) ≡ met_with (refused_at s p) p row choose
  met_here choose = append-nil (met_at s (for_each choose) p) ∙ ap (λ (o : Option (List OwnedValue)). met_with (refused_at s p) p o choose) (sym is)

  module _ (carried : Bool) (settles : Settles chooses (refused_at s p) p row r.conflicts.items t.conflicts.items carried) where
    told_so : map met_of t.conflicts.items ≡ map met_of r.conflicts.items ++ flat_map (met_at s (for_each settles.choose)) (p ∷ [])
    told_so =
        ap (map met_of) settles.grown ∙ map-append met_of r.conflicts.items settles.reported
        ∙ ap (λ (l : List MetData). map met_of r.conflicts.items ++ l) (sym settles.all_reported ∙ sym (met_here settles.choose))

    chosen_so : All (GoesOn chooses) r.conflicts.items → All (GoesOn chooses) t.conflicts.items
    chosen_so all = rw (settles.grown) (All-append (GoesOn chooses) r.conflicts.items settles.reported all settles.chosen)

    goes_on : is_ended (placed_kinds s (for_each settles.choose) p) settles.choose ≡ false
    goes_on =
        let kinds = kinds_met (refused_at s p) p.entry.change row settles.choose in
        rw (← is) (not_ended chooses p row settles.choose kinds settles.reported settles.all_reported (recursion_from_All (GoesOn chooses) settles.reported settles.chosen))

    carried_so : is_carried_out (placed_kinds s (for_each settles.choose) p) settles.choose ≡ carried
    carried_so = rw (← is) (sym settles.carried)

  -- an entry that is carried out
  pub carries_written : (found : TableData) (next : State) → get s p.table ≡ Some found → Settles chooses (refused_at s p) p row r.conflicts.items t.conflicts.items true
      → next ≡ with_result s p.table (placed_key p) (row_after p.flags p.entry.change row)
      → ((reported : List WrittenData) → Tallies r.written reported → Tallies t.written (reported ++ record { table = p.table; key = placed_key p; former = row } ∷ []))
      → Carries chooses (p ∷ []) s r next t
  carries_written found next there settles left written =
      let choose = settles.choose in
      let after = row_after p.flags p.entry.change row in
      let carried = carried_so true settles in
      let stands : current next p ≡ after = ap (λ (n : State). row_at n p.table (placed_key p)) left ∙ result_here s p.table found (placed_key p) after there in
      record {
        choose = for_each choose;
        applied = record {
          schemas = λ table. ap (λ (n : State). schema_at n table) left ∙ result_schemas s p.table found (placed_key p) after there table;
          results = All-cons (λ q. placed_result s (for_each choose) q ≡ Some (current next q)) p [] (rw (goes_on true settles, carried) (ap Some (ap (row_after p.flags p.entry.change) (sym is) ∙ sym stands))) (All-nil (λ q. placed_result s (for_each choose) q ≡ Some (current next q)));
          others = λ table key away.
              ap (λ (n : State). row_at n table key) left ∙ result_elsewhere s p.table found (placed_key p) after there table key (All-head (λ q. IsElsewhere q table key) p [] away);
        };
        conflicts = told_so true settles;
        chosen = chosen_so true settles;
        written = λ reported was.
            subst (Tallies t.written) (rw carried (ap (λ (o : Option (List OwnedValue)). reported ++ record { table = p.table; key = placed_key p; former = o } ∷ []) is)) (written reported was);
      }

  -- an entry that is passed over
  pub carries_passed : (next : State) → Settles chooses (refused_at s p) p row r.conflicts.items t.conflicts.items false → next ≡ s → t.written ≡ r.written → Carries chooses (p ∷ []) s r next t
  carries_passed next settles same written =
      let choose = settles.choose in
      let passed = carried_so false settles in
      record {
        choose = for_each choose;
        applied = record {
          schemas = λ table. ap (λ (n : State). schema_at n table) same;
          results = All-cons (λ q. placed_result s (for_each choose) q ≡ Some (current next q)) p [] (rw (goes_on false settles, passed) (ap Some (ap (λ (n : State). current n p) (sym same)))) (All-nil (λ q. placed_result s (for_each choose) q ≡ Some (current next q)));
          others = λ table key away. ap (λ (n : State). row_at n table key) same;
        };
        conflicts = told_so false settles;
        chosen = chosen_so false settles;
        written = λ reported was. subst (Tallies t.written) {x = reported} (rw passed (sym (append-nil reported))) (rw written was);
      }

  -- an entry that is ignored reports nothing
  pub carries_ignored : (next : State) → next ≡ s → t.conflicts.items ≡ r.conflicts.items → t.written ≡ r.written → Carries chooses [] s r next t
  carries_ignored next same conflicts written = record {
    choose = omit_all;
    applied = record {
      schemas = λ table. ap (λ (n : State). schema_at n table) same;
      results = All-nil (λ q. placed_result s omit_all q ≡ Some (current next q));
      others = λ table key away. ap (λ (n : State). row_at n table key) same;
    };
    conflicts = ap (map met_of) conflicts ∙ sym (append-nil (map met_of r.conflicts.items));
    chosen = λ all. rw conflicts all;
    written = λ reported was. subst (Tallies t.written) (sym (append-nil reported)) (rw written was);
  }

  -- an entry that ends the run
  pub stops_here : (last : Met) → EndsAtEntry chooses (refused_at s p) p row r.conflicts.items t.conflicts.items last → Stops chooses (p ∷ []) s r t last
  stops_here last ended = record {
    choose = for_each ended.choose;
    later = [];
    chosen = λ all. rw (ended.grown) (All-append (GoesOn chooses) r.conflicts.items ended.reported all ended.chosen);
    listed =
        ap (λ (l : List MetData). map met_of r.conflicts.items ++ l) (met_here ended.choose ∙ ended.all_reported)
        ∙ sym (append_assoc (map met_of r.conflicts.items) (map met_of ended.reported) (met_of last ∷ []))
        ∙ ap (λ (l : List MetData). l ++ met_of last ∷ []) (sym (map-append met_of r.conflicts.items ended.reported) ∙ sym (ap (map met_of) ended.grown));
    ended = ended.ended;
  }

-- ---- from what calls say

-- what two clauses say of success
pub on_both : {A E : Type 0} {P Q R : Type 0} (r : Result A E) → OnOk r P → OnOk r Q → (P → Q → R) → OnOk r R
on_both (Ok x) p q f = f p q
on_both (Err e) p q f = tt
