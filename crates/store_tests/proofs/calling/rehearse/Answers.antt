-- An undo after an attach, an edit and an apply restores the rows of the table, by the law of runs.
use Rattle.std.proofs.Common.{◌≡◌, ◌≢◌, ℕ, List, [], ◌∷◌, map, ap, subst, ◌∙◌, arith}
use Rattle.std.proofs.lemmas.List.Elements.{All-from_recursion}
use Rattle.sqlite.specs.Effect.{Database}
use Rattle.sqlite.specs.State.{HasCleanDisk}
use Rattle.sqlite.specs.Held.{state}
use Rattle.cs_value.specs.State.{State, WrittenData, rows_at}
use Rattle.cs_rows.specs.declared.edit.Edit.{Edit}
use Rattle.cs_store.specs.Editing.{written_of}
use Rattle.cs_store.specs.Store.{tables_in}
use Rattle.cs_apply_conflict_kinds.specs.declared.conflict.Noop.{Noop}
use Rattle.cs_apply_engine.specs.declared.report.Report.{Report}
use Rattle.cs_apply_engine.specs.Running.{Handler}
use Rattle.cs_session_notes.specs.FirstImages.{AttachedTable, Notes, HasAttached, recorded, rewound_state}
use Rattle.cs_apply_engine.specs.declared.running.Direction.TheVariants.{Forward}
use Rattle.cs_session_notes.specs.Attaching.{Attaches}
use Rattle.cs_session.specs.Recording.{Records, RecordsApply}
use Rattle.cs_session.specs.Undoing.{Undoes}
use Rattle.cs_session.specs.Runs.{Moment, Run, KeepsBefore, RowsFromBefore}
use Rattle.cs_value.proofs.ListLemmas.{AllPairs-from_recursion}
use Rattle.cs_session.proofs.RunsLemmas.{attached_step, edited_step, applied_step}
use Rattle.store_tests.proofs.calling.rehearse.Goals as goal

module _ (chooses : Handler) (noop : Noop) (file name : List ℕ) (edit : Edit) (s0 s1 s2 s3 s4 : State) (n1 n2 n3 : Notes) (report undone : Report) where
  given_back : RowsFromBefore → Attaches s0 name [] n1 → s1 ≡ s0 → Records s1 edit n1 s2 n2 → RecordsApply chooses noop file Forward s2 n2 report s3 n3
      → Undoes n3 s3 undone s4 → rows_at s4 name ≡ rows_at s0 name
  unfolding attached_step edited_step applied_step
  given_back law attached same edited applied undo =
      let m0 : Moment = record { state = s0; notes = [] } in
      let m1 : Moment = record { state = s1; notes = n1 } in
      let m2 : Moment = record { state = s2; notes = n2 } in
      let m3 : Moment = record { state = s3; notes = n3 } in
      let run : Run m0 (m1 ∷ m2 ∷ m3 ∷ []) =
      (attached_step name m0 m1 attached same, (edited_step edit m1 m2 edited, (applied_step chooses noop file Forward m2 m3 report applied, tt))) in
      let keeps : KeepsBefore m0 (m1 ∷ m2 ∷ m3 ∷ []) run = law m0 (m1 ∷ m2 ∷ m3 ∷ []) (record {
        has = All-from_recursion (HasAttached s0) [] tt;
        apart = AllPairs-from_recursion (λ (s t : AttachedTable). s.name ≢ t.name) [] tt;
      }) run in
      let new : AttachedTable = record { name = name; schema = attached.schema; firsts = [] } in
      let wrote : List WrittenData = map written_of report.written.items in
      let noted : n3 ≡ recorded (recorded (new ∷ []) edited.written) wrote =
      applied.noted ∙ ap (λ (notes : Notes). recorded notes wrote) (edited.noted ∙ ap (λ (notes : Notes). recorded notes edited.written) attached.is) in
      let here : rows_at (rewound_state n3 s3) name ∷ [] ≡ rows_at s0 name ∷ [] =
      subst (λ (notes : Notes). map (λ (t : AttachedTable). rows_at (rewound_state n3 s3) t.name) notes ≡ rows_at s0 name ∷ []) noted keeps.undone in
      cc (here, ap (λ (s : State). rows_at s name) undo.rewound)

pub returns : goal.returns
returns g c = λ clean.
    let applied : HasCleanDisk (state g.S.Store c.apply_recorded.new.store) = omega (arith, c.in_ok-undo.ensures.transacts.atomic.survives.clean) in
    let edited : HasCleanDisk (state g.S.Store c.edit.new.store) = omega (arith, c.in_ok-report.ensures.transacts.atomic.survives.clean) in
    let attached : HasCleanDisk (state g.S.Store c.attach.new.store) = omega (arith, c.in_ok-edit.ensures.transacts.atomic.survives.clean) in
    let attaches = rw c.new-session.ensures at (c.in_ok-attach.ensures.attached attached) in
    let same = ap (λ (db : Database). tables_in db) (c.in_ok-attach.ensures.read attached) in
    given_back _ _ _ _ _ _ _ _ _ _ _ _ _ _ _ c.runs_law.ensures attaches same (c.in_ok-edit.ensures.recorded edited)
    (c.in_ok-report.ensures.recorded applied) (c.in_ok-undo.ensures.undone clean)
