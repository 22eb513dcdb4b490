-- The rows from before, over any run of a session.
use Rattle.std.proofs.Common.{◌≡◌, ◌≢◌, inl, inr, ℕ, List, [], ◌∷◌, ◌++◌, Option, Some, None, option_map, Ok, IsTrue, refl, sym, ap, ◌∙◌, subst}
use Rattle.std.specs.Prelude.{unwrap_or}
use Rattle.std.specs.List.{AllByRecursion}
use Rattle.std.specs.FinMap.{get, empty, get-insert}
use Rattle.std.specs.Cmp.Lexicographic.{nat_list_cmp_total}
use Rattle.std.proofs.lemmas.List.{append-nil, append_assoc, map-append}
use Rattle.std.proofs.lemmas.List.Elements.{recursion_from_All, All-from_recursion, All-map, All-push, All-weaker}
use Rattle.std.proofs.lemmas.List.Quantifiers.{all_pairs_push}
use Rattle.std.proofs.lemmas.Option.{none-some}
use Rattle.cs_value.specs.declared.value.OwnedValue.{OwnedValue}
use Rattle.cs_value.specs.State.{SchemaData, TableData, RowMap, State, WrittenData, schema_at, rows_at, with_table}
use Rattle.cs_value.proofs.ByteMaps.{same_maps}
use Rattle.cs_value.proofs.ListLemmas.{AllByRecursion-weaker, recursion_from_AllPairs, AllPairs-from_recursion}
use Rattle.cs_rows.specs.declared.edit.Edit.{Edit}
use Rattle.sqlite.specs.Effect.{Database}
use Rattle.sqlite.specs.State.{State as Connection}
use Rattle.cs_store.specs.Editing.{Declares, Edited}
use Rattle.cs_store.specs.Records.{KeepsContent}
use Rattle.cs_store.specs.Store.{tables_in}
use Rattle.cs_apply_conflict_kinds.specs.Laws.{TellsFormer}
use Rattle.cs_apply_conflict_kinds.specs.declared.conflict.Noop.{Noop}
use Rattle.cs_apply_engine.specs.declared.running.Direction.{Direction}
use Rattle.cs_apply_conflict_kinds.specs.Applying.{written_under}
use Rattle.cs_apply_conflict_kinds.proofs.ApplyLemmas.{written_tells}
use Rattle.cs_apply_engine.specs.declared.report.Report.{Report}
use Rattle.cs_apply_engine.specs.Running.{Handler}
use Rattle.cs_session_notes.specs.FirstImages.{FirstImage, AttachedTable, Notes, HasAttached, first_at, put_all_back, rewound_rows, rewound, rewound_state, noted_in, recorded}
use Rattle.cs_session_notes.specs.Attaching.{Attaches}
use Rattle.cs_session_notes.specs.Merging.{all_noted}
use Rattle.cs_session.specs.Recording.{Records, RecordsApply, table_of}
use Rattle.cs_session.specs.Undoing.{Undoes}
use Rattle.cs_session.specs.Runs.{Moment, IsMoment, DeclaresTable, AttachesTable, EditsRow, AppliesChangeset, UndoesAll, MergesNotes, Refused, Step, Run, ending, rows_attached, all_attached, RowsFromBefore}
use Rattle.cs_session_notes.proofs.FirstLemmas.{put_all_at, rewound_recorded}
use Rattle.cs_session_notes.proofs.MergeLemmas.{merge_restores}
use Rattle.cs_session.proofs.RewoundLemmas.{other_name, rewound_schemas, IsRewound, rewound_here, all_rewound}
use Rattle.cs_session_notes.proofs.NotesLemmas.{names_stay}
use Rattle.cs_session.proofs.EditLemmas.{Tells, IfDone, edited_tells}

-- ---- the tables of a session

abbrev Apart : AttachedTable → AttachedTable → Type 0
Apart s t = s.name ≢ t.name

-- what a step leaves, where it keeps the tables
pub record Keeps (m n : Moment) (more : List RowMap) : Type 0 where
  pub is_moment : IsMoment n
  pub before : rewound n.notes n.state ≡ rewound m.notes m.state ++ more

-- ---- a write that is noted

writes_keep : (m n : Moment) → IsMoment m → (w : List WrittenData) → ((name : List ℕ) → schema_at n.state name ≡ schema_at m.state name) → TellsFormer m.state n.state w → n.notes ≡ recorded m.notes w
    → Keeps m n []
writes_keep m n is w schemas tells noted = record {
  is_moment = rw noted (record {
    has = All-map (HasAttached n.state) (noted_in w) m.notes
        (All-weaker (HasAttached m.state) (λ (t : AttachedTable). HasAttached n.state (noted_in w t)) (λ t has. schemas t.name ∙ has) m.notes is.has);
    apart = AllPairs-from_recursion Apart (recorded m.notes w) (names_stay w m.notes (recursion_from_AllPairs Apart m.notes is.apart));
  });
  before = ap (λ (ns : Notes). rewound ns n.state) noted ∙ rewound_recorded m.state n.state w tells m.notes ∙ sym (append-nil (rewound m.notes m.state));
}

-- ---- each step

refused_keeps : (m n : Moment) → IsMoment m → Refused m n → Keeps m n []
refused_keeps m n is step =
    let same : n ≡ m = λ i. record { state = step.state i; notes = step.notes i } in
    subst (λ (o : Moment). Keeps m o []) (sym same) (record { is_moment = is; before = sym (append-nil (rewound m.notes m.state)) })

applies_keep : (m n : Moment) → IsMoment m → AppliesChangeset m n → Keeps m n []
applies_keep m n is step =
    writes_keep m n is (written_under step.noop m.state step.changeset step.choose) step.applied.schemas (written_tells step.noop m.state step.changeset step.choose n.state step.applied) step.noted

edits_keep : (m n : Moment) → IsMoment m → EditsRow m n → Keeps m n []
edits_keep m n is step =
    let done : Edited = record { state = n.state; written = step.recorded.written } in
    let tells : Tells m.state (table_of step.edit) done = subst (IfDone m.state (table_of step.edit)) step.recorded.edited (edited_tells m.state step.edit) in
    writes_keep m n is step.recorded.written tells.schemas tells.tells step.recorded.noted

merges_keep : (m n : Moment) → IsMoment m → MergesNotes m n → Keeps m n []
merges_keep m n is step =
    let w = all_noted step.during in
    record {
      is_moment = rw step.noted (record {
        has = All-map (HasAttached n.state) (noted_in w) m.notes step.has;
        apart = AllPairs-from_recursion Apart (recorded m.notes w) (names_stay w m.notes (recursion_from_AllPairs Apart m.notes is.apart));
      });
      before = ap (λ (ns : Notes). rewound ns n.state) step.noted ∙ merge_restores m.state n.state step.during m.notes step.once step.covers step.restored
          ∙ sym (append-nil (rewound m.notes m.state));
    }

-- ---- a table is attached

attaches_keep : (m n : Moment) → IsMoment m → (step : AttachesTable m n) → Keeps m n (rows_at m.state step.name ∷ [])
attaches_keep m n is step =
    let new : AttachedTable = record { name = step.name; schema = step.attached.schema; firsts = [] } in
    let all = m.notes ++ new ∷ [] in
    let same : n ≡ record { state = m.state; notes = all } = λ i. record { state = step.state i; notes = step.attached.is i } in
    subst (λ (o : Moment). Keeps m o (rows_at m.state step.name ∷ [])) (sym same) (record {
      is_moment = record {
        has = All-push (HasAttached m.state) m.notes new is.has step.attached.found;
        apart = all_pairs_push Apart m.notes new is.apart step.attached.fresh;
      };
      before = map-append (rewound_rows m.state) m.notes (new ∷ []);
    })

-- ---- a table is declared

module _ (state : State) (name : List ℕ) (schema : SchemaData) (free : get state name ≡ None) where
  abbrev more : State
  more = with_table state name schema

  -- the others stay
  stays : (table : List ℕ) (s : SchemaData) → schema_at state table ≡ Some s → get more table ≡ get state table
  stays table s found = get-insert nat_list_cmp_total state name (record { schema = schema; rows = _ }) table ∙ rw (other_name table name apart) refl
    where
      apart : ¬ (name ≡ table)
      apart same = none-some s (sym (ap (option_map (λ (t : TableData). t.schema)) (subst (λ (n : List ℕ). get state n ≡ None) same free)) ∙ found)

  all_stay : (notes : Notes) → AllByRecursion (HasAttached state) notes → AllByRecursion (HasAttached more) notes × (rewound notes more ≡ rewound notes state)
  all_stay [] has = (tt, refl)
  all_stay (table ∷ notes) has =
      let here = stays table.name table.schema has.0 in
      let others = all_stay notes has.1 in
      let rows : rewound_rows more table ≡ rewound_rows state table =
      ap (λ (o : Option TableData). put_all_back table.firsts (unwrap_or (option_map (λ (t : TableData). t.rows) o) empty)) here in
      ((ap (option_map (λ (t : TableData). t.schema)) here ∙ has.0, others.0), cc (rows, others.1))

declares_keep : (m n : Moment) → IsMoment m → DeclaresTable m n → Keeps m n []
declares_keep m n is step =
    let stay = all_stay m.state step.name step.schema step.declared.1 m.notes (recursion_from_All (HasAttached m.state) m.notes is.has) in
    let same : n ≡ record { state = with_table m.state step.name step.schema; notes = m.notes } = λ i. record { state = step.declared.2 i; notes = step.notes i } in
    subst (λ (o : Moment). Keeps m o []) (sym same) (record {
      is_moment = record { has = All-from_recursion (HasAttached (with_table m.state step.name step.schema)) m.notes stay.0; apart = is.apart };
      before = stay.1 ∙ sym (append-nil (rewound m.notes m.state));
    })

-- ---- the session is undone

-- first images that are put back twice are put back once
twice : (o : Option (Option (List OwnedValue))) (row : Option (List OwnedValue)) → unwrap_or o (unwrap_or o row) ≡ unwrap_or o row
twice None row = refl
twice (Some first) row = refl

put_twice : (firsts : List FirstImage) (rows : RowMap) → put_all_back firsts (put_all_back firsts rows) ≡ put_all_back firsts rows
put_twice firsts rows = same_maps _ _ (λ q. put_all_at firsts (put_all_back firsts rows) q ∙ ap (unwrap_or (first_at firsts q)) (put_all_at firsts rows q)
    ∙ twice (first_at firsts q) (get rows q) ∙ sym (put_all_at firsts rows q))

rewound_again : (state before : State) (notes : Notes) → AllByRecursion (IsRewound state before) notes → rewound notes before ≡ rewound notes state
rewound_again state before [] rows = refl
rewound_again state before (table ∷ notes) rows =
    let first = ap (put_all_back table.firsts) rows.0 ∙ put_twice table.firsts (rows_at state table.name) in
    let others = rewound_again state before notes rows.1 in
    cc (first, others)

undoes_keep : (m n : Moment) → IsMoment m → UndoesAll m n → Keeps m n []
undoes_keep m n is step =
    let before = rewound_state m.notes m.state in
    let has = recursion_from_All (HasAttached m.state) m.notes is.has in
    let same : n ≡ record { state = before; notes = m.notes } = λ i. record { state = step.rewound i; notes = step.notes i } in
    subst (λ (o : Moment). Keeps m o []) (sym same) (record {
      is_moment = record {
        has = All-from_recursion (HasAttached before) m.notes (AllByRecursion-weaker (HasAttached m.state) (HasAttached before) (λ t there. rewound_schemas m.state m.notes has t.name ∙ there) m.notes has);
        apart = is.apart;
      };
      before = rewound_again m.state before m.notes (rewound_here m.state m.notes has (recursion_from_AllPairs Apart m.notes is.apart)) ∙ sym (append-nil (rewound m.notes m.state));
    })

-- ---- a run

step_keeps : (m n : Moment) → IsMoment m → (step : Step m n) → Keeps m n (rows_attached m n step)
step_keeps m n is (inl step) = attaches_keep m n is step
step_keeps m n is (inr (inl step)) = declares_keep m n is step
step_keeps m n is (inr (inr (inl step))) = edits_keep m n is step
step_keeps m n is (inr (inr (inr (inl step)))) = applies_keep m n is step
step_keeps m n is (inr (inr (inr (inr (inl step))))) = undoes_keep m n is step
step_keeps m n is (inr (inr (inr (inr (inr (inl step)))))) = merges_keep m n is step
step_keeps m n is (inr (inr (inr (inr (inr (inr step)))))) = refused_keeps m n is step

run_keeps : (m : Moment) (later : List Moment) → IsMoment m → (run : Run m later) → Keeps m (ending m later) (all_attached m later run)
run_keeps m [] is run = record { is_moment = is; before = sym (append-nil (rewound m.notes m.state)) }
run_keeps m (n ∷ later) is run =
    let first = step_keeps m n is run.0 in
    let others = run_keeps n later first.is_moment run.1 in
    record {
      is_moment = others.is_moment;
      before = others.before ∙ ap (λ (rows : List RowMap). rows ++ all_attached n later run.1) first.before
          ∙ append_assoc (rewound m.notes m.state) (rows_attached m n run.0) (all_attached n later run.1);
    }

-- the rows from before stay, whatever is done
pub rows_from_before : RowsFromBefore
rows_from_before m later is run =
    let keeps = run_keeps m later is run in
    let last = ending m later in
    let has = recursion_from_All (HasAttached last.state) last.notes keeps.is_moment.has in
    record {
      is_moment = keeps.is_moment;
      before = keeps.before;
      undone = all_rewound last.state (rewound_state last.notes last.state) last.notes (rewound_here last.state last.notes has (recursion_from_AllPairs Apart last.notes keeps.is_moment.apart))
          ∙ keeps.before;
    }

-- ---- calls that succeed are steps

unfoldable pub applied_step : (chooses : Handler) (noop : Noop) (file : List ℕ) (direction : Direction) (m n : Moment) (report : Report) → RecordsApply chooses noop file direction m.state m.notes report n.state n.notes → Step m n
applied_step chooses noop file direction m n report done = inr (inr (inr (inl (record {
  changeset = done.applied.changeset;
  noop = noop;
  choose = done.applied.choose;
  applied = done.applied.applied;
  noted = done.noted ∙ ap (recorded m.notes) done.applied.written;
}))))

unfoldable pub edited_step : (edit : Edit) (m n : Moment) → Records m.state edit m.notes n.state n.notes → Step m n
edited_step edit m n done = inr (inr (inl (record { edit = edit; recorded = done })))

unfoldable pub undone_step : (m n : Moment) (report : Report) → Undoes m.notes m.state report n.state → n.notes ≡ m.notes → Step m n
undone_step m n report done notes = inr (inr (inr (inr (inl (record { rewound = done.rewound; notes = notes })))))

unfoldable pub attached_step : (name : List ℕ) (m n : Moment) → Attaches m.state name m.notes n.notes → n.state ≡ m.state → Step m n
attached_step name m n done state = inl (record { name = name; attached = done; state = state })

unfoldable pub declared_step : (name : List ℕ) (schema : SchemaData) (m n : Moment) → Declares m.state name schema (Ok n.state) → n.notes ≡ m.notes → Step m n
declared_step name schema m n done notes = inr (inl (record { name = name; schema = schema; declared = done; notes = notes }))

-- and so is one that is refused, while the connection is open
unfoldable pub refused_step : (old new : Connection) (notes after : Notes) → KeepsContent old new → IsTrue new.is_open → after ≡ notes
    → Step (record { state = tables_in old.now; notes = notes }) (record { state = tables_in new.now; notes = after })
refused_step old new notes after kept is_open same =
    inr (inr (inr (inr (inr (inr (record { state = ap (λ (db : Database). tables_in db) (kept.now is_open); notes = same }))))))
