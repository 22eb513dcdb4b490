-- What calls of a session and a store do, as a script sees it.
use Rattle.std.proofs.Common.{◌≡◌, ◌≢◌, ◌⊎◌, inl, inr, ℕ, List, [], ◌∷◌, ◌++◌, length, map, All, Any, Option, Some, None, Result, Ok, Err, refl, sym, ap, subst, ◌∙◌}
use Rattle.std.specs.Prelude.{string_bytes}
use Rattle.std.specs.List.{AllZip}
use Rattle.std.specs.FinMap as map_of
use Rattle.std.proofs.lemmas.List.{map-append, append-nil, length-map}
use Rattle.std.proofs.lemmas.List.Elements.{All-map, All-from_recursion, recursion_from_All}
use Rattle.cs_value.specs.Table.{IsName}
use Rattle.cs_value.specs.State.{SchemaData, State, IsState, WrittenData, schema_at, rows_at}
use Rattle.cs_value.proofs.ListLemmas.{Any-map_at, AllPairs-from_recursion}
use Rattle.cs_value.proofs.StateLemmas.{table_of_schema}
use Rattle.cs_wire.specs.Changeset.{GroupData}
use Rattle.cs_wire.specs.Inverse.{IsInverseGroup}
use Rattle.cs_wire.specs.Laws.{ChangesetFiles}
use Rattle.cs_rows.specs.declared.edit.Edit.{Edit}
use Rattle.cs_rows.specs.declared.fault.StoreError.{StoreError}
use Rattle.cs_store.specs.Faults.{IsResource}
use Rattle.cs_store.specs.Editing.{Edited, Declares, edited, written_of}
use Rattle.cs_apply_conflict_kinds.specs.declared.conflict.Noop.{Noop}
use Rattle.cs_apply_conflict_kinds.specs.declared.conflict.Noop.TheVariants as noop
use Rattle.cs_apply_conflict_kinds.specs.Applying.{met_under}
use Rattle.cs_apply_engine.specs.declared.report.Report.{Report}
use Rattle.cs_apply_engine.specs.declared.report.Summary.{Summary}
use Rattle.cs_apply_engine.specs.declared.running.Direction.{Direction}
use Rattle.cs_apply_engine.specs.Report.{met_of}
use Rattle.cs_apply_engine.specs.Running.{Handler, AppliesCounted, Summarizes}
use Rattle.cs_session_notes.specs.declared.fault.SessionFault.{SessionFault}
use Rattle.cs_session_notes.specs.declared.fault.SessionFault.TheVariants as session
use Rattle.cs_session_notes.specs.FirstImages.{AttachedTable, Notes, IsNotes, HasAttached, rewound, recorded, recorded_changes}
use Rattle.cs_session_notes.specs.Attaching.{Attaches, RefusesAttach}
use Rattle.cs_session_notes.specs.Changes.{HasTables, LacksTable, LacksNamed}
use Rattle.cs_session.specs.Recording.{Records, RefusesEdit, RecordsApply, RefusesApply, table_of}
use Rattle.cs_session.specs.Undoing.{Undoes}
use Rattle.cs_session.specs.Runs.{Moment, IsMoment, Step, rows_attached}
use Rattle.cs_session.proofs.ChangesLemmas.{changes_are}
use Rattle.cs_session.proofs.RunsLemmas.{rows_from_before, edited_step, applied_step, attached_step, declared_step, undone_step}
use Rattle.cs_shell_replies.specs.declared.refusal.Refusal.TheVariants as refusal
use Rattle.cs_shell_replies.specs.ErrorLines.{of_store, of_session}
use Rattle.cs_shell_replies.specs.Replies.{Reply, Silent, Reported, Refused}
use Rattle.cs_shell_replies.specs.Report.{told_of}
use Rattle.cs_shell_executor.specs.ShellState.{SlotMap, SessionTable, ShellState, written_to, touch, net_count, put_back}
use Rattle.cs_shell_executor.specs.LineAnswers.{EditGives, ApplyGives, applied, not_applied, AttachGives, attached, already, no_table, UndoGives}
use Rattle.cs_shell_executor.specs.Works.{seen_table, seen_session, seen, IsHere, OrUnable}
use Rattle.cs_shell_executor.proofs.SeenLemmas.{seen_recorded, seen_same, seen_back, undo_count}
use Rattle.cs_shell_executor.proofs.TurnLemmas.{or_store, no_memory}

-- ---- lists

-- what each element has, none lacks
all_any : {X : Type 0} (P Q : X → Type 0) (xs : List X) → ((x : X) → P x → Q x → ⊥) → All P xs → Any Q xs → ⊥
all_any P Q xs apart all any = apart any.1 (subst P any.3 (all any.0 any.1 any.2)) any.4

any_map : {X Y : Type 0} (P : Y → Type 0) (f : X → Y) (xs : List X) → Any (λ x. P (f x)) xs → Any P (map f xs)
any_map P f xs any = Any-map_at xs any.0 any.1 any.2 (sym any.3) f P any.4

-- ---- steps

-- the tables of a session stay there, and so do the rows from before
step_keeps : (m n : Moment) → IsMoment m → (step : Step m n) → IsMoment n × (rewound n.notes n.state ≡ rewound m.notes m.state ++ (rows_attached m n step ++ []))
step_keeps m n is step = let keeps = rows_from_before m (n ∷ []) is (step, tt) in (keeps.is_moment, keeps.before)

abbrev at : State → Notes → Moment
at state notes = record { state = state; notes = notes }

-- ---- edits

module _ (old new : State) (slots : SlotMap) where
  -- what was written is noted
  written_seen : (w : List WrittenData) (notes after : Notes) → after ≡ recorded notes w → rewound after new ≡ rewound notes old
      → seen new slots (Some after) ≡ written_to (seen old slots (Some notes)) new w
  written_seen w notes after noted same =
      let here : rewound (recorded notes w) new ≡ rewound notes old = subst (λ (ns : Notes). rewound ns new ≡ rewound notes old) noted same in
      let tables : map (seen_table new) after ≡ map (touch w) (map (seen_table old) notes) = ap (λ (ns : Notes). map (seen_table new) ns) noted ∙ seen_recorded old new w notes here in
      λ i. record { tables = new; slots = slots; session = Some (tables i) }

  edit_gives : (edit : Edit) (w : List WrittenData) (before after : Option Notes) → edited old edit ≡ Ok (record { state = new; written = w })
      → seen new slots after ≡ written_to (seen old slots before) new w → EditGives (seen old slots before) (edited old edit) Silent (seen new slots after)
  edit_gives edit w before after done same =
      subst (λ (outcome : Result Edited StoreError). EditGives (seen old slots before) outcome Silent (seen new slots after)) (sym done) (refl, same)

-- an edit of a session
pub session_edits : (old new : State) (edit : Edit) (notes after : Notes) → Records old edit notes new after → rewound after new ≡ rewound notes old
    → IsHere old (Some notes) → IsHere new (Some after)
    × ((slots : SlotMap) → OrUnable (λ s. EditGives s (edited s.tables edit)) (seen old slots (Some notes)) Silent (seen new slots (Some after)))
session_edits old new edit notes after done same here = (
  (step_keeps (at old notes) (at new after) here (edited_step edit (at old notes) (at new after) done)).0,
  λ slots. inl (edit_gives old new slots edit done.written (Some notes) (Some after) done.edited (written_seen old new slots done.written notes after done.noted same)),
)

-- of a store
pub store_edits : (old new : State) (edit : Edit) (w : List WrittenData) → edited old edit ≡ Ok (record { state = new; written = w })
    → IsHere old None → IsHere new None
    × ((slots : SlotMap) → OrUnable (λ s. EditGives s (edited s.tables edit)) (seen old slots None) Silent (seen new slots None))
store_edits old new edit w done here = (tt, λ slots. inl (edit_gives old new slots edit w None None done refl))

edit_refused : (edit : Edit) (state : ShellState) (e : StoreError) → edited state.tables edit ≡ Err e → EditGives state (edited state.tables edit) (Refused (refusal.Store e)) state
edit_refused edit state e is = subst (λ (outcome : Result Edited StoreError). EditGives state outcome (Refused (refusal.Store e)) state) (sym is) (refl, refl)

-- what an edit gives
abbrev Edits : Edit → ShellState → Reply → ShellState → Type 0
Edits edit old = EditGives old (edited old.tables edit)

pub store_refuses_edit : (old : State) (edit : Edit) (session : Option Notes) (e : StoreError) → (edited old edit ≡ Err e) ⊎ IsResource e
    → (slots : SlotMap) → OrUnable (λ s. EditGives s (edited s.tables edit)) (seen old slots session) (Refused (of_store e)) (seen old slots session)
store_refuses_edit old edit session e (inl is) slots = or_store (Edits edit) (seen old slots session) e (inl (edit_refused edit (seen old slots session) e is))
store_refuses_edit old edit session e (inr resource) slots = or_store (Edits edit) (seen old slots session) e (inr resource)

lacks_none : (old : State) (name : List ℕ) (notes : Notes) → HasTables old notes → LacksNamed old name notes → ⊥
lacks_none old name notes has lacks = all_any (HasAttached old) _ notes (λ t there gone. gone.1 there) has lacks

pub lacks_no_table : (old : State) (notes : Notes) → HasTables old notes → LacksTable old notes → ⊥
lacks_no_table old notes has lacks = all_any (HasAttached old) _ notes (λ t there gone. gone there) has lacks

pub session_refuses_edit : (old : State) (edit : Edit) (notes : Notes) (fault : SessionFault) → RefusesEdit old edit notes fault → IsHere old (Some notes)
    → (slots : SlotMap) → OrUnable (λ s. EditGives s (edited s.tables edit)) (seen old slots (Some notes)) (Refused (of_session fault)) (seen old slots (Some notes))
session_refuses_edit old edit notes session.WrongStore why here slots = absurd (lacks_none old (table_of edit) notes here.has why)
session_refuses_edit old edit notes (session.Store e) (inl why) here slots = store_refuses_edit old edit (Some notes) e (inl why.1) slots
session_refuses_edit old edit notes (session.Store e) (inr why) here slots = store_refuses_edit old edit (Some notes) e (inr (inr why)) slots
session_refuses_edit old edit notes session.NoMemory why here slots = no_memory (Edits edit) (seen old slots (Some notes))
session_refuses_edit old edit notes session.AlreadyAttached why here slots = absurd why
session_refuses_edit old edit notes (session.Apply fault) why here slots = absurd why

-- ---- applies

pub session_applies : (chooses : Handler) (noop : Noop) (file : List ℕ) (direction : Direction) (old new : State) (notes after : Notes) (report : Report) (summary : Summary) → Summarizes summary report → RecordsApply chooses noop file direction old notes report new after
    → rewound after new ≡ rewound notes old → IsHere old (Some notes) → IsHere new (Some after)
    × ((slots : SlotMap) → OrUnable (λ s. ApplyGives s chooses noop file direction) (seen old slots (Some notes)) (Reported (told_of summary)) (seen new slots (Some after)))
session_applies chooses noop file direction old new notes after report summary sums done same here = (
  (step_keeps (at old notes) (at new after) here (applied_step chooses noop file direction (at old notes) (at new after) report done)).0,
  λ slots. inl (subst (λ (s : ShellState). ApplyGives (seen old slots (Some notes)) chooses noop file direction (Reported (told_of summary)) s)
      (sym (written_seen old new slots (map written_of report.written.items) notes after done.noted same))
      (applied summary new (record {
        writes = map written_of report.written.items;
        counted = sums.written ∙ sym (length-map report.written.items written_of);
        applies = rw (sums.conflicts, sums.skipped, sums.ignored) done.applied;
      }))),
)

pub store_applies : (chooses : Handler) (noop : Noop) (file : List ℕ) (direction : Direction) (old new : State) (summary : Summary) → AppliesCounted chooses noop file direction old summary new
    → IsHere old None → IsHere new None
    × ((slots : SlotMap) → OrUnable (λ s. ApplyGives s chooses noop file direction) (seen old slots None) (Reported (told_of summary)) (seen new slots None))
store_applies chooses noop file direction old new summary done here = (tt, λ slots. inl (applied summary new done))

pub session_refuses_apply : (chooses : Handler) (noop : Noop) (file : List ℕ) (direction : Direction) (old : State) (notes : Notes) (fault : SessionFault) → RefusesApply chooses noop file direction old notes fault
    → IsHere old (Some notes) → (slots : SlotMap)
    → OrUnable (λ s. ApplyGives s chooses noop file direction) (seen old slots (Some notes)) (Refused (of_session fault)) (seen old slots (Some notes))
session_refuses_apply chooses noop file direction old notes session.WrongStore why here slots = absurd (lacks_no_table old notes here.has why)
session_refuses_apply chooses noop file direction old notes (session.Apply fault) why here slots = inl (not_applied fault why.1)
session_refuses_apply chooses noop file direction old notes (session.Store e) why here slots = or_store (λ s. ApplyGives s chooses noop file direction) (seen old slots (Some notes)) e (inr (inr why))
session_refuses_apply chooses noop file direction old notes session.NoMemory why here slots = no_memory (λ s. ApplyGives s chooses noop file direction) (seen old slots (Some notes))
session_refuses_apply chooses noop file direction old notes session.AlreadyAttached why here slots = absurd why

-- ---- attaching

-- a table that is not there has no schema, and no table has a name that none can have
no_schema : (state : State) (name : List ℕ) → IsState state → (schema_at state name ≡ None) ⊎ (IsName name → ⊥) → schema_at state name ≡ None
no_schema state name is (inl none) = none
no_schema state name is (inr unnamed) = by_schema (schema_at state name) refl
  where
    by_schema : (o : Option SchemaData) → schema_at state name ≡ o → o ≡ None
    by_schema None found = refl
    by_schema (Some schema) found =
        let table = table_of_schema (map_of.get state name) schema found in
        absurd (unnamed ((is name table.0 table.1).named))

pub session_attaches : (old : State) (name : List ℕ) (notes after : Notes) → Attaches old name notes after → IsHere old (Some notes) → IsHere old (Some after)
    × ((slots : SlotMap) → AttachGives (seen old slots (Some notes)) name (map (seen_table old) notes) Silent (seen old slots (Some after)))
session_attaches old name notes after done here = (
  (step_keeps (at old notes) (at old after) here (attached_step name (at old notes) (at old after) done refl)).0,
  λ slots. subst (λ (s : ShellState). AttachGives (seen old slots (Some notes)) name (map (seen_table old) notes) Silent s) (sym (is slots))
      (attached done.schema (All-map (λ (t : SessionTable). t.name ≢ name) (seen_table old) notes done.fresh) done.found),
)
  where
    new : AttachedTable
    new = record { name = name; schema = done.schema; firsts = [] }

    is : (slots : SlotMap) → seen old slots (Some after) ≡ record {
      tables = old;
      slots = slots;
      session = Some (map (seen_table old) notes ++ record { name = name; schema = done.schema; saved = rows_at old name; touched = [] } ∷ []);
    }
    is slots =
        let tables : map (seen_table old) after ≡ map (seen_table old) notes ++ record { name = name; schema = done.schema; saved = rows_at old name; touched = [] } ∷ [] =
        ap (λ (ns : Notes). map (seen_table old) ns) done.is ∙ map-append (seen_table old) notes (new ∷ []) in
        λ i. record { tables = old; slots = slots; session = Some (tables i) }

pub session_is_attached : (old : State) (name : List ℕ) (notes : Notes) → Any (λ (t : AttachedTable). t.name ≡ name) notes → (slots : SlotMap)
    → OrUnable (λ s. AttachGives s name (map (seen_table old) notes)) (seen old slots (Some notes)) (Refused (of_session session.AlreadyAttached)) (seen old slots (Some notes))
session_is_attached old name notes why slots = inl (already (any_map (λ (t : SessionTable). t.name ≡ name) (seen_table old) notes why))

pub session_refuses_attach : (old : State) (name : List ℕ) (notes : Notes) (fault : SessionFault) → IsState old → RefusesAttach old name notes fault
    → (slots : SlotMap)
    → OrUnable (λ s. AttachGives s name (map (seen_table old) notes)) (seen old slots (Some notes)) (Refused (of_session fault)) (seen old slots (Some notes))
session_refuses_attach old name notes session.AlreadyAttached is why slots = session_is_attached old name notes why slots
session_refuses_attach old name notes (session.Store e) is (inl why) slots =
    rw why.1 (inl (no_table (All-map (λ (t : SessionTable). t.name ≢ name) (seen_table old) notes why.0) (no_schema old name is why.2)))
session_refuses_attach old name notes (session.Store e) is (inr why) slots = or_store (λ s. AttachGives s name (map (seen_table old) notes)) (seen old slots (Some notes)) e (inr (inr why))
session_refuses_attach old name notes session.NoMemory is why slots = no_memory (λ s. AttachGives s name (map (seen_table old) notes)) (seen old slots (Some notes))
session_refuses_attach old name notes session.WrongStore is why slots = absurd why
session_refuses_attach old name notes (session.Apply fault) is why slots = absurd why

-- ---- undoing

pub session_undoes : ChangesetFiles → (old new : State) (notes : Notes) (report : Report) (summary : Summary) → Summarizes summary report → IsState old → IsNotes notes → Undoes notes old report new
    → IsHere old (Some notes) → IsHere new (Some notes)
    × ((slots : SlotMap) → UndoGives (seen old slots (Some notes)) (map (seen_table old) notes) (Reported (told_of summary)) (seen new slots (Some notes)))
unfolding undone_step
session_undoes law old new notes report summary sums is_state are done here = (keeps.0, λ slots. (told, is slots))
  where
    keeps : IsMoment (at new notes) × (rewound notes new ≡ rewound notes old ++ ([] ++ []))
    keeps = step_keeps (at old notes) (at new notes) here (undone_step (at old notes) (at new notes) report done refl)

    same : map (seen_table new) notes ≡ map (seen_table old) notes
    same = seen_same old new notes (keeps.1 ∙ append-nil (rewound notes old))

    is : (slots : SlotMap) → seen new slots (Some notes) ≡ record { tables = put_back (map (seen_table old) notes) old; slots = slots; session = Some (map (seen_table old) notes) }
    is slots =
        let back : new ≡ put_back (map (seen_table old) notes) old = done.rewound ∙ sym (seen_back old notes) in
        λ i. record { tables = back i; slots = slots; session = Some (same i) }

    told : Reported (told_of summary) ≡ Reported (record { skipped = []; conflicts = []; ignored = 0; applied = net_count old (map (seen_table old) notes) })
    told =
        let applies = done.applied in
        let each = recursion_from_All (HasAttached old) notes here.has in
        let changes = recorded_changes notes old in
        let one : applies.read.0 ≡ changes = law applies.read.0 changes applies.read.1 (changes_are old notes is_state are each) (sym applies.read.2) in
        let zip = subst (λ (c : List GroupData). AllZip IsInverseGroup c applies.changeset) one applies.read.3 in
        let none : met_under noop.Report old applies.changeset applies.choose ≡ [] = sym applies.conflicts ∙ ap (map met_of) done.no_conflict in
        let count : summary.written ≡ net_count old (map (seen_table old) notes) =
        sums.written ∙ sym (length-map report.written.items written_of) ∙ ap length applies.written ∙ undo_count old notes are each applies.changeset applies.choose zip none in
        let skips : summary.skipped.items ≡ [] = ap (λ v. v.items) sums.skipped ∙ done.none_skipped in
        let conflicts : summary.conflicts.items ≡ [] = ap (λ v. v.items) sums.conflicts ∙ done.no_conflict in
        let passed : summary.ignored ≡ 0 = sums.ignored ∙ applies.ignored in
        λ i. Reported (record { skipped = map string_bytes (skips i); conflicts = map met_of (conflicts i); ignored = passed i; applied = count i })

-- ---- declaring

pub declares_seen : (old new : State) (name : List ℕ) (schema : SchemaData) (session : Option Notes) → Declares old name schema (Ok new)
    → IsHere old session → IsHere new session
    × ((slots : SlotMap) → seen new slots session ≡ record { tables = new; slots = slots; session = seen_session old session })
unfolding declared_step
declares_seen old new name schema None done here = (tt, λ slots. refl)
declares_seen old new name schema (Some notes) done here = (keeps.0, λ slots i. record { tables = new; slots = slots; session = Some (same i) })
  where
    keeps : IsMoment (at new notes) × (rewound notes new ≡ rewound notes old ++ ([] ++ []))
    keeps = step_keeps (at old notes) (at new notes) here (declared_step name schema (at old notes) (at new notes) done refl)

    same : map (seen_table new) notes ≡ map (seen_table old) notes
    same = seen_same old new notes (keeps.1 ∙ append-nil (rewound notes old))

-- ---- a session without tables

pub nothing_here : (tables : State) → IsHere tables (Some [])
nothing_here tables = record {
  has = All-from_recursion (HasAttached tables) [] tt;
  apart = AllPairs-from_recursion (λ (s t : AttachedTable). s.name ≢ t.name) [] tt;
}
