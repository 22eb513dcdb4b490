-- `acting::act_on_rows`: what it ensures.
use Rattle.std.proofs.Common.{◌≡◌, ◌≢◌, ◌==◌, List, [], length, true, false, true≢false, Ok, refl, sym, ap, subst, ◌∙◌}
use Rattle.std.proofs.lemmas.Bool.{eqb-true}
use Rattle.std.proofs.lemmas.List.{nil_from_length}
use Rattle.sqlite.specs.Held.{state}
use Rattle.cs_value.specs.State.{State}
use Rattle.cs_wire.specs.Changeset.{GroupData, IsNewName, file_bytes}
use Rattle.cs_store.specs.Store.{tables_in}
use Rattle.cs_store_tables.specs.Laws.{keeps_then, was_clean}
use Rattle.cs_session_notes.specs.Changes.{HasTables}
use Rattle.cs_session_notes.specs.FirstImages.{recorded_changes, rewound_state}
use Rattle.cs_history.specs.Actions.{Notes, Stays}
use Rattle.cs_history.specs.Moving.{NotesAction}
use Rattle.cs_history.specs.Stored.{ActionData, IsHistory}
use Rattle.cs_history.proofs.ActLemmas.{acts, stays}
use Rattle.cs_history.proofs.WorkLemmas.{works_err, works_shown}
use Rattle.cs_history.proofs.acting.act_on_rows.Goals as goal

empty_list : {X : Type 0} (xs : List X) → (length xs == 0) ≡ true → xs ≡ []
empty_list xs is = nil_from_length xs (eqb-true (length xs) 0 is)

pub returns-in_err-changeset : goal.returns-in_err-changeset
returns-in_err-changeset g c = record {
  works = works_err c.from_residual-in_err-changeset.result _ c.from_residual-in_err-changeset.ensures.1 (keeps_then c.in_ok-check_table.ensures.works.kept c.changeset_in_transaction.ensures.within.kept);
}

pub returns-in_err-note_changes : goal.returns-in_err-note_changes
returns-in_err-note_changes g c = record {
  works = works_err c.from_residual-in_err-note_changes.result _ c.from_residual-in_err-note_changes.ensures.1
      (keeps_then (keeps_then c.in_ok-check_table.ensures.works.kept c.in_ok-changeset.ensures.within.kept) c.note_changes.ensures.works.kept);
}

pub returns-then-is_empty : goal.returns-then-is_empty
returns-then-is_empty g c =
    let old = state g.S.Store c.args.transaction.now in
    let checked = state g.S.Store c.check_table.new.transaction in
    let new = state g.S.Store c.changeset_in_transaction.new.transaction in
    let notes = c.args.session.now in
    let one = c.in_ok-check_table.ensures.works in
    let within = c.in_ok-changeset.ensures.within in
    let none : c.in_ok-changeset.changeset ≡ [] = sym c.groups.ensures.same ∙ empty_list c.groups.result.now (sym c.is_empty.ensures ∙ c.if-is_empty.true) in
    record {
      works = works_shown (λ noted before after. Notes c.args.name.now c.args.label.now (recorded_changes notes before) (rewound_state notes before) noted before after) old new (Ok false) c.store_law.ensures.holds c.store_law.ensures.inside (record {
        kept = keeps_then one.kept within.kept;
        made = λ clean inside.
            let first = one.made (was_clean checked new within.kept.crash clean) inside in
            let second = within.made clean in (
              second.0.inside,
              λ is.
                  let has = subst (λ (s : State). HasTables s notes) first.1.0 (c.in_ok-changeset.ensures.attached clean) in
                  let changes : recorded_changes notes (tables_in old.now) ≡ [] = ap (recorded_changes notes) (sym first.1.0) ∙ sym (c.in_ok-changeset.ensures.made clean) ∙ none in
                  (changes, subst (Stays c.args.name.now (rewound_state notes (tables_in old.now)) (tables_in old.now)) (sym (second.1 ∙ first.1.0)) (stays (tables_in old.now) notes is c.notes_law.ensures has c.args.name.now first.1.1 changes)),
            );
      });
    }

pub returns : goal.returns
returns g c =
    let old = state g.S.Store c.args.transaction.now in
    let checked = state g.S.Store c.check_table.new.transaction in
    let read = state g.S.Store c.changeset_in_transaction.new.transaction in
    let new = state g.S.Store c.note_changes.new.transaction in
    let notes = c.args.session.now in
    let name = c.args.name.now in
    let one = c.in_ok-check_table.ensures.works in
    let within = c.in_ok-changeset.ensures.within in
    let noting = c.in_ok-note_changes.ensures.works in
    let some : c.in_ok-changeset.changeset ≢ [] = λ none. true≢false (sym (ap (λ (gs : List GroupData). length gs == 0) (c.groups.ensures.same ∙ none)) ∙ sym c.is_empty.ensures ∙ c.if-is_empty.false) in
    let action : ActionData = record { label = c.args.label.now; changeset = file_bytes c.in_ok-changeset.changeset } in
    record {
      works = works_shown (λ noted before after. Notes name c.args.label.now (recorded_changes notes before) (rewound_state notes before) noted before after) old new (Ok true) c.store_law.ensures.holds c.store_law.ensures.inside (record {
        kept = keeps_then (keeps_then one.kept within.kept) noting.kept;
        made = λ clean inside.
            let was = was_clean read new noting.kept.crash clean in
            let first = one.made (was_clean checked read within.kept.crash was) inside in
            let second = within.made was in
            let third = noting.made clean second.0.inside in
            let same : tables_in read.now ≡ tables_in old.now = second.1 ∙ first.1.0 in (
              third.0,
              λ is.
                  let has = subst (λ (s : State). HasTables s notes) first.1.0 (c.in_ok-changeset.ensures.attached was) in
                  let changes : c.in_ok-changeset.changeset ≡ recorded_changes notes (tables_in old.now) = c.in_ok-changeset.ensures.made was ∙ ap (recorded_changes notes) first.1.0 in
                  let noted = subst (λ (s : State). NotesAction name action s (tables_in new.now)) same (third.1 (subst (λ (s : State). IsHistory s name) (sym second.1) (subst (λ (s : State). IsHistory s name) (sym first.1.0) first.1.1))) in (
                    λ none. some (changes ∙ none),
                    acts (tables_in old.now) notes is c.notes_law.ensures has name c.args.label.now first.1.1 action noted.mid (tables_in new.now)
                        (subst (λ (gs : List GroupData). IsNewName gs name) changes c.in_ok-note_changes.ensures.apart) refl (ap file_bytes changes) noted.forgotten.same noted.forgotten.done noted.none noted.added (noted.forgotten.history ∙ sym first.1.1),
                  ),
            );
      });
    }
