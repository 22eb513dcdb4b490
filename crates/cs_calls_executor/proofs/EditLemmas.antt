-- An edit that follows reads.
use Rattle.std.proofs.Common.{◌≡◌, ◌⊎◌, inl, inr, Vec, Global, IsTrue, false, true≢false, Result, Ok, Err, IfOk, IfErr, sym, ap, subst, ◌∙◌}
use Rattle.sqlite.specs.Effect.{Database}
use Rattle.sqlite.specs.State as sqlite
use Rattle.sqlite.specs.State.{HasCleanDisk, IsUnchanged}
use Rattle.cs_value.specs.State.{State}
use Rattle.cs_rows.specs.declared.edit.Written.{Written}
use Rattle.cs_rows.specs.Editing.{Edited}
use Rattle.cs_store.specs.Laws.{was_clean, keeps_then}
use Rattle.cs_store.specs.Records.{Rests, IsUndone}
use Rattle.cs_store.specs.Store.{KeepsStore, tables_in}
use Rattle.cs_store.specs.Within.{Within}
use Rattle.cs_calls_answers.specs.declared.answer.Refused.{Refused}
use Rattle.cs_calls_executor.specs.Answered.{IsAnswered, IsResource, MayEnd, Reads, Edits, edited_as}

-- a read that was answered changed nothing
pub answered : {X : Type 0} (first : State → Result X Refused) (old new : sqlite.State) (x : X) → Reads first old new (Ok x) → HasCleanDisk new → (first (tables_in old.now) ≡ Ok x) × IsUnchanged old new
answered {X} first old new x one clean = at (one.given clean)
  where
    at : IsAnswered (first (tables_in old.now)) old new (Ok x) → (first (tables_in old.now) ≡ Ok x) × IsUnchanged old new
    at (inl given) = (sym given.0, given.1)
    at (inr none) = absurd none

-- what a call in a transaction says of the tables after a read, it says of those before
module _ {X : Type 0} (first : State → Result X Refused) (old mid new : sqlite.State) (x : X) (one : Reads first old mid (Ok x)) where
  same : HasCleanDisk mid → IsUnchanged old mid
  same clean = (answered first old mid x one clean).1

  back_to : IsUndone mid new → HasCleanDisk mid → IsUndone old new
  back_to undone clean =
      let shown = (same clean).0 in
      record {
        autocommit = undone.autocommit;
        was_open = λ is_open. shown.was_open;
        now = λ is_open. undone.now is_open ∙ shown.committed_is;
        committed = λ is_open. undone.committed is_open ∙ shown.committed_is;
      }

  pub within_then : {Y E : Type 0} (Makes Made : State → Type 0) (Ends : E → Type 0) (result : Result Y E)
      → (HasCleanDisk mid → (made : State) → Makes made → Made made) → Within Makes Ends mid new result → Within Made Ends old new result
  within_then Makes Made Ends (Ok y) so two = record {
    kept = keeps_then one.kept two.kept;
    made = λ clean. ((two.made clean).0, so (was_clean mid new two.kept.crash clean) (tables_in new.now) (two.made clean).1);
    back = λ clean. tt;
    ended = λ clean. tt;
    goes_on = λ clean inside. tt;
  }
  within_then Makes Made Ends (Err e) so two = record {
    kept = keeps_then one.kept two.kept;
    made = λ clean. tt;
    back = λ clean inside. two.back clean inside ∙ (same (was_clean mid new two.kept.crash clean)).0.now_is;
    ended = λ clean out. back_to (two.ended clean out) (was_clean mid new two.kept.crash clean);
    goes_on = λ clean inside. two.goes_on clean (subst IsTrue (sym (same (was_clean mid new two.kept.crash clean)).0.mode) inside);
  }

-- what holds of a result, if it is one
on_ok : {Y E : Type 0} (P Q : Y → Type 0) → ((y : Y) → P y → Q y) → (r : Result Y E) → IfOk r P → IfOk r Q
on_ok P Q so (Ok y) holds = so y holds
on_ok P Q so (Err e) holds = tt

pub edits_then : {X : Type 0} (first : State → Result X Refused) (next second : State → Result Edited Refused) (old mid new : sqlite.State) (x : X) (result : Result (Vec Written Global) Refused)
    → ((tables : State) → first tables ≡ Ok x → next tables ≡ second tables) → Reads first old mid (Ok x) → Edits second mid new result → Edits next old new result
edits_then {X} first next second old mid new x result so one two = record {
  within = within_then first old mid new x one (λ made. IfOk result (λ w. second (tables_in mid.now) ≡ Ok (edited_as made w))) (λ made. IfOk result (λ w. next (tables_in old.now) ≡ Ok (edited_as made w))) MayEnd result
      (λ clean made. on_ok (λ w. second (tables_in mid.now) ≡ Ok (edited_as made w)) (λ w. next (tables_in old.now) ≡ Ok (edited_as made w)) (λ w is. same clean ∙ is) result) two.within;
  refused = λ clean. passed (was_clean mid new two.within.kept.crash clean) result (two.refused clean);
}
  where
    same : HasCleanDisk mid → next (tables_in old.now) ≡ second (tables_in mid.now)
    same clean =
        let it = answered first old mid x one clean in
        so (tables_in old.now) it.0 ∙ sym (ap (λ (db : Database). second (tables_in db)) it.1.0.now_is)

    passed : HasCleanDisk mid → (r : Result (Vec Written Global) Refused) → IfErr r (λ why. (second (tables_in mid.now) ≡ Err why) ⊎ IsResource why) → IfErr r (λ why. (next (tables_in old.now) ≡ Err why) ⊎ IsResource why)
    passed clean (Ok w) refused = tt
    passed clean (Err why) (inl is) = inl (same clean ∙ is)
    passed clean (Err why) (inr resource) = inr resource

-- a refusal for a resource may end a transaction
pub may_end : (why : Refused) → IsResource why → MayEnd why
may_end why resource = record { error = resource.error; of = inr resource.of; is = resource.is }

-- what a read leaves, if the call is refused then
pub rested_within : {Y : Type 0} (why : Refused) (Makes : State → Type 0) (old new : sqlite.State) → KeepsStore old new → (HasCleanDisk new → Rests old new)
    → (HasCleanDisk old → old.in_transaction ≡ false → IsTrue old.is_open → old.now ≡ old.committed) → (HasCleanDisk new → IsUnchanged old new ⊎ MayEnd why)
    → Within {X = Y} Makes MayEnd old new (Err why)
rested_within {Y} why Makes old new kept rests settled changed = record {
  kept = kept;
  made = λ clean. tt;
  back = λ clean inside. shown (rests clean) inside;
  ended = λ clean out. over clean (rests clean) out;
  goes_on = λ clean inside. elim (changed clean) [ inl same ↦ inr (subst IsTrue (sym same.0.mode) inside) | inr resource ↦ inl resource ];
}
  where
    shown : Rests old new → IsTrue new.in_transaction → new.now ≡ old.now
    shown (inl same) inside = same.0.now_is
    shown (inr back) inside = absurd (true≢false (sym inside ∙ back.autocommit))

    over : HasCleanDisk new → Rests old new → new.in_transaction ≡ false → IsUndone old new
    over clean (inl same) out = record {
      autocommit = out;
      was_open = λ is_open. same.0.was_open;
      now = λ is_open. same.0.now_is ∙ settled (was_clean old new kept.crash clean) (sym same.0.mode ∙ out) same.0.was_open;
      committed = λ is_open. same.0.committed_is;
    }
    over clean (inr back) out = record {
      autocommit = out;
      was_open = back.was_open;
      now = λ is_open. (back.undone is_open).0;
      committed = λ is_open. (back.undone is_open).1;
    }

-- the call is refused after a read that was answered
pub edits_stopped : {X : Type 0} (first : State → Result X Refused) (next : State → Result Edited Refused) (old new : sqlite.State) (x : X) (why : Refused)
    → (HasCleanDisk old → old.in_transaction ≡ false → IsTrue old.is_open → old.now ≡ old.committed)
    → ((tables : State) → first tables ≡ Ok x → (next tables ≡ Err why) ⊎ IsResource why) → Reads first old new (Ok x) → Edits next old new (Err why)
edits_stopped {X} first next old new x why settled so one = record {
  within = rested_within why _ old new one.kept one.rests settled (λ clean. inl (answered first old new x one clean).1);
  refused = λ clean. so (tables_in old.now) (answered first old new x one clean).0;
}

-- or the read is
pub edits_refused : {X : Type 0} (first : State → Result X Refused) (next : State → Result Edited Refused) (old new : sqlite.State) (why : Refused)
    → (HasCleanDisk old → old.in_transaction ≡ false → IsTrue old.is_open → old.now ≡ old.committed)
    → ((tables : State) → first tables ≡ Err why → next tables ≡ Err why) → Reads first old new (Err why) → Edits next old new (Err why)
edits_refused {X} first next old new why settled so one = record {
  within = rested_within why _ old new one.kept one.rests settled (λ clean. changed (one.given clean));
  refused = λ clean. passed (one.given clean);
}
  where
    changed : IsAnswered (first (tables_in old.now)) old new (Err why) → IsUnchanged old new ⊎ MayEnd why
    changed (inl given) = inl given.1
    changed (inr refused) = inr (may_end why refused)

    passed : IsAnswered (first (tables_in old.now)) old new (Err why) → (next (tables_in old.now) ≡ Err why) ⊎ IsResource why
    passed (inl given) = inl (so (tables_in old.now) (sym given.0))
    passed (inr refused) = inr refused

-- what a call of the store is refused for, by another refusal
pub within_refused : {X Y E : Type 0} (Makes Made : State → Type 0) (Ends : E → Type 0) (old new : sqlite.State) (e : E) (why : Refused) → (Ends e → MayEnd why) → Within {X = X} Makes Ends old new (Err e)
    → Within {X = Y} Made MayEnd old new (Err why)
within_refused Makes Made Ends old new e why so one = record {
  kept = one.kept;
  made = λ clean. tt;
  back = one.back;
  ended = one.ended;
  goes_on = λ clean inside. elim (one.goes_on clean inside) [ inl may ↦ inl (so may) | inr on ↦ inr on ];
}
