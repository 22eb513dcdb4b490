-- Stores stay stores, whatever a call answers.
use Rattle.std.proofs.Common.{◌≡◌, true, false, IsTrue, Result, Ok, Err, OnOk, OnErr, inl, inr, sym, subst, subst₂, ◌∙◌, true≢false}
use Rattle.std.proofs.lemmas.Bool.{cases_Bool}
use Rattle.sqlite.specs.Effect.{Database}
use Rattle.sqlite.specs.State.{State, HasCleanDisk, KeepsCommit, Shows, IsUnchanged, IsRolledBack}
use Rattle.cs_store_sql.specs.Records.{Rests, GoesOn, IsUndone, KeepsContent, KeepsCrash, KeepsOthers}
use Rattle.cs_store_tables.specs.Store.{HoldsState, IsStore, IsSound, Adopts, Begins, KeepsStore}
use Rattle.cs_store_tables.specs.Laws.{was_clean}
use Rattle.cs_store_sql.proofs.ContentLemmas.{rests_keeps_content, rests_commit}
use Rattle.cs_store_sql.proofs.TableLemmas.{others_then, others_itself}

-- what is shown and was committed last is as it was, or one database
others_same : (old new : State) → new.now ≡ old.now → new.committed ≡ old.committed → KeepsOthers old.committed old.now → KeepsOthers new.committed new.now
others_same old new now committed = subst₂ KeepsOthers (sym committed) (sym now)

others_one : (s : State) → s.now ≡ s.committed → KeepsOthers s.committed s.now
others_one s same = subst (KeepsOthers s.committed) (sym same) (others_itself s.committed)

unchanged_store : (old new : State) → IsUnchanged old new → IsStore old → IsStore new
unchanged_store old new same was = record {
  open_inside = λ k. same.0.is_open;
  settled = λ out k. same.0.now_is ∙ was.settled (sym same.0.mode ∙ out) same.0.was_open ∙ sym same.0.committed_is;
  now = λ k. subst HoldsState (sym same.0.now_is) (was.now same.0.was_open);
  committed = λ k. subst HoldsState (sym same.0.committed_is) (was.committed same.0.was_open);
  others = λ k. others_same old new same.0.now_is same.0.committed_is (was.others same.0.was_open);
}

undone_store : (old new : State) → IsRolledBack old new → IsStore old → IsStore new
undone_store old new undone was = record {
  open_inside = λ k. absurd (true≢false (sym k ∙ undone.autocommit));
  settled = λ out k. (undone.undone k).0 ∙ sym (undone.undone k).1;
  now = λ k. subst HoldsState (sym (undone.undone k).0) (was.committed (undone.was_open k));
  committed = λ k. subst HoldsState (sym (undone.undone k).1) (was.committed (undone.was_open k));
  others = λ k. others_one new ((undone.undone k).0 ∙ sym (undone.undone k).1);
}

-- a transaction that ends, or is undone
shown_store : (old new : State) → Shows old new old.now old.now false → IsStore old → IsStore new
shown_store old new shown was = record {
  open_inside = λ k. shown.is_open;
  settled = λ out k. shown.now_is ∙ sym shown.committed_is;
  now = λ k. subst HoldsState (sym shown.now_is) (was.now shown.was_open);
  committed = λ k. subst HoldsState (sym shown.committed_is) (was.now shown.was_open);
  others = λ k. others_one new (shown.now_is ∙ sym shown.committed_is);
}

pub dropped_store : (old new : State) → IsUndone old new → IsStore old → IsStore new
dropped_store old new undone was = record {
  open_inside = λ k. absurd (true≢false (sym k ∙ undone.autocommit));
  settled = λ out k. undone.now k ∙ sym (undone.committed k);
  now = λ k. subst HoldsState (sym (undone.now k)) (was.committed (undone.was_open k));
  committed = λ k. subst HoldsState (sym (undone.committed k)) (was.committed (undone.was_open k));
  others = λ k. others_one new (undone.now k ∙ sym (undone.committed k));
}

pub dropped_sound : (old new : State) → KeepsCrash old new → (HasCleanDisk new → IsUndone old new) → IsSound old → IsSound new
dropped_sound old new crash undone sound clean = dropped_store old new (undone clean) (sound (was_clean old new crash clean))

-- a database that is adopted is one
pub adopted_sound : (old new : State) → (HasCleanDisk new → Adopts old new) → IsSound new
adopted_sound old new adopts clean =
    let it = adopts clean in
    let rest = it.at_rest in
    record {
      open_inside = λ k. rest.is_open;
      settled = λ out k. sym rest.committed;
      now = λ k. it.holds;
      committed = λ k. subst HoldsState (sym rest.committed) it.holds;
      others = λ k. others_one new (sym rest.committed);
    }

-- so a commit keeps a store one, whatever it answers
pub ended_store : {X E : Type 0} (result : Result X E) (old new : State) → OnOk result (IsTrue old.in_transaction × Shows old new old.now old.now false) → OnErr result (IsUndone old new) → IsStore old → IsStore new
ended_store (Ok x) old new ends undone was = shown_store old new ends.1 was
ended_store (Err e) old new ends undone was = dropped_store old new undone was

-- a call that changed nothing, or took the database back
pub rests_store : (old new : State) → Rests old new → IsStore old → IsStore new
rests_store old new (inl same) was = unchanged_store old new same was
rests_store old new (inr undone) was = undone_store old new undone was

-- a write in a transaction
goes_on_store : (old new : State) → GoesOn old new → HoldsState new.now → KeepsOthers old.now new.now → IsStore old → IsStore new
goes_on_store old new on holds others was = record {
  open_inside = λ k. on.is_open;
  settled = λ out k. absurd (true≢false (sym on.mode ∙ out));
  now = λ k. holds;
  committed = λ k. subst HoldsState (sym on.committed_is) (was.committed on.was_open);
  others = λ k. subst (λ db. KeepsOthers db new.now) (sym on.committed_is) (others_then old.committed old.now new.now (was.now on.was_open).records.sound (was.others on.was_open) others);
}

-- where the content is kept, a store stays one
pub content_store : (old new : State) → KeepsContent old new → IsStore old → IsStore new
content_store old new kept was = record {
  open_inside = λ k. kept.inside k (was.open_inside (sym kept.mode ∙ k));
  settled = λ out k. kept.now k ∙ was.settled (sym kept.mode ∙ out) (kept.was_open k) ∙ sym (kept.committed k);
  now = λ k. subst HoldsState (sym (kept.now k)) (was.now (kept.was_open k));
  committed = λ k. subst HoldsState (sym (kept.committed k)) (was.committed (kept.was_open k));
  others = λ k. others_same old new (kept.now k) (kept.committed k) (was.others (kept.was_open k));
}

-- a call that keeps the content and the marks keeps the store
pub content_keeps : (old new : State) → KeepsCrash old new → (HasCleanDisk new → KeepsContent old new) → (HasCleanDisk new → IsTrue new.in_transaction → new.marks ≡ old.marks) → KeepsStore old new
content_keeps old new crash keeps marks = record {
  crash = crash;
  commit = λ clean. let kept = keeps clean in record { was_open = kept.was_open; committed = kept.committed };
  sound = λ sound clean. content_store old new (keeps clean) (sound (was_clean old new crash clean));
  outside = λ clean out settled. keeps clean;
  inside = λ clean k. subst IsTrue (keeps clean).mode k;
  marks = λ clean k was. marks clean k;
}

-- after a call that rests, an open transaction is the one that was open, with its marks
rests_inside : (old new : State) → Rests old new → IsTrue new.in_transaction → IsTrue old.in_transaction × (new.marks ≡ old.marks)
rests_inside old new (inl same) k = (subst IsTrue same.0.mode k, same.2)
rests_inside old new (inr undone) k = absurd (true≢false (sym k ∙ undone.autocommit))

-- a call that rests keeps the store
pub rests_keeps : (old new : State) → KeepsCrash old new → (HasCleanDisk new → Rests old new) → KeepsStore old new
rests_keeps old new crash rests = record {
  crash = crash;
  commit = λ clean. rests_commit old new (rests clean);
  sound = λ sound clean. rests_store old new (rests clean) (sound (was_clean old new crash clean));
  outside = λ clean out settled. rests_keeps_content old new (rests clean) out settled;
  inside = λ clean k. (rests_inside old new (rests clean) k).0;
  marks = λ clean k was. (rests_inside old new (rests clean) k).1;
}

-- and so does a write that leaves a state
pub write_keeps : (old new : State) → IsTrue old.in_transaction → KeepsCrash old new
    → (HasCleanDisk new → GoesOn old new × HoldsState new.now × KeepsOthers old.now new.now × (new.marks ≡ old.marks)) → KeepsStore old new
write_keeps old new inside crash wrote = record {
  crash = crash;
  commit = λ clean. let on = (wrote clean).0 in record { was_open = λ k. on.was_open; committed = λ k. on.committed_is };
  sound = λ sound clean. let w = wrote clean in goes_on_store old new w.0 w.1 w.2 (sound (was_clean old new crash clean));
  outside = λ clean out settled. absurd (true≢false (sym inside ∙ out));
  inside = λ clean k. inside;
  marks = λ clean k was. (wrote clean).3;
}

-- a transaction that goes on with this content
pub back_store : (old new : State) (db : Database) → Shows old new db old.committed true → HoldsState db → KeepsOthers old.committed db → IsStore old → IsStore new
back_store old new db shown holds others was = record {
  open_inside = λ k. shown.is_open;
  settled = λ out k. absurd (true≢false (sym shown.mode ∙ out));
  now = λ k. subst HoldsState (sym shown.now_is) holds;
  committed = λ k. subst HoldsState (sym shown.committed_is) (was.committed shown.was_open);
  others = λ k. subst₂ KeepsOthers (sym shown.committed_is) (sym shown.now_is) others;
}

-- a transaction that begins keeps a store one, and so does one that does not begin
pub begun_sound : (old new : State) → KeepsCrash old new → (HasCleanDisk new → Shows old new old.now old.committed true) → IsSound old → IsSound new
begun_sound old new crash shown sound clean =
    let was = sound (was_clean old new crash clean) in
    let is = shown clean in
    back_store old new old.now is (was.now is.was_open) (was.others is.was_open) was

pub content_sound : (old new : State) → KeepsCrash old new → (HasCleanDisk new → KeepsContent old new) → IsSound old → IsSound new
content_sound old new crash kept sound clean = content_store old new (kept clean) (sound (was_clean old new crash clean))

-- so a store that is marked, or whose mark is dropped, stays one, whatever the call answers
pub marked_sound : {X E : Type 0} (result : Result X E) (old new : State) → KeepsCrash old new → (HasCleanDisk new → OnOk result (Shows old new old.now old.committed true)) → (HasCleanDisk new → OnErr result (IsUndone old new))
    → IsSound old → IsSound new
marked_sound (Ok x) old new crash shown undone sound clean =
    let was = sound (was_clean old new crash clean) in
    let is = shown clean in
    back_store old new old.now is (was.now is.was_open) (was.others is.was_open) was
marked_sound (Err e) old new crash shown undone sound clean = dropped_store old new (undone clean) (sound (was_clean old new crash clean))

-- and so does one that goes back to a mark
pub back_sound : (old new : State) (db : Database) → KeepsCrash old new → (HasCleanDisk new → IsTrue new.in_transaction → Shows old new db old.committed true)
    → (HasCleanDisk new → new.in_transaction ≡ false → IsUndone old new) → (HasCleanDisk old → IsTrue old.is_open → HoldsState db × KeepsOthers old.committed db) → IsSound old → IsSound new
back_sound old new db crash back undone holds sound clean =
    let clean_before = was_clean old new crash clean in
    let was = sound clean_before in
    elim (cases_Bool new.in_transaction) [
      | inl inside ↦ let is = back clean inside in let it = holds clean_before is.was_open in back_store old new db is it.0 it.1 was
      | inr ended ↦ dropped_store old new (undone clean ended) was
    ]

-- a transaction that is undone leaves the content as it was
pub undone_content : (old begun mid new : State) → Begins old begun → KeepsCommit begun mid → IsUndone mid new → KeepsContent old new
undone_content old begun mid new begins keeps undone = record {
  was_open = λ k. begins.shown.was_open;
  mode = undone.autocommit ∙ sym begins.autocommit;
  inside = λ k is. absurd (true≢false (sym k ∙ undone.autocommit));
  now = λ k. undone.now k ∙ keeps.committed (undone.was_open k) ∙ begins.shown.committed_is ∙ sym begins.settled;
  committed = λ k. undone.committed k ∙ keeps.committed (undone.was_open k) ∙ begins.shown.committed_is;
}

-- and so does a batch
pub undone_batch : (old begun mid new : State) → (HasCleanDisk begun → Begins old begun) → KeepsStore begun mid → HasCleanDisk mid → IsUndone mid new → KeepsContent old new
undone_batch old begun mid new begins keeps clean undone = undone_content old begun mid new (begins (was_clean begun mid keeps.crash clean)) (keeps.commit clean) undone
