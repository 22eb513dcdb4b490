-- A call in a transaction: it sets a mark, works, and drops the mark, or goes back to it.
use Rattle.std.proofs.Common.{◌≡◌, ◌⊎◌, ◌≤◌, inl, inr, true, false, IsTrue, true≢false, List, [], Result, Ok, Err, OnOk, OnErr, IfOk, IfErr, is_ok, refl, sym, ap, subst, ◌∙◌}
use Rattle.std.proofs.lemmas.Bool.{cases_Bool}
use Rattle.sqlite.specs.Effect.{Database}
use Rattle.sqlite.specs.State.{State, Savepoint, HasCleanDisk, KeepsCommit, Shows}
use Rattle.cs_value.specs.State as tables
use Rattle.cs_rows.specs.declared.fault.Cause.{Cause}
use Rattle.cs_rows.specs.declared.fault.StoreError.{StoreError}
use Rattle.cs_rows.specs.Faults.{IsReadRefusal, is_answered}
use Rattle.cs_rows.proofs.CauseLemmas.{own_or_not}
use Rattle.cs_store_sql.specs.Failing.{Statement, LeadsTo, itself}
use Rattle.cs_store_sql.specs.Marks.{HasMark, IsMarked}
use Rattle.cs_store_sql.specs.Records.{IsUndone, KeepsContent, KeepsCrash, KeepsOthers}
use Rattle.cs_store_sql.proofs.ContentLemmas.{crash_then}
use Rattle.cs_store_sql.proofs.ReadFailures.{read_to}
use Rattle.cs_store_tables.specs.Failing.{BatchFails, IsMade, LeadsOn, MarkFails, ReleaseFails}
use Rattle.cs_store_tables.specs.Laws.{batch_then, disk_then, keeps_itself, mark_stays, was_clean}
use Rattle.cs_store_tables.specs.Refusals.{cause_of}
use Rattle.cs_store_tables.specs.Store.{HoldsState, IsSound, IsStore, KeepsStore, tables_in}
use Rattle.cs_store_tables.proofs.StoreLemmas.{back_store, content_store, dropped_sound, dropped_store}
use Rattle.cs_store.specs.Within.{EndsCall, HasBefore, Within}

-- no transaction is open where one has ended
over : {X : Type 0} (old new : State) → IsUndone old new → IsTrue new.in_transaction → X
over old new undone inside = absurd (true≢false (sym inside ∙ undone.autocommit))

-- a call that ends the transaction keeps the store
undone_keeps : (old new : State) → KeepsCrash old new → (HasCleanDisk new → IsUndone old new) → KeepsStore old new
undone_keeps old new crash undone = record {
  crash = crash;
  commit = λ clean. let back = undone clean in record { was_open = back.was_open; committed = back.committed };
  sound = dropped_sound old new crash undone;
  outside = λ clean out settled. let back = undone clean in record {
    was_open = back.was_open;
    mode = back.autocommit ∙ sym out;
    inside = λ inside is_open. over old new back inside;
    now = λ is_open. back.now is_open ∙ sym (settled (back.was_open is_open));
    committed = back.committed;
  };
  inside = λ clean inside. over old new (undone clean) inside;
  marks = λ clean inside was. over old new (undone clean) inside;
}

-- a call is refused, and the transaction has ended
pub ended_within : {X E : Type 0} (e : E) (Makes : tables.State → Type 0) (MayEnd : E → Type 0) (old new : State) → (HasCleanDisk new → MayEnd e ⊎ IsTrue new.in_transaction)
    → KeepsCrash old new → (HasCleanDisk new → IsUndone old new) → Within {X = X} Makes MayEnd old new (Err e)
ended_within e Makes MayEnd old new may crash undone = record {
  kept = undone_keeps old new crash undone;
  made = λ clean. tt;
  back = λ clean inside. over old new (undone clean) inside;
  ended = λ clean out. undone clean;
  goes_on = λ clean inside. may clean;
}

-- a call is refused before it begins
pub same_within : {X E : Type 0} (e : E) (Makes : tables.State → Type 0) (MayEnd : E → Type 0) (old : State) → (HasCleanDisk old → old.in_transaction ≡ false → IsTrue old.is_open → old.now ≡ old.committed)
    → Within {X = X} Makes MayEnd old old (Err e)
same_within e Makes MayEnd old settled = record {
  kept = keeps_itself;
  made = λ clean. tt;
  back = λ clean inside. refl;
  ended = λ clean out. record { autocommit = out; was_open = λ is_open. is_open; now = settled clean out; committed = λ is_open. refl };
  goes_on = λ clean inside. inr inside;
}

-- what a transaction shows that goes on unchanged
shown_content : (old new : State) → IsTrue old.in_transaction → Shows old new old.now old.committed true → KeepsContent old new
shown_content old new inside shown = record {
  was_open = λ is_open. shown.was_open;
  mode = shown.mode ∙ sym inside;
  inside = λ inside is_open. shown.is_open;
  now = λ is_open. shown.now_is;
  committed = λ is_open. shown.committed_is;
}

module _ (old marked mid : State)
    (is_marked : HasCleanDisk marked → IsTrue old.in_transaction × Shows old marked old.now old.committed true × IsMarked old.marks old.now marked)
    (starts : KeepsCrash old marked) (keeps : KeepsStore marked mid) where
  was_marked : HasCleanDisk mid → HasCleanDisk marked
  was_marked = was_clean marked mid keeps.crash

  worked : KeepsCrash old mid
  worked = crash_then old marked mid starts keeps.crash

  -- the mark is there where the transaction is still open
  pub mark_there : HasCleanDisk mid → IsTrue mid.in_transaction → IsMarked old.marks old.now mid
  mark_there clean inside = mark_stays old.marks old.now keeps clean inside (is_marked (was_marked clean)).2

  -- what was committed stays
  mid_commit : HasCleanDisk mid → KeepsCommit old mid
  mid_commit clean =
      let shown = (is_marked (was_marked clean)).1 in
      let commit = keeps.commit clean in
      record { was_open = λ is_open. shown.was_open; committed = λ is_open. commit.committed is_open ∙ shown.committed_is }

  -- to what it goes back
  pub goes_back_to : (HasCleanDisk old → IsTrue old.is_open → HoldsState old.now × KeepsOthers old.committed old.now) → HasCleanDisk mid → IsTrue mid.in_transaction
      → (before : List Savepoint) × (db : Database) × HoldsState db × (IsTrue mid.is_open → KeepsOthers mid.committed db) × IsMarked before db mid
  goes_back_to holds clean inside =
      let was = was_marked clean in
      let it = holds (was_clean old marked starts was) (is_marked was).1.was_open in (
        old.marks,
        old.now,
        it.0,
        λ is_open. subst (λ (db : Database). KeepsOthers db old.now) (sym ((mid_commit clean).committed is_open)) it.1,
        mark_there clean inside,
      )

  marked_store : HasCleanDisk mid → IsSound old → IsStore mid
  marked_store clean sound =
      let was = was_marked clean in
      let shown = is_marked was in
      keeps.sound (λ now. content_store old marked (shown_content old marked shown.0 shown.1) (sound (was_clean old marked starts was))) clean

  -- the work fails
  pub worked_fails : (Is : tables.State → Statement → Type 0) (why : Cause) → HasCleanDisk mid → BatchFails Is marked mid why → BatchFails Is old mid why
  worked_fails Is why clean failed =
      let was = was_marked clean in
      let shown = (is_marked was).1 in
      let leads : LeadsOn Is old marked = record {
        inside = λ inside. shown.mode;
        leads = subst (λ (db : Database). LeadsTo (IsMade Is) old.step_limit old.now db) (sym shown.now_is) itself;
      } in
      batch_then Is old marked mid why starts was keeps.crash leads failed

  module _ (new : State) where
    -- a transaction that ends goes back to what was committed when it began
    undone_old : HasCleanDisk mid → IsUndone mid new → IsUndone old new
    undone_old clean undone = record {
      autocommit = undone.autocommit;
      was_open = λ is_open. (mid_commit clean).was_open (undone.was_open is_open);
      now = λ is_open. undone.now is_open ∙ (mid_commit clean).committed (undone.was_open is_open);
      committed = λ is_open. undone.committed is_open ∙ (mid_commit clean).committed (undone.was_open is_open);
    }

    -- the mark is not dropped, and the transaction ends
    pub unreleased_within : {X E : Type 0} (e : E) (Makes : tables.State → Type 0) (MayEnd : E → Type 0) → MayEnd e → KeepsCrash mid new → (HasCleanDisk new → IsUndone mid new)
        → Within {X = X} Makes MayEnd old new (Err e)
    unreleased_within e Makes MayEnd may ends undone =
        ended_within e Makes MayEnd old new (λ clean. inl may) (crash_then old mid new worked ends) (λ clean. undone_old (was_clean mid new ends clean) (undone clean))

    -- the work is done, and the mark is dropped
    pub released_within : {X E : Type 0} (x : X) (Makes : tables.State → tables.State → Type 0) (MayEnd : E → Type 0) → KeepsCrash mid new
        → (HasCleanDisk mid → IsTrue mid.in_transaction) → (HasCleanDisk mid → Makes (tables_in marked.now) (tables_in mid.now))
        → (HasCleanDisk new → Shows mid new mid.now mid.committed true × (new.marks ≡ old.marks)) → Within (Makes (tables_in old.now)) MayEnd old new (Ok x)
    released_within x Makes MayEnd ends inside made released = record {
      kept = record {
        crash = crash_then old mid new worked ends;
        commit = λ clean.
            let commit = mid_commit (was_clean mid new ends clean) in
            let shown = (released clean).0 in
            record { was_open = λ is_open. commit.was_open shown.was_open; committed = λ is_open. shown.committed_is ∙ commit.committed shown.was_open };
        sound = λ sound clean.
            let was = was_clean mid new ends clean in
            content_store mid new (shown_content mid new (inside was) (released clean).0) (marked_store was sound);
        outside = λ clean out settled. absurd (true≢false (sym (is_marked (was_marked (was_clean mid new ends clean))).0 ∙ out));
        inside = λ clean is. (is_marked (was_marked (was_clean mid new ends clean))).0;
        marks = λ clean is was. (released clean).1;
      };
      made = λ clean.
          let was = was_clean mid new ends clean in
          let shown = (released clean).0 in (
            record { is_open = shown.is_open; inside = shown.mode },
            subst (λ (db : Database). Makes (tables_in old.now) (tables_in db)) (sym shown.now_is)
                (subst (λ (db : Database). Makes (tables_in db) (tables_in mid.now)) (is_marked (was_marked was)).1.now_is (made was)),
          );
      back = λ clean. tt;
      ended = λ clean. tt;
      goes_on = λ clean was. tt;
    }

    -- the work is refused, and the transaction goes back to the mark
    pub back_within : {X E : Type 0} (e : E) (Makes : tables.State → Type 0) (MayEnd : E → Type 0) → KeepsCrash mid new
        → (HasCleanDisk new → IsTrue mid.in_transaction × Shows mid new old.now mid.committed true × (new.marks ≡ old.marks)) → Within {X = X} Makes MayEnd old new (Err e)
    back_within e Makes MayEnd ends back = record {
      kept = record {
        crash = crash_then old mid new worked ends;
        commit = λ clean.
            let commit = mid_commit (was_clean mid new ends clean) in
            let shown = (back clean).1 in
            record { was_open = λ is_open. commit.was_open shown.was_open; committed = λ is_open. shown.committed_is ∙ commit.committed shown.was_open };
        sound = λ sound clean.
            let was = was_clean mid new ends clean in
            let commit = mid_commit was in
            let shown = (back clean).1 in
            let first = sound (was_clean old mid worked was) in
            let is_open = commit.was_open shown.was_open in
            back_store mid new old.now shown (first.now is_open) (subst (λ (db : Database). KeepsOthers db old.now) (sym (commit.committed shown.was_open)) (first.others is_open)) (marked_store was sound);
        outside = λ clean out settled. absurd (true≢false (sym (is_marked (was_marked (was_clean mid new ends clean))).0 ∙ out));
        inside = λ clean is. (is_marked (was_marked (was_clean mid new ends clean))).0;
        marks = λ clean is was. (back clean).2;
      };
      made = λ clean. tt;
      back = λ clean inside. (back clean).1.now_is;
      ended = λ clean out. absurd (true≢false (sym (back clean).1.mode ∙ out));
      goes_on = λ clean was. inr (back clean).1.mode;
    }

    -- the call ends as its work did
    pub call_within : {X E : Type 0} (r : Result X E) (Makes : tables.State → tables.State → Type 0) (MayEnd : E → Type 0) → KeepsCrash mid new
        → (HasCleanDisk mid → OnOk r (IsTrue mid.in_transaction × Makes (tables_in marked.now) (tables_in mid.now)))
        → (HasCleanDisk mid → IfErr r (λ e. MayEnd e ⊎ IsTrue mid.in_transaction))
        → ((before : List Savepoint) (db : Database) → (IsTrue mid.in_transaction → IsMarked before db mid) → HasCleanDisk new → EndsCall (is_ok r) before db mid new)
        → Within (Makes (tables_in old.now)) MayEnd old new r
    call_within (Ok x) Makes MayEnd ends made may end =
        released_within x Makes MayEnd ends (λ clean. (made clean).0) (λ clean. (made clean).1)
        (λ clean. let was = was_clean mid new ends clean in (end old.marks old.now (mark_there was) clean).goes_on (made was).0)
    call_within {X = X} (Err e) Makes MayEnd ends made may end = at (cases_Bool mid.in_transaction)
      where
        ended : HasCleanDisk new → EndsCall false old.marks old.now mid new
        ended clean = end old.marks old.now (mark_there (was_clean mid new ends clean)) clean

        at : IsTrue mid.in_transaction ⊎ (mid.in_transaction ≡ false) → Within {X = X} (Makes (tables_in old.now)) MayEnd old new (Err e)
        at (inl inside) = back_within e (Makes (tables_in old.now)) MayEnd ends (λ clean. let on = (ended clean).goes_on inside in (inside, on.0, on.1))
        at (inr out) =
            ended_within e (Makes (tables_in old.now)) MayEnd old new
            (λ clean. elim (may (was_clean mid new ends clean)) [ inl ends ↦ inl ends | inr inside ↦ absurd (true≢false (sym inside ∙ out)) ])
            (crash_then old mid new worked ends)
            (λ clean. undone_old (was_clean mid new ends clean) ((ended clean).has_ended out))

    -- ---- for which causes

    -- the call does not end as its work did
    pub release_fails : (Is : tables.State → Statement → Type 0) (why : Cause) → HasCleanDisk mid → mid.faults ≤ new.faults → ReleaseFails mid new why → BatchFails Is old new why
    release_fails Is why clean counts (e, other, failed, is) = inr (e, other, inl (inl (disk_then old mid new e worked clean counts failed)), is)

    -- the work fails
    pub marked_fails : (Is : tables.State → Statement → Type 0) (why : Cause) → HasCleanDisk mid → KeepsCrash mid new → BatchFails Is marked mid why → BatchFails Is old new why
    marked_fails Is why clean ends failed = longer (worked_fails Is why clean failed)
      where
        longer : BatchFails Is old mid why → BatchFails Is old new why
        longer (inl outside) = inl outside
        longer (inr (e, other, inl cannot, is)) = inr (e, other, inl (read_to old mid new e ends cannot), is)
        longer (inr (e, other, inr refused, is)) = inr (e, other, inr refused, is)

-- the mark is not set
pub mark_fails : (Is : tables.State → Statement → Type 0) (old new : State) (why : Cause) → MarkFails old new why → BatchFails Is old new why
mark_fails Is old new why (e, other, inl (outside, misplaced), is) = inl (outside, is ∙ ap cause_of misplaced)
mark_fails Is old new why (e, other, inr failed, is) = inr (e, other, inl (inl failed), is)

-- ---- by the answer of the work

-- what holds of an accepted call with the database that its work left holds with the one that is shown
pub shown_holds : {X E : Type 0} (r : Result X E) (P : X → Database → Type 0) (before : List Savepoint) (db : Database) (mid new : State) → OnOk r (IsTrue mid.in_transaction) → EndsCall (is_ok r) before db mid new
    → IfOk r (λ x. P x mid.now) → IfOk r (λ x. P x new.now)
shown_holds (Ok x) P before db mid new inside end holds = subst (P x) (sym (end.goes_on inside).0.now_is) holds
shown_holds (Err e) P before db mid new inside end holds = tt

pub shown_on : {X E : Type 0} (r : Result X E) (P : Database → Type 0) (before : List Savepoint) (db : Database) (mid new : State) → OnOk r (IsTrue mid.in_transaction) → EndsCall (is_ok r) before db mid new
    → OnOk r (P mid.now) → OnOk r (P new.now)
shown_on (Ok x) P before db mid new inside end holds = subst P (sym (end.goes_on inside).0.now_is) holds
shown_on (Err e) P before db mid new inside end holds = tt

-- work on rows that were all read and written leaves the transaction open
pub answered_inside : {X : Type 0} (r : Result X StoreError) (Inside : Type 0) → (is_answered r ≡ true → Inside) → OnOk r Inside
answered_inside (Ok x) Inside inside = inside refl
answered_inside (Err e) Inside inside = tt

pub answered_goes_on : {X : Type 0} (r : Result X StoreError) (Inside : Type 0) → (is_answered r ≡ true → Inside) → IfErr r (λ e. IsReadRefusal e ⊎ Inside)
answered_goes_on (Ok x) Inside inside = tt
answered_goes_on (Err e) Inside inside = elim (own_or_not e) [ inl refused ↦ inl refused | inr own ↦ inr (inside own) ]

-- and makes what it makes
pub leaves_inside : {X E : Type 0} (r : Result X E) (P Inside Made : Type 0) → (P → Made) → OnOk r Inside → OnOk r P → OnOk r (Inside × Made)
leaves_inside (Ok x) P Inside Made so inside holds = (inside, so holds)
leaves_inside (Err e) P Inside Made so inside holds = tt

pub makes_inside : {X E : Type 0} (r : Result X E) (P : X → Type 0) (Inside Made : Type 0) → ((x : X) → P x → Made) → OnOk r Inside → IfOk r P → OnOk r (Inside × Made)
makes_inside (Ok x) P Inside Made so inside holds = (inside, so x holds)
makes_inside (Err e) P Inside Made so inside holds = tt

-- ---- a store stays one

-- what a transaction goes back to is a store
pub gone_sound : {X E : Type 0} (old new : State) (r : Result X E) → (HasCleanDisk old → IsTrue old.in_transaction → HasBefore old)
    → ((HasCleanDisk old → IsTrue old.in_transaction → HasMark old) → KeepsCrash old new)
    → ((before : List Savepoint) (db : Database) → (IsTrue old.in_transaction → IsMarked before db old) → HasCleanDisk new → OnOk r (IsTrue old.in_transaction × Shows old new db old.committed true × (new.marks ≡ before)))
    → ((IsTrue old.in_transaction → HasMark old) → HasCleanDisk new → OnErr r (IsUndone old new)) → IsSound old → IsSound new
gone_sound old new r has survives back undone sound clean = at r (cases_Bool old.in_transaction) back undone
  where
    crash : KeepsCrash old new
    crash = survives (λ clean inside. let it = has clean inside in (it.0, it.1, it.4))

    was : HasCleanDisk old
    was = was_clean old new crash clean

    out_of : (old.in_transaction ≡ false) → {Y : Type 0} → IsTrue old.in_transaction → Y
    out_of outside inside = absurd (true≢false (sym inside ∙ outside))

    at : {X E : Type 0} (r : Result X E) → IsTrue old.in_transaction ⊎ (old.in_transaction ≡ false)
        → ((before : List Savepoint) (db : Database) → (IsTrue old.in_transaction → IsMarked before db old) → HasCleanDisk new → OnOk r (IsTrue old.in_transaction × Shows old new db old.committed true × (new.marks ≡ before)))
        → ((IsTrue old.in_transaction → HasMark old) → HasCleanDisk new → OnErr r (IsUndone old new)) → IsStore new
    at (Ok x) (inl inside) back undone =
        let it = has was inside in
        let shown = (back it.0 it.1 (λ k. it.4) clean).1 in
        back_store old new it.1 shown it.2 (it.3 shown.was_open) (sound was)
    at (Ok x) (inr outside) back undone = out_of outside (back [] old.now (out_of outside) clean).0
    at (Err e) (inl inside) back undone = let it = has was inside in dropped_store old new (undone (λ k. (it.0, it.1, it.4)) clean) (sound was)
    at (Err e) (inr outside) back undone = dropped_store old new (undone (out_of outside) clean) (sound was)
