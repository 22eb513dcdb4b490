-- For which causes a call fails that begins and ends its own batch.
use Rattle.std.proofs.Common.{◌≡◌, ◌≤◌, inl, inr, true, false, IsTrue, true≢false, Result, Ok, Err, OnOk, IfErr, IsErrAnd, sym, subst, ◌∙◌}
use Rattle.std.specs.Prelude.{IfOk}
use Rattle.std.specs.Result.{is_ok}
use Rattle.sqlite.specs.Effect.{Database}
use Rattle.sqlite.specs.State.{State, HasCleanDisk}
use Rattle.sqlite.specs.declared.error.Error.{Error}
use Rattle.cs_value.specs.State as tables
use Rattle.cs_rows.specs.declared.fault.Cause.{Cause}
use Rattle.cs_store_sql.specs.Failing.{Statement, LeadsTo, itself}
use Rattle.cs_store_sql.specs.Records.{KeepsCrash}
use Rattle.cs_store_sql.proofs.ContentLemmas.{crash_then}
use Rattle.cs_store_sql.proofs.ReadFailures.{read_to}
use Rattle.cs_store_tables.specs.Failing.{IsMade, BatchFails, BeginFails, CallFails, CommitFails, StoreFails}
use Rattle.cs_store_tables.specs.Store.{Begins, KeepsStore}
use Rattle.cs_store_tables.specs.Laws.{call_then, disk_then, was_clean}

-- what an accepted call answers
pub accepted : {X E : Type 0} (r : Result X E) (P : Type 0) → OnOk r P → is_ok r ≡ true → P
accepted (Ok x) P p is = p
accepted (Err e) P p is = absurd (true≢false (sym is))

-- what holds of what an accepted call returns holds of one that passes on a refusal
pub unaccepted : {X E : Type 0} (r : Result X E) (P : X → Type 0) (Q : E → Type 0) → IsErrAnd r Q → IfOk r P
unaccepted (Ok x) P Q is = absurd is
unaccepted (Err e) P Q is = tt

pub undone_on : {X E : Type 0} (r : Result X E) (P : Type 0) (Q : E → Type 0) → IsErrAnd r Q → OnOk r P
undone_on (Ok x) P Q is = absurd is
undone_on (Err e) P Q is = tt

-- a call that passes on a refusal is refused as that one is
pub passed_on : {X E : Type 0} (r : Result X E) (P : E → Type 0) (e : E) → IsErrAnd r (λ f. f ≡ e) → P e → IsErrAnd r P
passed_on (Ok x) P e is holds = absurd is
passed_on (Err f) P e is holds = subst P (sym is) holds

pub refused_on : {X E : Type 0} (r : Result X E) (P : E → Type 0) (e : E) → IsErrAnd r (λ f. f ≡ e) → P e → IfErr r P
refused_on (Ok x) P e is holds = tt
refused_on (Err f) P e is holds = subst P (sym is) holds

-- its batch does not begin
pub begin_fails : (Is : tables.State → Statement → Type 0) (old new : State) (why : Cause) → BeginFails old new why → StoreFails Is old new why
begin_fails Is old new why (e, other, inl misplaced, is) = (e, other, inl misplaced, is)
begin_fails Is old new why (e, other, inr failed, is) = (e, other, inr (inl (inl failed)), is)

module _ (Is : tables.State → Statement → Type 0) (old begun mid last : State) (begins : HasCleanDisk begun → Begins old begun) (starts : KeepsCrash old begun) (keeps : KeepsStore begun mid) where
  -- a call in it fails, and it is dropped
  pub work_fails : HasCleanDisk mid → KeepsCrash mid last → (why : Cause) → BatchFails Is begun mid why → StoreFails Is old last why
  work_fails clean drops why failed = at failed
    where
      was : HasCleanDisk begun
      was = was_clean begun mid keeps.crash clean

      began : Begins old begun
      began = begins was

      longer : (e : Error) → CallFails Is old mid e → CallFails Is old last e
      longer e (inl cannot) = inl (read_to old mid last e drops cannot)
      longer e (inr refused) = inr refused

      at : BatchFails Is begun mid why → StoreFails Is old last why
      at (inl (outside, other)) = absurd (true≢false (sym began.shown.mode ∙ outside))
      at (inr (e, other, fails, is)) =
          let leads = subst (λ (db : Database). LeadsTo (IsMade Is) old.step_limit old.now db) (sym began.shown.now_is) itself in
          (e, other, inr (longer e (call_then Is old begun mid starts was keeps.crash leads e fails)), is)

  -- it does not begin where the connection was shut
  pub begun_open : {P : Type 0} → HasCleanDisk mid → old.is_open ≡ false → P
  begun_open clean shut = absurd (true≢false (sym (begins (was_clean begun mid keeps.crash clean)).shown.was_open ∙ shut))

  -- its commit fails
  pub commit_fails : HasCleanDisk mid → mid.faults ≤ last.faults → (IsTrue begun.in_transaction → IsTrue mid.in_transaction) → (why : Cause) → CommitFails mid last why → StoreFails Is old last why
  commit_fails clean counts stays why (e, other, inl (outside, misplaced), is) =
      let began = begins (was_clean begun mid keeps.crash clean) in
      absurd (true≢false (sym (stays began.shown.mode) ∙ outside))
  commit_fails clean counts stays why (e, other, inr failed, is) =
      (e, other, inr (inl (inl (disk_then old mid last e (crash_then old begun mid starts keeps.crash) clean counts failed))), is)
