-- Texts that ask for nothing but rows: a call of one changes nothing, and a failure of one leaves the database or takes
-- it back.
use Rattle.std.proofs.Common.{◌≡◌, inl, inr, ℕ, List, Option, Some, None, Result, Ok, Err, IsSome, IfOk, IsErr, OnOk, OnErr, subst}
use Rattle.sqlite_value.specs.Order.{Row}
use Rattle.sqlite_schema.specs.declared.command.Returning.{Returning}
use Rattle.sqlite_resolve.specs.declared.compiled.Compiled.{Compiled}
use Rattle.sqlite.specs.declared.error.Error.{Error}
use Rattle.sqlite.specs.Clock.{timed}
use Rattle.sqlite.specs.State.{State, IsStatement, IsUnchanged, Shown, ShowsRows, FailsToShow, FailsToQuery, Survives, CommitsShowing}
use Rattle.sqlite.proofs.StateLemmas.{survives_weaker}
use Rattle.cs_store_sql.specs.Records.{ShowsOnly, IsQuery, Rests, KeepsCrash}
use Rattle.cs_store_sql.proofs.StatementLemmas.{not_run_rests, command_rests}

-- it has no RETURNING
pub returns_nothing : (sql : List ℕ) (params : Row) (old : State) (c : Compiled) → IsQuery sql → IsStatement old sql params c → c.returning ≡ None
returns_nothing sql params old c query it = subst ShowsOnly it.is (query old.now.schema)

-- to show rows changes nothing
pub shows_unchanged : (sql : List ℕ) (params : Row) (old new : State) (rows : List Row) → IsQuery sql → Shown sql params old new rows → IsUnchanged old new
unfolding Shown
shows_unchanged sql params old new rows query h =
    (subst (ShowsRows old new sql h.0 (timed params h.0.formats h.1.now) rows) (returns_nothing sql params old h.0 query h.1) h.2).3

-- nor does it commit
pub keeps_crash : (sql : List ℕ) (params : Row) (old new : State) → IsQuery sql → Survives old new (CommitsShowing sql params old) → KeepsCrash old new
unfolding CommitsShowing
keeps_crash sql params old new query = survives_weaker old new _ _ (λ _ db h. absurd (let some = subst IsSome (returns_nothing sql params old h.0 query h.1) h.2 in cc))

-- a query that is not shown, or a write that fails, leaves the database or takes it back
show_rests : (old new : State) (sql : List ℕ) (c : Compiled) (params : Row) (e : Error) (returning : Option Returning) → FailsToShow old new sql c params e returning → Rests old new
show_rests old new sql c params e None h = inl h.3
show_rests old new sql c params e (Some what) h = command_rests sql params old new c e h

-- a failure leaves the database as it was, or takes it back to the last commit
pub fails_rests : (sql : List ℕ) (params : Row) (old new : State) (e : Error) → FailsToQuery sql params old new e → Rests old new
unfolding FailsToQuery
fails_rests sql params old new e (inl not_run) = not_run_rests sql params old new e not_run
fails_rests sql params old new e (inr shown) = show_rests old new sql shown.0 (timed params shown.0.formats shown.1.now) e shown.0.returning shown.2

-- what is said of values says nothing of a failure
pub not_ok : {X E : Type 0} (r : Result X E) (P : Type 0) → IsErr r → OnOk r P
not_ok (Ok x) P none = absurd (cc)
not_ok (Err e) P failed = tt

-- a fact under a failure, and what follows under a value
pub on_err : {X E : Type 0} (r : Result X E) (P : Type 0) → P → OnErr r P
on_err (Ok x) P h = tt
on_err (Err e) P h = h

pub if_ok : {X E : Type 0} (r : Result X E) (P Q : X → Type 0) → ((x : X) → P x → Q x) → IfOk r P → IfOk r Q
if_ok (Ok x) P Q so h = so x h
if_ok (Err e) P Q so h = tt
