-- For which causes a call of a session on rows fails.
use Rattle.std.proofs.Common.{◌≡◌, ◌⊎◌, inl, inr, true, false, Result, Ok, Err, IfErr, OnOk, IsErrAnd, refl, sym, subst, ◌∙◌}
use Rattle.cs_rows.specs.declared.fault.Cause.{Cause}
use Rattle.cs_rows.specs.declared.fault.StoreError.{StoreError}
use Rattle.cs_rows.specs.declared.fault.StoreError.TheVariants as store
use Rattle.cs_rows.specs.Faults as stores
use Rattle.cs_rows.proofs.CauseLemmas as rows
use Rattle.cs_apply_engine.specs.declared.fault.ApplyFault.{ApplyFault}
use Rattle.cs_apply_engine.specs.declared.fault.ApplyFault.TheVariants as apply_fault
use Rattle.cs_apply_engine.specs.Running as running
use Rattle.cs_session_notes.specs.declared.fault.SessionFault.{SessionFault}
use Rattle.cs_session_notes.specs.declared.fault.SessionFault.TheVariants.{Store, NoMemory}
use Rattle.cs_session_notes.specs.Faults.{apply_fault_of, fault_of}
use Rattle.cs_session_notes.specs.Changes.{IsCaused, IsRowsRefusal, is_answered, is_own}

-- what fails for one cause fails for another
so_caused : (One Other : Cause → Type 0) (fault : SessionFault) → ((cause : Cause) → One cause → Other cause) → IsCaused One fault → IsCaused Other fault
so_caused One Other (Store e) so h = rows.so_caused One Other e so h
so_caused One Other fault so h = tt

-- and so of an answer
pub caused_so : {X : Type 0} (r : Result X SessionFault) (One Other : Cause → Type 0) → ((cause : Cause) → One cause → Other cause) → IfErr r (IsCaused One) → IfErr r (IsCaused Other)
caused_so (Ok x) One Other so h = tt
caused_so (Err fault) One Other so h = so_caused One Other fault so h

-- and so of one that passes on a refusal
pub caused_on : {X : Type 0} (r : Result X SessionFault) (One Other : Cause → Type 0) (e : SessionFault) → IsErrAnd r (λ f. f ≡ e) → ((cause : Cause) → One cause → Other cause) → IsCaused One e → IfErr r (IsCaused Other)
caused_on (Ok x) One Other e is so h = tt
caused_on (Err f) One Other e is so h = subst (IsCaused Other) (sym is) (so_caused One Other e so h)

-- of the rows
of_rows : (Fails : Cause → Type 0) (e : StoreError) → stores.IsCaused Fails e → IsCaused Fails (fault_of e)
of_rows Fails store.NoMemory h = tt
of_rows Fails e h = h

pub rows_caused_on : {X : Type 0} (r : Result X SessionFault) (One Other : Cause → Type 0) (e : StoreError) → IsErrAnd r (λ f. f ≡ fault_of e) → ((cause : Cause) → One cause → Other cause) → stores.IsCaused One e → IfErr r (IsCaused Other)
rows_caused_on r One Other e is so h = caused_on r One Other (fault_of e) is so (of_rows One e h)

-- of a run
of_run : (Fails : Cause → Type 0) (e : ApplyFault) → running.IsCaused Fails e → IsCaused Fails (apply_fault_of e)
of_run Fails apply_fault.NoMemory h = tt
of_run Fails (apply_fault.Store e) h = h
of_run Fails e h = tt

pub run_caused_on : {X : Type 0} (r : Result X SessionFault) (One Other : Cause → Type 0) (e : ApplyFault) → IsErrAnd r (λ f. f ≡ apply_fault_of e) → ((cause : Cause) → One cause → Other cause) → running.IsCaused One e → IfErr r (IsCaused Other)
run_caused_on r One Other e is so h = caused_on r One Other (apply_fault_of e) is so (of_run One e h)

-- ---- whose refusal it is

-- a refusal of an edit is the session's own if it is the edit's own
pub own_of_store : (e : StoreError) → is_own (fault_of e) ≡ stores.is_own e
own_of_store store.NoMemory = refl
own_of_store e = refl

-- and a fault of a run if it is the run's own
pub own_of_run : (fault : ApplyFault) → running.IsNamed fault → is_own (apply_fault_of fault) ≡ running.is_own fault
own_of_run (apply_fault.Store e) (inl damaged) = rows.not_own e (inl damaged)
own_of_run (apply_fault.Store e) (inr refused) = rows.not_own e (inr (inr refused))
own_of_run apply_fault.NoMemory named = refl
own_of_run (apply_fault.Read fault) named = refl
own_of_run (apply_fault.Wider index) named = refl
own_of_run (apply_fault.Abort conflict) named = refl
own_of_run (apply_fault.Misuse conflict) named = refl

-- and a refusal of the rows is not
pub rows_not_own : (e : StoreError) → stores.IsReadRefusal e → is_own (fault_of e) ≡ false
rows_not_own e refused = own_of_store e ∙ rows.not_own e refused

-- each is one or the other
own_or_not : (fault : SessionFault) → IsRowsRefusal fault ⊎ (is_own fault ≡ true)
own_or_not (Store e) = elim (rows.own_or_not e) [ inl refused ↦ inl (inr refused) | inr own ↦ inr own ]
own_or_not NoMemory = inl (inl refl)
own_or_not fault = inr refl

-- work on rows that have answered leaves the transaction open
pub answered_inside : {X : Type 0} (r : Result X SessionFault) (Inside : Type 0) → (is_answered r ≡ true → Inside) → OnOk r Inside
answered_inside (Ok x) Inside inside = inside refl
answered_inside (Err fault) Inside inside = tt

pub answered_goes_on : {X : Type 0} (r : Result X SessionFault) (Inside : Type 0) → (is_answered r ≡ true → Inside) → IfErr r (λ fault. IsRowsRefusal fault ⊎ Inside)
answered_goes_on (Ok x) Inside inside = tt
answered_goes_on (Err fault) Inside inside = elim (own_or_not fault) [ inl refused ↦ inl refused | inr own ↦ inr (inside own) ]
