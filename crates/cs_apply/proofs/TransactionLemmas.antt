-- What a run in a transaction leaves, by its answer.
use Rattle.std.proofs.Common.{◌≡◌, ◌⊎◌, inl, inr, true, ℕ, List, [], Result, Ok, Err, IfErr, refl, sym, ap, subst}
use Rattle.std.specs.Prelude.{IfOk, OnOk}
use Rattle.std.proofs.lemmas.Result.{on_ok_weaker}
use Rattle.sqlite.specs.State as store
use Rattle.sqlite.specs.State.{HasCleanDisk}
use Rattle.cs_value.specs.State.{State, IsState}
use Rattle.cs_store.specs.Faults as stores
use Rattle.cs_store.specs.Faults.{refused_for}
use Rattle.cs_store.specs.Within.{Within}
use Rattle.cs_rows.specs.declared.fault.StoreError.{StoreError}
use Rattle.cs_apply_conflict_kinds.specs.declared.conflict.Choice.{Choice}
use Rattle.cs_apply_conflict_kinds.specs.declared.conflict.Noop.{Noop}
use Rattle.cs_apply_engine.specs.declared.conflict.Conflict.{Conflict}
use Rattle.cs_apply_engine.specs.declared.fault.ApplyFault.{ApplyFault}
use Rattle.cs_apply_engine.specs.declared.fault.ApplyFault.TheVariants.{Store, NoMemory}
use Rattle.cs_apply_engine.specs.declared.report.Report.{Report}
use Rattle.cs_apply_engine.specs.declared.running.Direction.{Direction}
use Rattle.cs_apply_engine.specs.declared.running.Direction.TheVariants.{Forward}
use Rattle.cs_apply_engine.specs.Faults.{fault_of}
use Rattle.cs_apply_engine.specs.Running.{Handler, Applies, Leads, Refuses, IsNamed, is_own, is_answered}
use Rattle.cs_apply_engine.specs.Steps.{IsStoreRefusal}
use Rattle.cs_apply.specs.Crash.{AppliesInto}
use Rattle.cs_apply.proofs.RevertLemmas.{leads_clean, with_weaker}

-- ---- refusals of the store

-- what the store refuses for want of a resource is named, and may end the transaction
pub resource_refusal : (e : StoreError) → stores.IsResource e → IsStoreRefusal (fault_of e) × IsNamed (fault_of e)
resource_refusal e (inl memory) = subst (λ (f : StoreError). IsStoreRefusal (fault_of f) × IsNamed (fault_of f)) (sym memory) (inl (inl refl), tt)
resource_refusal e (inr (refused_for cause)) = (inl (inr (refused_for cause)), inr (refused_for cause))

-- and each run may be refused so
pub resource_refuses : (chooses : Handler) (noop : Noop) (file : List ℕ) (direction : Direction) (old : State) (e : StoreError) → stores.IsResource e → Refuses chooses noop file direction old (fault_of e)
resource_refuses chooses noop file direction old e (inl memory) = subst (λ (f : StoreError). Refuses chooses noop file direction old (fault_of f)) (sym memory) tt
resource_refuses chooses noop file direction old e (inr (refused_for cause)) = refused_for cause

-- ---- by the answer of the run

-- a fault that is named is one of the rows, or the run's own
own_or_not : (fault : ApplyFault) → IsNamed fault → IsStoreRefusal fault ⊎ (is_own fault ≡ true)
own_or_not (Store e) (inl damaged) = inl (inr (ap Store damaged))
own_or_not (Store e) (inr refused) = inl (inl (inr refused))
own_or_not NoMemory named = inl (inl (inl refl))
own_or_not fault named = inr refl

pub run_inside : {X : Type 0} (r : Result X ApplyFault) (Inside : Type 0) → (is_answered r ≡ true → Inside) → OnOk r Inside
run_inside (Ok x) Inside inside = inside refl
run_inside (Err fault) Inside inside = tt

pub run_goes_on : {X : Type 0} (r : Result X ApplyFault) (Inside : Type 0) → IfErr r IsNamed → (is_answered r ≡ true → Inside) → IfErr r (λ fault. IsStoreRefusal fault ⊎ Inside)
run_goes_on (Ok x) Inside named inside = tt
run_goes_on (Err fault) Inside named inside = elim (own_or_not fault named) [ inl refused ↦ inl refused | inr own ↦ inr (inside own) ]

-- a report is one of what was made
pub report_into : {chooses : Handler} {noop : Noop} {file : List ℕ} {direction : Direction} {before after : State} (report : Report) → Applies chooses noop file direction before report after → AppliesInto chooses noop file direction before after
report_into report applies = record { met = report.conflicts.items; skips = _; writes = _; passed = report.ignored; applies = applies }

-- a clean one leads there
pub clean_leads : {E : Type 0} (r : Result Report E) (chooses : Handler) (noop : Noop) (file : List ℕ) (before after : State) → OnOk r (IsState before) → IfOk r (λ report. Applies chooses noop file Forward before report after)
    → IfOk r (λ report. report.conflicts.items ≡ [] → report.ignored ≡ 0 → Leads file before after)
clean_leads (Ok report) chooses noop file before after is applied = leads_clean _ noop file _ _ _ _ _ _ is applied
clean_leads (Err e) chooses noop file before after is applied = tt

-- what is made under a handler that chooses less is made
pub within_weaker : {X E : Type 0} (r : Result X E) (P Q : Handler) → ((k : Conflict) (c : Choice) → P k c → Q k c) → (noop : Noop) (file : List ℕ) (direction : Direction) (before : State) (MayEnd : E → Type 0) (old new : store.State)
    → Within (AppliesInto P noop file direction before) MayEnd old new r → Within (AppliesInto Q noop file direction before) MayEnd old new r
within_weaker r P Q f noop file direction before MayEnd old new it = record {
  kept = it.kept;
  made = λ clean. on_ok_weaker r (λ made. (made.0, record { met = made.1.met; skips = made.1.skips; writes = made.1.writes; passed = made.1.passed; applies = with_weaker P Q f noop file direction before made.1.met made.1.skips made.1.writes made.1.passed _ made.1.applies })) (it.made clean);
  back = it.back;
  ended = it.ended;
  goes_on = it.goes_on;
}
