-- Which refusals of the layers below are another than a conflict, or that nothing is left.
use Rattle.std.proofs.Common.{◌≡◌, inl, inr, false, Result, Ok, Err, IfErr, is_ok, refl, sym, subst}
use Rattle.std.specs.Prelude.{IsErrAnd}
use Rattle.cs_rows.specs.declared.fault.StoreError.{StoreError}
use Rattle.cs_rows.specs.declared.fault.StoreError.TheVariants as store
use Rattle.cs_apply_engine.specs.declared.fault.ApplyFault.{ApplyFault}
use Rattle.cs_apply_engine.specs.declared.fault.ApplyFault.TheVariants as apply
use Rattle.cs_apply_engine.specs.Running.{IsResource}
use Rattle.cs_history.specs.declared.fault.HistoryFault.{HistoryFault}
use Rattle.cs_history.specs.declared.fault.HistoryFault.TheVariants.{Store, Apply, WrongStore, NotHistory, NothingLeft, OwnTable, TooLarge, Damaged, NoMemory}
use Rattle.cs_history.specs.Faults.{IsOther, IsTold, apply_fault, store_fault}

store_other : (error : StoreError) → IsOther (store_fault error)
store_other store.NoMemory = tt
store_other store.TableExists = tt
store_other store.NoTable = tt
store_other store.BadSchema = tt
store_other store.KeyTaken = tt
store_other store.NoRow = tt
store_other store.RowWidth = tt
store_other store.NullInKey = tt
store_other store.NotNull = tt
store_other store.DamagedStore = tt
store_other (store.StoreFault cause) = tt

-- what the store refuses
pub store_named : {X : Type 0} (r : Result X HistoryFault) (error : StoreError) → IsErrAnd r (λ e. e ≡ store_fault error) → IfErr r IsOther
store_named (Ok x) error is = tt
store_named (Err e) error is = subst IsOther (sym is) (store_other error)

apply_told : (fault : ApplyFault) → IsTold ⊥ (Unit {0}) ⊥ (apply_fault fault)
apply_told (apply.Read f) = tt
apply_told (apply.Wider place) = tt
apply_told (apply.Abort k) = tt
apply_told (apply.Misuse k) = tt
apply_told (apply.Store e) = tt
apply_told apply.NoMemory = tt

-- what an apply refuses may be a fault of the changeset
pub apply_named : {X : Type 0} (r : Result X HistoryFault) (fault : ApplyFault) → IsErrAnd r (λ e. e ≡ apply_fault fault) → IfErr r (IsTold ⊥ (Unit {0}) ⊥)
apply_named (Ok x) fault is = tt
apply_named (Err e) fault is = subst (IsTold ⊥ (Unit {0}) ⊥) (sym is) (apply_told fault)

resource_other : (fault : ApplyFault) → IsResource fault → IsOther (apply_fault fault)
resource_other fault (inl memory) = subst (λ (f : ApplyFault). IsOther (apply_fault f)) (sym memory) tt
resource_other (apply.Store e) (inr is) = tt
resource_other (apply.Read f) (inr is) = absurd is
resource_other (apply.Wider place) (inr is) = absurd is
resource_other (apply.Abort k) (inr is) = absurd is
resource_other (apply.Misuse k) (inr is) = absurd is
resource_other apply.NoMemory (inr is) = absurd is

-- what is refused since memory ran out, or by the database, is another refusal
pub resource_named : {X : Type 0} (r : Result X HistoryFault) (fault : ApplyFault) → IsErrAnd r (λ e. e ≡ apply_fault fault) → IsResource fault → IfErr r IsOther
resource_named (Ok x) fault is resource = tt
resource_named (Err e) fault is resource = subst IsOther (sym is) (resource_other fault resource)

-- ---- what a refusal says

told_so : {A B C D E F : Type 0} → (A → D) → (B → E) → (C → F) → (e : HistoryFault) → IsTold A B C e → IsTold D E F e
told_so a b c NothingLeft told = a told
told_so a b c (Apply fault) told = b told
told_so a b c NotHistory told = c told
told_so a b c (Store error) told = tt
told_so a b c WrongStore told = absurd told
told_so a b c OwnTable told = absurd told
told_so a b c TooLarge told = tt
told_so a b c Damaged told = tt
told_so a b c NoMemory told = tt

pub told_weaker : {X A B C D E F : Type 0} → (A → D) → (B → E) → (C → F) → (r : Result X HistoryFault) → IfErr r (IsTold A B C) → IfErr r (IsTold D E F)
told_weaker a b c (Ok x) told = tt
told_weaker a b c (Err e) told = told_so a b c e told

never : {A : Type 0} → ⊥ → A
never none = absurd none

-- it says none of what it might
pub other_told : {X : Type 0} (A B C : Type 0) (r : Result X HistoryFault) → IfErr r IsOther → IfErr r (IsTold A B C)
other_told A B C = told_weaker never never never

-- a table is refused only as no history
pub foreign_told : {X : Type 0} (A B C : Type 0) (r : Result X HistoryFault) → IfErr r (λ e. e ≡ NotHistory) → (is_ok r ≡ false → C) → IfErr r (IsTold A B C)
foreign_told A B C (Ok x) named so = tt
foreign_told A B C (Err e) named so = subst (IsTold A B C) (sym named) (so refl)

-- a changeset has a fault only if it does not lead back, or on
pub fault_told : {X Can : Type 0} (A C : Type 0) (r : Result X HistoryFault) → IfErr r (IsTold ⊥ (Unit {0}) ⊥) → (Can → IfErr r IsOther) → IfErr r (IsTold A (¬ Can) C)
fault_told A C (Ok x) told clean = tt
fault_told A C (Err NothingLeft) told clean = absurd told
fault_told A C (Err (Apply fault)) told clean = clean
fault_told A C (Err NotHistory) told clean = absurd told
fault_told A C (Err (Store error)) told clean = tt
fault_told A C (Err WrongStore) told clean = absurd told
fault_told A C (Err OwnTable) told clean = absurd told
fault_told A C (Err TooLarge) told clean = tt
fault_told A C (Err Damaged) told clean = tt
fault_told A C (Err NoMemory) told clean = tt

-- an error that is passed on
pub passed_on : {X : Type 0} (P : HistoryFault → Type 0) (r : Result X HistoryFault) (e : HistoryFault) → IsErrAnd r (λ f. f ≡ e) → P e → IfErr r P
passed_on P (Ok x) e is it = tt
passed_on P (Err f) e is it = subst P (sym is) it
