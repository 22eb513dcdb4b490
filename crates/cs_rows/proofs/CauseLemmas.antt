-- For which causes a call fails, and which writes those are.
use Rattle.std.proofs.Common.{◌≡◌, ◌⊎◌, inl, inr, true, false, ℕ, List, Result, Ok, Err, IfErr, IsErrAnd, refl, sym, subst, ◌∙◌}
use Rattle.cs_value.specs.declared.value.OwnedValue.{OwnedValue}
use Rattle.cs_value.specs.State.{State, with_row}
use Rattle.cs_rows.specs.declared.fault.Cause.{Cause}
use Rattle.cs_rows.specs.declared.fault.StoreError.{StoreError}
use Rattle.cs_rows.specs.declared.fault.StoreError.TheVariants.{DamagedStore, NoMemory, StoreFault}
use Rattle.cs_rows.specs.Faults.{IsCaused, IsReadRefusal, is_own, refused_for}
use Rattle.cs_rows.specs.Rows.{Fits, Write, puts_row, removes_row}
use Rattle.cs_rows.specs.Editing.{IsPutOf, IsRemovalOf, IsClearingOf, IsUpdateOf}

-- what fails for one cause fails for another
pub so_caused : (One Other : Cause → Type 0) (e : StoreError) → ((cause : Cause) → One cause → Other cause) → IsCaused One e → IsCaused Other e
so_caused One Other (StoreFault cause) so h = so cause h
so_caused One Other e so h = tt

-- and so of an answer
pub caused_so : {X : Type 0} (r : Result X StoreError) (One Other : Cause → Type 0) → ((cause : Cause) → One cause → Other cause) → IfErr r (IsCaused One) → IfErr r (IsCaused Other)
caused_so (Ok x) One Other so h = tt
caused_so (Err e) One Other so h = so_caused One Other e so h

-- and so of an answer that passes on a refusal
pub caused_on : {X : Type 0} (r : Result X StoreError) (One Other : Cause → Type 0) (e : StoreError) → IsErrAnd r (λ f. f ≡ e) → ((cause : Cause) → One cause → Other cause) → IsCaused One e → IfErr r (IsCaused Other)
caused_on (Ok x) One Other e is so h = tt
caused_on (Err f) One Other e is so h = subst (IsCaused Other) (sym is) (so_caused One Other e so h)

-- the write of a put, of a row that fits
pub put_of : (old now : State) (table key : List ℕ) (row : List OwnedValue) (held : State) (write : Write) → now ≡ old → Fits now table key row → (held ≡ now) × (write ≡ puts_row table key row)
    → IsPutOf old table row held write
put_of old now table key row held write same fits is =
    subst (IsPutOf old table row held) (sym is.1) (is.0 ∙ same, refl, refl, subst (λ (s : State). Fits s table key row) (sym is.0) fits)

-- and of a removal
pub removal_of : (old now : State) (table key : List ℕ) (held : State) (write : Write) → now ≡ old → (held ≡ now) × (write ≡ removes_row table key) → IsRemovalOf old table key held write
removal_of old now table key held write same is = subst (IsRemovalOf old table key held) (sym is.1) (is.0 ∙ same, refl, refl)

-- and of a removal after a put
pub clearing_of : (old now : State) (table key next : List ℕ) (row : List OwnedValue) (held : State) (write : Write) → now ≡ with_row old table next row → (held ≡ now) × (write ≡ removes_row table key)
    → IsUpdateOf old table key row held write
clearing_of old now table key next row held write same is = inr (subst (IsClearingOf old table key row held) (sym is.1) (refl, refl, next, is.0 ∙ same))

-- a refusal of the rows is not the edit's own
pub not_own : (e : StoreError) → IsReadRefusal e → is_own e ≡ false
not_own e (inl damaged) = subst (λ (f : StoreError). is_own f ≡ false) (sym damaged) refl
not_own e (inr (inl memory)) = subst (λ (f : StoreError). is_own f ≡ false) (sym memory) refl
not_own e (inr (inr (refused_for cause))) = refl

-- each error is one or the other
pub own_or_not : (e : StoreError) → IsReadRefusal e ⊎ (is_own e ≡ true)
own_or_not DamagedStore = inl (inl refl)
own_or_not NoMemory = inl (inr (inl refl))
own_or_not (StoreFault cause) = inl (inr (inr (refused_for cause)))
own_or_not e = inr refl
