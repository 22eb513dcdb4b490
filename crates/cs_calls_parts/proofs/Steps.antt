-- Steps of reading that gave a value or a fault.
use Rattle.std.proofs.Common.{◌≡◌, ℕ, Bool, true, false, cond, List, ◌++◌, Result, Ok, Err, refl, ap, subst, ◌∙◌, sym, append_assoc}
use Rattle.cs_value.specs.declared.refusal.OrNoMemory.{OrNoMemory}
use Rattle.cs_value.specs.declared.refusal.OrNoMemory.TheVariants.{Fault, NoMemory}
use Rattle.cs_value.specs.Value.{AreBytes}
use Rattle.cs_calls_parts.specs.declared.fault.Misread.{Misread}
use Rattle.cs_calls_parts.specs.Reading.{◌>>=◌, Fails}

abbrev pub done : {A : Type 0} → A → Result A Misread
done x = Ok x

abbrev failed : {A : Type 0} → Misread → Result A Misread
failed m = Err m

-- one value is not another
pub ok_is : {A : Type 0} (x y : A) → done x ≡ done y → x ≡ y
ok_is x y e = cc

-- what holds of one value holds of the other
pub given : {A : Type 0} (P : A → Type 0) (x y : A) → done x ≡ done y → P x → P y
given P x y e p = subst P (ok_is x y e) p

-- a value is no fault
pub not_both : {A : Type 0} (x : A) (m : Misread) → done x ≡ failed m → ⊥
not_both x m p = cc

-- a fault is no value
pub not_value : {A : Type 0} (x : A) (m : Misread) → failed m ≡ done x → ⊥
not_value x m p = cc

-- both steps gave a value
pub bind_ok : {A B : Type 0} (r : Result A Misread) (f : A → Result B Misread) (y : B) → (r >>= f) ≡ Ok y → (x : A) × (r ≡ Ok x) × (f x ≡ Ok y)
bind_ok (Ok x) f y e = (x, refl, e)
bind_ok (Err m) f y e = absurd cc

-- a test that found nothing wrong
pub guard_ok : {A : Type 0} (b : Bool) (m : Misread) (x y : A) → cond b (Err m) (Ok x) ≡ Ok y → (b ≡ false) × (x ≡ y)
guard_ok true m x y e = absurd cc
guard_ok false m x y e = (refl, cc)

-- a test that found what it wants
pub wanted_ok : {A : Type 0} (b : Bool) (m : Misread) (x y : A) → cond b (Ok x) (Err m) ≡ Ok y → (b ≡ true) × (x ≡ y)
wanted_ok true m x y e = (refl, cc)
wanted_ok false m x y e = absurd cc

-- the text and the rest that bytes are
pub record Takes (bytes text rest : List ℕ) : Type 0 where
  pub parts : bytes ≡ text ++ rest
  pub are_bytes : AreBytes rest

-- a text after another
pub Takes-then : (bytes text rest next last : List ℕ) → Takes bytes text rest → Takes rest next last → Takes bytes (text ++ next) last
Takes-then bytes text rest next last first second = record {
  parts = first.parts ∙ ap (λ (t : List ℕ). text ++ t) second.parts ∙ sym (append_assoc text next last);
  are_bytes = second.are_bytes;
}

-- the fault that a function answers is the one that is read
pub fails_with : {Y : Type 0} (e : OrNoMemory Misread) (m : Misread) (read : Result Y Misread) → e ≡ Fault m → Fails e read → read ≡ Err m
fails_with (Fault f) m read is fails = let same : f ≡ m = cc in fails ∙ ap (λ (x : Misread). Err x) same
fails_with NoMemory m read is fails = absurd cc
