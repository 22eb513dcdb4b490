-- Steps of reading that gave a value or a fault.
use Rattle.std.proofs.Common.{◌≡◌, ◌+◌, Bool, true, false, cond, Result, Ok, Err, refl, inl, inr}
use Rattle.std.specs.Prelude.{◌⊎◌}
use Rattle.cs_value.specs.declared.fault.FieldFault.{FieldFault}
use Rattle.cs_value.specs.Reading.{◌>>=◌, fault, behind_type}

abbrev done : {A : Type 0} → A → Result A FieldFault
done x = Ok x

abbrev failed : {A : Type 0} → FieldFault → Result A FieldFault
failed e = Err e

-- one value is not another
pub ok_is : {A : Type 0} (x y : A) → done x ≡ done y → x ≡ y
ok_is x y e = cc

-- one fault is not another
pub err_is : {A : Type 0} (d e : FieldFault) → failed {A = A} d ≡ failed e → d ≡ e
err_is d e p = cc

-- a value is no fault
pub not_both : {A : Type 0} (x : A) (e : FieldFault) → done x ≡ failed e → ⊥
not_both x e p = cc

-- both steps gave a value
pub bind_ok : {A B : Type 0} (r : Result A FieldFault) (f : A → Result B FieldFault) (y : B) → (r >>= f) ≡ Ok y → (x : A) × (r ≡ Ok x) × (f x ≡ Ok y)
bind_ok (Ok x) f y e = (x, refl, e)
bind_ok (Err d) f y e = absurd cc

-- the first or the second gave a fault
pub bind_err : {A B : Type 0} (r : Result A FieldFault) (f : A → Result B FieldFault) (d : FieldFault) → (r >>= f) ≡ Err d → (r ≡ Err d) ⊎ ((x : A) × (r ≡ Ok x) × (f x ≡ Err d))
bind_err (Ok x) f d e = inr (x, refl, e)
bind_err {B = B} (Err c) f d e = let is : c ≡ d = err_is {A = B} c d e in inl cc

-- a test that found nothing wrong
pub guard_ok : {A : Type 0} (b : Bool) (d : FieldFault) (x y : A) → cond b (Err d) (Ok x) ≡ Ok y → (b ≡ false) × (x ≡ y)
guard_ok true d x y e = absurd cc
guard_ok false d x y e = (refl, cc)

-- a test that found a fault
pub guard_err : {A : Type 0} (b : Bool) (c d : FieldFault) (x : A) → cond b (Err c) (Ok x) ≡ failed d → (b ≡ true) × (c ≡ d)
guard_err true c d x e = (refl, cc)
guard_err false c d x e = absurd cc

-- after the type byte a value stays
pub behind_ok : {A : Type 0} (r : Result A FieldFault) (x : A) → behind_type r ≡ Ok x → r ≡ Ok x
behind_ok (Ok y) x e = e
behind_ok (Err c) x e = absurd cc

-- after the type byte a fault is one byte further on
pub behind_err : {A : Type 0} (r : Result A FieldFault) (d : FieldFault) → behind_type r ≡ Err d → (c : FieldFault) × (r ≡ Err c) × (d ≡ fault c.kind (1 + c.place))
behind_err (Ok y) d e = absurd cc
behind_err (Err c) d e = (c, refl, cc)
