-- What reading a field gives, by its type byte.
use Rattle.std.proofs.Common.{◌≡◌, ℕ, zero, suc, ◌<◌, List, [], ◌∷◌, Ok, Err, refl, inl, inr, arith}
use Rattle.std.specs.Prelude.{◌⊎◌}
use Rattle.std.proofs.lemmas.Bool.{ne_eqb}
use Rattle.cs_value.specs.declared.fault.FieldFaultKind.TheVariants.{Truncated, BadType, RealValue}
use Rattle.cs_value.specs.declared.value.OwnedValue.TheVariants.{Null}
use Rattle.cs_value.specs.declared.value.OwnedField.TheVariants.{Undefined, Defined}
use Rattle.cs_value.specs.Reading.{fault, integer_at, text_at, blob_at, field_at}

-- the types, and all other bytes
pub kind_cases : (kind : ℕ) → (kind ≡ 0) ⊎ ((kind ≡ 1) ⊎ ((kind ≡ 2) ⊎ ((kind ≡ 3) ⊎ ((kind ≡ 4) ⊎ ((kind ≡ 5) ⊎ (5 < kind))))))
kind_cases zero = inl refl
kind_cases (suc zero) = inr (inl refl)
kind_cases (suc (suc zero)) = inr (inr (inl refl))
kind_cases (suc (suc (suc zero))) = inr (inr (inr (inl refl)))
kind_cases (suc (suc (suc (suc zero)))) = inr (inr (inr (inr (inl refl))))
kind_cases (suc (suc (suc (suc (suc zero))))) = inr (inr (inr (inr (inr (inl refl)))))
kind_cases (suc (suc (suc (suc (suc (suc n)))))) = inr (inr (inr (inr (inr (inr (omega arith))))))

-- no type byte
pub field_at-nil : field_at [] ≡ Err (fault Truncated 0)
unfolding field_at
field_at-nil = refl

-- 0x00 is undefined
pub field_at-undefined : (content : List ℕ) → field_at (0 ∷ content) ≡ Ok (Undefined, 1)
unfolding field_at
field_at-undefined content = refl

-- 0x01 begins an integer
pub field_at-integer : (content : List ℕ) → field_at (1 ∷ content) ≡ integer_at content
unfolding field_at
field_at-integer content = refl

-- 0x02 begins a real number
pub field_at-real : (content : List ℕ) → field_at (2 ∷ content) ≡ Err (fault RealValue 0)
unfolding field_at
field_at-real content = refl

-- 0x03 begins a text
pub field_at-text : (content : List ℕ) → field_at (3 ∷ content) ≡ text_at content
unfolding field_at
field_at-text content = refl

-- 0x04 begins a blob
pub field_at-blob : (content : List ℕ) → field_at (4 ∷ content) ≡ blob_at content
unfolding field_at
field_at-blob content = refl

-- 0x05 is NULL
pub field_at-null : (content : List ℕ) → field_at (5 ∷ content) ≡ Ok (Defined Null, 1)
unfolding field_at
field_at-null content = refl

-- no other byte begins a field
pub field_at-other : (kind : ℕ) (content : List ℕ) → 5 < kind → field_at (kind ∷ content) ≡ Err (fault BadType 0)
unfolding field_at
field_at-other kind content lt =
    rw (ne_eqb kind 0 (λ e. omega arith), ne_eqb kind 1 (λ e. omega arith), ne_eqb kind 2 (λ e. omega arith), ne_eqb kind 3 (λ e. omega arith), ne_eqb kind 4 (λ e. omega arith), ne_eqb kind 5 (λ e. omega arith)) refl
