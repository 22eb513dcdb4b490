-- Lemmas on integers of a statement: what `parse` of the std reads is what a piece spells.
use Rattle.std.proofs.Common.{◌≡◌, ℕ, zero, suc, ◌≤◌, ◌^◌, List, length, Bool, true, false, leb, ltb, cond, Some, None, sym, ap, subst, ◌∙◌, arith}
use Rattle.std.specs.Prelude.{FitsSigned, ℤ, pos, neg_ℤ}
use Rattle.std.specs.Int.{w64}
use Rattle.std.specs.Str.{all_ascii_digits}
use Rattle.std.specs.Str.Parse.{IsNumeral, digits_value, signed_digits_value, starts_with_minus, without_leading_sign}
use Rattle.std.proofs.lemmas.Str.Parse.{IsNumeralModel, numerals_by_value, tells_all_ascii_digits}
use Rattle.std.proofs.lemmas.Int.{to_z-of_z, fits_signed_from_abs}
use Rattle.std.proofs.lemmas.Bool.{cond-true, cond-false, false_from_ne_true, and_from, and_parts, le-leb, leb-true, lt-ltb, ltb-true}
use mir.Val.{to_z, of_z}
use Rattle.cs_value.specs.declared.value.OwnedValue.TheVariants.{Int}
use Rattle.cs_shell_tokens.specs.Tokens.{Value}
use Rattle.cs_shell_tokens.specs.Reading.{is_integer, integer_of}

-- the std's own numerals
numerals : IsNumeralModel (λ ds. all_ascii_digits ds ≡ true) (digits_value 10)
numerals = numerals_by_value (λ ds. all_ascii_digits ds ≡ true) tells_all_ascii_digits

-- ---- 64 bits

negative_fits : (n : ℕ) → n ≤ 2 ^ 63 → FitsSigned w64 (neg_ℤ (pos n))
negative_fits zero h = fits_signed_from_abs w64 (pos 0) (omega arith)
negative_fits (suc n) h = record { sfits = omega arith }

negative_least : (n : ℕ) → FitsSigned w64 (neg_ℤ (pos n)) → n ≤ 2 ^ 63
negative_least zero h = omega arith
negative_least (suc n) h = omega (arith, h.sfits)

fits_tested : (minus : Bool) (n : ℕ) → FitsSigned w64 (cond minus (neg_ℤ (pos n)) (pos n)) → cond minus (leb n (2 ^ 63)) (ltb n (2 ^ 63)) ≡ true
fits_tested true n h = le-leb n (2 ^ 63) (negative_least n h)
fits_tested false n h = lt-ltb n (2 ^ 63) h.sfits

fits_from_test : (minus : Bool) (n : ℕ) → cond minus (leb n (2 ^ 63)) (ltb n (2 ^ 63)) ≡ true → FitsSigned w64 (cond minus (neg_ℤ (pos n)) (pos n))
fits_from_test true n h = negative_fits n (leb-true n (2 ^ 63) h)
fits_from_test false n h = record { sfits = ltb-true n (2 ^ 63) h }

-- ---- the test

pub is_integer_from : (bytes : List ℕ) → IsNumeral 10 (without_leading_sign bytes) → FitsSigned w64 (signed_digits_value 10 bytes) → is_integer bytes ≡ true
unfolding is_integer
is_integer_from bytes digits fits =
    and_from _ _ (lt-ltb 0 (length (without_leading_sign bytes)) digits.0)
    (and_from _ _ (numerals.from (without_leading_sign bytes) digits.1) (fits_tested (starts_with_minus bytes) (digits_value 10 (without_leading_sign bytes)) fits))

pub from_is_integer : (bytes : List ℕ) → is_integer bytes ≡ true → IsNumeral 10 (without_leading_sign bytes) × FitsSigned w64 (signed_digits_value 10 bytes)
unfolding is_integer
from_is_integer bytes h =
    let a = and_parts (ltb 0 (length (without_leading_sign bytes))) _ h in
    let b = and_parts (all_ascii_digits (without_leading_sign bytes)) _ a.1 in
    ((ltb-true 0 (length (without_leading_sign bytes)) a.0, numerals.to (without_leading_sign bytes) b.0), fits_from_test (starts_with_minus bytes) (digits_value 10 (without_leading_sign bytes)) b.1)

-- ---- what `parse` answers

pub parsed : (bytes : List ℕ) (number : ℤ) → IsNumeral 10 (without_leading_sign bytes) → FitsSigned w64 (signed_digits_value 10 bytes) → number ≡ signed_digits_value 10 bytes
    → Some (Value (Int (to_z w64 (of_z w64 number)))) ≡ integer_of bytes
unfolding integer_of
parsed bytes number digits fits is =
    let fit : FitsSigned w64 number = subst (FitsSigned w64) (sym is) fits in
    ap (λ (z : ℤ). Some (Value (Int z))) (to_z-of_z w64 number fit ∙ is) ∙ sym (cond-true (is_integer bytes) _ _ (is_integer_from bytes digits fits))

pub not_parsed : (bytes : List ℕ) → (IsNumeral 10 (without_leading_sign bytes) × FitsSigned w64 (signed_digits_value 10 bytes) → ⊥) → None ≡ integer_of bytes
unfolding integer_of
not_parsed bytes h = sym (cond-false (is_integer bytes) _ _ (false_from_ne_true (is_integer bytes) (λ t. h (from_is_integer bytes t))))
