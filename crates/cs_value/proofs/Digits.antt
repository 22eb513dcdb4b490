-- The leading digits of a number to base 128.
use Rattle.std.proofs.Common.{◌≡◌, ◌≢◌, ℕ, zero, suc, ◌+◌, ◌*◌, ◌/◌, ◌%◌, ◌^◌, ◌<◌, ◌≤◌, List, [], ◌∷◌, ◌++◌, length, get_or, refl, sym, ap, ◌∙◌, append_assoc, arith, length-append, inl, inr}
use Rattle.std.proofs.lemmas.Bool.{ne_eqb, eq-eqb, cases_lt}
use Rattle.std.proofs.lemmas.Nat.{div_below}
use Rattle.std.proofs.Math.Nat.{pow-suc}
use Rattle.cs_value.specs.Varint.{leading_digits, varint}

-- 0 has no digits
pub leading_digits-zero : (k n : ℕ) → n ≡ 0 → leading_digits k n ≡ []
unfolding leading_digits
leading_digits-zero zero n e = refl
leading_digits-zero (suc k) n e = rw (eq-eqb n 0 e) refl

-- a number above 0 has the digits of its quotient, and one more
pub leading_digits-suc : (k n : ℕ) → 0 < n → leading_digits (suc k) n ≡ leading_digits k (n / 128) ++ (n % 128 + 128) ∷ []
unfolding leading_digits
leading_digits-suc k n lt = rw (ne_eqb n 0 (λ e. omega arith)) refl

-- at most as many digits as are named
pub length-leading_digits_le : (k n : ℕ) → length (leading_digits k n) ≤ k
unfolding leading_digits
length-leading_digits_le zero n = omega arith
length-leading_digits_le (suc k) n =
    elim (cases_lt 0 n) [
      | inl lt ↦ rw leading_digits-suc (omega (arith, length-append (leading_digits k (n / 128)) ((n % 128 + 128) ∷ []), length-leading_digits_le k (n / 128)))
      | inr le ↦ rw (leading_digits-zero (suc k) n (omega arith)) (omega arith)
    ]

-- naming one digit more changes nothing where there are fewer
pub leading_digits-fewer : (k n : ℕ) → length (leading_digits (suc k) n) ≤ k → leading_digits (suc k) n ≡ leading_digits k n
unfolding leading_digits
leading_digits-fewer zero n le =
    elim (cases_lt 0 n) [
      | inl lt ↦ absurd (omega (arith, rw leading_digits-suc at le))
      | inr e ↦ leading_digits-zero 1 n (omega arith)
    ]
leading_digits-fewer (suc k) n le =
    elim (cases_lt 0 n) [
      | inl lt ↦
          let e = leading_digits-suc (suc k) n lt in
          let short : length (leading_digits (suc k) (n / 128)) ≤ k = omega (arith, ap length e, length-append (leading_digits (suc k) (n / 128)) ((n % 128 + 128) ∷ [])) in
          e ∙ ap (λ (x : List ℕ). x ++ (n % 128 + 128) ∷ []) (leading_digits-fewer k (n / 128) short) ∙ sym (leading_digits-suc k n lt)
      | inr z ↦ leading_digits-zero (suc (suc k)) n (omega arith) ∙ sym (leading_digits-zero (suc k) n (omega arith))
    ]

-- a byte above 0x7f is one more leading digit, unless it would be a leading zero
pub leading_digits-push : (n b : ℕ) → length (leading_digits 4 n) ≤ 3 → 127 < b → b < 256 → 0 < n * 128 + b % 128 → leading_digits 4 (n * 128 + b % 128) ≡ leading_digits 4 n ++ b ∷ []
leading_digits-push n b few high byte some =
    let quotient : (n * 128 + b % 128) / 128 ≡ n = omega arith in
    let digit : (n * 128 + b % 128) % 128 + 128 ≡ b = omega arith in
    leading_digits-suc 3 (n * 128 + b % 128) some ∙ rw (quotient, digit, leading_digits-fewer 3 n few) refl

-- a byte below 0x80 is the last digit
pub varint-push : (n b : ℕ) → b < 128 → varint (n * 128 + b % 128) ≡ leading_digits 4 n ++ b ∷ []
unfolding varint
varint-push n b low =
    let quotient : (n * 128 + b % 128) / 128 ≡ n = omega arith in
    let digit : (n * 128 + b % 128) % 128 ≡ b = omega arith in
    rw (quotient, digit) refl

-- one digit fewer is enough for the quotient
pub pow_quotient : (k n : ℕ) → n < 128 ^ suc k → n / 128 < 128 ^ k
pow_quotient k n lt = div_below n 128 (128 ^ k) (omega arith) (rw (← pow-suc 128 k) lt)

-- the first digit is not 0
pub leading_digits-first : (k n : ℕ) (rest : List ℕ) → 0 < n → n < 128 ^ k → get_or (leading_digits k n ++ rest) 0 0 ≢ 128
leading_digits-first zero n rest some lt = absurd (omega arith)
leading_digits-first (suc k) n rest some lt =
    let few = pow_quotient k n lt in
    elim (cases_lt 0 (n / 128)) [
      | inl more ↦ rw (leading_digits-suc, append_assoc) (leading_digits-first k (n / 128) ((n % 128 + 128) ∷ [] ++ rest) more few)
      | inr last ↦ rw (leading_digits-suc, leading_digits-zero k (n / 128) (omega arith)) (λ e. omega arith)
    ]

-- ---- how many digits

-- one more than the quotient has
length-leading_digits : (k n : ℕ) → 0 < n → length (leading_digits (suc k) n) ≡ length (leading_digits k (n / 128)) + 1
length-leading_digits k n some = rw (leading_digits-suc k n some) (omega (arith, length-append (leading_digits k (n / 128)) ((n % 128 + 128) ∷ [])))

-- one digit more than the quotient
length-varint : (n : ℕ) → length (varint n) ≡ length (leading_digits 4 (n / 128)) + 1
unfolding varint
length-varint n = omega (arith, length-append (leading_digits 4 (n / 128)) ((n % 128) ∷ []))

-- one digit
pub length-varint_1 : (n : ℕ) → n < 128 → length (varint n) ≡ 1
length-varint_1 n lt = omega (arith, length-varint n, ap length (leading_digits-zero 4 (n / 128) (omega arith)))

-- two digits
pub length-varint_2 : (n : ℕ) → 128 ≤ n → n < 16384 → length (varint n) ≡ 2
length-varint_2 n le lt = omega (arith, length-varint n, length-leading_digits 3 (n / 128) (omega arith), ap length (leading_digits-zero 3 (n / 128 / 128) (omega arith)))

-- three digits
pub length-varint_3 : (n : ℕ) → 16384 ≤ n → n < 2097152 → length (varint n) ≡ 3
length-varint_3 n le lt = omega (arith, length-varint n, length-leading_digits 3 (n / 128) (omega arith), length-leading_digits 2 (n / 128 / 128) (omega arith), ap length (leading_digits-zero 2 (n / 128 / 128 / 128) (omega arith)))

-- four digits
pub length-varint_4 : (n : ℕ) → 2097152 ≤ n → n < 268435456 → length (varint n) ≡ 4
length-varint_4 n le lt = omega (arith, length-varint n, length-leading_digits 3 (n / 128) (omega arith), length-leading_digits 2 (n / 128 / 128) (omega arith), length-leading_digits 1 (n / 128 / 128 / 128) (omega arith), ap length (leading_digits-zero 1 (n / 128 / 128 / 128 / 128) (omega arith)))

-- five digits, the most that are written
pub length-varint_5 : (n : ℕ) → 268435456 ≤ n → n ≤ 2147483647 → length (varint n) ≡ 5
length-varint_5 n le lt = omega (arith, length-varint n, length-leading_digits 3 (n / 128) (omega arith), length-leading_digits 2 (n / 128 / 128) (omega arith), length-leading_digits 1 (n / 128 / 128 / 128) (omega arith), length-leading_digits 0 (n / 128 / 128 / 128 / 128) (omega arith), ap length (leading_digits-zero 0 0 refl), length-leading_digits_le 0 (n / 128 / 128 / 128 / 128 / 128))
