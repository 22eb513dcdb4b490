-- Steps of the loops that read and write a varint.
use Rattle.std.proofs.Common.{◌≡◌, ◌≢◌, ℕ, zero, suc, ◌+◌, ◌-◌, ◌*◌, ◌/◌, ◌%◌, ◌^◌, ◌<◌, ◌≤◌, List, [], ◌∷◌, ◌++◌, length, get_or, set, drop, Ok, Err, refl, sym, ap, subst, ◌∙◌, append_assoc, arith}
use Rattle.std.proofs.lemmas.List.{at_drop_more, at_drop_all, drop-set}
use Rattle.cs_value.specs.declared.TheConstants.{MAX_CONTENT_LEN}
use Rattle.cs_value.specs.declared.fault.FieldFaultKind.TheVariants.{Truncated, BadVarint}
use Rattle.cs_value.specs.Varint.{leading_digits, varint}
use Rattle.cs_value.specs.Reading.{fault, number_from, number_at}
use Rattle.cs_value.proofs.Digits.{pow_quotient, leading_digits-suc, leading_digits-zero}
use Rattle.cs_value.proofs.VarintLemmas.{number_from-nil, number_from-last, number_from-large, number_from-more, number_from-fifth, number_at-from}

-- ---- reading

-- so far, with these digits, the bytes are read
pub record SoFar (bytes : List ℕ) (used n : ℕ) : Type 0 where
  pub reads : number_from used n (drop used bytes) ≡ number_from 0 0 bytes
  pub first : get_or bytes 0 0 ≢ 128

-- reading all is reading on from here
reads_on : (bytes : List ℕ) (used n : ℕ) → SoFar bytes used n → used < length bytes → number_at bytes ≡ number_from used n (get_or bytes used 0 ∷ drop (used + 1) bytes)
reads_on bytes used n so_far lt = number_at-from bytes so_far.first ∙ sym so_far.reads ∙ at_drop_more (number_from used n) bytes used 0 lt

-- the last digit is read
pub ends_with : (bytes : List ℕ) (used n : ℕ) → SoFar bytes used n → used < length bytes → get_or bytes used 0 < 128 → n * 128 + get_or bytes used 0 % 128 ≤ MAX_CONTENT_LEN → number_at bytes ≡ Ok (n * 128 + get_or bytes used 0 % 128, used + 1)
ends_with bytes used n so_far lt low le = reads_on bytes used n so_far lt ∙ number_from-last used n (get_or bytes used 0) (drop (used + 1) bytes) low le

-- the number is too large
pub ends_large : (bytes : List ℕ) (used n : ℕ) → SoFar bytes used n → used < length bytes → get_or bytes used 0 < 128 → MAX_CONTENT_LEN < n * 128 + get_or bytes used 0 % 128 → number_at bytes ≡ Err (fault BadVarint 0)
ends_large bytes used n so_far lt low large = reads_on bytes used n so_far lt ∙ number_from-large used n (get_or bytes used 0) (drop (used + 1) bytes) low large

-- the fifth digit is not the last
pub ends_long : (bytes : List ℕ) (used n : ℕ) → SoFar bytes used n → used < length bytes → 127 < get_or bytes used 0 → used ≡ 4 → number_at bytes ≡ Err (fault BadVarint 0)
ends_long bytes used n so_far lt high four = reads_on bytes used n so_far lt ∙ rw four (number_from-fifth n (get_or bytes 4 0) (drop (4 + 1) bytes) (rw four at high))

-- the bytes end
pub ends_cut : (bytes : List ℕ) (used n : ℕ) → SoFar bytes used n → used ≡ length bytes → number_at bytes ≡ Err (fault Truncated (length bytes))
ends_cut bytes used n so_far all = number_at-from bytes so_far.first ∙ sym so_far.reads ∙ at_drop_all (number_from used n) bytes used (omega arith) ∙ rw all (number_from-nil (length bytes) n)

-- a digit that is not the last
pub goes_on : (bytes : List ℕ) (used n : ℕ) → SoFar bytes used n → used < length bytes → 127 < get_or bytes used 0 → used ≢ 4 → number_from (used + 1) (n * 128 + get_or bytes used 0 % 128) (drop (used + 1) bytes) ≡ number_from 0 0 bytes
goes_on bytes used n so_far lt high ne = sym (at_drop_more (number_from used n) bytes used 0 lt ∙ number_from-more used n (get_or bytes used 0) (drop (used + 1) bytes) high ne) ∙ so_far.reads

-- ---- writing

-- one digit more is written
pub writes_digit : (at high : ℕ) (digits all : List ℕ) → leading_digits at high ++ drop at digits ≡ all → 0 < high → 0 < at → at ≤ length digits → leading_digits (at - 1) (high / 128) ++ drop (at - 1) (set digits (at - 1) (high % 128 + 128)) ≡ all
writes_digit at high digits all spelled some more within =
    let k = at - 1 in
    let at-is : at ≡ suc k = omega arith in
    let at_is : k + 1 ≡ at = omega arith in
    let there : k < length digits = omega arith in
    let split : leading_digits at high ≡ leading_digits k (high / 128) ++ (high % 128 + 128) ∷ [] = ap (λ (m : ℕ). leading_digits m high) at-is ∙ leading_digits-suc k high some in
    rw (drop-set digits k (high % 128 + 128) there, at_is) (sym (append_assoc (leading_digits k (high / 128)) ((high % 128 + 128) ∷ []) (drop at digits)) ∙ ap (λ (x : List ℕ). x ++ drop at digits) (sym split) ∙ spelled)

-- a number above 0 has a digit, and its quotient one digit fewer
pub one_digit : (at high : ℕ) → 0 < high → high < 128 ^ at → (0 < at) × (high / 128 < 128 ^ (at - 1))
one_digit zero high some lt = absurd (omega arith)
one_digit (suc k) high some lt =
    let k-is : k ≡ suc k - 1 = omega arith in
    (omega arith, subst (λ (m : ℕ). high / 128 < 128 ^ m) k-is (pow_quotient k high lt))

-- at 0 all digits are written
pub all_written : (at high : ℕ) (digits all : List ℕ) → leading_digits at high ++ drop at digits ≡ all → high ≡ 0 → drop at digits ≡ all
all_written at high digits all spelled none = sym (rw (leading_digits-zero at high none) refl) ∙ spelled

-- the last digit is there before the others
pub last_digit : (n : ℕ) → leading_digits 4 (n / 128) ++ (n % 128) ∷ [] ≡ varint n
unfolding varint
last_digit n = refl
