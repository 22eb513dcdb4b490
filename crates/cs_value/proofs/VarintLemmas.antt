-- Varints: what is read is spelled so, what is spelled so is read, and what a refusal says of the bytes.
use Rattle.std.proofs.Common.{◌≡◌, ◌≢◌, ℕ, zero, suc, ◌+◌, ◌-◌, ◌*◌, ◌/◌, ◌%◌, ◌^◌, ◌<◌, ◌≤◌, List, [], ◌∷◌, ◌++◌, length, get_or, take, drop, Result, Ok, Err, Some, refl, sym, ap, subst, ◌∙◌, append_assoc, arith, length-append, inl, inr}
use Rattle.std.specs.Prelude.{slice_get, ◌⊎◌, IfOk, IfErr}
use Rattle.std.specs.List.{AllByRecursion}
use Rattle.std.proofs.lemmas.Bool.{ne_eqb, lt-ltb, le-ltb, cases_lt, cases_eq}
use Rattle.std.proofs.lemmas.List.{drop_at, take-append-drop, take-take, length-take}
use Rattle.std.proofs.Math.Nat.{pow-suc, pow-le-pow_right}
use Rattle.cs_value.specs.declared.TheConstants.{MAX_CONTENT_LEN}
use Rattle.cs_value.specs.declared.fault.FieldFault.{FieldFault}
use Rattle.cs_value.specs.declared.fault.FieldFaultKind.TheVariants.{Truncated, BadVarint}
use Rattle.cs_value.specs.Value.{AreBytes}
use Rattle.cs_value.specs.Varint.{leading_digits, varint}
use Rattle.cs_value.specs.Spelling.{BeginsWith}
use Rattle.cs_value.specs.FieldFaults.{VarintFails}
use Rattle.cs_value.specs.Reading.{fault, number_from, number_at}
use Rattle.cs_value.proofs.Steps.{ok_is, err_is, not_both}
use Rattle.cs_value.proofs.Digits.{leading_digits-zero, leading_digits-suc, length-leading_digits_le, leading_digits-push, varint-push, pow_quotient, leading_digits-first}

-- ---- one step of reading

-- the bytes end
pub number_from-nil : (used n : ℕ) → number_from used n [] ≡ Err (fault Truncated used)
unfolding number_from
number_from-nil used n = refl

-- a last digit, with a number that is not too large
pub number_from-last : (used n b : ℕ) (bytes : List ℕ) → b < 128 → n * 128 + b % 128 ≤ MAX_CONTENT_LEN → number_from used n (b ∷ bytes) ≡ Ok (n * 128 + b % 128, used + 1)
unfolding number_from
number_from-last used n b bytes low le = rw (lt-ltb b 128 low, le-ltb MAX_CONTENT_LEN (n * 128 + b % 128) le) refl

-- a last digit, with a number that is too large
pub number_from-large : (used n b : ℕ) (bytes : List ℕ) → b < 128 → MAX_CONTENT_LEN < n * 128 + b % 128 → number_from used n (b ∷ bytes) ≡ Err (fault BadVarint 0)
unfolding number_from
number_from-large used n b bytes low lt = rw (lt-ltb b 128 low, lt-ltb MAX_CONTENT_LEN (n * 128 + b % 128) lt) refl

-- a digit that is not the last
pub number_from-more : (used n b : ℕ) (bytes : List ℕ) → 127 < b → used ≢ 4 → number_from used n (b ∷ bytes) ≡ number_from (used + 1) (n * 128 + b % 128) bytes
unfolding number_from
number_from-more used n b bytes high ne = rw (le-ltb b 128 (omega arith), ne_eqb used 4 ne) refl

-- a fifth digit that is not the last
pub number_from-fifth : (n b : ℕ) (bytes : List ℕ) → 127 < b → number_from 4 n (b ∷ bytes) ≡ Err (fault BadVarint 0)
unfolding number_from
number_from-fifth n b bytes high = rw (le-ltb b 128 (omega arith)) refl

-- but for a leading zero, reading is reading digits
pub number_at-from : (bytes : List ℕ) → get_or bytes 0 0 ≢ 128 → number_at bytes ≡ number_from 0 0 bytes
unfolding number_at number_from
number_at-from [] ne = refl
number_at-from (b ∷ bytes) ne = rw (ne_eqb b 128 ne) refl

-- a leading zero
pub number_at-zero : (bytes : List ℕ) → number_at (128 ∷ bytes) ≡ Err (fault BadVarint 0)
unfolding number_at
number_at-zero bytes = refl

-- ---- takes

-- leading digits, and the bytes after them, from which this is read
record Takes (digits bytes : List ℕ) (read : ℕ × ℕ) : Type 0 where
  small : read.0 ≤ MAX_CONTENT_LEN
  rest : List ℕ
  whole : digits ++ bytes ≡ varint read.0 ++ rest
  count : read.1 ≡ length (varint read.0)

-- one digit may be on either side
takes_on : (digits more bytes : List ℕ) (b : ℕ) (read : ℕ × ℕ) → more ≡ digits ++ b ∷ [] → Takes more bytes read → Takes digits (b ∷ bytes) read
takes_on digits more bytes b read e t = record { small = t.small; rest = t.rest; whole = sym (rw (e, append_assoc) refl) ∙ t.whole; count = t.count }

-- with the digits before them, the bytes are the varint of what is read, and the rest
from_takes : (used n : ℕ) (bytes : List ℕ) (read : ℕ × ℕ) → length (leading_digits 4 n) ≡ used → AreBytes bytes → (n ≡ 0 → get_or bytes 0 0 ≢ 128) → number_from used n bytes ≡ Ok read → Takes (leading_digits 4 n) bytes read
from_takes used n [] read len fits ne e = absurd (not_both read (fault Truncated used) (sym e ∙ number_from-nil used n))
from_takes used n (b ∷ bytes) read len fits ne e =
    let next = n * 128 + b % 128 in
    elim (cases_lt b 128) [
      | inl low ↦ elim (cases_lt MAX_CONTENT_LEN next) [
        | inl large ↦ absurd (not_both read (fault BadVarint 0) (sym e ∙ number_from-large used n b bytes low large))
        | inr small ↦
            let is : (next, used + 1) ≡ read = ok_is (next, used + 1) read (sym (number_from-last used n b bytes low small) ∙ e) in
            let spelled = varint-push n b low in
            subst (λ (r : ℕ × ℕ). Takes (leading_digits 4 n) (b ∷ bytes) r) is (record {
              small = small;
              rest = bytes;
              whole = rw (spelled, append_assoc) refl;
              count = omega (arith, ap length spelled, length-append (leading_digits 4 n) (b ∷ []));
            })
      ]
      | inr high ↦ elim (cases_eq used 4) [
        | inl four ↦ absurd (not_both read (fault BadVarint 0) (sym e ∙ rw four (number_from-fifth n b bytes high)))
        | inr fewer ↦
            let few : length (leading_digits 4 n) ≤ 3 = omega (arith, length-leading_digits_le 4 n) in
            let byte : b < 256 = fits.0 in
            let some : 0 < next = elim (cases_lt 0 n) [ inl lt ↦ omega arith | inr le ↦ let other : b ≢ 128 = ne (omega arith) in omega arith ] in
            let digits = leading_digits-push n b few high byte some in
            let len_next : length (leading_digits 4 next) ≡ used + 1 = omega (arith, ap length digits, length-append (leading_digits 4 n) (b ∷ [])) in
            takes_on (leading_digits 4 n) (leading_digits 4 next) bytes b read digits (from_takes (used + 1) next bytes read len_next fits.1 (λ z. absurd (omega arith)) (sym (number_from-more used n b bytes high fewer) ∙ e))
      ]
    ]

-- the rest is what follows as many bytes as the text has
pub BeginsWith-from_append : (bytes text rest : List ℕ) (used : ℕ) → bytes ≡ text ++ rest → used ≡ length text → BeginsWith bytes text used
BeginsWith-from_append bytes text rest used whole count = record { whole = whole ∙ ap (λ (x : List ℕ). text ++ x) (sym (ap (drop used) whole ∙ drop_at text rest used (sym count))); count = count }

-- no bytes begin with a leading zero that is read
read_first : (bytes : List ℕ) (read : ℕ × ℕ) → number_at bytes ≡ Ok read → get_or bytes 0 0 ≢ 128
read_first [] read e z = absurd (omega arith)
read_first (b ∷ bytes) read e z = not_both read (fault BadVarint 0) (sym e ∙ rw z (number_at-zero bytes))

-- what is read is spelled so
pub number_takes : (bytes : List ℕ) (n used : ℕ) → AreBytes bytes → number_at bytes ≡ Ok (n, used) → (n ≤ MAX_CONTENT_LEN) × BeginsWith bytes (varint n) used
number_takes bytes n used fits e =
    let ne = read_first bytes (n, used) e in
    let none = leading_digits-zero 4 0 refl in
    let t = from_takes 0 0 bytes (n, used) (ap length none) fits (λ _. ne) (sym (number_at-from bytes ne) ∙ e) in
    (t.small, BeginsWith-from_append bytes (varint n) t.rest used (sym (rw none refl) ∙ t.whole) t.count)

-- ---- again

-- leading digits are read as the number that they spell
from_digits : (k n : ℕ) (bytes : List ℕ) → k ≤ 4 → n < 128 ^ k → number_from 0 0 (leading_digits k n ++ bytes) ≡ number_from (length (leading_digits k n)) n bytes
from_digits zero n bytes le lt = let z : n ≡ 0 = omega arith in rw (leading_digits-zero 0 n z, z) refl
from_digits (suc k) n bytes le lt =
    elim (cases_lt 0 n) [
      | inl some ↦
          let high = leading_digits k (n / 128) in
          let b = n % 128 + 128 in
          let whole : n / 128 * 128 + b % 128 ≡ n = omega arith in
          let few : length high ≢ 4 = omega (arith, length-leading_digits_le k (n / 128)) in
          let one : length (high ++ b ∷ []) ≡ length high + 1 = omega (arith, length-append high (b ∷ [])) in
          let before : number_from 0 0 (high ++ (b ∷ bytes)) ≡ number_from (length high) (n / 128) (b ∷ bytes) = from_digits k (n / 128) (b ∷ bytes) (omega arith) (pow_quotient k n lt) in
          let more : number_from (length high) (n / 128) (b ∷ bytes) ≡ number_from (length high + 1) (n / 128 * 128 + b % 128) bytes = number_from-more (length high) (n / 128) b bytes (omega arith) few in
          rw (leading_digits-suc, append_assoc, one) (before ∙ more ∙ ap (λ (m : ℕ). number_from (length high + 1) m bytes) whole)
      | inr none ↦ let z : n ≡ 0 = omega arith in rw (leading_digits-zero (suc k) n z, z) refl
    ]

-- a varint does not begin with a leading zero
varint-first : (n : ℕ) (rest : List ℕ) → n ≤ MAX_CONTENT_LEN → get_or (varint n ++ rest) 0 0 ≢ 128
unfolding varint
varint-first n rest le =
    elim (cases_lt 0 (n / 128)) [
      | inl more ↦ rw append_assoc (leading_digits-first 4 (n / 128) ((n % 128) ∷ [] ++ rest) more (omega arith))
      | inr last ↦ rw (leading_digits-zero 4 (n / 128) (omega arith)) (λ e. omega arith)
    ]

-- digit by digit, a varint is read
from_varint : (n : ℕ) (rest : List ℕ) → n ≤ MAX_CONTENT_LEN → number_from 0 0 (varint n ++ rest) ≡ Ok (n, length (varint n))
unfolding varint
from_varint n rest le =
    let high = leading_digits 4 (n / 128) in
    let b = n % 128 in
    let whole : n / 128 * 128 + b % 128 ≡ n = omega arith in
    let one : length (high ++ b ∷ []) ≡ length high + 1 = omega (arith, length-append high (b ∷ [])) in
    let before : number_from 0 0 (high ++ (b ∷ rest)) ≡ number_from (length high) (n / 128) (b ∷ rest) = from_digits 4 (n / 128) (b ∷ rest) (omega arith) (omega arith) in
    let last : number_from (length high) (n / 128) (b ∷ rest) ≡ Ok (n / 128 * 128 + b % 128, length high + 1) = number_from-last (length high) (n / 128) b rest (omega arith) (omega arith) in
    rw (append_assoc, one) (before ∙ last ∙ ap (λ (m : ℕ). Ok (m, length high + 1)) whole)

-- what is spelled so is read
pub number_again : (n : ℕ) (rest : List ℕ) → n ≤ MAX_CONTENT_LEN → number_at (varint n ++ rest) ≡ Ok (n, length (varint n))
number_again n rest le = number_at-from (varint n ++ rest) (varint-first n rest le) ∙ from_varint n rest le

-- ---- faults

-- as many bytes as a varint can have before its last
CutOff : ℕ → List ℕ → FieldFault → Type 0
CutOff used bytes e = (e ≡ fault Truncated (used + length bytes)) × (used + length bytes ≤ 4) × AllByRecursion (λ b. 127 < b) bytes

-- five bytes whose last ends no number that is small enough
TooLong : ℕ → List ℕ → FieldFault → Type 0
TooLong used bytes e = (e ≡ fault BadVarint 0) × (5 ≤ used + length bytes) × AllByRecursion (λ b. 127 < b) (take (4 - used) bytes)

-- with the digits before them, the bytes are cut off or too long
from_faults : (used n : ℕ) (bytes : List ℕ) (e : FieldFault) → used ≤ 4 → n < 128 ^ used → number_from used n bytes ≡ Err e → CutOff used bytes e ⊎ TooLong used bytes e
unfolding CutOff TooLong
from_faults used n [] e le lt p =
    let is = err_is (fault Truncated used) e (sym (number_from-nil used n) ∙ p) in
    let here : used ≡ used + 0 = omega arith in
    inl (sym is ∙ ap (fault Truncated) here, omega arith, tt)
from_faults used n (b ∷ bytes) e le lt p =
    let next = n * 128 + b % 128 in
    elim (cases_eq used 4) [
      | inl four ↦
          let none : 4 - used ≡ 0 = omega arith in
          let long : 5 ≤ used + length (b ∷ bytes) = omega arith in
          elim (cases_lt b 128) [
            | inl low ↦ elim (cases_lt MAX_CONTENT_LEN next) [
              | inl large ↦ inr (sym (err_is (fault BadVarint 0) e (sym (number_from-large used n b bytes low large) ∙ p)), long, rw none tt)
              | inr small ↦ absurd (not_both (next, used + 1) e (sym (number_from-last used n b bytes low small) ∙ p))
            ]
            | inr high ↦ inr (sym (err_is (fault BadVarint 0) e (sym (rw four (number_from-fifth n b bytes high)) ∙ p)), long, rw none tt)
          ]
      | inr fewer ↦
          let next_lt : next < 128 ^ suc used = rw (pow-suc 128 used) (omega arith) in
          elim (cases_lt b 128) [
            | inl low ↦ absurd (not_both (next, used + 1) e (sym (number_from-last used n b bytes low (omega (arith, pow-le-pow_right {n = 128} (omega arith) {i = suc used} {j = 4} (omega arith)))) ∙ p))
            | inr high ↦
                let one : used + 1 ≡ suc used = omega arith in
                let h = from_faults (used + 1) next bytes e (omega arith) (rw one next_lt) (sym (number_from-more used n b bytes high fewer) ∙ p) in
                elim h [
                  | inl cut ↦ inl (cut.0 ∙ ap (fault Truncated) (omega arith), omega (arith, cut.1), (high, cut.2))
                  | inr long ↦ let less : 4 - used ≡ suc (4 - (used + 1)) = omega arith in inr (long.0, omega (arith, long.1), rw less (high, long.2))
                ]
          ]
    ]

-- the first byte, as a slice gives it, is the byte at 0
slice_get-first : (bytes : List ℕ) → slice_get bytes 0 ≡ Some 128 → get_or bytes 0 0 ≡ 128
slice_get-first [] e = absurd cc
slice_get-first (b ∷ bytes) e = cc

-- and the other way round
first-slice_get : (bytes : List ℕ) → get_or bytes 0 0 ≡ 128 → slice_get bytes 0 ≡ Some 128
first-slice_get [] e = absurd (omega arith)
first-slice_get (b ∷ bytes) e = ap Some e

-- a leading zero is refused
pub number_at-first : (bytes : List ℕ) → get_or bytes 0 0 ≡ 128 → number_at bytes ≡ Err (fault BadVarint 0)
number_at-first [] e = absurd (omega arith)
number_at-first (b ∷ bytes) e = rw e (number_at-zero bytes)

-- what a refusal says of the bytes
pub number_faults : (bytes : List ℕ) (e : FieldFault) → number_at bytes ≡ Err e → VarintFails bytes e.kind e.place
unfolding CutOff TooLong
number_faults bytes e p =
    let Fails : FieldFault → Type 0 = λ f. VarintFails bytes f.kind f.place in
    elim (cases_eq (get_or bytes 0 0) 128) [
      | inl zero_first ↦
          let is : fault BadVarint 0 ≡ e = err_is (fault BadVarint 0) e (sym (number_at-first bytes zero_first) ∙ p) in
          subst Fails is (inl (first-slice_get bytes zero_first), refl)
      | inr ne ↦
          elim (from_faults 0 0 bytes e (omega arith) (omega arith) (sym (number_at-from bytes ne) ∙ p)) [
            | inl cut ↦ subst Fails (sym cut.0) (record { few = omega (arith, cut.1); go_on = cut.2; shortest = λ s. ne (slice_get-first bytes s) }, omega arith)
            | inr long ↦
                let enough : 5 ≤ length bytes = omega (arith, long.1) in
                let no_varint : (n : ℕ) → n ≤ MAX_CONTENT_LEN → varint n ≢ take 5 bytes = λ n le same.
                let whole : varint n ++ drop 5 bytes ≡ bytes = ap (λ (x : List ℕ). x ++ drop 5 bytes) same ∙ take-append-drop 5 bytes in
                not_both (n, length (varint n)) e (sym (number_again n (drop 5 bytes) le) ∙ ap number_at whole ∙ p) in
                subst Fails (sym long.0) (
                  inr (
                    enough,
                    record {
                      five = omega (arith, length-take 5 bytes);
                      go_on = rw (take-take 4 5 bytes (omega arith)) long.2;
                      no_varint = no_varint;
                    },
                  ),
                  refl,
                )
          ]
    ]

-- ---- what a function answers that reads a varint

-- what it finds is spelled so
pub is_found : (bytes : List ℕ) (r : Result (ℕ × ℕ) FieldFault) → AreBytes bytes → r ≡ number_at bytes → IfOk r (λ x. (x.0 ≤ MAX_CONTENT_LEN) × BeginsWith bytes (varint x.0) x.1)
is_found bytes (Ok x) fits e = number_takes bytes x.0 x.1 fits (sym e)
is_found bytes (Err d) fits e = tt

-- its fault is one of the bytes
pub is_faulty : (bytes : List ℕ) (r : Result (ℕ × ℕ) FieldFault) → r ≡ number_at bytes → IfErr r (λ d. VarintFails bytes d.kind d.place)
is_faulty bytes (Ok x) e = tt
is_faulty bytes (Err d) e = number_faults bytes d (sym e)
