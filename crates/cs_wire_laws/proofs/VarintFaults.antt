-- Bytes have one fault of a varint at most, and none if they begin with a varint.
use Rattle.std.proofs.Common.{◌≡◌, ℕ, zero, suc, ◌/◌, ◌%◌, ◌<◌, ◌≤◌, List, [], ◌∷◌, ◌++◌, length, take, Some, refl, sym, ◌∙◌, arith, length-append, inl, inr}
use Rattle.std.specs.Prelude.{slice_get, ◌⊎◌}
use Rattle.std.specs.List.{AllByRecursion}
use Rattle.std.proofs.lemmas.Bool.{cases_lt}
use Rattle.std.proofs.lemmas.List.{take-take, take_at}
use Rattle.std.proofs.lemmas.Option.{get_or_from_slice_get}
use Rattle.cs_value.specs.declared.TheConstants.{MAX_CONTENT_LEN}
use Rattle.cs_value.specs.declared.fault.FieldFaultKind.{FieldFaultKind}
use Rattle.cs_value.specs.declared.fault.FieldFaultKind.TheVariants.{Truncated, BadVarint, BadType, RealValue, BadText}
use Rattle.cs_value.specs.Varint.{leading_digits, varint}
use Rattle.cs_value.specs.FieldFaults.{IsCutVarint, BeginsNoVarint, VarintFails}
use Rattle.cs_value.specs.Reading.{fault}
use Rattle.cs_value.proofs.Steps.{not_both}
use Rattle.cs_value.proofs.Digits.{length-leading_digits_le}
use Rattle.cs_value.proofs.ListLemmas.{AllByRecursion-append_left, AllByRecursion-append_right}
use Rattle.cs_value.proofs.VarintLemmas.{number_at-first, number_again}

abbrev Above : ℕ → Type 0
Above b = 127 < b

-- a varint has at most five bytes, and the last is below 0x80
length-varint_le : (n : ℕ) → length (varint n) ≤ 5
unfolding varint
length-varint_le n = omega (arith, length-append (leading_digits 4 (n / 128)) ((n % 128) ∷ []), length-leading_digits_le 4 (n / 128))

varint_ends : (n : ℕ) → AllByRecursion Above (varint n) → ⊥
unfolding varint
varint_ends n each =
    let last = AllByRecursion-append_right Above (leading_digits 4 (n / 128)) ((n % 128) ∷ []) each in
    omega (arith, last.0)

-- a varint of four bytes at most has its end in the first four
short_ends : (n : ℕ) (rest : List ℕ) → length (varint n) ≤ 4 → AllByRecursion Above (take 4 (varint n ++ rest)) → ⊥
short_ends n rest le each = by (varint n) le each (varint_ends n)
  where
    front : (xs : List ℕ) (k : ℕ) → length xs ≤ k → AllByRecursion Above (take k (xs ++ rest)) → AllByRecursion Above xs
    front [] k le each = tt
    front (x ∷ xs) zero le each = absurd (omega arith)
    front (x ∷ xs) (suc k) le each = (each.0, front xs k (omega arith) each.1)

    by : (xs : List ℕ) → length xs ≤ 4 → AllByRecursion Above (take 4 (xs ++ rest)) → (AllByRecursion Above xs → ⊥) → ⊥
    by xs le each none = none (front xs 4 le each)

-- a varint does not begin with 0x80
first_not_zero : (n : ℕ) (rest : List ℕ) → n ≤ MAX_CONTENT_LEN → slice_get (varint n ++ rest) 0 ≡ Some 128 → ⊥
first_not_zero n rest le first =
    not_both (n, length (varint n)) (fault BadVarint 0) (sym (number_again n rest le) ∙ number_at-first (varint n ++ rest) (get_or_from_slice_get (varint n ++ rest) 0 128 0 first))

no_varint : (n : ℕ) (rest : List ℕ) → n ≤ MAX_CONTENT_LEN → BeginsNoVarint (varint n ++ rest) → ⊥
no_varint n rest le (inl first) = first_not_zero n rest le first
no_varint n rest le (inr long) =
    let bytes = varint n ++ rest in
    elim (cases_lt (length (varint n)) 5) [
      | inl few ↦ short_ends n rest (omega arith) (rw (take-take 4 5 bytes (omega arith)) at long.1.go_on)
      | inr five ↦ long.1.no_varint n le (sym (take_at (varint n) rest 5 (omega (arith, length-varint_le n))))
    ]

cut_varint : (n : ℕ) (rest : List ℕ) → IsCutVarint (varint n ++ rest) → ⊥
cut_varint n rest cut = varint_ends n (AllByRecursion-append_left Above (varint n) rest cut.go_on)

-- bytes that begin with a varint have none
pub varint_or_fails : (bytes : List ℕ) (kind : FieldFaultKind) (place : ℕ) (n : ℕ) (rest : List ℕ) → n ≤ MAX_CONTENT_LEN → bytes ≡ varint n ++ rest → VarintFails bytes kind place → ⊥
varint_or_fails bytes Truncated place n rest le e h = cut_varint n rest (rw e at h.0)
varint_or_fails bytes BadVarint place n rest le e h = no_varint n rest le (rw e at h.0)
varint_or_fails bytes BadType place n rest le e h = h
varint_or_fails bytes RealValue place n rest le e h = h
varint_or_fails bytes BadText place n rest le e h = h

cut_or_none : (bytes : List ℕ) → IsCutVarint bytes → BeginsNoVarint bytes → ⊥
cut_or_none bytes cut (inl first) = cut.shortest first
cut_or_none bytes cut (inr long) = omega (arith, cut.few, long.0)

-- the two faults of a varint
abbrev VarintView : List ℕ → FieldFaultKind → ℕ → Type 0
VarintView bytes kind place = (IsCutVarint bytes × (kind ≡ Truncated) × (place ≡ length bytes)) ⊎ (BeginsNoVarint bytes × (kind ≡ BadVarint) × (place ≡ 0))

view : (bytes : List ℕ) (kind : FieldFaultKind) (place : ℕ) → VarintFails bytes kind place → VarintView bytes kind place
view bytes Truncated place h = inl (h.0, refl, h.1)
view bytes BadVarint place h = inr (h.0, refl, h.1)
view bytes BadType place h = absurd h
view bytes RealValue place h = absurd h
view bytes BadText place h = absurd h

-- bytes have one fault of a varint at most
pub varint_fails_once : (bytes : List ℕ) (k l : FieldFaultKind) (p q : ℕ) → VarintFails bytes k p → VarintFails bytes l q → (k ≡ l) × (p ≡ q)
varint_fails_once bytes k l p q one two = by (view bytes k p one) (view bytes l q two)
  where
    by : VarintView bytes k p → VarintView bytes l q → (k ≡ l) × (p ≡ q)
    by (inl a) (inl b) = (a.1 ∙ sym b.1, a.2 ∙ sym b.2)
    by (inr a) (inr b) = (a.1 ∙ sym b.1, a.2 ∙ sym b.2)
    by (inl a) (inr b) = absurd (cut_or_none bytes a.0 b.0)
    by (inr a) (inl b) = absurd (cut_or_none bytes b.0 a.0)
