-- The index of a name in a schema.
use Rattle.std.proofs.Common.{◌≡◌, inl, inr, ℕ, zero, suc, ◌+◌, ◌≤◌, Bool, true, List, [], ◌∷◌, slice_get, Some, None, ap, sym, subst, ◌∙◌, arith}
use Rattle.std.proofs.lemmas.Bool.{cases_Bool}
use Rattle.std.specs.List.{position_from}
use Rattle.std.proofs.lemmas.Option.{slice_get_cases}
use Rattle.sqlite_rules.proofs.RowLemmas.{position_within}

-- where a name is found at an index, something is there
pub something_there : {X : Type 0} (p : X → Bool) (xs : List X) (at : ℕ) → position_from p 0 xs ≡ Some at → slice_get xs at ≡ None → ⊥
something_there p xs at found none =
    let within = position_within p xs 0 at found in
    elim (slice_get_cases xs at).1 [
      | inl here ↦ absurd (let e = here.2 in cc)
      | inr past ↦ absurd (omega (arith, within, past.0))
    ]

-- an index is not below the first
pub place_above : {X : Type 0} (p : X → Bool) (xs : List X) (from at : ℕ) → position_from p from xs ≡ Some at → from ≤ at
place_above p [] from at is = absurd cc
place_above p (x ∷ xs) from at is = elim (cases_Bool (p x)) [
  | inl here ↦ let same : from ≡ at = (let e = rw here at is in cc) in omega (arith, same)
  | inr later ↦ let above = place_above p xs (from + 1) at (rw later at is) in omega (arith, above)
]

-- and what is found there is so named
pub found_passes : {X : Type 0} (p : X → Bool) (xs : List X) (from at : ℕ) (x : X) → position_from p from xs ≡ Some (from + at) → slice_get xs at ≡ Some x → p x ≡ true
found_passes p [] from at x found there = absurd cc
found_passes p (y ∷ ys) from zero x found there = elim (cases_Bool (p y)) [
  | inl here ↦ let same : y ≡ x = cc in ap p (sym same) ∙ here
  | inr later ↦ absurd (let above = place_above p ys (from + 1) (from + 0) (rw later at found) in omega (arith, above))
]
found_passes p (y ∷ ys) from (suc at) x found there = elim (cases_Bool (p y)) [
  | inl here ↦ absurd (let same : from ≡ from + suc at = (let e = rw here at found in cc) in omega (arith, same))
  | inr later ↦
      let moved : from + suc at ≡ from + 1 + at = omega arith in
      found_passes p ys (from + 1) at x (subst (λ n. position_from p (from + 1) ys ≡ Some n) moved (rw later at found)) there
]
