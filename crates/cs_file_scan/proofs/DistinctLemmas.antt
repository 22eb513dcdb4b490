-- Texts that are distinguished by numbers.
use Rattle.std.proofs.Common.{◌≡◌, ◌≢◌, ℕ, List, map, AllPairs, sym, ap, ◌∙◌, arith}
use Rattle.std.specs.List.Sorted.{IsPermutation, IsStrictlyIncreasing}
use Rattle.std.proofs.Math.Dec.{eqb}
use Rattle.std.proofs.lemmas.Bool.Decides.{Decides-eqb}
use Rattle.std.proofs.lemmas.List.{get_or-map, length-map}
use Rattle.std.proofs.lemmas.List.Kept.{AllPairs-from_increasing}
use Rattle.std.proofs.lemmas.List.Sorted.{IsPermutation-sym}
use Rattle.std.proofs.lemmas.Map.Keys.{IsDistinct-IsPermutation}
use Rattle.std.proofs.lemmas.Map.Made.{AllPairs-from_IsDistinct, IsDistinct-from_AllPairs}
use Rattle.cs_file_scan.specs.Distinct.{number_of}

flips : (m n : ℕ) → eqb m n ≡ eqb n m
flips m n = grind arith

-- numbers that rise in some order differ
pub distinct_from_rising : (numbers sorted : List ℕ) → IsPermutation numbers sorted → IsStrictlyIncreasing sorted → AllPairs (λ m n. m ≢ n) numbers
distinct_from_rising numbers sorted moved rising =
    let apart : AllPairs (λ m n. m ≢ n) sorted = λ i j d lt within same. omega (arith, AllPairs-from_increasing sorted rising i j d lt within, same) in
    AllPairs-from_IsDistinct Decides-eqb numbers (IsDistinct-IsPermutation eqb flips sorted numbers (IsPermutation-sym numbers sorted moved) (IsDistinct-from_AllPairs Decides-eqb sorted apart))

-- things whose texts have numbers that differ have texts that differ
pub texts_differ : {X : Type 0} (text_of : X → List ℕ) (xs : List X) → AllPairs (λ m n. m ≢ n) (map (λ x. number_of (text_of x)) xs) → AllPairs (λ x y. text_of x ≢ text_of y) xs
texts_differ {X} text_of xs apart = λ i j d lt within same.
    let number : X → ℕ = λ x. number_of (text_of x) in
    apart i j 0 lt (omega (arith, within, length-map xs number))
    (get_or-map number xs i d 0 (omega (arith, lt, within)) ∙ ap number_of same ∙ sym (get_or-map number xs j d 0 within))
