-- Things that are found by the chains of their texts' numbers.
use Rattle.std.proofs.Common.{◌≡◌, ◌≢◌, ℕ, ◌+◌, ◌<◌, ◌≤◌, List, length, map, get_or, Some, None, sym, ap, ◌∙◌, ⊎_elim, arith}
use Rattle.std.proofs.lemmas.Bool.{cases_order}
use Rattle.std.proofs.lemmas.List.{get_or-map, length-map}
use Rattle.cs_wire.specs.Views.{IsIndexWhere}
use Rattle.cs_file_scan.specs.Chains.{ChainsData, IsEnd, bucket_at, bucket_of}
use Rattle.cs_file_scan.specs.Distinct.{number_of}
use Rattle.cs_changegroup.specs.Slots.{IsNewest}

-- from an index on, no thing has the text
abbrev pub NoneFrom : {X : Type 0} → (X → List ℕ) → List X → List ℕ → ℕ → Type 0
NoneFrom {X} text_of xs text end = (index : ℕ) (d : X) → end ≤ index → index < length xs → text_of (get_or xs index d) ≢ text

module _ {X : Type 0} (text_of : X → List ℕ) (xs : List X) (text : List ℕ) where
  pub NoneFrom-all : (end : ℕ) → end ≤ 0 → NoneFrom text_of xs text end → IsNewest text_of text xs None
  NoneFrom-all end le none = λ k d lt. none k d (omega (arith, le)) lt

  -- the last one that has the text
  pub NoneFrom-found : (index : ℕ) → NoneFrom text_of xs text (index + 1) → IsIndexWhere (λ x. text_of x ≡ text) xs index → IsNewest text_of text xs (Some index)
  NoneFrom-found index none at = (at, λ other d after lt. none other d (omega (arith, after)) lt)

  module _ (chains : ChainsData) (numbers : chains.numbers ≡ map (λ x. number_of (text_of x)) xs) where
    pub as_many : length chains.numbers ≡ length xs
    as_many = ap length numbers ∙ length-map xs (λ x. number_of (text_of x))

    -- a thing with the text is in the bucket of its number
    in_bucket : (index : ℕ) (d : X) → index < length xs → text_of (get_or xs index d) ≡ text → bucket_at chains index ≡ bucket_of chains (number_of text)
    in_bucket index d lt same =
        ap (λ (n : ℕ). bucket_of chains n)
        (ap (λ (ns : List ℕ). get_or ns index 0) numbers ∙ get_or-map (λ x. number_of (text_of x)) xs index d 0 lt ∙ ap number_of same)

    pub NoneFrom-end : (end : ℕ) → IsEnd chains (bucket_of chains (number_of text)) (length chains.numbers) end → NoneFrom text_of xs text end
    NoneFrom-end end is = λ index d le lt same. is.none index le (omega (arith, lt, as_many)) (in_bucket index d lt same)

    -- one index more
    pub NoneFrom-before : (index end : ℕ) → IsEnd chains (bucket_at chains index) index end → bucket_at chains index ≡ bucket_of chains (number_of text) → IsIndexWhere (λ x. text_of x ≢ text) xs index
        → NoneFrom text_of xs text (index + 1) → NoneFrom text_of xs text end
    NoneFrom-before index end is bucket absent none = λ other d le lt same.
        ⊎_elim
        (λ here. absurd (absent.holds d (ap (λ (i : ℕ). text_of (get_or xs i d)) (sym here) ∙ same)))
        (⊎_elim
        (λ before. is.none other le before (in_bucket other d lt same ∙ sym bucket))
        (λ after. none other d (omega (arith, after)) lt same))
        (cases_order other index)
