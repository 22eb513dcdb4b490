-- Chains of indices by numbers.
use Rattle.std.proofs.Common.{◌≡◌, ◌≢◌, ℕ, ◌+◌, ◌<◌, ◌≤◌, ◌%◌, List, [], ◌∷◌, ◌++◌, length, get_or, set, refl, sym, ap, ◌∙◌, ⊎_elim, arith}
use Rattle.std.proofs.lemmas.Bool.{cases_order}
use Rattle.std.proofs.lemmas.List.{get_or-set_same, get_or-set_other, get_or_append_left, get_or_at, length-append, length-set}
use Rattle.cs_file_scan.specs.Chains.{ChainsData, IsEnd, AreChained, bucket_at}

-- one more number
module _ (buckets number : ℕ) (numbers : List ℕ) where
  abbrev chains : ChainsData
  chains = record { buckets = buckets; numbers = numbers }

  abbrev grown : ChainsData
  grown = record { buckets = buckets; numbers = numbers ++ number ∷ [] }

  same_bucket : (index : ℕ) → index < length numbers → bucket_at grown index ≡ bucket_at chains index
  same_bucket index lt = ap (λ (n : ℕ). n % buckets) (get_or_append_left numbers (number ∷ []) 0 index lt)

  new_bucket : bucket_at grown (length numbers) ≡ number % buckets
  new_bucket = ap (λ (n : ℕ). n % buckets) (get_or_at numbers number [] 0 (length numbers) refl)

  IsEnd-grown : (bucket bound end : ℕ) → bound ≤ length numbers → IsEnd chains bucket bound end → IsEnd grown bucket bound end
  IsEnd-grown bucket bound end le so = record {
    within = so.within;
    last = λ index is. same_bucket index (omega (arith, is, so.within, le)) ∙ so.last index is;
    none = λ index from below here. so.none index from below (sym (same_bucket index (omega (arith, below, le))) ∙ here);
  }

  IsEnd-new : (end : ℕ) → end ≡ length numbers + 1 → IsEnd grown (number % buckets) (length numbers + 1) end
  IsEnd-new end at = record {
    within = omega (arith, at);
    last = λ index is. let there : index ≡ length numbers = omega (arith, at, is) in ap (bucket_at grown) there ∙ new_bucket;
    none = λ index from below. absurd (omega (arith, at, from, below));
  }

  IsEnd-other : (bucket end : ℕ) → number % buckets ≢ bucket → IsEnd chains bucket (length numbers) end → IsEnd grown bucket (length numbers + 1) end
  IsEnd-other bucket end other so = record {
    within = omega (arith, so.within);
    last = (IsEnd-grown bucket (length numbers) end (omega arith) so).last;
    none = λ index from below here.
        ⊎_elim (λ is. other (sym new_bucket ∙ ap (bucket_at grown) (sym is) ∙ here))
        (⊎_elim (λ lt. (IsEnd-grown bucket (length numbers) end (omega arith) so).none index from lt here) (λ gt. absurd (omega (arith, gt, below))))
        (cases_order index (length numbers));
  }

  module _ (ends befores : List ℕ) (count : buckets ≡ length ends) (so : AreChained ends numbers befores) (as_many : length befores ≡ length numbers) (bucket end : ℕ) (is : bucket ≡ number % buckets) (within : bucket < buckets) (at : end ≡ length numbers + 1) where
    each_end : (b : ℕ) → b < buckets → IsEnd grown b (length numbers + 1) (get_or (set ends bucket end) b 0)
    each_end b lt =
        let before : IsEnd chains b (length numbers) (get_or ends b 0) = rw count (so.each_end b (omega (arith, lt, count))) in
        ⊎_elim (λ same. rw (same, get_or-set_same ends bucket end 0 (omega (arith, within, count)), is) (IsEnd-new end at))
        (λ order.
        let apart : b ≢ bucket = λ same. ⊎_elim (λ lt. absurd (omega (arith, lt, same))) (λ gt. absurd (omega (arith, gt, same))) order in
        rw (get_or-set_other ends bucket b end 0 apart) (IsEnd-other b (get_or ends b 0) (λ same. apart (sym same ∙ sym is)) before))
        (cases_order b bucket)

    before_last : IsEnd grown (bucket_at grown (length numbers)) (length numbers) (get_or (befores ++ get_or ends bucket 0 ∷ []) (length numbers) 0)
    before_last = rw (new_bucket, get_or_at befores (get_or ends bucket 0) [] 0 (length numbers) as_many, ← is)
        (IsEnd-grown bucket (length numbers) (get_or ends bucket 0) (omega arith) (rw count (so.each_end bucket (omega (arith, within, count)))))

    each_before : (index : ℕ) → index < length numbers + 1 → IsEnd grown (bucket_at grown index) index (get_or (befores ++ get_or ends bucket 0 ∷ []) index 0)
    each_before index lt =
        ⊎_elim (λ same. rw same before_last)
        (⊎_elim (λ below. rw (same_bucket index below, get_or_append_left befores (get_or ends bucket 0 ∷ []) 0 index (omega (arith, below, as_many)))
        (IsEnd-grown (bucket_at chains index) index (get_or befores index 0) (omega (arith, below)) (rw count (so.each_before index below))))
        (λ above. absurd (omega (arith, lt, above))))
        (cases_order index (length numbers))

    pub AreChained-push : AreChained (set ends bucket end) (numbers ++ number ∷ []) (befores ++ get_or ends bucket 0 ∷ [])
    AreChained-push =
        let more : length (numbers ++ number ∷ []) ≡ length numbers + 1 = length-append numbers (number ∷ []) in
        let same : length (set ends bucket end) ≡ buckets = length-set ends bucket end ∙ sym count in
        record {
          some = omega (arith, same, within);
          each_end = λ b lt. rw (same, more) (each_end b (omega (arith, lt, same)));
          each_before = λ index lt. rw same (each_before index (omega (arith, lt, more)));
        }
