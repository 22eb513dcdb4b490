-- Sets of texts in the order of their words, and under one word in that of their bytes.
use Rattle.std.proofs.Common.{◌≡◌, ◌≢◌, ℕ, Bool, true, false, not, IsTrue, List, [], ◌∷◌, map, All, refl, sym, ap, ◌∙◌, ◌↔◌, ◌||◌, true≢false}
use Rattle.std.specs.declared.cmp.Ordering.{Ordering}
use Rattle.std.specs.declared.cmp.Ordering.TheVariants.{Less, Equal, Greater}
use Rattle.std.specs.Ordering.{nat_cmp, ordering_then, match_ordering, is_eq}
use Rattle.std.specs.Cmp.{Equal-is, tied_itself, nat_cmp_total}
use Rattle.std.specs.Cmp.Lexicographic.{slice_cmp, nat_list_cmp_total}
use Rattle.std.specs.FinMap.{slice_cmp-IsAntisymmetric, nat_cmp-IsAntisymmetric}
use Rattle.std.specs.List.{list_any}
use Rattle.std.specs.BTreeMap.{is_at}
use Rattle.std.specs.BTreeSet.{insert_key}
use Rattle.std.proofs.lemmas.List.Elements.{All-nil, All-cons, All-head, All-tail, All-map}
use Rattle.std.proofs.lemmas.Map.Views.{All-insert_key}

module _ {X : Type 0} (word : X → ℕ) (bytes : X → List ℕ) where
  -- the order of the set
  abbrev pub text_cmp : X → X → Ordering
  text_cmp x y = ordering_then (nat_cmp (word x) (word y)) (slice_cmp nat_cmp (bytes x) (bytes y))

  second_Equal : (r s : Ordering) → ordering_then r s ≡ Equal → s ≡ Equal
  second_Equal Less s e = absurd (true≢false (sym (ap is_eq e)))
  second_Equal Equal s e = e
  second_Equal Greater s e = absurd (true≢false (sym (ap is_eq e)))

  -- what compares as equal has the same bytes
  same_bytes : (x y : X) → text_cmp x y ≡ Equal → bytes x ≡ bytes y
  same_bytes x y e = slice_cmp-IsAntisymmetric nat_cmp-IsAntisymmetric (bytes x) (bytes y) (second_Equal (nat_cmp (word x) (word y)) (slice_cmp nat_cmp (bytes x) (bytes y)) e)

  -- a text that is not in the set with one more is another than that, and was not in the set
  without_more : (k : X) (ks : List X) (t : List ℕ) → All (λ s. s ≢ t) (map bytes (insert_key text_cmp ks k)) → (bytes k ≢ t) × All (λ s. s ≢ t) (map bytes ks)
  without_more k [] t none = (All-head (λ (s : List ℕ). s ≢ t) (bytes k) [] none, All-nil (λ (s : List ℕ). s ≢ t))
  without_more k (x ∷ xs) t none = by (text_cmp k x) refl (without_more k xs t) none
    where
      other : List ℕ → Type 0
      other s = s ≢ t

      by : (r : Ordering) → text_cmp k x ≡ r → (All (λ s. s ≢ t) (map bytes (insert_key text_cmp xs k)) → (bytes k ≢ t) × All (λ s. s ≢ t) (map bytes xs))
          → All (λ s. s ≢ t) (map bytes (match_ordering r (k ∷ x ∷ xs) (x ∷ xs) (x ∷ insert_key text_cmp xs k)))
          → (bytes k ≢ t) × All (λ s. s ≢ t) (map bytes (x ∷ xs))
      by Less e later none = (All-head other (bytes k) (map bytes (x ∷ xs)) none, All-tail other (bytes k) (map bytes (x ∷ xs)) none)
      by Equal e later none = ((λ same. All-head other (bytes x) (map bytes xs) none (sym (same_bytes k x e) ∙ same)), none)
      by Greater e later none =
          let rest = later (All-tail other (bytes x) (map bytes (insert_key text_cmp xs k)) none) in
          (rest.0, All-cons other (bytes x) (map bytes xs) (All-head other (bytes x) (map bytes (insert_key text_cmp xs k)) none) rest.1)

  -- what holds of the bytes of each
  unmapped : (P : List ℕ → Type 0) (ks : List X) → All P (map bytes ks) → All (λ k. P (bytes k)) ks
  unmapped P [] each = All-nil (λ k. P (bytes k))
  unmapped P (x ∷ xs) each = All-cons (λ k. P (bytes k)) x xs (All-head P (bytes x) (map bytes xs) each) (unmapped P xs (All-tail P (bytes x) (map bytes xs) each))

  -- the set with one more has its text and those that it had
  pub bytes_added : (ks new : List X) (k : X) (t : List ℕ) → new ≡ insert_key text_cmp ks k → All (λ s. s ≢ t) (map bytes new) ↔ ((bytes k ≢ t) × All (λ s. s ≢ t) (map bytes ks))
  bytes_added ks new k t is =
      rw is (without_more k ks t, λ both. All-map (λ (s : List ℕ). s ≢ t) bytes (insert_key text_cmp ks k) (All-insert_key text_cmp k (λ x. bytes x ≢ t) ks (unmapped (λ s. s ≢ t) ks both.1) both.0))

  -- where words are functions of the bytes
  module _ (word_of : List ℕ → ℕ) where
    abbrev pub HasWord : X → Type 0
    HasWord x = word x ≡ word_of (bytes x)

    -- what has the same bytes compares as equal
    tied_bytes : (x y : X) → HasWord x → HasWord y → bytes x ≡ bytes y → text_cmp x y ≡ Equal
    tied_bytes x y one other same =
        let words : word x ≡ word y = one ∙ ap word_of same ∙ sym other in
        rw (words, same, tied_itself nat_cmp_total (word y)) (tied_itself nat_list_cmp_total (bytes y))

    -- a text is not found just where its bytes are new
    not_found : (k : X) (ks : List X) → HasWord k → All HasWord ks → (list_any (is_at (text_cmp k)) ks ≡ false) ↔ All (λ t. t ≢ bytes k) (map bytes ks)
    not_found k [] one each = (λ e. All-nil (λ t. t ≢ bytes k), λ none. refl)
    not_found k (x ∷ xs) one each = by (is_at (text_cmp k) x) refl (not_found k xs one (All-tail HasWord x xs each))
      where
        other : List ℕ → Type 0
        other t = t ≢ bytes k

        by : (b : Bool) → is_at (text_cmp k) x ≡ b → (list_any (is_at (text_cmp k)) xs ≡ false) ↔ All (λ t. t ≢ bytes k) (map bytes xs)
            → ((b || list_any (is_at (text_cmp k)) xs) ≡ false) ↔ All (λ t. t ≢ bytes k) (map bytes (x ∷ xs))
        by true e later = (λ no. absurd (true≢false no), λ none. absurd (All-head other (bytes x) (map bytes xs) none (sym (same_bytes k x ((Equal-is (text_cmp k x)).0 e)))))
        by false e later = (
          λ no. All-cons other (bytes x) (map bytes xs) (λ same. true≢false (sym (ap is_eq (tied_bytes k x one (All-head HasWord x xs each) (sym same))) ∙ e)) (later.0 no),
          λ none. later.1 (All-tail other (bytes x) (map bytes xs) none),
        )

    -- an answer that says that a text is not found says that its bytes are new
    pub is_new : (k : X) (ks : List X) (answer : Bool) → HasWord k → All HasWord ks → answer ≡ not (list_any (is_at (text_cmp k)) ks) → IsTrue answer ↔ All (λ t. t ≢ bytes k) (map bytes ks)
    is_new k ks answer one each e = by (list_any (is_at (text_cmp k)) ks) (not_found k ks one each) e
      where
        by : (b : Bool) → (b ≡ false) ↔ All (λ t. t ≢ bytes k) (map bytes ks) → answer ≡ not b → IsTrue answer ↔ All (λ t. t ≢ bytes k) (map bytes ks)
        by true is e = (λ yes. absurd (true≢false (sym yes ∙ e)), λ none. absurd (true≢false (is.1 none)))
        by false is e = (λ yes. is.0 refl, λ none. e)
