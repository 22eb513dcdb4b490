-- A hash map from texts, as the map from the bytes of each.
use Rattle.std.proofs.Common.{◌≡◌, ℕ, nat_eq, Bool, true, false, true≢false, cond, if◌then◌else◌, List, [], ◌∷◌, map, Option, Some, refl, sym, ap, ◌∙◌}
use Rattle.std.specs.Ordering.{nat_cmp, eq_by_cmp}
use Rattle.std.specs.Cmp.Lexicographic.{pointwise, same_text, slice_cmp, nat_list_cmp_total, nat_list_eq_equiv, texts_ties}
use Rattle.std.specs.FinMap.{find, from_entries, get, insert, get-from_entries, get-insert, same_map, slice_cmp-IsAntisymmetric, nat_cmp-IsAntisymmetric}
use Rattle.std.specs.Map.{lookup}
use Rattle.indexmap.specs.IndexMap.{insert_entry}
use Rattle.cs_value.specs.Maps.{ByBytes}

abbrev tied : List ℕ → List ℕ → Bool
tied s t = eq_by_cmp (slice_cmp nat_cmp) s t

tied_is : (s t : List ℕ) (b : Bool) → b ≡ tied s t → b ≡ pointwise nat_eq s t
tied_is s t b e = e ∙ sym (texts_ties s t)

module _ {K : Type 0} (bytes_of : K → List ℕ) where
  abbrev pub pairs : List (K × ℕ) → List (List ℕ × ℕ)
  pairs es = map (λ e. (bytes_of e.0, e.1)) es

  abbrev pub as_map : List (K × ℕ) → ByBytes ℕ
  as_map es = from_entries (pairs es)

  find_looked_up : (q : List ℕ) (es : List (K × ℕ)) → lookup (λ k. pointwise nat_eq q (bytes_of k)) es ≡ find (slice_cmp nat_cmp) q (pairs es)
  find_looked_up q [] = refl
  find_looked_up q (e ∷ es) = rw (texts_ties q (bytes_of e.0), find_looked_up q es) refl

  -- what is looked up is what the map has
  pub looked_up : (q : List ℕ) (es : List (K × ℕ)) → lookup (λ k. pointwise nat_eq q (bytes_of k)) es ≡ get (as_map es) q
  looked_up q es = find_looked_up q es ∙ sym (get-from_entries nat_list_cmp_total (pairs es) q)

  module _ (k : K) (v : ℕ) where
    abbrev inserted : List (K × ℕ) → List (K × ℕ)
    inserted es = insert_entry (λ x y. pointwise nat_eq (bytes_of x) (bytes_of y)) es k v

    abbrev found : List ℕ → List (K × ℕ) → Option ℕ
    found q es = find (slice_cmp nat_cmp) q (pairs es)

    twice : (b : Bool) (w : ℕ) (o : Option ℕ) → cond b (Some v) o ≡ cond b (Some v) (cond b (Some w) o)
    twice true w o = refl
    twice false w o = refl

    -- at a text that two keys have
    both : (q s t : List ℕ) → pointwise nat_eq s t ≡ false → true ≡ tied q t → true ≡ tied q s → ⊥
    both q s t apart at here =
        let first : q ≡ t = same_text q t (tied_is q t true at) in
        let second : q ≡ s = same_text q s (tied_is q s true here) in
        let same : pointwise nat_eq s t ≡ true = rw (sym second ∙ first) (nat_list_eq_equiv.refl t) in
        true≢false (sym same ∙ apart)

    crossed : (q s t : List ℕ) (b c : Bool) (w : ℕ) (o : Option ℕ) → pointwise nat_eq s t ≡ false → b ≡ tied q t → c ≡ tied q s → cond b (Some w) (cond c (Some v) o) ≡ cond c (Some v) (cond b (Some w) o)
    crossed q s t true true w o apart at here = absurd (both q s t apart at here)
    crossed q s t true false w o apart at here = refl
    crossed q s t false true w o apart at here = refl
    crossed q s t false false w o apart at here = refl

    find_inserted : (q : List ℕ) (es : List (K × ℕ)) → found q (inserted es) ≡ cond (tied q (bytes_of k)) (Some v) (found q es)
    find_inserted q [] = refl
    find_inserted q (e ∷ es) = by (pointwise nat_eq (bytes_of k) (bytes_of e.0)) refl (find_inserted q es)
      where
        by : (b : Bool) → pointwise nat_eq (bytes_of k) (bytes_of e.0) ≡ b → found q (inserted es) ≡ cond (tied q (bytes_of k)) (Some v) (found q es)
            → found q (if b then (e.0, v) ∷ es else e ∷ inserted es) ≡ cond (tied q (bytes_of k)) (Some v) (found q (e ∷ es))
        by true is others = rw (same_text (bytes_of k) (bytes_of e.0) (sym is)) (twice (tied q (bytes_of e.0)) e.1 (found q es))
        by false is others =
            ap (cond (tied q (bytes_of e.0)) (Some e.1)) others ∙ crossed q (bytes_of k) (bytes_of e.0) (tied q (bytes_of e.0)) (tied q (bytes_of k)) e.1 (found q es) is refl refl

    -- what is inserted is in the map
    pub is_inserted : (es : List (K × ℕ)) → as_map (insert_entry (λ x y. pointwise nat_eq (bytes_of x) (bytes_of y)) es k v) ≡ insert (as_map es) (bytes_of k) v
    is_inserted es =
        same_map nat_list_cmp_total (slice_cmp-IsAntisymmetric nat_cmp-IsAntisymmetric) (as_map (inserted es)) (insert (as_map es) (bytes_of k) v) (λ q.
        get-from_entries nat_list_cmp_total (pairs (inserted es)) q ∙ find_inserted q es
        ∙ sym (get-insert nat_list_cmp_total (as_map es) (bytes_of k) v q ∙ ap (cond (tied q (bytes_of k)) (Some v)) (get-from_entries nat_list_cmp_total (pairs es) q)))
