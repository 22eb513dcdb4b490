-- The entries of a map whose keys pass a test, as entries are put and removed.
use Rattle.std.proofs.Common.{◌≡◌, ℕ, Bool, true, false, cond, ◌&&◌, List, [], ◌∷◌, Option, Some, None, T, refl, sym, ap, subst, ◌∙◌}
use Rattle.std.specs.Prelude.{filter}
use Rattle.std.specs.declared.cmp.Ordering.{Ordering}
use Rattle.std.specs.declared.cmp.Ordering.TheVariants.{Less, Equal, Greater}
use Rattle.std.specs.Ordering.{nat_cmp, is_eq, is_lt}
use Rattle.std.specs.Cmp.Lexicographic.{slice_cmp, nat_list_cmp_total}
use Rattle.std.specs.FinMap.{entries, entries_sorted, get, get-entries, insert, entries-insert, remove, get-insert, get-remove, from_sorted, entries-from_sorted, get-from_sorted}
use Rattle.std.specs.FinMap.Entries.{find, put, is_sorted, is_sorted-where_key, find-where_key, below_all}
use Rattle.std.proofs.lemmas.Option.{none-some}
use Rattle.cs_value.specs.Maps.{ByBytes}
use Rattle.cs_value.proofs.ByteMaps.{same_maps, self_tied, tied_bytes}

abbrev order : List ℕ → List ℕ → Ordering
order = slice_cmp nat_cmp

pub left_of : (a b : Bool) → T (a && b) → T a
left_of true b h = tt
left_of false b h = absurd h

pub right_of : (a b : Bool) → T (a && b) → T b
right_of true b h = h
right_of false b h = absurd h

none_either : {X : Type 0} (b : Bool) → cond {A = Option X} b None None ≡ None
none_either true = refl
none_either false = refl

module _ {X : Type 0} where
  -- the key is before the first one
  abbrev pub IsBefore : List ℕ → List (List ℕ × X) → Type 0
  IsBefore k [] = Unit {0}
  IsBefore k (e ∷ es) = order k e.0 ≡ Less

  put_first : (k : List ℕ) (v : X) (es : List (List ℕ × X)) → IsBefore k es → put order k v es ≡ (k, v) ∷ es
  put_first k v [] front = refl
  put_first k v (e ∷ es) front = rw front refl

  -- a key that is before all is not found
  find_below : (q : List ℕ) (es : List (List ℕ × X)) → T (below_all order q es) → find order q es ≡ None
  find_below q [] h = refl
  find_below q (e ∷ es) h = at (order q e.0) refl (find_below q es) h
    where
      at : (o : Ordering) → order q e.0 ≡ o → (T (below_all order q es) → find order q es ≡ None) → T (is_lt o && below_all order q es) → find order q (e ∷ es) ≡ None
      at Less is rest h = rw is (rest h)
      at Equal is rest h = absurd h
      at Greater is rest h = absurd h

module _ {X : Type 0} (p : List ℕ → Bool) where
  -- the entries whose keys pass
  abbrev pub passing : ByBytes X → List (List ℕ × X)
  passing m = filter (λ e. p e.0) (entries m)

  pub sorted : (m : ByBytes X) → T (is_sorted order (passing m))
  sorted m = is_sorted-where_key order p (entries m) (entries_sorted m)

  -- they are those of a map
  abbrev part : ByBytes X → ByBytes X
  part m = from_sorted (passing m)

  part_entries : (m : ByBytes X) → entries (part m) ≡ passing m
  part_entries m = entries-from_sorted order (passing m) (sorted m)

  part_get : (m : ByBytes X) (q : List ℕ) → get (part m) q ≡ cond (p q) (get m q) None
  part_get m q =
      get-from_sorted order (passing m) q (sorted m)
      ∙ find-where_key order p q (λ x tied. ap p (sym (tied_bytes q x (ap is_eq tied)))) (entries m)
      ∙ ap (λ (o : Option X). cond (p q) o None) (sym (get-entries m q))

  -- ---- a key that fails

  same_part : (m n : ByBytes X) → ((q : List ℕ) → cond (p q) (get m q) None ≡ cond (p q) (get n q) None) → passing m ≡ passing n
  same_part m n same = sym (part_entries m) ∙ ap entries (same_maps (part m) (part n) (λ q. part_get m q ∙ same q ∙ sym (part_get n q))) ∙ part_entries n

  pub removed_other : (m : ByBytes X) (k : List ℕ) → p k ≡ false → passing (remove m k) ≡ passing m
  removed_other m k fails = same_part (remove m k) m (λ q. ap (λ (o : Option X). cond (p q) o None) (get-remove nat_list_cmp_total m k q) ∙ at q (is_eq (order q k)) refl)
    where
      at : (q : List ℕ) (b : Bool) → is_eq (order q k) ≡ b → cond (p q) (cond b None (get m q)) None ≡ cond (p q) (get m q) None
      at q true is = let here : p q ≡ false = ap p (tied_bytes q k is) ∙ fails in rw here refl
      at q false is = refl

  pub inserted_other : (m : ByBytes X) (k : List ℕ) (v : X) → p k ≡ false → passing (insert m k v) ≡ passing m
  inserted_other m k v fails = same_part (insert m k v) m (λ q. ap (λ (o : Option X). cond (p q) o None) (get-insert nat_list_cmp_total m k v q) ∙ at q (is_eq (order q k)) refl)
    where
      at : (q : List ℕ) (b : Bool) → is_eq (order q k) ≡ b → cond (p q) (cond b (Some v) (get m q)) None ≡ cond (p q) (get m q) None
      at q true is = let here : p q ≡ false = ap p (tied_bytes q k is) ∙ fails in rw here refl
      at q false is = refl

  -- ---- one that passes, before the others

  pub inserted_first : (m : ByBytes X) (k : List ℕ) (v : X) → p k ≡ true → IsBefore k (passing m) → passing (insert m k v) ≡ (k, v) ∷ passing m
  inserted_first m k v passes front =
      let parts : part (insert m k v) ≡ insert (part m) k v = same_maps (part (insert m k v)) (insert (part m) k v) (λ q.
      part_get (insert m k v) q
      ∙ ap (λ (o : Option X). cond (p q) o None) (get-insert nat_list_cmp_total m k v q)
      ∙ at q (is_eq (order q k)) refl
      ∙ ap (λ (o : Option X). cond (is_eq (order q k)) (Some v) o) (sym (part_get m q))
      ∙ sym (get-insert nat_list_cmp_total (part m) k v q)) in
      sym (part_entries (insert m k v)) ∙ ap entries parts ∙ entries-insert nat_list_cmp_total (part m) k v ∙ ap (put order k v) (part_entries m) ∙ put_first k v (passing m) front
    where
      at : (q : List ℕ) (b : Bool) → is_eq (order q k) ≡ b → cond (p q) (cond b (Some v) (get m q)) None ≡ cond b (Some v) (cond (p q) (get m q) None)
      at q true is = let here : p q ≡ true = ap p (tied_bytes q k is) ∙ passes in rw here refl
      at q false is = refl

  pub removed_first : (m : ByBytes X) (k : List ℕ) (v : X) (rest : List (List ℕ × X)) → passing m ≡ (k, v) ∷ rest → passing (remove m k) ≡ rest
  removed_first m k v rest first =
      let rising : T (below_all order k rest && is_sorted order rest) = subst (λ (es : List (List ℕ × X)). T (is_sorted order es)) first (sorted m) in
      let tail : T (is_sorted order rest) = right_of (below_all order k rest) (is_sorted order rest) rising in
      let gone : part (remove m k) ≡ from_sorted rest = same_maps (part (remove m k)) (from_sorted rest) (λ q.
      part_get (remove m k) q
      ∙ ap (λ (o : Option X). cond (p q) o None) (get-remove nat_list_cmp_total m k q)
      ∙ at (left_of (below_all order k rest) (is_sorted order rest) rising) q (is_eq (order q k)) refl
      ∙ sym (get-from_sorted order rest q tail)) in
      sym (part_entries (remove m k)) ∙ ap entries gone ∙ entries-from_sorted order rest tail
    where
      found : (q : List ℕ) → cond (p q) (get m q) None ≡ find order q ((k, v) ∷ rest)
      found q = sym (part_get m q) ∙ get-entries (part m) q ∙ ap (find order q) (part_entries m ∙ first)

      at : T (below_all order k rest) → (q : List ℕ) (b : Bool) → is_eq (order q k) ≡ b → cond (p q) (cond b None (get m q)) None ≡ find order q rest
      at below q true is = none_either (p q) ∙ sym (ap (λ k. find order k rest) (tied_bytes q k is) ∙ find_below k rest below)
      at below q false is = found q ∙ ap (λ (b : Bool). cond b (Some v) (find order q rest)) is

  -- ---- the first of those that pass

  pub first_there : (m : ByBytes X) (k : List ℕ) (v : X) (rest : List (List ℕ × X)) → passing m ≡ (k, v) ∷ rest → (get m k ≡ Some v) × (p k ≡ true)
  first_there m k v rest first = at (p k) refl
    where
      found : cond (p k) (get m k) None ≡ Some v
      found = sym (part_get m k) ∙ get-entries (part m) k ∙ ap (find order k) (part_entries m ∙ first) ∙ ap (λ (b : Bool). cond b (Some v) (find order k rest)) (self_tied k)

      at : (b : Bool) → p k ≡ b → (get m k ≡ Some v) × (p k ≡ true)
      at true is = (ap (λ (b : Bool). cond b (get m k) None) (sym is) ∙ found, is)
      at false is = absurd (none-some v (ap (λ (b : Bool). cond b (get m k) None) (sym is) ∙ found))

  -- ---- a map of those that pass

  -- each of its entries is one of the other map
  pub kept_row : (m n : ByBytes X) → entries n ≡ passing m → (k : List ℕ) (v : X) → get n k ≡ Some v → get m k ≡ Some v
  kept_row m n same k v there = at (p k) refl
    where
      found : cond (p k) (get m k) None ≡ Some v
      found = sym (part_get m k) ∙ get-entries (part m) k ∙ ap (find order k) (part_entries m ∙ sym same) ∙ sym (get-entries n k) ∙ there

      at : (b : Bool) → p k ≡ b → get m k ≡ Some v
      at true is = ap (λ (b : Bool). cond b (get m k) None) (sym is) ∙ found
      at false is = absurd (none-some v (ap (λ (b : Bool). cond b (get m k) None) (sym is) ∙ found))
