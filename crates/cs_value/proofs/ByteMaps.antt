-- The entries of a map whose keys are seen as lists of bytes, as a finite map from these.
use Rattle.std.proofs.Common.{◌≡◌, ℕ, List, [], ◌∷◌, Option, Some, None, true, false, cond, map, refl, sym, ap, ◌∙◌, Bool, IsTrue, is_some, true≢false, T, ◌&&◌}
use Rattle.std.specs.Option.{option_map}
use Rattle.std.specs.Ordering.{nat_cmp, match_ordering, is_eq}
use Rattle.std.specs.declared.cmp.Ordering.{Ordering}
use Rattle.std.specs.declared.cmp.Ordering.TheVariants.{Less, Equal, Greater}
use Rattle.std.specs.Cmp.{tied_itself, eq_by_cmp_equiv}
use Rattle.std.specs.Cmp.Lexicographic.{slice_cmp, nat_list_cmp_total}
use Rattle.std.specs.FinMap.{entries, entries_sorted, get-entries, is_sorted, find, put, insert, get, from_entries, get-from_entries, get-insert, get-remove, remove, same_map, slice_cmp-IsAntisymmetric, nat_cmp-IsAntisymmetric}
use Rattle.std.specs.FinMap.Entries.{find-put, by_order, below_all, same_entries}
use Rattle.std.specs.List.{AllByRecursion}
use Rattle.std.specs.List.Sorted.{IsStrictlySortedBy}
use Rattle.std.proofs.lemmas.Map.Keys.{sorted_head, sorted_tail}
use Rattle.std.specs.Map.{lookup, set_value, keys_of}
use Rattle.std.specs.BTreeMap.{is_at, insert_entry}
use Rattle.cs_value.specs.Maps.{ByBytes}

-- two maps from lists of bytes that answer alike are one
pub same_maps : {X : Type 0} (m n : ByBytes X) → ((q : List ℕ) → get m q ≡ get n q) → m ≡ n
same_maps = same_map nat_list_cmp_total (slice_cmp-IsAntisymmetric nat_cmp-IsAntisymmetric)

-- keys that compare as equal are one
pub tied_bytes : (q k : List ℕ) → is_eq (slice_cmp nat_cmp q k) ≡ true → q ≡ k
tied_bytes q k is = tied (slice_cmp nat_cmp q k) refl is
  where
    tied : (r : Ordering) → slice_cmp nat_cmp q k ≡ r → is_eq r ≡ true → q ≡ k
    tied Less e is = absurd (true≢false (sym is))
    tied Equal e is = slice_cmp-IsAntisymmetric nat_cmp-IsAntisymmetric q k e
    tied Greater e is = absurd (true≢false (sym is))

pub self_tied : (q : List ℕ) → is_eq (slice_cmp nat_cmp q q) ≡ true
self_tied q = ap is_eq (tied_itself nat_list_cmp_total q)

-- the inner branch of a repeated test is never reached
repeated : {A : Type 0} (b : Bool) (x y z : A) → cond b x z ≡ cond b x (cond b y z)
repeated true x y z = refl
repeated false x y z = refl

-- tests that do not both hold may come in either order
either_order : {A : Type 0} (a b : Bool) (x y z : A) → (a ≡ true → b ≡ true → ⊥) → cond b y (cond a x z) ≡ cond a x (cond b y z)
either_order true true x y z apart = absurd (apart refl refl)
either_order true false x y z apart = refl
either_order false b x y z apart = refl

both_hold : (a b : Bool) → T a → T b → T (a && b)
both_hold true b p q = q
both_hold false b p q = absurd p

module _ {K V X : Type 0} (key_of : K → List ℕ) (value_of : V → X) where
  -- an entry as contracts see it
  abbrev pub seen : K × V → List ℕ × X
  seen e = (key_of e.0, value_of e.1)

  -- the order of the keys
  abbrev pub key_cmp : K → K → Ordering
  key_cmp x y = slice_cmp nat_cmp (key_of x) (key_of y)

  -- whether a key is the one that is looked for
  abbrev pub is_key : List ℕ → K → Ordering
  is_key q k = slice_cmp nat_cmp q (key_of k)

  -- the map that the entries are seen as
  abbrev pub seen_map : List (K × V) → ByBytes X
  seen_map es = from_entries (map seen es)

  -- a look-up in the seen entries sees what the look-up found
  pub find_seen : (es : List (K × V)) (q : List ℕ) → option_map value_of (lookup (is_at (is_key q)) es) ≡ find (slice_cmp nat_cmp) q (map seen es)
  find_seen [] q = refl
  find_seen (e ∷ es) q =
      elim (is_eq (slice_cmp nat_cmp q (key_of e.0))) as (λ b. option_map value_of (cond b (Some e.1) (lookup (is_at (is_key q)) es)) ≡ cond b (Some (value_of e.1)) (find (slice_cmp nat_cmp) q (map seen es))) [
        | true ↦ refl
        | false ↦ find_seen es q
      ]

  -- what the map of the seen entries has at a key
  pub get_seen : (es : List (K × V)) (q : List ℕ) → option_map value_of (lookup (is_at (is_key q)) es) ≡ get (seen_map es) q
  get_seen es q = find_seen es q ∙ sym (get-from_entries nat_list_cmp_total (map seen es) q)

  -- what a look-up found is what the map has
  pub got_seen : (found : Option V) (es : List (K × V)) (q : List ℕ) (m : ByBytes X)
      → found ≡ lookup (is_at (is_key q)) es → seen_map es ≡ m → option_map value_of found ≡ get m q
  got_seen found es q m e is = ap (option_map value_of) e ∙ get_seen es q ∙ ap (λ n. get n q) is

  -- an entry is put among the seen entries as among the entries
  pub seen_put : (es : List (K × V)) (k : K) (v : V) → map seen (insert_entry key_cmp es k v) ≡ put (slice_cmp nat_cmp) (key_of k) (value_of v) (map seen es)
  seen_put [] k v = refl
  seen_put (e ∷ es) k v =
      elim (slice_cmp nat_cmp (key_of k) (key_of e.0)) as (λ r. map seen (match_ordering r ((k, v) ∷ e ∷ es) ((e.0, v) ∷ es) (e ∷ insert_entry key_cmp es k v)) ≡ by_order r ((key_of k, value_of v) ∷ seen e ∷ map seen es) ((key_of e.0, value_of v) ∷ map seen es) (seen e ∷ put (slice_cmp nat_cmp) (key_of k) (value_of v) (map seen es))) [
        | Less ↦ refl
        | Equal ↦ refl
        | Greater ↦ ap (λ l. seen e ∷ l) (seen_put es k v)
      ]

  -- the map of the entries with one more is the map with one more
  pub seen_insert : (es fs : List (K × V)) (k : K) (v : V) → fs ≡ insert_entry key_cmp es k v → seen_map fs ≡ insert (seen_map es) (key_of k) (value_of v)
  seen_insert es fs k v e =
      same_maps _ _ (λ q.
      get-from_entries nat_list_cmp_total (map seen fs) q
      ∙ ap (λ l. find (slice_cmp nat_cmp) q l) (ap (λ (l : List (K × V)). map seen l) e ∙ seen_put es k v)
      ∙ find-put (slice_cmp nat_cmp) nat_list_cmp_total q (key_of k) (value_of v) (map seen es)
      ∙ ap (λ o. cond (is_eq (slice_cmp nat_cmp q (key_of k))) (Some (value_of v)) o) (sym (get-from_entries nat_list_cmp_total (map seen es) q))
      ∙ sym (get-insert nat_list_cmp_total (seen_map es) (key_of k) (value_of v) q))

  -- what is found once a value is set at a key that is there
  find_set : (es : List (K × V)) (q r : List ℕ) (w : V) → IsTrue (is_some (lookup (is_at (is_key q)) es))
      → find (slice_cmp nat_cmp) r (map seen (set_value (is_at (is_key q)) es w)) ≡ cond (is_eq (slice_cmp nat_cmp r q)) (Some (value_of w)) (find (slice_cmp nat_cmp) r (map seen es))
  find_set [] q r w h = absurd (true≢false (sym h))
  find_set (e ∷ es) q r w h = at (is_eq (slice_cmp nat_cmp q (key_of e.0))) refl (find_set es q r w) h
    where
      at : (b : Bool) → is_eq (slice_cmp nat_cmp q (key_of e.0)) ≡ b
          → (IsTrue (is_some (lookup (is_at (is_key q)) es)) → find (slice_cmp nat_cmp) r (map seen (set_value (is_at (is_key q)) es w)) ≡ cond (is_eq (slice_cmp nat_cmp r q)) (Some (value_of w)) (find (slice_cmp nat_cmp) r (map seen es)))
          → IsTrue (is_some (cond b (Some e.1) (lookup (is_at (is_key q)) es)))
          → find (slice_cmp nat_cmp) r (map seen (cond b ((e.0, w) ∷ es) (e ∷ set_value (is_at (is_key q)) es w)))
          ≡ cond (is_eq (slice_cmp nat_cmp r q)) (Some (value_of w)) (cond (is_eq (slice_cmp nat_cmp r (key_of e.0))) (Some (value_of e.1)) (find (slice_cmp nat_cmp) r (map seen es)))
      at true is later h =
          let same = tied_bytes q (key_of e.0) is in
          rw same (repeated (is_eq (slice_cmp nat_cmp r (key_of e.0))) (Some (value_of w)) (Some (value_of e.1)) (find (slice_cmp nat_cmp) r (map seen es)))
      at false is later h =
          ap (cond (is_eq (slice_cmp nat_cmp r (key_of e.0))) (Some (value_of e.1))) (later h)
          ∙ either_order (is_eq (slice_cmp nat_cmp r q)) (is_eq (slice_cmp nat_cmp r (key_of e.0))) _ _ _ (λ one other.
          let same : q ≡ key_of e.0 = sym (tied_bytes r q one) ∙ tied_bytes r (key_of e.0) other in
          true≢false (sym (self_tied q) ∙ ap (λ k. is_eq (slice_cmp nat_cmp q k)) same ∙ is))

  -- the map of the entries with a value set at a key that is there
  pub seen_set : (es fs : List (K × V)) (q : List ℕ) (w : V) → IsTrue (is_some (lookup (is_at (is_key q)) es)) → fs ≡ set_value (is_at (is_key q)) es w → seen_map fs ≡ insert (seen_map es) q (value_of w)
  seen_set es fs q w there e =
      same_maps _ _ (λ r.
      get-from_entries nat_list_cmp_total (map seen fs) r
      ∙ ap (λ l. find (slice_cmp nat_cmp) r (map seen l)) e
      ∙ find_set es q r w there
      ∙ ap (cond (is_eq (slice_cmp nat_cmp r q)) (Some (value_of w))) (sym (get-from_entries nat_list_cmp_total (map seen es) r))
      ∙ sym (get-insert nat_list_cmp_total (seen_map es) q (value_of w) r))

  -- the map of the entries without a key is the map without it
  pub seen_remove : (es fs : List (K × V)) (k : List ℕ)
      → ((q : List ℕ) → lookup (is_at (is_key q)) fs ≡ cond (is_eq (slice_cmp nat_cmp k q)) None (lookup (is_at (is_key q)) es)) → seen_map fs ≡ remove (seen_map es) k
  seen_remove es fs k same =
      same_maps _ _ (λ q.
      sym (get_seen fs q)
      ∙ ap (option_map value_of) (same q)
      ∙ in_branches (is_eq (slice_cmp nat_cmp k q)) (lookup (is_at (is_key q)) es)
      ∙ ap (λ b. cond b None (option_map value_of (lookup (is_at (is_key q)) es))) ((eq_by_cmp_equiv nat_list_cmp_total).symm k q)
      ∙ ap (cond (is_eq (slice_cmp nat_cmp q k)) None) (get_seen es q)
      ∙ sym (get-remove nat_list_cmp_total (seen_map es) k q))
    where
      in_branches : (b : Bool) (o : Option V) → option_map value_of (cond b None o) ≡ cond b None (option_map value_of o)
      in_branches true o = refl
      in_branches false o = refl

  -- keys that rise strictly are in the map's order
  seen_below : (k : K) (es : List (K × V)) → AllByRecursion (λ y. key_cmp k y ≡ Less) (keys_of es) → T (below_all (slice_cmp nat_cmp) (key_of k) (map seen es))
  seen_below k [] below = tt
  seen_below k (e ∷ es) below = let rest = seen_below k es below.1 in rw below.0 rest

  seen_sorted : (es : List (K × V)) → IsStrictlySortedBy key_cmp (keys_of es) → T (is_sorted (slice_cmp nat_cmp) (map seen es))
  seen_sorted [] rising = tt
  seen_sorted (e ∷ es) rising =
      both_hold _ _ (seen_below e.0 es (sorted_head key_cmp e.0 (keys_of es) rising)) (seen_sorted es (sorted_tail key_cmp e.0 (keys_of es) rising))

  -- and the map's entries are those that are seen
  pub seen_entries : (es : List (K × V)) → IsStrictlySortedBy key_cmp (keys_of es) → entries (seen_map es) ≡ map seen es
  seen_entries es rising =
      same_entries (slice_cmp nat_cmp) nat_list_cmp_total (slice_cmp-IsAntisymmetric nat_cmp-IsAntisymmetric) (entries (seen_map es)) (map seen es) (entries_sorted (seen_map es)) (seen_sorted es rising) (λ q.
      sym (get-entries (seen_map es) q) ∙ get-from_entries nat_list_cmp_total (map seen es) q)
