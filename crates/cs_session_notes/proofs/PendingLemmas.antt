-- Tables of a session that have nothing pending, but for those at some indices.
use Rattle.std.proofs.Common.{◌≡◌, ◌≢◌, ◌<◌, ◌+◌, ℕ, suc, List, [], ◌∷◌, ◌++◌, length, get_or, set, drop, map, refl, sym, ap, ◌∙◌, subst, ⊎_elim, arith}
use Rattle.std.specs.List.{AllByRecursion}
use Rattle.std.proofs.lemmas.Bool.{cases_eq}
use Rattle.std.proofs.lemmas.List.{append-nil, length-append, length-set, get_or-set_same, get_or-set_other, get_or_append_left, get_or_push, drop_more}
use Rattle.std.proofs.Math.Seq.{map-set_same}
use Rattle.cs_value.proofs.ListLemmas.{AllByRecursion-at, AllByRecursion-weaker}
use Rattle.cs_session_notes.specs.declared.attached.Attached.{Attached}
use Rattle.cs_session_notes.specs.FirstImages.{AttachedTable, NotedImages}
use Rattle.cs_session_notes.specs.Views.{attached_of, kept_of, name_in, HasNonePending, HaveNonePendingBut, IsOpen}

-- every table has an index
all_settled : (tables : List Attached) → ((i : ℕ) (t : Attached) → i < length tables → t ≡ get_or tables i t → HasNonePending t) → AllByRecursion HasNonePending tables
all_settled [] each = tt
all_settled (t ∷ tables) each = (each 0 t (omega arith) refl, all_settled tables (λ i u lt is. each (suc i) u (omega arith) is))

-- where there is none of these indices, all have nothing pending
pub settled_all : (indices : List ℕ) (tables : List Attached) → indices ≡ [] → HaveNonePendingBut indices tables → AllByRecursion HasNonePending tables
settled_all indices tables none but = all_settled tables (λ i t. but.1 i t (rw none tt))

-- all have nothing pending, whatever the indices
pub settled_but : (tables : List Attached) → AllByRecursion HasNonePending tables → HaveNonePendingBut [] tables
settled_but tables each = (tt, λ i t apart lt is. AllByRecursion-at HasNonePending tables i t lt is each)

module _ (tables : List Attached) (p : ℕ) (new : Attached) where
  within_set : (indices : List ℕ) → AllByRecursion (λ q. q < length tables) indices → AllByRecursion (λ q. q < length (set tables p new)) indices
  within_set indices each = rw (length-set tables p new) each

  -- another table than that at the index stays where it was
  other_stands : (i : ℕ) (t : Attached) → p ≢ i → t ≡ get_or (set tables p new) i t → t ≡ get_or tables i t
  other_stands i t apart is = is ∙ get_or-set_other tables p i new t (λ (e : i ≡ p). apart (sym e))

  -- the table at the first index has nothing pending
  pub settled_then : (indices rest : List ℕ) → indices ≡ p ∷ rest → HaveNonePendingBut indices tables → HasNonePending new → HaveNonePendingBut rest (set tables p new)
  settled_then indices rest is but none_pending = (within_set rest (rw is at but.0).1, each)
    where
      each : (i : ℕ) (t : Attached) → AllByRecursion (λ q. q ≢ i) rest → i < length (set tables p new) → t ≡ get_or (set tables p new) i t → HasNonePending t
      each i t apart lt at_i = ⊎_elim same other (cases_eq p i)
        where
          short : i < length tables
          short = rw (← length-set tables p new) lt

          same : p ≡ i → HasNonePending t
          same e = subst HasNonePending (sym (at_i ∙ ap (λ (n : ℕ). get_or (set tables p new) n t) (sym e) ∙ get_or-set_same tables p new t (rw e short))) none_pending

          other : p ≢ i → HasNonePending t
          other ne = but.1 i t (rw is (ne, apart)) short (other_stands i t ne at_i)

  -- the table at one of the indices may be any
  pub open_stands : (indices : List ℕ) → IsOpen indices p → HaveNonePendingBut indices tables → HaveNonePendingBut indices (set tables p new)
  open_stands indices is_open but = (within_set indices but.0, each)
    where
      each : (i : ℕ) (t : Attached) → AllByRecursion (λ q. q ≢ i) indices → i < length (set tables p new) → t ≡ get_or (set tables p new) i t → HasNonePending t
      each i t apart lt at_i = ⊎_elim same other (cases_eq p i)
        where
          same : p ≡ i → HasNonePending t
          same e = absurd (is_open (rw e apart))

          other : p ≢ i → HasNonePending t
          other ne = but.1 i t apart (rw (← length-set tables p new) lt) (other_stands i t ne at_i)

-- a table without pending notes, after the others
pub settled_push : (indices : List ℕ) (tables : List Attached) (new : Attached) → HasNonePending new → HaveNonePendingBut indices tables → HaveNonePendingBut indices (tables ++ new ∷ [])
settled_push indices tables new none_pending but = (AllByRecursion-weaker (λ q. q < length tables) (λ q. q < length (tables ++ new ∷ [])) within indices but.0, each)
  where
    within : (q : ℕ) → q < length tables → q < length (tables ++ new ∷ [])
    within q lt = omega (arith, length-append tables (new ∷ []), lt)

    each : (i : ℕ) (t : Attached) → AllByRecursion (λ q. q ≢ i) indices → i < length (tables ++ new ∷ []) → t ≡ get_or (tables ++ new ∷ []) i t → HasNonePending t
    each i t apart lt at_i = ⊎_elim last before (cases_eq i (length tables))
      where
        last : i ≡ length tables → HasNonePending t
        last e = subst HasNonePending (sym (at_i ∙ get_or_push tables new t i (sym e))) none_pending

        before : i ≢ length tables → HasNonePending t
        before ne = let short : i < length tables = omega (arith, length-append tables (new ∷ []), lt, ne) in but.1 i t apart short (at_i ∙ get_or_append_left tables (new ∷ []) t i short)

-- ---- what a table means where what is noted of it is kept, or cut back

module _ (t : Attached) (firsts : NotedImages) where
  pub attached_stays : firsts ≡ record { kept = t.firsts.kept ++ t.firsts.pending; pending = [] } → attached_of (record t { firsts = firsts }) ≡ attached_of t
  attached_stays is = rw is let same = append-nil (t.firsts.kept ++ t.firsts.pending) in cc (same)

  pub kept_stays : firsts ≡ record { kept = t.firsts.kept; pending = [] } → kept_of (record t { firsts = firsts }) ≡ kept_of t
  kept_stays is = rw is refl

-- so the tables at the indices that are left, one after another
module _ {Y : Type 0} (f : Attached → Y) (first : List Y) (tables : List Attached) (indices : List ℕ) (k : ℕ) (within : k < length indices) (old : Attached) where
  abbrev index : ℕ
  index = get_or indices k 0

  pub one_settled : (new : Attached) → f new ≡ f (get_or tables index old) → HasNonePending new → (map f tables ≡ first) × HaveNonePendingBut (drop k indices) tables
      → (map f (set tables index new) ≡ first) × HaveNonePendingBut (drop (k + 1) indices) (set tables index new)
  one_settled new same none_pending so =
      (map-set_same f tables index new old same ∙ so.0, settled_then tables index new (drop k indices) (drop (k + 1) indices) (drop_more indices k 0 within) so.1 none_pending)

-- what stays has its names
attached_have : (ts : List Attached) → map name_in ts ≡ map (λ (t : AttachedTable). t.name) (map attached_of ts)
attached_have [] = refl
attached_have (t ∷ ts) = let others = attached_have ts in cc (others)

kept_have : (ts : List Attached) → map name_in ts ≡ map (λ (t : AttachedTable). t.name) (map kept_of ts)
kept_have [] = refl
kept_have (t ∷ ts) = let others = kept_have ts in cc (others)

pub attached_names : (tables new : List Attached) → map attached_of new ≡ map attached_of tables → map name_in tables ≡ map name_in new
attached_names tables new same = attached_have tables ∙ sym (ap (map (λ (t : AttachedTable). t.name)) same) ∙ sym (attached_have new)

pub kept_names : (tables new : List Attached) → map attached_of new ≡ map kept_of tables → map name_in tables ≡ map name_in new
kept_names tables new same = kept_have tables ∙ sym (ap (map (λ (t : AttachedTable). t.name)) same) ∙ sym (attached_have new)
