-- First images, and the rows that they restore.
use Rattle.std.proofs.Common.{bytes_eq, ◌≡◌, ℕ, Bool, true, false, cond, List, [], ◌∷◌, ◌++◌, Option, Some, None, option_map, ◌⊎◌, inl, inr, refl, sym, ap, ◌∙◌}
use Rattle.std.specs.Prelude.{unwrap_or, is_some}
use Rattle.std.specs.List.{AllByRecursion}
use Rattle.std.specs.Ordering.{nat_cmp, is_eq}
use Rattle.std.specs.Cmp.Lexicographic.{slice_cmp, nat_list_cmp_total, same_text, other_text}
use Rattle.std.specs.FinMap.{get, insert, remove, get-insert, get-remove}
use Rattle.std.proofs.lemmas.List.Elements.{recursion_from_All, All-from_recursion}
use Rattle.std.proofs.lemmas.Option.{none-some}
use Rattle.cs_value.specs.declared.value.OwnedValue.{OwnedValue}
use Rattle.cs_value.specs.State.{RowMap, State, WrittenData, row_at, rows_at}
use Rattle.cs_value.proofs.ByteMaps.{same_maps, tied_bytes, self_tied}
use Rattle.cs_apply_conflict_kinds.specs.Laws.{TellsFormer}
use Rattle.cs_session_notes.specs.FirstImages.{FirstImage, AttachedTable, Notes, first_at, put_all_back, rewound_rows, rewound, noted, writes_of, recorded}

-- ---- the rows from before

-- the row, or none, under this key
set_at : (rows : RowMap) (key : List ℕ) (row : Option (List OwnedValue)) (q : List ℕ)
    → get (unwrap_or (option_map (insert rows key) row) (remove rows key)) q ≡ cond (is_eq (slice_cmp nat_cmp q key)) row (get rows q)
set_at rows key None q = get-remove nat_list_cmp_total rows key q
set_at rows key (Some row) q = get-insert nat_list_cmp_total rows key row q

-- keys are one in the order of a map where they are the same bytes
one_key : {X : Type 0} (key q : List ℕ) (x y : X) (b : Bool) → bytes_eq key q ≡ b → cond (is_eq (slice_cmp nat_cmp q key)) x y ≡ cond b x y
one_key key q x y true same = let is = same_text key q (sym same) in rw is (ap (λ (b : Bool). cond b x y) (self_tied q))
one_key key q x y false same = at (is_eq (slice_cmp nat_cmp q key)) refl
  where
    at : (c : Bool) → is_eq (slice_cmp nat_cmp q key) ≡ c → cond c x y ≡ y
    at true tied = absurd (other_text key q (sym same) (sym (tied_bytes q key tied)))
    at false tied = refl

from_first : (b : Bool) (row now held : Option (List OwnedValue)) (others : Option (Option (List OwnedValue))) → held ≡ unwrap_or others now
    → cond b row held ≡ unwrap_or (cond b (Some row) others) now
from_first true row now held others e = refl
from_first false row now held others e = e

-- each row is the first one, or the current one
pub put_all_at : (firsts : List FirstImage) (rows : RowMap) (q : List ℕ) → get (put_all_back firsts rows) q ≡ unwrap_or (first_at firsts q) (get rows q)
put_all_at [] rows q = refl
put_all_at (first ∷ firsts) rows q =
    set_at (put_all_back firsts rows) first.key first.row q
    ∙ one_key first.key q first.row (get (put_all_back firsts rows) q) (bytes_eq first.key q) refl
    ∙ from_first (bytes_eq first.key q) first.row (get rows q) (get (put_all_back firsts rows) q) (first_at firsts q) (put_all_at firsts rows q)

-- ---- one key more

-- what was there stays
append_kept : (firsts : List FirstImage) (first : FirstImage) (q : List ℕ) (row : Option (List OwnedValue)) → first_at firsts q ≡ Some row
    → first_at (firsts ++ first ∷ []) q ≡ Some row
append_kept [] first q row e = absurd (none-some row e)
append_kept (f ∷ firsts) first q row e = at (bytes_eq f.key q) e (append_kept firsts first q row)
  where
    at : (b : Bool) → cond b (Some f.row) (first_at firsts q) ≡ Some row → (first_at firsts q ≡ Some row → first_at (firsts ++ first ∷ []) q ≡ Some row)
        → cond b (Some f.row) (first_at (firsts ++ first ∷ []) q) ≡ Some row
    at true e next = e
    at false e next = next e

-- and where nothing was there it is the new one's
pub append_new : (firsts : List FirstImage) (first : FirstImage) (q : List ℕ) → first_at firsts q ≡ None
    → first_at (firsts ++ first ∷ []) q ≡ cond (bytes_eq first.key q) (Some first.row) None
append_new [] first q e = refl
append_new (f ∷ firsts) first q e = at (bytes_eq f.key q) e (append_new firsts first q)
  where
    at : (b : Bool) → cond b (Some f.row) (first_at firsts q) ≡ None
        → (first_at firsts q ≡ None → first_at (firsts ++ first ∷ []) q ≡ cond (bytes_eq first.key q) (Some first.row) None)
        → cond b (Some f.row) (first_at (firsts ++ first ∷ []) q) ≡ cond (bytes_eq first.key q) (Some first.row) None
    at true e next = absurd (none-some f.row (sym e))
    at false e next = next e

-- ---- what is noted

-- a key that was there keeps its first image
pub noted_kept : (firsts : List FirstImage) (written : List WrittenData) (q : List ℕ) (row : Option (List OwnedValue)) → first_at firsts q ≡ Some row
    → first_at (noted firsts written) q ≡ Some row
noted_kept firsts [] q row e = e
noted_kept firsts (w ∷ written) q row e =
    at (is_some (first_at firsts w.key)) (noted_kept firsts written q row e) (noted_kept _ written q row (append_kept firsts (record { key = w.key; row = w.former }) q row e))
  where
    at : (b : Bool) → first_at (noted firsts written) q ≡ Some row → first_at (noted (firsts ++ record { key = w.key; row = w.former } ∷ []) written) q ≡ Some row
        → first_at (cond b (noted firsts written) (noted (firsts ++ record { key = w.key; row = w.former } ∷ []) written)) q ≡ Some row
    at true here there = here
    at false here there = there

module _ (old : List ℕ → Option (List OwnedValue)) (q : List ℕ) where
  abbrev Noted : List FirstImage → List WrittenData → Type 0
  Noted firsts written = (AllByRecursion (λ w. ¬ (w.key ≡ q)) written × (first_at (noted firsts written) q ≡ None)) ⊎ (first_at (noted firsts written) q ≡ Some (old q))

  -- a key that was not there is not written, or gets the previous row
  noted_new : (firsts : List FirstImage) (written : List WrittenData) → first_at firsts q ≡ None → AllByRecursion (λ w. old w.key ≡ w.former) written
      → Noted firsts written
  noted_new firsts [] e told = inl (tt, e)
  noted_new firsts (w ∷ written) e told =
      by_key (bytes_eq w.key q) refl (append_new firsts new q e) (noted_new firsts written e told.1) (λ none. noted_new (firsts ++ new ∷ []) written none told.1)
    where
      new : FirstImage
      new = record { key = w.key; row = w.former }

      here_is : w.key ≡ q → first_at (firsts ++ new ∷ []) q ≡ Some w.former → Noted firsts (w ∷ written)
      here_is is stands =
          let former : w.former ≡ old q = sym told.0 ∙ ap old is in
          let none : is_some (first_at firsts w.key) ≡ false = rw is (ap (λ (o : Option (Option (List OwnedValue))). is_some o) e) in
          inr (rw none (noted_kept (firsts ++ new ∷ []) written q (old q) (stands ∙ ap Some former)))

      more : (b : Bool) → ¬ (w.key ≡ q) → Noted firsts written → Noted (firsts ++ new ∷ []) written
          → (AllByRecursion (λ w. ¬ (w.key ≡ q)) (w ∷ written) × (first_at (cond b (noted firsts written) (noted (firsts ++ new ∷ []) written)) q ≡ None))
          ⊎ (first_at (cond b (noted firsts written) (noted (firsts ++ new ∷ []) written)) q ≡ Some (old q))
      more true apart (inl (others, none)) there = inl ((apart, others), none)
      more true apart (inr stands) there = inr stands
      more false apart here (inl (others, none)) = inl ((apart, others), none)
      more false apart here (inr stands) = inr stands

      by_key : (b : Bool) → bytes_eq w.key q ≡ b → first_at (firsts ++ new ∷ []) q ≡ cond (bytes_eq w.key q) (Some w.former) None
          → Noted firsts written → (first_at (firsts ++ new ∷ []) q ≡ None → Noted (firsts ++ new ∷ []) written) → Noted firsts (w ∷ written)
      by_key true same stands here there = here_is (same_text w.key q (sym same)) (stands ∙ ap (λ (b : Bool). cond b (Some w.former) None) same)
      by_key false same stands here there =
          more (is_some (first_at firsts w.key)) (other_text w.key q (sym same)) here (there (stands ∙ ap (λ (b : Bool). cond b (Some w.former) None) same))

-- ---- the rows from before stay the same

module _ (old new : List ℕ → Option (List OwnedValue)) (firsts : List FirstImage) (written : List WrittenData) (q : List ℕ)
    (told : AllByRecursion (λ w. old w.key ≡ w.former) written) (others : AllByRecursion (λ w. ¬ (w.key ≡ q)) written → new q ≡ old q) where
  from_new : first_at firsts q ≡ None → Noted old q firsts written → unwrap_or (first_at (noted firsts written) q) (new q) ≡ unwrap_or (first_at firsts q) (old q)
  from_new none (inl (apart, still)) = rw (none, still) (others apart)
  from_new none (inr stands) = rw (none, stands) refl

  by_first : (o : Option (Option (List OwnedValue))) → first_at firsts q ≡ o → unwrap_or (first_at (noted firsts written) q) (new q) ≡ unwrap_or (first_at firsts q) (old q)
  by_first None e = from_new e (noted_new old q firsts written e told)
  by_first (Some row) e = rw (e, noted_kept firsts written q row e) refl

  same_before : unwrap_or (first_at (noted firsts written) q) (new q) ≡ unwrap_or (first_at firsts q) (old q)
  same_before = by_first (first_at firsts q) refl

module _ (old : State) (name : List ℕ) where
  pub told_of : (written : List WrittenData) → AllByRecursion (λ w. row_at old w.table w.key ≡ w.former) written
      → AllByRecursion (λ w. row_at old name w.key ≡ w.former) (writes_of name written)
  told_of [] told = tt
  told_of (w ∷ written) told = at (bytes_eq w.table name) refl (told_of written told.1)
    where
      at : (b : Bool) → bytes_eq w.table name ≡ b → AllByRecursion (λ w. row_at old name w.key ≡ w.former) (writes_of name written)
          → AllByRecursion (λ w. row_at old name w.key ≡ w.former) (cond b (w ∷ writes_of name written) (writes_of name written))
      at true same rest = (ap (λ (t : List ℕ). row_at old t w.key) (sym (same_text w.table name (sym same))) ∙ told.0, rest)
      at false same rest = rest

  apart_of : (written : List WrittenData) (q : List ℕ) → AllByRecursion (λ w. ¬ (w.key ≡ q)) (writes_of name written)
      → AllByRecursion (λ w. ¬ ((w.table ≡ name) × (w.key ≡ q))) written
  apart_of [] q apart = tt
  apart_of (w ∷ written) q apart = at (bytes_eq w.table name) refl apart (apart_of written q)
    where
      at : (b : Bool) → bytes_eq w.table name ≡ b → AllByRecursion (λ w. ¬ (w.key ≡ q)) (cond b (w ∷ writes_of name written) (writes_of name written))
          → (AllByRecursion (λ w. ¬ (w.key ≡ q)) (writes_of name written) → AllByRecursion (λ w. ¬ ((w.table ≡ name) × (w.key ≡ q))) written)
          → AllByRecursion (λ w. ¬ ((w.table ≡ name) × (w.key ≡ q))) (w ∷ written)
      at true same apart rest = ((λ here. apart.0 here.1), rest apart.1)
      at false same apart rest = ((λ here. other_text w.table name (sym same) here.0), rest apart)

module _ (old new : State) (written : List WrittenData) (tells : TellsFormer old new written) where
  same_rows : (table : AttachedTable) → put_all_back (noted table.firsts (writes_of table.name written)) (rows_at new table.name) ≡ rewound_rows old table
  same_rows table = same_maps _ _ (λ q. put_all_at (noted table.firsts (writes_of table.name written)) (rows_at new table.name) q
      ∙ same_before (row_at old table.name) (row_at new table.name) table.firsts (writes_of table.name written) q
      (told_of old table.name written (recursion_from_All (λ (w : WrittenData). row_at old w.table w.key ≡ w.former) written tells.told))
      (λ apart. tells.others table.name q (All-from_recursion (λ (w : WrittenData). ¬ ((w.table ≡ table.name) × (w.key ≡ q))) written (apart_of old table.name written q apart)))
      ∙ sym (put_all_at table.firsts (rows_at old table.name) q))

  -- noting writes leaves the rows from before as they were
  pub rewound_recorded : (notes : Notes) → rewound (recorded notes written) new ≡ rewound notes old
  rewound_recorded [] = refl
  rewound_recorded (table ∷ notes) = let first = same_rows table in let rest = rewound_recorded notes in cc (first, rest)
