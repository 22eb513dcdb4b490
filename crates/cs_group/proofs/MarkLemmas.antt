-- Which things of a second list have the text of one of a first, and what becomes of an entry with the one of its key.
use Rattle.std.proofs.Common.{◌≡◌, ◌≢◌, ℕ, ◌+◌, ◌<◌, ◌&&◌, not, nat_eq, Bool, true, false, true≢false, cond, if◌then◌else◌, List, [], ◌∷◌, ◌++◌, length, map, get_or, set, take, replicate, All, AllPairs, Some, None, refl, sym, ap, ◌∙◌, append-nil, ⊎_elim, arith}
use Rattle.std.specs.Prelude.{is_none, filter}
use Rattle.std.specs.Cmp.Lexicographic.{pointwise, nat_list_eq_equiv}
use Rattle.std.proofs.lemmas.Bool.{cases_order}
use Rattle.std.proofs.lemmas.List.{get_or-replicate, get_or-set_same, get_or-set_other, get_or-map, length-map}
use Rattle.cs_value.proofs.ListLemmas.{filter_more_behind}
use Rattle.cs_wire_entries.specs.declared.entry.Entry.{Entry}
use Rattle.cs_wire.specs.Entry.{key_of}
use Rattle.cs_wire.specs.Items.{FlaggedEntry}
use Rattle.cs_wire.specs.Views.{IsIndexWhere}
use Rattle.cs_group.specs.Joining.{is_new, if_new, joined_entry, key_marks, left_of, merged, outcome, with_text}
use Rattle.cs_group.specs.Marks.{AreMet}
use Rattle.cs_group.proofs.KeyPlaceLemmas.{key_of_same}
use Rattle.cs_group.proofs.TextLemmas.{Once, not_same, with_text-none, with_text-index, with_text-same}

-- ---- which of the second things have the text of one of the first

module _ {X : Type 0} (text_of : X → List ℕ) where
  abbrev same : X → X → Bool
  same y x = pointwise nat_eq (text_of y) (text_of x)

  -- a thing is new where it was and has not the text of one more
  is_new-push : (xs : List X) (y x : X) → is_new text_of (xs ++ y ∷ []) x ≡ (is_new text_of xs x && not (same y x))
  is_new-push [] y x = of (same y x)
    where
      of : (b : Bool) → is_none (cond b (Some y) None) ≡ not b
      of true = refl
      of false = refl
  is_new-push (z ∷ xs) y x = of (same z x) (is_new-push xs y x)
    where
      of : (b : Bool) → is_new text_of (xs ++ y ∷ []) x ≡ (is_new text_of xs x && not (same y x)) → is_none (cond b (Some z) (with_text text_of (xs ++ y ∷ []) (text_of x))) ≡ (is_none (cond b (Some z) (with_text text_of xs (text_of x))) && not (same y x))
      of true so = refl
      of false so = so

  pub is_new-other : (xs : List X) (y x : X) → text_of y ≢ text_of x → is_new text_of (xs ++ y ∷ []) x ≡ is_new text_of xs x
  is_new-other xs y x other = is_new-push xs y x ∙ ap (λ b. is_new text_of xs x && not b) (not_same (text_of y) (text_of x) (same y x) refl other) ∙ of (is_new text_of xs x)
    where
      of : (b : Bool) → (b && not false) ≡ b
      of true = refl
      of false = refl

  pub is_new-same : (xs : List X) (y x : X) → text_of y ≡ text_of x → is_new text_of (xs ++ y ∷ []) x ≡ false
  is_new-same xs y x is =
      let yes : same y x ≡ true = rw is (nat_list_eq_equiv.refl (text_of x)) in
      is_new-push xs y x ∙ ap (λ b. is_new text_of xs x && not b) yes ∙ of (is_new text_of xs x)
    where
      of : (b : Bool) → (b && not true) ≡ false
      of true = refl
      of false = refl

  pub AreMet-none : (seconds : List X) (met : List Bool) → met ≡ replicate (length seconds) false → AreMet text_of met [] seconds
  AreMet-none seconds met is j d lt = ap (λ (m : List Bool). get_or m j false) is ∙ get_or-replicate (length seconds) j false false lt

  module _ (met : List Bool) (firsts seconds : List X) (x : X) (so : AreMet text_of met firsts seconds) where
    -- one more that has no text of theirs
    pub AreMet-other : All (λ y. text_of y ≢ text_of x) seconds → AreMet text_of met (firsts ++ x ∷ []) seconds
    AreMet-other none j d lt =
        so j d lt ∙ ap not (sym (is_new-other firsts x (get_or seconds j d) (λ same. none j d lt (sym same))))

    -- one more that has the text of the one at this place
    pub AreMet-marked : (place : ℕ) → Once text_of seconds → length met ≡ length seconds
        → IsIndexWhere (λ y. text_of y ≡ text_of x) seconds place → AreMet text_of (set met place true) (firsts ++ x ∷ []) seconds
    AreMet-marked place once width at j d lt = ⊎_elim there (⊎_elim before behind) (cases_order j place)
      where
        text : ℕ → List ℕ
        text i = text_of (get_or seconds i d)

        here : text place ≡ text_of x
        here = at.holds d

        there : j ≡ place → get_or (set met place true) j false ≡ not (is_new text_of (firsts ++ x ∷ []) (get_or seconds j d))
        there is =
            ap (λ i. get_or (set met place true) i false) is ∙ get_or-set_same met place true false (omega (arith, width, at.within))
            ∙ ap not (sym (is_new-same firsts x (get_or seconds j d) (sym here ∙ ap text (sym is))))

        elsewhere : (j ≡ place → ⊥) → text place ≢ text j → get_or (set met place true) j false ≡ not (is_new text_of (firsts ++ x ∷ []) (get_or seconds j d))
        elsewhere not_there other =
            get_or-set_other met place j true false not_there ∙ so j d lt
            ∙ ap not (sym (is_new-other firsts x (get_or seconds j d) (λ same. other (here ∙ same))))

        before : j < place → get_or (set met place true) j false ≡ not (is_new text_of (firsts ++ x ∷ []) (get_or seconds j d))
        before lt_place = elsewhere (λ is. omega (arith, lt_place, is)) (λ same. once j place d lt_place at.within (sym same))

        behind : place < j → get_or (set met place true) j false ≡ not (is_new text_of (firsts ++ x ∷ []) (get_or seconds j d))
        behind gt_place = elsewhere (λ is. omega (arith, gt_place, is)) (once place j d gt_place lt)

  -- a thing of a list is new if it is not marked
  module _ (met : List Bool) (firsts seconds : List X) (so : AreMet text_of met firsts seconds) (place : ℕ) (x : X) (lt : place < length seconds) (is : x ≡ get_or seconds place x) where
    pub unmet_is : (marked : Bool) → marked ≡ get_or met place false → (if marked then None else Some x) ≡ if_new text_of firsts x
    unmet_is marked marked_is =
        by marked (is_new text_of firsts x) (marked_is ∙ so place x lt ∙ ap (λ (y : X). not (is_new text_of firsts y)) (sym is))
      where
        by : (m n : Bool) → m ≡ not n → (if m then None else Some x) ≡ (if n then Some x else None)
        by true true e = absurd (true≢false e)
        by true false e = refl
        by false true e = refl
        by false false e = absurd (true≢false (sym e))

    -- so that of those so far the new ones are there
    module _ (start now : List X) (so_far : now ≡ start ++ filter (is_new text_of firsts) (take place seconds)) where
      pub unmarked_added : (grown : List X) → get_or met place false ≡ false → grown ≡ now ++ x ∷ [] → grown ≡ start ++ filter (is_new text_of firsts) (take (place + 1) seconds)
      unmarked_added grown unmarked grown_is =
          filter_more_behind seconds place x lt is (is_new text_of firsts) start now grown (Some x) so_far (unmet_is false (sym unmarked)) grown_is

      pub marked_passed : get_or met place false ≡ true → now ≡ start ++ filter (is_new text_of firsts) (take (place + 1) seconds)
      marked_passed marked =
          filter_more_behind seconds place x lt is (is_new text_of firsts) start now now None so_far (unmet_is true (sym marked)) (sym (append-nil now))

-- ---- what is kept, and after it what is new

pub kept_and_new : {X : Type 0} {start mid grown : List X} (kept new : List X) → start ≡ [] → mid ≡ start ++ kept → grown ≡ mid ++ new → grown ≡ kept ++ new
kept_and_new {X} kept new none mid_is grown_is =
    grown_is ∙ ap (λ (l : List X). l ++ new) (mid_is ∙ ap (λ (l : List X). l ++ kept) none)

-- ---- an entry, and the one of its key among those of a table whose flags mark the same columns

module _ (own flags : List ℕ) (seconds : List Entry) (entry : Entry) (agree : key_marks own ≡ key_marks flags) where
  abbrev key : Entry → List ℕ
  key e = key_of flags e.change

  abbrev own_key : Entry → List ℕ
  own_key e = key_of own e.change

  one : (e : Entry) → own_key e ≡ key e
  one e = key_of_same own flags e.change agree

  pub apart_of : AllPairs (λ d e. key_of own d.change ≢ key_of own e.change) seconds → AllPairs (λ d e. key_of flags d.change ≢ key_of flags e.change) seconds
  apart_of apart = λ i j d lt within same. apart i j d lt within (one (get_or seconds i d) ∙ same ∙ sym (one (get_or seconds j d)))

  pub keys_of : All (λ e. key_of own e.change ≢ key_of flags entry.change) seconds → All (λ e. key_of flags e.change ≢ key_of flags entry.change) seconds
  keys_of none = λ k d lt same. none k d lt (one (get_or seconds k d) ∙ same)

  pub place_of : (place : ℕ) → IsIndexWhere (λ e. key_of own e.change ≡ key_of flags entry.change) seconds place → IsIndexWhere (λ e. key_of flags e.change ≡ key_of flags entry.change) seconds place
  place_of place at = record { within = at.within; holds = λ d. sym (one (get_or seconds place d)) ∙ at.holds d }

  pub outcome_alone : All (λ e. key_of own e.change ≢ key_of flags entry.change) seconds → outcome (λ e. key_of flags e.change) (joined_entry flags) seconds entry ≡ Some entry
  outcome_alone none = ap (joined_entry flags entry) (with_text-none key seconds (key entry) (keys_of none))

  module _ (place : ℕ) (second : Entry) (at : IsIndexWhere (λ e. key_of own e.change ≡ key_of flags entry.change) seconds place) (is : second ≡ get_or seconds place second) where
    pub one_key : key_of flags entry.change ≡ key_of flags second.change
    one_key = sym (at.holds second) ∙ ap own_key (sym is) ∙ one second

    pub outcome_both : AllPairs (λ d e. key_of own d.change ≢ key_of own e.change) seconds
        → outcome (λ e. key_of flags e.change) (joined_entry flags) seconds entry ≡ left_of entry (merged flags entry second)
    outcome_both apart =
        ap (joined_entry flags entry) (sym (with_text-index own_key seconds (key entry) place second apart at is ∙ with_text-same own_key key one seconds (key entry)))

-- the entry at a place, of what is shown of them
module _ (shown : List FlaggedEntry) (entries : List Entry) (same : map (λ e. e.entry) shown ≡ entries) where
  pub as_many : length shown ≡ length entries
  as_many = sym (length-map shown (λ (e : FlaggedEntry). e.entry)) ∙ ap length same

  pub entry_at : (place : ℕ) (seen : FlaggedEntry) → place < length entries → seen ≡ get_or shown place seen → seen.entry ≡ get_or entries place seen.entry
  entry_at place seen lt is =
      let within : place < length shown = omega (arith, lt, as_many) in
      ap (λ (e : FlaggedEntry). e.entry) is ∙ sym (get_or-map (λ (e : FlaggedEntry). e.entry) shown place seen seen.entry within) ∙ ap (λ (es : List Entry). get_or es place seen.entry) same
