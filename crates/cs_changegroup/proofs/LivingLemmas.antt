-- Things that are found by a text, of which the last one may count.
use Rattle.std.proofs.Common.{◌≡◌, ◌≢◌, ℕ, suc, ◌+◌, ◌<◌, List, [], ◌∷◌, ◌++◌, length, get_or, set, take, drop, Option, Some, None, refl, sym, ap, subst, ◌∙◌, ⊎_elim, arith}
use Rattle.std.specs.Prelude.{IfSome, filter_map}
use Rattle.std.specs.List.{cons_option}
use Rattle.std.specs.Option.{option_to_list}
use Rattle.std.proofs.lemmas.Bool.{cases_eq, cases_order}
use Rattle.std.proofs.lemmas.List.{get_or-drop, get_or_default, get_or-set_other, get_or-set_same, get_or-take, length-drop, length-set, length-take, set-get_or, set_split}
use Rattle.std.proofs.lemmas.List.Elements.{All-cons, All-head, All-nil, All-tail, filter_map-append}
use Rattle.std.proofs.lemmas.List.Quantifiers.{all_pairs_push}
use Rattle.std.proofs.lemmas.Option.{none-some}
use Rattle.cs_group.specs.Joining.{joined_by}
use Rattle.cs_changegroup.specs.Slots.{AreOnce, IsNewest, NoneLives}
use Rattle.cs_changegroup.proofs.OneByOneLemmas.{Others, joined-known, joined-new}

module _ {X Y : Type 0} (live : X → Option Y) (key : X → List ℕ) where
  -- where the last thing of a text does not count, none does
  pub newest_gone : (text : List ℕ) (xs : List X) (found : Option ℕ) → AreOnce live key xs → IsNewest key text xs found → IfSome found (λ i. (d : X) → live (get_or xs i d) ≡ None) → NoneLives live key xs text
  newest_gone text xs None once newest gone = λ k d lt same. absurd (newest k d lt same)
  newest_gone text xs (Some index) once newest gone = λ k d lt same. ⊎_elim (λ is. rw is (gone d)) (⊎_elim (λ before. once k index d before newest.0.within (same ∙ sym (newest.0.holds d))) (λ behind. absurd (newest.1 k d behind lt same))) (cases_order k index)

  pub once_pushed : (xs : List X) (x : X) → AreOnce live key xs → NoneLives live key xs (key x) → AreOnce live key (xs ++ x ∷ [])
  once_pushed xs x once none = all_pairs_push (λ y z. key y ≡ key z → live y ≡ None) xs x once (λ k d lt same. none k d lt same)

  -- another thing of the same text in the place of one that counts
  pub once_set : (xs : List X) (index : ℕ) (x z : X) (y : Y) → AreOnce live key xs → index < length xs → x ≡ get_or xs index x → live x ≡ Some y → key z ≡ key x → AreOnce live key (set xs index z)
  once_set xs index x z y once within is counts same = λ i j d lt j_lt.
      let j_within : j < length xs = omega (arith, j_lt, length-set xs index z) in
      let here : (e : X) → get_or xs index e ≡ x = λ e. get_or_default xs index e x within ∙ sym is in
      ⊎_elim
      (λ at. ⊎_elim
      (λ also. absurd (omega (arith, lt, at, also)))
      (λ off e.
      let own : key x ≡ key (get_or xs j d) = sym same ∙ ap key (sym (ap (λ n. get_or (set xs index z) n d) at ∙ get_or-set_same xs index z d within)) ∙ e ∙ ap key (get_or-set_other xs index j z d off) in
      let gone : live (get_or xs index d) ≡ None = once index j d (omega (arith, lt, at)) j_within (ap key (here d) ∙ own) in
      absurd (none-some y (sym gone ∙ ap live (here d) ∙ counts)))
      (cases_eq j index))
      (λ off. ⊎_elim
      (λ also e.
      let own : key (get_or xs i d) ≡ key (get_or xs index d) = ap key (sym (get_or-set_other xs index i z d off)) ∙ e ∙ ap key (ap (λ n. get_or (set xs index z) n d) also ∙ get_or-set_same xs index z d within) ∙ same ∙ ap key (sym (here d)) in
      ap live (get_or-set_other xs index i z d off) ∙ once i index d (omega (arith, lt, also)) within own)
      (λ away e.
      ap live (get_or-set_other xs index i z d off)
      ∙ once i j d lt j_within (ap key (sym (get_or-set_other xs index i z d off)) ∙ e ∙ ap key (get_or-set_other xs index j z d away)))
      (cases_eq j index))
      (cases_eq i index)

  -- what counts where one thing is another
  pub lives_set : (xs : List X) (index : ℕ) (z : X) → index < length xs → filter_map live (set xs index z) ≡ filter_map live (take index xs) ++ (option_to_list (live z) ++ filter_map live (drop (suc index) xs))
  lives_set xs index z within =
      ap (filter_map live) (set_split xs index z within)
      ∙ filter_map-append live (take index xs) (z ∷ drop (suc index) xs)
      ∙ ap (λ (l : List Y). filter_map live (take index xs) ++ l) (cons_is (live z))
    where
      cons_is : (o : Option Y) → cons_option o (filter_map live (drop (suc index) xs)) ≡ option_to_list o ++ filter_map live (drop (suc index) xs)
      cons_is None = refl
      cons_is (Some y) = refl

  module _ (text_of : Y → List ℕ) (own : (x : X) → IfSome (live x) (λ y. text_of y ≡ key x)) where
    pub others_live : (text : List ℕ) (xs : List X) → NoneLives live key xs text → Others text_of text (filter_map live xs)
    others_live text [] none = All-nil (λ y. text_of y ≢ text)
    others_live text (x ∷ xs) none = at (live x) refl (own x) (others_live text xs (All-tail (λ x. key x ≡ text → live x ≡ None) x xs none))
      where
        at : (o : Option Y) → live x ≡ o → IfSome o (λ y. text_of y ≡ key x) → Others text_of text (filter_map live xs) → Others text_of text (cons_option o (filter_map live xs))
        at None is same rest = rest
        at (Some y) is same rest =
            All-cons (λ y. text_of y ≢ text) y (filter_map live xs) (λ e. none-some y (sym (All-head (λ x. key x ≡ text → live x ≡ None) x xs none (sym same ∙ e)) ∙ is)) rest

    -- one that counts, and what counts before and after it
    module _ (xs : List X) (index : ℕ) (x : X) (first : Y) (once : AreOnce live key xs) (within : index < length xs) (is : x ≡ get_or xs index x) (counts : live x ≡ Some first) where
      abbrev pub before : List Y
      before = filter_map live (take index xs)

      abbrev pub behind : List Y
      behind = filter_map live (drop (suc index) xs)

      here : (d : X) → get_or xs index d ≡ x
      here d = get_or_default xs index d x within ∙ sym is

      pub lives_split : filter_map live xs ≡ before ++ first ∷ behind
      lives_split = ap (filter_map live) (sym (set-get_or xs index x) ∙ ap (set xs index) (here x)) ∙ lives_set xs index x within ∙ ap (λ (o : Option Y). before ++ (option_to_list o ++ behind)) counts

      pub first_is : text_of first ≡ key x
      first_is = some_is (subst (λ (o : Option Y). IfSome o (λ y. text_of y ≡ key x)) counts (own x))
        where
          some_is : IfSome (Some first) (λ y. text_of y ≡ key x) → text_of first ≡ key x
          some_is so = so

      none_before : NoneLives live key (take index xs) (key x)
      none_before k d lt e =
          let k_lt : k < index = omega (arith, lt, length-take index xs, within) in
          let at : get_or (take index xs) k d ≡ get_or xs k d = get_or-take index xs k d k_lt in
          ap live at ∙ once k index d k_lt within (ap key (sym at) ∙ e ∙ ap key (sym (here d)))

      none_behind : NoneLives live key (drop (suc index) xs) (key x)
      none_behind k d lt e =
          let k_lt : suc index + k < length xs = omega (arith, lt, length-drop (suc index) xs, within) in
          let at : get_or (drop (suc index) xs) k d ≡ get_or xs (suc index + k) d = get_or-drop (suc index) xs k d in
          let gone : live (get_or xs index d) ≡ None = once index (suc index + k) d (omega arith) k_lt (ap key (here d) ∙ sym e ∙ ap key at) in
          absurd (none-some first (sym gone ∙ ap live (here d) ∙ counts))

      pub others_before : Others text_of (key x) before
      others_before = others_live (key x) (take index xs) none_before

      pub others_behind : Others text_of (key x) behind
      others_behind = others_live (key x) (drop (suc index) xs) none_behind

    module _ (join : Y → Option Y → Option Y) (alone : (y : Y) → join y None ≡ Some y) where
      -- one more that counts
      pub lives_pushed : (xs : List X) (x : X) (y : Y) → NoneLives live key xs (text_of y) → live x ≡ Some y → filter_map live (xs ++ x ∷ []) ≡ joined_by text_of join (filter_map live xs) (y ∷ [])
      lives_pushed xs x y none is =
          filter_map-append live xs (x ∷ [])
          ∙ ap (λ o. filter_map live xs ++ cons_option o []) is
          ∙ sym (joined-new text_of join alone y (filter_map live xs) (others_live (text_of y) xs none))

      -- what one that counts becomes together with a later one
      pub lives_joined : (xs : List X) (index : ℕ) (x z : X) (first second : Y) → AreOnce live key xs → index < length xs → x ≡ get_or xs index x → live x ≡ Some first → text_of second ≡ key x → live z ≡ join first (Some second)
          → filter_map live (set xs index z) ≡ joined_by text_of join (filter_map live xs) (second ∷ [])
      lives_joined xs index x z first second once within is counts same becomes =
          lives_set xs index z within
          ∙ ap (λ (o : Option Y). front ++ (option_to_list o ++ back)) becomes
          ∙ sym (joined-known text_of join alone second first front back (rw same (others_before xs index x first once within is counts)) (rw same (others_behind xs index x first once within is counts)) (first_is xs index x first once within is counts ∙ sym same))
          ∙ ap (λ (l : List Y). joined_by text_of join l (second ∷ [])) (sym (lives_split xs index x first once within is counts))
        where
          front : List Y
          front = filter_map live (take index xs)

          back : List Y
          back = filter_map live (drop (suc index) xs)
