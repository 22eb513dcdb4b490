-- A join with a list is one with each of its things in turn.
use Rattle.std.proofs.Common.{◌≡◌, ◌≢◌, ℕ, nat_eq, Bool, true, false, cond, List, [], ◌∷◌, ◌++◌, All, Option, Some, None, refl, sym, ap, ◌∙◌, append_assoc, append-nil}
use Rattle.std.specs.Prelude.{IfSome, filter, filter_map, is_none}
use Rattle.std.specs.List.{cons_option}
use Rattle.std.specs.Option.{option_or, option_to_list}
use Rattle.std.specs.Cmp.Lexicographic.{pointwise, nat_list_eq_equiv, same_text}
use Rattle.std.proofs.lemmas.List.Elements.{All-cons, All-filter, All-head, All-nil, All-tail, filter-append, filter_map-append}
use Rattle.std.proofs.lemmas.List.Folds.{find-append}
use Rattle.std.proofs.lemmas.Option.{none-some}
use Rattle.cs_group.specs.Joining.{is_new, joined_by, outcome, with_text}
use Rattle.cs_group.proofs.TextLemmas.{with_text-none}

-- none of the things has this text
abbrev pub Others : {Y : Type 0} → (Y → List ℕ) → List ℕ → List Y → Type 0
Others text_of text ys = All (λ z. text_of z ≢ text) ys

module _ {Y : Type 0} (text_of : Y → List ℕ) (join : Y → Option Y → Option Y) (alone : (y : Y) → join y None ≡ Some y) where
  abbrev made : List Y → Y → Option Y
  made = outcome text_of join

  -- ---- one thing more

  one_other : (y z : Y) → text_of z ≢ text_of y → Others text_of (text_of z) (y ∷ [])
  one_other y z other = All-cons (λ x. text_of x ≢ text_of z) y [] (λ same. other (sym same)) (All-nil (λ x. text_of x ≢ text_of z))

  -- a thing of another text stays
  stays : (y z : Y) → text_of z ≢ text_of y → made (y ∷ []) z ≡ Some z
  stays y z other = ap (join z) (with_text-none text_of (y ∷ []) (text_of z) (one_other y z other)) ∙ alone z

  all_stay : (y : Y) (ys : List Y) → Others text_of (text_of y) ys → filter_map (made (y ∷ [])) ys ≡ ys
  all_stay y [] other = refl
  all_stay y (z ∷ ys) other =
      ap (λ o. cons_option o (filter_map (made (y ∷ [])) ys)) (stays y z (All-head (λ x. text_of x ≢ text_of y) z ys other))
      ∙ ap (λ (l : List Y). z ∷ l) (all_stay y ys (All-tail (λ x. text_of x ≢ text_of y) z ys other))

  -- of a new text
  pub joined-new : (y : Y) (ys : List Y) → Others text_of (text_of y) ys → joined_by text_of join ys (y ∷ []) ≡ ys ++ y ∷ []
  joined-new y ys other =
      let none : with_text text_of ys (text_of y) ≡ None = with_text-none text_of ys (text_of y) other in
      ap (λ (l : List Y). l ++ filter (is_new text_of ys) (y ∷ [])) (all_stay y ys other)
      ∙ ap (λ (o : Option Y). ys ++ cond (is_none o) (y ∷ []) []) none

  cons_is : (o : Option Y) (ys : List Y) → cons_option o ys ≡ option_to_list o ++ ys
  cons_is None ys = refl
  cons_is (Some y) ys = refl

  -- of the text of one that is there
  module _ (y z : Y) (before behind : List Y) (first : Others text_of (text_of y) before) (last : Others text_of (text_of y) behind) (same : text_of z ≡ text_of y) where
    abbrev whole : List Y
    whole = before ++ z ∷ behind

    found_it : with_text text_of (y ∷ []) (text_of z) ≡ Some y
    found_it =
        let yes : pointwise nat_eq (text_of y) (text_of z) ≡ true = rw same (nat_list_eq_equiv.refl (text_of y)) in
        rw yes refl

    known : with_text text_of whole (text_of y) ≡ Some z
    known =
        let yes : pointwise nat_eq (text_of z) (text_of y) ≡ true = rw same (nat_list_eq_equiv.refl (text_of y)) in
        find-append (λ x. pointwise nat_eq (text_of x) (text_of y)) before (z ∷ behind)
        ∙ ap (λ (o : Option Y). option_or o (with_text text_of (z ∷ behind) (text_of y))) (with_text-none text_of before (text_of y) first)
        ∙ ap (λ b. cond b (Some z) (with_text text_of behind (text_of y))) yes

    pub joined-known : joined_by text_of join whole (y ∷ []) ≡ before ++ (option_to_list (join z (Some y)) ++ behind)
    joined-known =
        ap (λ (o : Option Y). filter_map (made (y ∷ [])) whole ++ cond (is_none o) (y ∷ []) []) known
        ∙ append-nil (filter_map (made (y ∷ [])) whole)
        ∙ filter_map-append (made (y ∷ [])) before (z ∷ behind)
        ∙ ap (λ (l : List Y). l ++ cons_option (made (y ∷ []) z) (filter_map (made (y ∷ [])) behind)) (all_stay y before first)
        ∙ ap (λ (l : List Y). before ++ cons_option (made (y ∷ []) z) l) (all_stay y behind last)
        ∙ ap (λ (o : Option Y). before ++ cons_option (join z o) behind) found_it
        ∙ ap (λ (l : List Y). before ++ l) (cons_is (join z (Some y)) behind)

  -- ---- a list, and one thing more

  module _ (xs ys : List Y) (y : Y) (keeps : All (λ x. IfSome (made ys x) (λ z. text_of z ≡ text_of x)) xs) (other : Others text_of (text_of y) ys) where
    abbrev more : List Y
    more = ys ++ y ∷ []

    option_map_cons : (o : Option Y) (l : List Y) → filter_map (made (y ∷ [])) (cons_option o l) ≡ filter_map (made (y ∷ [])) (option_to_list o) ++ filter_map (made (y ∷ [])) l
    option_map_cons None l = refl
    option_map_cons (Some z) l = one_more (made (y ∷ []) z) (filter_map (made (y ∷ [])) l)
      where
        one_more : (o : Option Y) (l : List Y) → cons_option o l ≡ cons_option o [] ++ l
        one_more None l = refl
        one_more (Some w) l = refl

    -- what becomes of a thing of the first list
    twice : (x : Y) → IfSome (made ys x) (λ z. text_of z ≡ text_of x) → filter_map (made (y ∷ [])) (option_to_list (made ys x)) ≡ option_to_list (made more x)
    twice x keep = by (with_text text_of ys (text_of x)) refl keep
      where
        one : Option Y
        one = with_text text_of (y ∷ []) (text_of x)

        whole_is : with_text text_of more (text_of x) ≡ option_or (with_text text_of ys (text_of x)) one
        whole_is = find-append (λ z. pointwise nat_eq (text_of z) (text_of x)) ys (y ∷ [])

        single : (o : Option Y) → cons_option o [] ≡ option_to_list o
        single None = refl
        single (Some z) = refl

        by : (found : Option Y) → with_text text_of ys (text_of x) ≡ found → IfSome (join x found) (λ z. text_of z ≡ text_of x)
            → filter_map (made (y ∷ [])) (option_to_list (join x found)) ≡ option_to_list (made more x)
        by None is keep =
            ap (λ o. filter_map (made (y ∷ [])) (option_to_list o)) (alone x)
            ∙ single (made (y ∷ []) x)
            ∙ ap (λ (o : Option Y). option_to_list (join x o)) (sym (whole_is ∙ ap (λ (o : Option Y). option_or o one) is))
        by (Some w) is keep =
            left (join x (Some w)) keep
            ∙ ap (λ (o : Option Y). option_to_list (join x o)) (sym (whole_is ∙ ap (λ (o : Option Y). option_or o one) is))
          where
            far : text_of x ≢ text_of y
            far same = none-some w (sym (with_text-none text_of ys (text_of x) (λ k d lt e. other k d lt (e ∙ same))) ∙ is)

            left : (o : Option Y) → IfSome o (λ z. text_of z ≡ text_of x) → filter_map (made (y ∷ [])) (option_to_list o) ≡ option_to_list o
            left None keep = refl
            left (Some z) keep = ap (λ o. cons_option o []) (stays y z (λ same. far (sym keep ∙ same)))

    both : (zs : List Y) → All (λ x. IfSome (made ys x) (λ z. text_of z ≡ text_of x)) zs → filter_map (made (y ∷ [])) (filter_map (made ys) zs) ≡ filter_map (made more) zs
    both [] keep = refl
    both (x ∷ zs) keep =
        option_map_cons (made ys x) (filter_map (made ys) zs)
        ∙ ap (λ (l : List Y). l ++ filter_map (made (y ∷ [])) (filter_map (made ys) zs)) (twice x (All-head (λ x. IfSome (made ys x) (λ z. text_of z ≡ text_of x)) x zs keep))
        ∙ ap (λ (l : List Y). option_to_list (made more x) ++ l) (both zs (All-tail (λ x. IfSome (made ys x) (λ z. text_of z ≡ text_of x)) x zs keep))
        ∙ sym (cons_is (made more x) (filter_map (made more) zs))

    -- the first list has the text of the new thing where what both make has it
    as_new : (zs : List Y) → All (λ x. IfSome (made ys x) (λ z. text_of z ≡ text_of x)) zs → is_none (with_text text_of (filter_map (made ys) zs) (text_of y)) ≡ is_none (with_text text_of zs (text_of y))
    as_new [] keep = refl
    as_new (x ∷ zs) keep = at (pointwise nat_eq (text_of x) (text_of y)) refl (as_new zs (All-tail (λ x. IfSome (made ys x) (λ z. text_of z ≡ text_of x)) x zs keep))
      where
        at : (b : Bool) → pointwise nat_eq (text_of x) (text_of y) ≡ b → is_none (with_text text_of (filter_map (made ys) zs) (text_of y)) ≡ is_none (with_text text_of zs (text_of y)) → is_none (with_text text_of (cons_option (made ys x) (filter_map (made ys) zs)) (text_of y)) ≡ is_none (with_text text_of (x ∷ zs) (text_of y))
        at true is rest =
            let same : text_of x ≡ text_of y = same_text (text_of x) (text_of y) (sym is) in
            let it : made ys x ≡ Some x = ap (join x) (with_text-none text_of ys (text_of x) (λ k d lt e. other k d lt (e ∙ same))) ∙ alone x in
            rw (it, is) refl
        at false is rest = there (made ys x) (All-head (λ x. IfSome (made ys x) (λ z. text_of z ≡ text_of x)) x zs keep)
          where
            there : (o : Option Y) → IfSome o (λ z. text_of z ≡ text_of x) → is_none (with_text text_of (cons_option o (filter_map (made ys) zs)) (text_of y)) ≡ is_none (with_text text_of (x ∷ zs) (text_of y))
            there None keep = rw is rest
            there (Some z) keep =
                let so : pointwise nat_eq (text_of z) (text_of y) ≡ false = rw keep is in
                rw (so, is) rest

    -- the join with both is the join with the list, and then with the thing
    pub joined-more : joined_by text_of join xs (ys ++ y ∷ []) ≡ joined_by text_of join (joined_by text_of join xs ys) (y ∷ [])
    joined-more =
        ap (λ (l : List Y). filter_map (made more) xs ++ l) (filter-append (is_new text_of xs) ys (y ∷ []))
        ∙ sym (append_assoc (filter_map (made more) xs) news (filter (is_new text_of xs) (y ∷ [])))
        ∙ ap (λ (l : List Y). (l ++ news) ++ filter (is_new text_of xs) (y ∷ [])) (sym (both xs keeps))
        ∙ ap (λ (l : List Y). (filter_map (made (y ∷ [])) (filter_map (made ys) xs) ++ l) ++ filter (is_new text_of xs) (y ∷ [])) (sym (all_stay y news apart))
        ∙ ap (λ (l : List Y). l ++ filter (is_new text_of xs) (y ∷ [])) (sym (filter_map-append (made (y ∷ [])) (filter_map (made ys) xs) news))
        ∙ ap (λ b. filter_map (made (y ∷ [])) (joined_by text_of join xs ys) ++ cond b (y ∷ []) []) (sym new_is)
      where
        news : List Y
        news = filter (is_new text_of xs) ys

        apart : Others text_of (text_of y) news
        apart = All-filter (is_new text_of xs) (λ z. text_of z ≢ text_of y) ys other

        or_none : (o : Option Y) → is_none (option_or o None) ≡ is_none o
        or_none None = refl
        or_none (Some z) = refl

        new_is : is_new text_of (joined_by text_of join xs ys) y ≡ is_new text_of xs y
        new_is =
            ap is_none (find-append (λ z. pointwise nat_eq (text_of z) (text_of y)) (filter_map (made ys) xs) news)
            ∙ ap (λ (o : Option Y). is_none (option_or (with_text text_of (filter_map (made ys) xs) (text_of y)) o)) (with_text-none text_of news (text_of y) apart)
            ∙ or_none (with_text text_of (filter_map (made ys) xs) (text_of y))
            ∙ as_new xs keeps

  -- a join with no things
  pub joined-none : (xs : List Y) → joined_by text_of join xs [] ≡ xs
  joined-none xs = append-nil (filter_map (made []) xs) ∙ all xs
    where
      all : (ys : List Y) → filter_map (made []) ys ≡ ys
      all [] = refl
      all (y ∷ ys) = ap (λ o. cons_option o (filter_map (made []) ys)) (alone y) ∙ ap (λ (l : List Y). y ∷ l) (all ys)
