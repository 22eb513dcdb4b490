-- Lemmas on what is said of the columns that have a value.
use Rattle.std.proofs.Common.{◌≡◌, ℕ, ◌+◌, Bool, true, false, List, [], ◌∷◌, ◌++◌, length, codes, refl, sym, ap, ◌∙◌, append-nil, add-zero, arith}
use Rattle.std.specs.List.{list_any}
use Rattle.cs_value.specs.declared.value.OwnedValue.{OwnedValue}
use Rattle.cs_value.specs.declared.value.OwnedField.{OwnedField}
use Rattle.cs_value.specs.declared.value.OwnedField.TheVariants.{Undefined, Defined}
use Rattle.cs_file_texts.specs.Texts.{separated, by_index, assignment, assignments}
use Rattle.cs_file_texts.specs.Pieces.{is_defined, terms_text}
use Rattle.cs_file_texts.specs.declared.texts.sql.Terms.TheVariants.{Assignments}
use Rattle.cs_file_texts.proofs.SeparatedLemmas.{lead_of, behind, separated-at, separated-more, lead_of-more}

-- what is made of fields, and of the later ones
by_index-append : (f : ℕ → OwnedValue → List ℕ) (p : ℕ) (xs ys : List OwnedField) → by_index f p (xs ++ ys) ≡ by_index f p xs ++ by_index f (p + length xs) ys
by_index-append f p [] ys = ap (λ n. by_index f n ys) (sym (add-zero p))
by_index-append f p (Undefined ∷ xs) ys =
    by_index-append f (p + 1) xs ys ∙ ap (λ n. by_index f (p + 1) xs ++ by_index f n ys) (let h : (p + 1) + length xs ≡ p + length (Undefined ∷ xs) = omega arith in h)
by_index-append f p (Defined v ∷ xs) ys =
    ap (λ l. f p v ∷ l) (by_index-append f (p + 1) xs ys ∙ ap (λ n. by_index f (p + 1) xs ++ by_index f n ys) (let h : (p + 1) + length xs ≡ p + length (Defined v ∷ xs) = omega arith in h))

-- the same from the first column on
by_index-at : (f : ℕ → OwnedValue → List ℕ) (i : ℕ) (xs ys : List OwnedField) → length xs ≡ i → by_index f 0 (xs ++ ys) ≡ by_index f 0 xs ++ by_index f i ys
by_index-at f i xs ys is = by_index-append f 0 xs ys ∙ ap (λ n. by_index f 0 xs ++ by_index f n ys) (let h : 0 + length xs ≡ i = omega arith in h)

-- the fields before the one in this column
module _ (f : ℕ → OwnedValue → List ℕ) (between : List ℕ) (before : List OwnedField) (i : ℕ) (counted : length before ≡ i) where
  -- a column without a value adds nothing
  by_place_undefined : by_index f 0 (before ++ Undefined ∷ []) ≡ by_index f 0 before
  by_place_undefined = by_index-at f i before (Undefined ∷ []) counted ∙ append-nil (by_index f 0 before)

  pub terms_undefined : (field : OwnedField) → field ≡ Undefined → separated between (by_index f 0 (before ++ field ∷ [])) ≡ separated between (by_index f 0 before)
  terms_undefined field is = ap (λ d. separated between (by_index f 0 (before ++ d ∷ []))) is ∙ ap (separated between) by_place_undefined

  pub lead_undefined : (field : OwnedField) (lead : List ℕ) → field ≡ Undefined → lead ≡ lead_of between (by_index f 0 before) → lead ≡ lead_of between (by_index f 0 (before ++ field ∷ []))
  lead_undefined field lead is leads = leads ∙ ap (lead_of between) (sym by_place_undefined) ∙ ap (λ d. lead_of between (by_index f 0 (before ++ d ∷ []))) (sym is)

  -- one with a value adds what is said of it
  module _ (field : OwnedField) (v : OwnedValue) (is : field ≡ Defined v) where
    by_place_defined : by_index f 0 (before ++ field ∷ []) ≡ by_index f 0 before ++ f i v ∷ []
    by_place_defined = ap (λ d. by_index f 0 (before ++ d ∷ [])) is ∙ by_index-at f i before (Defined v ∷ []) counted

    -- the text with it, and with all that follows
    pub terms_push : (lead : List ℕ) → lead ≡ lead_of between (by_index f 0 before)
        → separated between (by_index f 0 (before ++ field ∷ [])) ≡ separated between (by_index f 0 before) ++ (lead ++ f i v)
    terms_push lead leads =
        let texts = by_index f 0 before in
        ap (separated between) by_place_defined ∙ separated-more between texts (f i v) ∙ ap (λ l. separated between texts ++ (l ++ f i v)) (sym leads)

    pub terms_around : (lead : List ℕ) (all left after : List OwnedField) → all ≡ before ++ left → left ≡ field ∷ after → lead ≡ lead_of between (by_index f 0 before)
        → separated between (by_index f 0 all) ≡ separated between (by_index f 0 before) ++ ((lead ++ f i v) ++ behind between (by_index f (i + 1) after))
    terms_around lead all left after whole next leads =
        let texts = by_index f 0 before in
        let rest = by_index f (i + 1) after in
        ap (λ l. separated between (by_index f 0 l)) (whole ∙ ap (λ l. before ++ l) (next ∙ ap (λ d. d ∷ after) is))
        ∙ ap (separated between) (by_index-at f i before (Defined v ∷ after) counted) ∙ separated-at between texts (f i v) rest
        ∙ ap (λ l. separated between texts ++ ((l ++ f i v) ++ behind between rest)) (sym leads)

    pub lead_defined : between ≡ lead_of between (by_index f 0 (before ++ field ∷ []))
    lead_defined = sym (ap (lead_of between) by_place_defined ∙ lead_of-more between (by_index f 0 before) (f i v))

-- whether there is a value, with one more field
pub some_undefined : (before : List OwnedField) (field : OwnedField) → field ≡ Undefined → list_any is_defined (before ++ field ∷ []) ≡ list_any is_defined before
some_undefined [] field is = ap (λ d. list_any is_defined (d ∷ [])) is
some_undefined (Undefined ∷ before) field is = some_undefined before field is
some_undefined (Defined v ∷ before) field is = refl

pub some_defined : (before : List OwnedField) (field : OwnedField) (v : OwnedValue) → field ≡ Defined v → list_any is_defined (before ++ field ∷ []) ≡ true
some_defined [] field v is = ap (λ d. list_any is_defined (d ∷ [])) is
some_defined (Undefined ∷ before) field v is = some_defined before field v is
some_defined (Defined w ∷ before) field v is = refl

-- where no field has a value, nothing is said of it
by_place_none : (f : ℕ → OwnedValue → List ℕ) (p : ℕ) (fields : List OwnedField) → list_any is_defined fields ≡ false → by_index f p fields ≡ []
by_place_none f p [] none = refl
by_place_none f p (Undefined ∷ fields) none = by_place_none f (p + 1) fields none
by_place_none f p (Defined v ∷ fields) none = cc

-- where some field has one, something is
by_place_some : (f : ℕ → OwnedValue → List ℕ) (p : ℕ) (fields : List OwnedField) → list_any is_defined fields ≡ true
    → (one : List ℕ) × (others : List (List ℕ)) × (by_index f p fields ≡ one ∷ others)
by_place_some f p [] some = cc
by_place_some f p (Undefined ∷ fields) some = by_place_some f (p + 1) fields some
by_place_some f p (Defined v ∷ fields) some = (f p v, by_index f (p + 1) fields, refl)

-- where some column is modified, the modified ones
pub assignments_some : (old new : List OwnedField) → list_any is_defined new ≡ true → assignments old (by_index assignment 0 new) ≡ terms_text Assignments new
assignments_some old new some =
    let parts = by_place_some assignment 0 new some in
    ap (assignments old) parts.2 ∙ ap (separated (codes ", ")) (sym parts.2)

-- if there is none, those of the key, after nothing
pub assignments_none : (old new : List OwnedField) → list_any is_defined new ≡ false
    → assignments old (by_index assignment 0 new) ≡ terms_text Assignments new ++ terms_text Assignments old
unfolding separated
assignments_none old new none =
    let nothing = by_place_none assignment 0 new none in
    ap (assignments old) nothing ∙ ap (λ l. separated (codes ", ") l ++ terms_text Assignments old) (sym nothing)

-- the new columns first
pub assignments_begin : (old new : List OwnedField) → (rest : List ℕ) × (assignments old (by_index assignment 0 new) ≡ terms_text Assignments new ++ rest)
assignments_begin old new = by (list_any is_defined new) refl where
  by : (b : Bool) → list_any is_defined new ≡ b → (rest : List ℕ) × (assignments old (by_index assignment 0 new) ≡ terms_text Assignments new ++ rest)
  by true some = ([], assignments_some old new some ∙ sym (append-nil (terms_text Assignments new)))
  by false none = (terms_text Assignments old, assignments_none old new none)
