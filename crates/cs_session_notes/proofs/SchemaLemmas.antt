-- Whether two schemas are the same, as the code finds it.
use Rattle.std.proofs.Common.{bytes_eq, ◌≡◌, ℕ, Bool, true, false, true≢false, List, [], ◌∷◌, map, IsTrue, ◌↔◌, refl, sym, ap, ◌∙◌}
use Rattle.std.proofs.Math.Bool.{beq}
use Rattle.std.specs.Prelude.{String, string_bytes}
use Rattle.std.specs.declared.alloc.Global.{Global}
use Rattle.std.specs.String.{string_eq}
use Rattle.std.specs.Cmp.Lexicographic.{pointwise, nat_list_eq_equiv, same_text}
use Rattle.std.proofs.lemmas.Bool.{and_parts}
use Rattle.cs_value.specs.State.{SchemaData}

-- texts in turn
same_texts : (xs ys : List (String Global)) → pointwise string_eq xs ys ≡ true → map string_bytes xs ≡ map string_bytes ys
same_texts [] [] e = refl
same_texts [] (y ∷ ys) e = absurd (true≢false (sym e))
same_texts (x ∷ xs) [] e = absurd (true≢false (sym e))
same_texts (x ∷ xs) (y ∷ ys) e =
    let both = and_parts (string_eq x y) (pointwise string_eq xs ys) e in
    cc (same_text (string_bytes x) (string_bytes y) (sym both.0), same_texts xs ys both.1)

texts_same : (xs ys : List (String Global)) → map string_bytes xs ≡ map string_bytes ys → pointwise string_eq xs ys ≡ true
texts_same [] [] e = refl
texts_same [] (y ∷ ys) e = absurd (let apart : [] ≡ string_bytes y ∷ map string_bytes ys = e in cc)
texts_same (x ∷ xs) [] e = absurd (let apart : string_bytes x ∷ map string_bytes xs ≡ [] = e in cc)
texts_same (x ∷ xs) (y ∷ ys) e =
    let first : string_bytes x ≡ string_bytes y = cc e in
    let others : map string_bytes xs ≡ map string_bytes ys = cc e in
    let here : bytes_eq (string_bytes x) (string_bytes y) ≡ true = ap (bytes_eq (string_bytes x)) (sym first) ∙ nat_list_eq_equiv.refl (string_bytes x) in
    rw (here) (texts_same xs ys others)

-- marks in turn
same_mark : (a b : Bool) → beq a b ≡ true → a ≡ b
same_mark true true e = refl
same_mark false false e = refl
same_mark true false e = absurd (true≢false (sym e))
same_mark false true e = absurd (true≢false (sym e))

mark_itself : (a : Bool) → beq a a ≡ true
mark_itself true = refl
mark_itself false = refl

same_marks : (xs ys : List Bool) → pointwise beq xs ys ≡ true → xs ≡ ys
same_marks [] [] e = refl
same_marks [] (y ∷ ys) e = absurd (true≢false (sym e))
same_marks (x ∷ xs) [] e = absurd (true≢false (sym e))
same_marks (x ∷ xs) (y ∷ ys) e =
    let both = and_parts (beq x y) (pointwise beq xs ys) e in
    let first = same_mark x y both.0 in
    let others = same_marks xs ys both.1 in
    cc (first, others)

marks_itself : (xs : List Bool) → pointwise beq xs xs ≡ true
marks_itself [] = refl
marks_itself (x ∷ xs) = rw (mark_itself x) (marks_itself xs)

-- the answer so far: the names and the flags are the same
abbrev pub AreColumns : SchemaData → SchemaData → Bool → Type 0
AreColumns s t found = IsTrue found ↔ ((s.columns ≡ t.columns) × (s.flags ≡ t.flags))

module _ (s t : SchemaData) (names others : List (String Global)) (of_s : map string_bytes names ≡ s.columns) (of_t : map string_bytes others ≡ t.columns) where
  -- with one name in each column, and one flag
  pub same_columns : (flags flags' : List ℕ) → flags ≡ s.flags → flags' ≡ t.flags → pointwise string_eq names others ≡ true → (found : Bool) → found ≡ bytes_eq flags flags'
      → AreColumns s t found
  same_columns flags flags' is_s is_t same found is = rw is (
    λ e. (sym of_s ∙ same_texts names others same ∙ of_t, sym is_s ∙ same_text flags flags' (sym e) ∙ is_t),
    λ e. ap (bytes_eq flags) (is_t ∙ sym e.1 ∙ sym is_s) ∙ nat_list_eq_equiv.refl flags,
  )

  pub other_columns : pointwise string_eq names others ≡ false → (found : Bool) → found ≡ false → AreColumns s t found
  other_columns other found is = (
    λ e. absurd (true≢false (sym e ∙ is)),
    λ e. absurd (true≢false (sym (texts_same names others (of_s ∙ e.0 ∙ sym of_t)) ∙ other)),
  )

module _ (s t : SchemaData) (found : Bool) (so : AreColumns s t found) where
  -- and one mark
  pub same_schema : found ≡ true → (rules rules' : List Bool) → rules ≡ s.refuses → rules' ≡ t.refuses → IsTrue (pointwise beq rules rules') ↔ (s ≡ t)
  same_schema is rules rules' is_s is_t = (
    λ e.
        let columns = (so.0 is).0 in
        let flags = (so.0 is).1 in
        let same = sym is_s ∙ same_marks rules rules' e ∙ is_t in
        λ i. record { columns = columns i; flags = flags i; refuses = same i },
    λ e. ap (pointwise beq rules) (is_t ∙ sym (ap (λ (r : SchemaData). r.refuses) e) ∙ sym is_s) ∙ marks_itself rules,
  )

  pub other_schema : found ≡ false → IsTrue found ↔ (s ≡ t)
  other_schema is = (
    λ e. absurd (true≢false (sym e ∙ is)),
    λ e. so.1 (ap (λ (r : SchemaData). r.columns) e, ap (λ (r : SchemaData). r.flags) e),
  )
