-- Images that are made column by column.
use Rattle.std.proofs.Common.{◌≡◌, ℕ, zero, suc, ◌+◌, ◌<◌, ℤ, true, true≢false, List, [], ◌∷◌, ◌++◌, length, map, take, get_or, refl, sym, ap, ◌∙◌, arith}
use Rattle.std.specs.List.{AllByRecursion, cons_option}
use Rattle.std.specs.Cmp.Lexicographic.{pointwise, same_text, nat_list_eq_equiv}
use Rattle.std.proofs.lemmas.Cmp.{int_eq_equiv}
use Rattle.std.proofs.lemmas.Bool.Decides.{Decides-int_eq}
use Rattle.std.proofs.lemmas.List.Elements.{filter_map-append}
use Rattle.std.proofs.lemmas.List.{append-nil, map-append, map_more, take-map, get_or-map, length-map, get_or_default}
use Rattle.cs_value.specs.declared.value.Field.{Field}
use Rattle.cs_value.specs.declared.value.Field.TheVariants.{Undefined as nothing, Defined as Held}
use Rattle.cs_value.specs.declared.value.Value.{Value}
use Rattle.cs_value.specs.declared.value.Value.TheVariants as value
use Rattle.cs_value.specs.contracts.value.FieldPartialEq.TheImpl as borrowed_eq
use Rattle.cs_value.specs.declared.value.OwnedValue.{OwnedValue}
use Rattle.cs_value.specs.declared.value.OwnedValue.TheVariants.{Int, Text, Blob, Null}
use Rattle.cs_value.specs.declared.value.OwnedField.{OwnedField}
use Rattle.cs_value.specs.declared.value.OwnedField.TheVariants.{Undefined, Defined}
use Rattle.cs_value.specs.Value.{value_of, field_of, FieldFits}
use Rattle.cs_value.proofs.ListLemmas.{AllByRecursion-push}
use Rattle.cs_wire.specs.Entry.{with_key}
use Rattle.cs_group.specs.Views.{IsImage}
use Rattle.cs_group.specs.Net.{is_same, by_flag, by_column, defined, values_of}
use Rattle.cs_group.specs.Joining.{over, laid_over}

by_column_next : (f : ℕ → OwnedField → OwnedField → OwnedField) (flags : List ℕ) (xs ys : List OwnedField) (i : ℕ)
    → i < length flags → i < length xs → i < length ys
    → by_column f (take (suc i) flags) (take (suc i) xs) (take (suc i) ys)
    ≡ by_column f (take i flags) (take i xs) (take i ys) ++ f (get_or flags i 0) (get_or xs i Undefined) (get_or ys i Undefined) ∷ []
by_column_next f [] xs ys i l m n = absurd (omega arith)
by_column_next f (flag ∷ flags) [] ys i l m n = absurd (omega arith)
by_column_next f (flag ∷ flags) (x ∷ xs) [] i l m n = absurd (omega arith)
by_column_next f (flag ∷ flags) (x ∷ xs) (y ∷ ys) zero l m n = refl
by_column_next f (flag ∷ flags) (x ∷ xs) (y ∷ ys) (suc i) l m n =
    ap (λ (fields : List OwnedField). f flag x y ∷ fields) (by_column_next f flags xs ys i (omega arith) (omega arith) (omega arith))

pub with_key-by_column : (flags : List ℕ) (old new : List OwnedField) → with_key flags old new ≡ by_column (λ flag o n. by_flag flag n o) flags old new
with_key-by_column [] old new = refl
with_key-by_column (flag ∷ flags) [] new = refl
with_key-by_column (flag ∷ flags) (o ∷ old) [] = refl
with_key-by_column (zero ∷ flags) (o ∷ old) (n ∷ new) = ap (λ (fields : List OwnedField). n ∷ fields) (with_key-by_column flags old new)
with_key-by_column (suc flag ∷ flags) (o ∷ old) (n ∷ new) = ap (λ (fields : List OwnedField). o ∷ fields) (with_key-by_column flags old new)

laid_over_next : (xs ys : List Field) (i : ℕ) → i < length xs → i < length ys
    → laid_over (map field_of (take (suc i) xs)) (map field_of (take (suc i) ys))
    ≡ laid_over (map field_of (take i xs)) (map field_of (take i ys)) ++ over (field_of (get_or xs i nothing)) (field_of (get_or ys i nothing)) ∷ []
laid_over_next [] ys i l m = absurd (omega arith)
laid_over_next (x ∷ xs) [] i l m = absurd (omega arith)
laid_over_next (x ∷ xs) (y ∷ ys) zero l m = refl
laid_over_next (x ∷ xs) (y ∷ ys) (suc i) l m =
    ap (λ (fields : List OwnedField). over (field_of x) (field_of y) ∷ fields) (laid_over_next xs ys i (omega arith) (omega arith))

-- one more column
one_more : (i : ℕ) → suc i ≡ i + 1
one_more i = omega arith

pub by_column_more : (f : ℕ → OwnedField → OwnedField → OwnedField) (flags : List ℕ) (xs ys : List OwnedField) (i : ℕ)
    → i < length flags → i < length xs → i < length ys
    → by_column f (take (i + 1) flags) (take (i + 1) xs) (take (i + 1) ys)
    ≡ by_column f (take i flags) (take i xs) (take i ys) ++ f (get_or flags i 0) (get_or xs i Undefined) (get_or ys i Undefined) ∷ []
by_column_more f flags xs ys i l m n = rw (← one_more i) (by_column_next f flags xs ys i l m n)

pub by_column_fields : (f : ℕ → OwnedField → OwnedField → OwnedField) (flags : List ℕ) (xs ys : List Field) (i : ℕ)
    → i < length flags → i < length xs → i < length ys
    → by_column f (take i flags) (map field_of (take i xs)) (map field_of (take i ys)) ++ f (get_or flags i 0) (field_of (get_or xs i nothing)) (field_of (get_or ys i nothing)) ∷ []
    ≡ by_column f (take (i + 1) flags) (map field_of (take (i + 1) xs)) (map field_of (take (i + 1) ys))
by_column_fields f flags xs ys i l m n =
    let more = by_column_more f flags (map field_of xs) (map field_of ys) i l (omega (arith, length-map xs field_of)) (omega (arith, length-map ys field_of)) in
    cc (more, take-map field_of i xs, take-map field_of i ys, take-map field_of (i + 1) xs, take-map field_of (i + 1) ys, get_or-map field_of xs i nothing Undefined m, get_or-map field_of ys i nothing Undefined n)

pub laid_over_more : (xs ys : List Field) (i : ℕ) → i < length xs → i < length ys
    → laid_over (map field_of (take (i + 1) xs)) (map field_of (take (i + 1) ys))
    ≡ laid_over (map field_of (take i xs)) (map field_of (take i ys)) ++ over (field_of (get_or xs i nothing)) (field_of (get_or ys i nothing)) ∷ []
laid_over_more xs ys i l m = rw (← one_more i) (laid_over_next xs ys i l m)

pub with_key_more : (flags : List ℕ) (old new : List OwnedField) (i : ℕ) (o n : OwnedField) → i < length flags → i < length old → i < length new
    → o ≡ get_or old i o → n ≡ get_or new i n
    → with_key (take i flags) (take i old) (take i new) ++ by_flag (get_or flags i 0) n o ∷ [] ≡ with_key (take (i + 1) flags) (take (i + 1) old) (take (i + 1) new)
with_key_more flags old new i o n l m k o_is n_is =
    let f : ℕ → OwnedField → OwnedField → OwnedField = λ flag o n. by_flag flag n o in
    let pick = by_flag (get_or flags i 0) in
    let one : pick n o ≡ pick (get_or new i Undefined) (get_or old i Undefined) = cc (o_is, n_is, get_or_default old i o Undefined m, get_or_default new i n Undefined k) in
    cc (one, with_key-by_column (take (i + 1) flags) (take (i + 1) old) (take (i + 1) new), by_column_more f flags old new i l m k, with_key-by_column (take i flags) (take i old) (take i new))

-- one more borrowed field
pub pushed : (items new : List Field) (x : Field) (fields : List OwnedField) (f : OwnedField) → new ≡ items ++ x ∷ []
    → map field_of items ≡ fields → field_of x ≡ f → AllByRecursion FieldFits items → FieldFits x
    → (map field_of new ≡ fields ++ f ∷ []) × AllByRecursion FieldFits new
pushed items new x fields f grown is one fit fits =
    rw grown (map-append field_of items (x ∷ []) ∙ cc (is, one), AllByRecursion-push FieldFits items x fit fits)

-- ---- equal fields

-- fields that are found equal are one
pub same_values : (v w : OwnedValue) → is_same (Defined v) (Defined w) ≡ true → v ≡ w
same_values (Int z) (Int w) e = ap (λ (i : ℤ). Int i) ((Decides-int_eq z w).0 e)
same_values (Text s) (Text t) e = ap (λ (b : List ℕ). Text b) (same_text s t (sym e))
same_values (Blob s) (Blob t) e = ap (λ (b : List ℕ). Blob b) (same_text s t (sym e))
same_values Null Null e = refl
same_values (Int z) (Text t) e = absurd (true≢false (sym e))
same_values (Int z) (Blob t) e = absurd (true≢false (sym e))
same_values (Int z) Null e = absurd (true≢false (sym e))
same_values (Text s) (Int w) e = absurd (true≢false (sym e))
same_values (Text s) (Blob t) e = absurd (true≢false (sym e))
same_values (Text s) Null e = absurd (true≢false (sym e))
same_values (Blob s) (Int w) e = absurd (true≢false (sym e))
same_values (Blob s) (Text t) e = absurd (true≢false (sym e))
same_values (Blob s) Null e = absurd (true≢false (sym e))
same_values Null (Int w) e = absurd (true≢false (sym e))
same_values Null (Text t) e = absurd (true≢false (sym e))
same_values Null (Blob t) e = absurd (true≢false (sym e))

pub same_fields : (f g : OwnedField) → is_same f g ≡ true → f ≡ g
same_fields Undefined Undefined e = refl
same_fields Undefined (Defined w) e = absurd (true≢false (sym e))
same_fields (Defined v) Undefined e = absurd (true≢false (sym e))
same_fields (Defined v) (Defined w) e = ap (λ (x : OwnedValue). Defined x) (same_values v w e)

-- and each is found equal to itself
pub same_itself : (f : OwnedField) → is_same f f ≡ true
same_itself Undefined = refl
same_itself (Defined (Int z)) = int_eq_equiv.refl z
same_itself (Defined (Text t)) = nat_list_eq_equiv.refl t
same_itself (Defined (Blob b)) = nat_list_eq_equiv.refl b
same_itself (Defined Null) = refl

-- ---- equal images

same_value : (v w : Value) → (borrowed_eq.ghosts).eq (Held v) (Held w) ≡ is_same (field_of (Held v)) (field_of (Held w))
same_value (value.Int v) (value.Int w) = refl
same_value (value.Int v) (value.Text w) = refl
same_value (value.Int v) (value.Blob w) = refl
same_value (value.Int v) value.Null = refl
same_value (value.Text v) (value.Int w) = refl
same_value (value.Text v) (value.Text w) = refl
same_value (value.Text v) (value.Blob w) = refl
same_value (value.Text v) value.Null = refl
same_value (value.Blob v) (value.Int w) = refl
same_value (value.Blob v) (value.Text w) = refl
same_value (value.Blob v) (value.Blob w) = refl
same_value (value.Blob v) value.Null = refl
same_value value.Null (value.Int w) = refl
same_value value.Null (value.Text w) = refl
same_value value.Null (value.Blob w) = refl
same_value value.Null value.Null = refl

same_field : (f g : Field) → (borrowed_eq.ghosts).eq f g ≡ is_same (field_of f) (field_of g)
same_field nothing nothing = refl
same_field nothing (Held w) = refl
same_field (Held v) nothing = refl
same_field (Held v) (Held w) = same_value v w

pub same_images : (xs ys : List Field) → pointwise (borrowed_eq.ghosts).eq xs ys ≡ pointwise is_same (map field_of xs) (map field_of ys)
same_images [] [] = refl
same_images [] (y ∷ ys) = refl
same_images (x ∷ xs) [] = refl
same_images (x ∷ xs) (y ∷ ys) = cc (same_field x y, same_images xs ys)

-- ---- values

values_more : (xs : List Field) (i : ℕ) → i < length xs
    → values_of (map field_of (take (i + 1) xs)) ≡ values_of (map field_of (take i xs)) ++ cons_option (defined (field_of (get_or xs i nothing))) []
values_more xs i lt = ap values_of (map_more field_of xs i nothing lt) ∙ filter_map-append defined (map field_of (take i xs)) (field_of (get_or xs i nothing) ∷ [])

module _ (xs : List Field) (i : ℕ) (values : List OwnedValue) (lt : i < length xs) (so : values ≡ values_of (map field_of (take i xs))) where
  pub values_kept : get_or xs i nothing ≡ nothing → values ≡ values_of (map field_of (take (i + 1) xs))
  values_kept is = so ∙ sym (append-nil (values_of (map field_of (take i xs)))) ∙ sym (rw is at (values_more xs i lt))

  pub values_grown : (new : List OwnedValue) (v : Value) (owned : OwnedValue) → get_or xs i nothing ≡ Held v → owned ≡ value_of v → new ≡ values ++ owned ∷ []
      → new ≡ values_of (map field_of (take (i + 1) xs))
  values_grown new v owned is same grown =
      let more : values_of (map field_of (take (i + 1) xs)) ≡ values_of (map field_of (take i xs)) ++ value_of v ∷ [] = rw is at (values_more xs i lt) in
      cc (grown, so, same, more)

-- ---- widths

length-laid_over : (xs ys : List OwnedField) → length xs ≡ length ys → length (laid_over xs ys) ≡ length xs
length-laid_over [] ys e = refl
length-laid_over (x ∷ xs) [] e = absurd (omega arith)
length-laid_over (x ∷ xs) (y ∷ ys) e = ap suc (length-laid_over xs ys (omega arith))

pub length-laid_fields : (fields upper lower : List Field) → map field_of fields ≡ laid_over (map field_of upper) (map field_of lower) → length upper ≡ length lower → length fields ≡ length upper
length-laid_fields fields upper lower same width =
    let uppers = length-map upper field_of in
    let lowers = length-map lower field_of in
    omega (arith, length-map fields field_of, ap length same, length-laid_over (map field_of upper) (map field_of lower) (omega arith), uppers)

pub length-with_key : (flags : List ℕ) (old new : List OwnedField) → length flags ≡ length old → length flags ≡ length new → length (with_key flags old new) ≡ length flags
length-with_key [] old new p q = refl
length-with_key (flag ∷ flags) [] new p q = absurd (omega arith)
length-with_key (flag ∷ flags) (o ∷ old) [] p q = absurd (omega arith)
length-with_key (zero ∷ flags) (o ∷ old) (n ∷ new) p q = ap suc (length-with_key flags old new (omega arith) (omega arith))
length-with_key (suc flag ∷ flags) (o ∷ old) (n ∷ new) p q = ap suc (length-with_key flags old new (omega arith) (omega arith))

-- fields that show an image of this width
pub IsImage-shown : (flags : List ℕ) (fields : List Field) (image : List OwnedField) → map field_of fields ≡ image → length image ≡ length flags → AllByRecursion FieldFits fields → IsImage flags fields
IsImage-shown flags fields image same width short = record {
  width = omega (arith, length-map fields field_of, ap length same, width);
  short = short;
}
