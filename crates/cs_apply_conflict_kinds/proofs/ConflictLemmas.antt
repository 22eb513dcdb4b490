-- What rows, and the images of them that entries have, say of one another.
use Rattle.std.proofs.Common.{◌≡◌, ◌≢◌, ℕ, zero, suc, ◌<◌, ◌≤◌, ◌++◌, take, drop, get_or, Bool, true, false, true≢false, ◌&&◌, if◌then◌else◌, List, [], ◌∷◌, length, map, Option, Some, None, option_map, refl, sym, ap, ◌∙◌, arith}
use Rattle.std.specs.Prelude.{unwrap_or, option_to_list, IfSome}
use Rattle.std.specs.Option.{MatchOption}
use Rattle.std.specs.List.{HoldsAt}
use Rattle.std.specs.Borrow.{Bor}
use Rattle.std.specs.Cmp.Lexicographic.{pointwise}
use Rattle.std.proofs.lemmas.Bool.{and_parts}
use Rattle.std.proofs.lemmas.Option.{none-some}
use Rattle.cs_value.specs.declared.value.OwnedValue.{OwnedValue}
use Rattle.cs_value.specs.declared.value.OwnedField.{OwnedField}
use Rattle.cs_value.specs.declared.value.OwnedField.TheVariants.{Undefined, Defined}
use Rattle.cs_value.specs.declared.value.Field.{Field}
use Rattle.cs_value.specs.declared.value.Field.TheVariants as borrowed
use Rattle.cs_value.specs.Value.{value_of, field_of}
use Rattle.cs_value.specs.contracts.value.OwnedValuePartialEq.TheImpl as value_eq
use Rattle.cs_wire_entries.specs.declared.entry.Change.{Change}
use Rattle.cs_wire_entries.specs.declared.entry.Change.TheVariants.{Insert, Delete, Update}
use Rattle.cs_wire.specs.Entry.{IsKeyedUpdate, IsChange, with_key, before_image, after_image, key_of}
use Rattle.cs_value.specs.Spelling.{value_bytes, field_bytes}
use Rattle.cs_value.specs.Table.{IsKeyedRow}
use Rattle.cs_value.specs.Key.{row_key, image_key}
use Rattle.cs_apply_conflict_kinds.specs.declared.conflict.Kind.{Kind}
use Rattle.cs_apply_conflict_kinds.specs.declared.conflict.Kind.TheVariants.{Data, NotFound, Conflict, Constraint}
use Rattle.cs_group.specs.Net.{is_same}
use Rattle.cs_group.proofs.ImageLemmas.{same_values, same_itself}
use Rattle.cs_apply_conflict_kinds.specs.Conflicts.{has_values, value_in, filled, kind_between, or_constraint, row_after}

-- ---- an image of a row

-- a row says all of itself
pub filled_row : (new row : List OwnedValue) → filled (map Defined new) row ≡ new
filled_row [] row = refl
filled_row (value ∷ new) [] = ap (λ (l : List OwnedValue). value ∷ l) (filled_row new [])
filled_row (value ∷ new) (v ∷ row) = ap (λ (l : List OwnedValue). value ∷ l) (filled_row new row)

-- the value of a column, if there is such a column
abbrev pub Stands : List OwnedValue → ℕ → Option OwnedValue → Type 0
Stands row i None = length row ≤ i
Stands row i (Some v) = (i < length row) × (v ≡ get_or row i v)

pub stands : (o : Option (Bor OwnedValue)) (row : List OwnedValue) (i : ℕ) → MatchOption o (length row ≤ i) (λ x. (i < length row) × HoldsAt (λ y. x.now ≡ y) row i)
    → Stands row i (option_map (λ v. v.now) o)
stands None row i at = at
stands (Some x) row i at = (at.0, at.1 x.now)

-- one more column
pub filled_more : (image : List Field) (row : List OwnedValue) (i : ℕ) (stood : Option OwnedValue) → i < length image → Stands row i stood
    → filled (take (suc i) (map field_of image)) row ≡ filled (take i (map field_of image)) row ++ option_to_list (value_in (field_of (get_or image i borrowed.Undefined)) stood)
filled_more [] row i stood lt at = absurd (omega arith)
filled_more (borrowed.Undefined ∷ image) [] zero None lt at = refl
filled_more (borrowed.Undefined ∷ image) [] zero (Some v) lt at = absurd (omega (arith, at.0))
filled_more (borrowed.Undefined ∷ image) (value ∷ row) zero None lt at = absurd (omega (arith, at))
filled_more (borrowed.Undefined ∷ image) (value ∷ row) zero (Some v) lt at = let same = at.1 in cc
filled_more (borrowed.Defined v ∷ image) [] zero stood lt at = refl
filled_more (borrowed.Defined v ∷ image) (value ∷ row) zero stood lt at = refl
filled_more (borrowed.Undefined ∷ image) [] (suc i) None lt at = filled_more image [] i None (omega arith) (omega arith)
filled_more (borrowed.Undefined ∷ image) [] (suc i) (Some v) lt at = absurd (omega (arith, at.0))
filled_more (borrowed.Undefined ∷ image) (value ∷ row) (suc i) None lt at = ap (λ (l : List OwnedValue). value ∷ l) (filled_more image row i None (omega arith) (omega (arith, at)))
filled_more (borrowed.Undefined ∷ image) (value ∷ row) (suc i) (Some v) lt at = ap (λ (l : List OwnedValue). value ∷ l) (filled_more image row i (Some v) (omega arith) (omega (arith, at.0), at.1))
filled_more (borrowed.Defined v ∷ image) [] (suc i) None lt at = ap (λ (l : List OwnedValue). value_of v ∷ l) (filled_more image [] i None (omega arith) (omega arith))
filled_more (borrowed.Defined v ∷ image) [] (suc i) (Some w) lt at = absurd (omega (arith, at.0))
filled_more (borrowed.Defined v ∷ image) (value ∷ row) (suc i) None lt at = ap (λ (l : List OwnedValue). value_of v ∷ l) (filled_more image row i None (omega arith) (omega (arith, at)))
filled_more (borrowed.Defined v ∷ image) (value ∷ row) (suc i) (Some w) lt at = ap (λ (l : List OwnedValue). value_of v ∷ l) (filled_more image row i (Some w) (omega arith) (omega (arith, at.0), at.1))

pub and_false : (b : Bool) → (b && false) ≡ false
and_false true = refl
and_false false = refl

-- records of different widths do not agree
pub other_width : (row : List OwnedValue) (image : List OwnedField) → length row ≢ length image → has_values row image ≡ false
other_width [] [] apart = absurd (apart refl)
other_width [] (field ∷ image) apart = refl
other_width (value ∷ row) [] apart = refl
other_width (value ∷ row) (Undefined ∷ image) apart = other_width row image (λ e. apart (ap suc e))
other_width (value ∷ row) (Defined v ∷ image) apart = rw (other_width row image (λ e. apart (ap suc e))) (and_false (is_same (Defined v) (Defined value)))

-- and those that agree are as wide
pub same_width : (row : List OwnedValue) (image : List OwnedField) → has_values row image ≡ true → length row ≡ length image
same_width [] [] e = refl
same_width [] (field ∷ image) e = absurd (true≢false (sym e))
same_width (value ∷ row) [] e = absurd (true≢false (sym e))
same_width (value ∷ row) (Undefined ∷ image) e = ap suc (same_width row image e)
same_width (value ∷ row) (Defined v ∷ image) e = ap suc (same_width row image (and_parts (is_same (Defined v) (Defined value)) (has_values row image) e).1)

and_true : (b c : Bool) → (b && c) ≡ ((b && true) && c)
and_true true c = refl
and_true false c = refl

-- column by column
pub has_values_next : (row : List OwnedValue) (image : List OwnedField) (i : ℕ) (v : OwnedValue) (f : OwnedField) → i < length row → i < length image → v ≡ get_or row i v → f ≡ get_or image i f
    → has_values (drop i row) (drop i image) ≡ (has_values (v ∷ []) (f ∷ []) && has_values (drop (suc i) row) (drop (suc i) image))
has_values_next [] image i v f lt m p q = absurd (omega arith)
has_values_next (value ∷ row) [] i v f lt m p q = absurd (omega arith)
has_values_next (value ∷ row) (field ∷ image) zero v f lt m p q =
    first field
    ∙ ap (λ (w : OwnedValue). has_values (w ∷ []) (field ∷ []) && has_values row image) (sym p)
    ∙ ap (λ (g : OwnedField). has_values (v ∷ []) (g ∷ []) && has_values row image) (sym q)
  where
    first : (f : OwnedField) → has_values (value ∷ row) (f ∷ image) ≡ (has_values (value ∷ []) (f ∷ []) && has_values row image)
    first Undefined = refl
    first (Defined w) = and_true (is_same (Defined w) (Defined value)) (has_values row image)
has_values_next (value ∷ row) (field ∷ image) (suc i) v f lt m p q = has_values_next row image i v f (omega arith) (omega arith) p q

pub has_its_values : (row : List OwnedValue) → has_values row (map Defined row) ≡ true
has_its_values [] = refl
has_its_values (value ∷ row) = rw (same_itself (Defined value)) (has_its_values row)

-- rows are compared as images are
pub same_rows : (other row : List OwnedValue) → pointwise (value_eq.ghosts).eq other row ≡ has_values row (map Defined other)
same_rows [] [] = refl
same_rows [] (value ∷ row) = refl
same_rows (o ∷ other) [] = refl
same_rows (o ∷ other) (value ∷ row) = ap (λ (b : Bool). is_same (Defined o) (Defined value) && b) (same_rows other row)

-- a row with all values of another is that row
pub all_values : (row other : List OwnedValue) → has_values row (map Defined other) ≡ true → other ≡ row
all_values [] [] e = refl
all_values [] (o ∷ other) e = absurd (true≢false (sym e))
all_values (value ∷ row) [] e = absurd (true≢false (sym e))
all_values (value ∷ row) (o ∷ other) e =
    let both = and_parts (is_same (Defined o) (Defined value)) (has_values row (map Defined other)) e in
    let first = same_values o value both.0 in
    let others = all_values row other both.1 in
    cc (first, others)

-- what an update leaves has the values that it says, and the other values of the row that it found
pub update_undone : (flags : List ℕ) (old new : List OwnedField) (row : List OwnedValue) → IsKeyedUpdate flags old new → has_values row old ≡ true
    → (has_values (filled (with_key flags old new) row) (with_key flags old new) ≡ true) × (filled old (filled (with_key flags old new) row) ≡ row)
update_undone [] [] [] [] fits e = (refl, refl)
update_undone [] [] [] (value ∷ row) fits e = absurd (true≢false (sym e))
update_undone [] [] (n ∷ new) row fits e = absurd fits
update_undone [] (o ∷ old) new row fits e = absurd fits
update_undone (flag ∷ flags) [] new row fits e = absurd fits
update_undone (flag ∷ flags) (o ∷ old) [] row fits e = absurd fits
update_undone (flag ∷ flags) (o ∷ old) (n ∷ new) [] fits e = absurd (true≢false (sym e))
update_undone (zero ∷ flags) (Undefined ∷ old) (Undefined ∷ new) (value ∷ row) fits e =
    let others = update_undone flags old new row fits.1 e in
    (others.0, ap (λ (l : List OwnedValue). value ∷ l) others.1)
update_undone (zero ∷ flags) (Undefined ∷ old) (Defined w ∷ new) (value ∷ row) fits e = absurd fits.0
update_undone (zero ∷ flags) (Defined v ∷ old) (Undefined ∷ new) (value ∷ row) fits e = absurd fits.0
update_undone (zero ∷ flags) (Defined v ∷ old) (Defined w ∷ new) (value ∷ row) fits e =
    let both = and_parts (is_same (Defined v) (Defined value)) (has_values row old) e in
    let first = same_values v value both.0 in
    let others = update_undone flags old new row fits.1 both.1 in
    let rest = others.1 in
    (rw (same_itself (Defined w)) others.0, cc (first, rest))
update_undone (suc flag ∷ flags) (Undefined ∷ old) (n ∷ new) (value ∷ row) fits e = absurd fits.0
update_undone (suc flag ∷ flags) (Defined v ∷ old) (Defined w ∷ new) (value ∷ row) fits e = absurd fits.0
update_undone (suc flag ∷ flags) (Defined v ∷ old) (Undefined ∷ new) (value ∷ row) fits e =
    let both = and_parts (is_same (Defined v) (Defined value)) (has_values row old) e in
    let first = same_values v value both.0 in
    let others = update_undone flags old new row fits.1 both.1 in
    let rest = others.1 in
    (rw (same_itself (Defined v)) others.0, cc (first, rest))

-- ---- what a change leaves is undone by its inverse

pub no_data : (b : Bool) → (if b then None else Some Data) ≡ None → b ≡ true
no_data true e = refl
no_data false e = absurd (none-some Data (sym e))

-- a change that meets no conflict finds what it says, and is not refused
pub meets_none : (refused : Bool) (found : Option Kind) → or_constraint refused found ≡ None → (found ≡ None) × (refused ≡ false)
meets_none refused (Some kind) e = absurd (none-some kind (sym e))
meets_none true None e = absurd (none-some Constraint (sym e))
meets_none false None e = (refl, refl)

-- the images exchanged
pub between : (flags : List ℕ) (change : Change) (row : Option (List OwnedValue)) → IsChange flags change → kind_between (before_image change) row ≡ None
    → (kind_between (after_image flags change) (row_after flags change row) ≡ None)
    × (option_map (λ image. filled image (unwrap_or (row_after flags change row) [])) (before_image change) ≡ row)
between flags (Insert new) None fits e = (rw (filled_row new [], has_its_values new) refl, refl)
between flags (Insert new) (Some row) fits e = absurd (none-some Conflict (sym e))
between flags (Delete old) None fits e = absurd (none-some NotFound (sym e))
between flags (Delete old) (Some row) fits e = (refl, ap Some (filled_row old [] ∙ all_values row old (no_data (has_values row (map Defined old)) e)))
between flags (Update old new) None fits e = absurd (none-some NotFound (sym e))
between flags (Update old new) (Some row) fits e =
    let undone = update_undone flags old new row fits.2 (no_data (has_values row old) e) in
    (rw undone.0 refl, ap Some undone.1)

pub undone : (flags : List ℕ) (change inverse : Change) (row : Option (List OwnedValue)) → IsChange flags change
    → before_image inverse ≡ after_image flags change → after_image flags inverse ≡ before_image change → kind_between (before_image change) row ≡ None
    → (kind_between (before_image inverse) (row_after flags change row) ≡ None) × (row_after flags inverse (row_after flags change row) ≡ row)
undone flags change inverse row fits before after e = let h = between flags change row fits e in (rw before h.0, rw after h.1)

-- ---- what a change leaves fits the table, with the key of the change

update_fits : (flags : List ℕ) (old new : List OwnedField) (row : List OwnedValue) → IsKeyedUpdate flags old new → IsKeyedRow flags row
    → IsKeyedRow flags (filled (with_key flags old new) row) × (row_key flags (filled (with_key flags old new) row) ≡ image_key flags old)
unfolding value_bytes field_bytes
update_fits [] [] [] [] fits keyed = (tt, refl)
update_fits [] [] [] (value ∷ row) fits keyed = absurd keyed
update_fits [] [] (n ∷ new) row fits keyed = absurd fits
update_fits [] (o ∷ old) new row fits keyed = absurd fits
update_fits (flag ∷ flags) [] new row fits keyed = absurd fits
update_fits (flag ∷ flags) (o ∷ old) [] row fits keyed = absurd fits
update_fits (flag ∷ flags) (o ∷ old) (n ∷ new) [] fits keyed = absurd keyed
update_fits (zero ∷ flags) (o ∷ old) (Undefined ∷ new) (value ∷ row) fits keyed = update_fits flags old new row fits.1 keyed
update_fits (zero ∷ flags) (o ∷ old) (Defined w ∷ new) (value ∷ row) fits keyed = update_fits flags old new row fits.1 keyed
update_fits (suc flag ∷ flags) (Undefined ∷ old) (n ∷ new) (value ∷ row) fits keyed = absurd fits.0
update_fits (suc flag ∷ flags) (Defined v ∷ old) (Defined w ∷ new) (value ∷ row) fits keyed = absurd fits.0
update_fits (suc flag ∷ flags) (Defined v ∷ old) (Undefined ∷ new) (value ∷ row) fits keyed =
    let others = update_fits flags old new row fits.1 keyed.1 in
    ((fits.0, others.0), ap (λ (bytes : List ℕ). value_bytes v ++ bytes) others.1)

pub left_fits : (flags : List ℕ) (change : Change) (row : Option (List OwnedValue)) → IsChange flags change → IfSome row (IsKeyedRow flags) → kind_between (before_image change) row ≢ Some NotFound
    → IfSome (row_after flags change row) (λ r. IsKeyedRow flags r × (row_key flags r ≡ key_of flags change))
left_fits flags (Insert new) row fits keyed found = rw (filled_row new (unwrap_or row [])) (fits.1, refl)
left_fits flags (Delete old) row fits keyed found = tt
left_fits flags (Update old new) None fits keyed found = absurd (found refl)
left_fits flags (Update old new) (Some row) fits keyed found = update_fits flags old new row fits.2 keyed

-- the row that a reference points to
pub keyed_now : (flags : List ℕ) (row : Option (Bor (List OwnedValue))) → IfSome row (λ r. IsKeyedRow flags r.now) → IfSome (option_map (λ r. r.now) row) (IsKeyedRow flags)
keyed_now flags None keyed = tt
keyed_now flags (Some row) keyed = keyed
