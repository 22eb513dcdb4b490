-- Values that are assigned, one after the other; rows and keys that are made of them.
use Rattle.std.proofs.Common.{◌≡◌, ℕ, zero, suc, ◌+◌, ◌<◌, List, [], ◌∷◌, ◌++◌, length, get_or, take, map, min, Bool, true, false, cond, Bor, Option, Some, None, filter_map, if◌then◌else◌, String, Global, refl, sym, ap, ◌∙◌, arith}
use Rattle.std.specs.Prelude.{reverse}
use Rattle.std.specs.Option.{option_map, option_to_list, unwrap_or}
use Rattle.std.specs.List.{list_any}
use Rattle.std.specs.String.{string_bytes}
use Rattle.std.specs.BTreeMap.{BTreeMap, Updates, get_by}
use Rattle.std.specs.Cmp.Lexicographic.{slice_cmp}
use Rattle.std.specs.Ordering.{nat_cmp, is_eq}
use Rattle.std.proofs.lemmas.Map.Text.{is_eq-slice_cmp}
use Rattle.std.proofs.lemmas.List.{take_more, map_more, get_or-map, length-map, length-take-le, reverse-append, map-append, append-nil}
use Rattle.std.proofs.lemmas.List.Elements.{filter_map-append}
use Rattle.cs_value.specs.declared.value.OwnedValue.{OwnedValue}
use Rattle.cs_value.specs.Key.{key_columns}
use Rattle.cs_value.specs.Spelling.{row_bytes}
use Rattle.cs_value.specs.State.{SchemaData}
use Rattle.cs_value.proofs.ListLemmas.{cons_option-nil}
use Rattle.cs_shell_grammar.specs.Commands.{AssignmentData, assignment_of}
use Rattle.cs_shell_grammar.specs.declared.command.Assignment.{Assignment}
use Rattle.cs_shell_columns.specs.Columns.{key_names}
use Rattle.cs_shell_columns.specs.Names.{texts_of, HasAssigned}
use Rattle.cs_shell_columns.specs.Rows.{assigned, with_assigned, is_null, named_key}
use Rattle.cs_shell_columns.proofs.NameLemmas.{name_cmp, lent}
use Rattle.cs_shell_columns.proofs.ColumnLemmas.{list_any-map}

-- ---- values by columns

abbrev pub lent_value : Bor OwnedValue → OwnedValue
lent_value value = value.now

pub HasAssigned-none : (values : BTreeMap (Bor (List ℕ)) (Bor OwnedValue)) → values.entries ≡ [] → HasAssigned [] values
HasAssigned-none values none = record { each = λ column. rw none refl }

in_branches : (b : Bool) (value : Bor OwnedValue) (o : Option (Bor OwnedValue)) → option_map lent_value (cond b (Some value) o) ≡ cond b (Some value.now) (option_map lent_value o)
in_branches true value o = refl
in_branches false value o = refl

-- one assignment more, before the others
pub HasAssigned-more : (assignments : List AssignmentData) (a : AssignmentData) (old new : BTreeMap (Bor (List ℕ)) (Bor OwnedValue)) (column : Bor (List ℕ)) (value : Bor OwnedValue)
    → column.now ≡ a.column → value.now ≡ a.value → HasAssigned assignments old → Updates name_cmp old new column (Some value) → HasAssigned (a ∷ assignments) new
HasAssigned-more assignments a old new column value named valued so updates = record {
  each = λ q.
      ap (option_map lent_value) (updates.0 (lent q))
      ∙ in_branches (is_eq (slice_cmp nat_cmp column.now q)) value _
      ∙ cc (is_eq-slice_cmp column.now q, named, valued, so.each q);
}

-- what is found at a column is the value that it is assigned
pub found_value : (assignments : List AssignmentData) (values : BTreeMap (Bor (List ℕ)) (Bor OwnedValue)) → HasAssigned assignments values → (q column : List ℕ) → q ≡ column
    → (found : Option (Bor OwnedValue)) → found ≡ get_by (λ text. slice_cmp nat_cmp q text.now) values → option_map lent_value found ≡ assigned assignments column
found_value assignments values so q column named found is = ap (option_map lent_value) is ∙ so.each q ∙ ap (assigned assignments) named

-- the assignments so far, the last of them first
pub reversed_more : (yielded : List (Bor Assignment)) (a : Bor Assignment) → map assignment_of (reverse (map (λ x. x.now) (yielded ++ a ∷ []))) ≡ assignment_of a.now ∷ map assignment_of (reverse (map (λ x. x.now) yielded))
reversed_more yielded a =
    ap (λ l. map assignment_of (reverse l)) (map-append (λ (x : Bor Assignment). x.now) yielded (a ∷ []))
    ∙ ap (map assignment_of) (reverse-append (map (λ (x : Bor Assignment). x.now) yielded) (a.now ∷ []))

-- ---- rows

with_assigned-push : (assignments : List AssignmentData) (columns : List (List ℕ)) (row : List OwnedValue) (column : List ℕ) (value : OwnedValue) → length columns ≡ length row
    → with_assigned assignments (columns ++ column ∷ []) (row ++ value ∷ []) ≡ with_assigned assignments columns row ++ unwrap_or (assigned assignments column) value ∷ []
with_assigned-push assignments [] [] column value e = refl
with_assigned-push assignments [] (v ∷ row) column value e = absurd (omega arith)
with_assigned-push assignments (c ∷ columns) [] column value e = absurd (omega arith)
with_assigned-push assignments (c ∷ columns) (v ∷ row) column value e = ap (λ l. unwrap_or (assigned assignments c) v ∷ l) (with_assigned-push assignments columns row column value (omega arith))

-- the first columns, and one more
pub with_assigned_more : (assignments : List AssignmentData) (columns : List (List ℕ)) (row : List OwnedValue) (i : ℕ) (column : List ℕ) (value : OwnedValue)
    → i < length columns → i < length row → column ≡ get_or columns i column → value ≡ get_or row i value
    → with_assigned assignments (take (i + 1) columns) (take (i + 1) row) ≡ with_assigned assignments (take i columns) (take i row) ++ unwrap_or (assigned assignments column) value ∷ []
with_assigned_more assignments columns row i column value in_columns in_row column_is value_is =
    let same : length (take i columns) ≡ length (take i row) = omega (arith, length-take-le i columns, length-take-le i row) in
    rw (take_more columns i column in_columns, take_more row i value in_row, ← column_is, ← value_is) (with_assigned-push assignments (take i columns) (take i row) column value same)

-- as many as there are of both are all
pub with_assigned_all : (assignments : List AssignmentData) (columns : List (List ℕ)) (row : List OwnedValue) (i : ℕ) → i ≡ min (length columns) (length row)
    → with_assigned assignments (take i columns) (take i row) ≡ with_assigned assignments columns row
with_assigned_all assignments [] row zero e = refl
with_assigned_all assignments [] row (suc i) e = absurd (omega arith)
with_assigned_all assignments (c ∷ columns) [] zero e = refl
with_assigned_all assignments (c ∷ columns) [] (suc i) e = absurd (omega arith)
with_assigned_all assignments (c ∷ columns) (v ∷ row) zero e = absurd (omega arith)
with_assigned_all assignments (c ∷ columns) (v ∷ row) (suc i) e = ap (λ l. unwrap_or (assigned assignments c) v ∷ l) (with_assigned_all assignments columns row i (omega arith))

-- the value of a column: the one that is assigned, or the former one
pub lent_or : (o : Option (Bor OwnedValue)) (former : Bor OwnedValue) → (unwrap_or o former).now ≡ unwrap_or (option_map lent_value o) former.now
lent_or None former = refl
lent_or (Some value) former = refl

-- columns and values as a loop reads them
module _ (assignments : List AssignmentData) (columns : List (List ℕ)) (strings : List (String Global)) (row listed : List OwnedValue) (named : map string_bytes strings ≡ columns) (same : listed ≡ row) where
  module _ (i : ℕ) (column : String Global) (value : OwnedValue) (in_strings : i < length strings) (in_listed : i < length listed) (column_is : column ≡ get_or strings i column) (value_is : value ≡ get_or listed i value) where
    pub value_more : (old new : List OwnedValue) (made : OwnedValue) → made ≡ unwrap_or (assigned assignments (string_bytes column)) value → new ≡ old ++ made ∷ []
        → old ≡ with_assigned assignments (take i columns) (take i row) → new ≡ with_assigned assignments (take (i + 1) columns) (take (i + 1) row)
    value_more old new made is grown so =
        let at : string_bytes column ≡ get_or (map string_bytes strings) i (string_bytes column) = sym (get_or-map string_bytes strings i column (string_bytes column) in_strings ∙ ap string_bytes (sym column_is)) in
        let within : i < length (map string_bytes strings) = rw length-map in_strings in
        let more = with_assigned_more assignments (map string_bytes strings) listed i (string_bytes column) value within in_listed at value_is in
        grown ∙ cc (so, is, named, same, more)

  pub values_all : (i : ℕ) (made : List OwnedValue) → i ≡ min (length strings) (length listed) → made ≡ with_assigned assignments (take i columns) (take i row) → made ≡ with_assigned assignments columns row
  values_all i made whole so =
      let all : i ≡ min (length (map string_bytes strings)) (length listed) = rw length-map whole in
      so ∙ cc (named, same, with_assigned_all assignments (map string_bytes strings) listed i all)

-- ---- keys

key_columns-push : {X : Type 0} (flags : List ℕ) (xs : List X) (flag : ℕ) (x : X) → length flags ≡ length xs → key_columns (flags ++ flag ∷ []) (xs ++ x ∷ []) ≡ key_columns flags xs ++ key_columns (flag ∷ []) (x ∷ [])
key_columns-push {X = X} [] [] flag x e = refl
key_columns-push {X = X} [] (y ∷ ys) flag x e = absurd (omega arith)
key_columns-push {X = X} (f ∷ fs) [] flag x e = absurd (omega arith)
key_columns-push {X = X} (zero ∷ fs) (y ∷ ys) flag x e = key_columns-push fs ys flag x (omega arith)
key_columns-push {X = X} (suc f ∷ fs) (y ∷ ys) flag x e = ap (λ (l : List X). y ∷ l) (key_columns-push fs ys flag x (omega arith))

-- the first columns of the key, and one column more
pub key_columns_more : {X : Type 0} (flags : List ℕ) (xs : List X) (i flag : ℕ) (x : X) → i < length flags → i < length xs → flag ≡ get_or flags i 0 → x ≡ get_or xs i x
    → key_columns (take (i + 1) flags) (take (i + 1) xs) ≡ key_columns (take i flags) (take i xs) ++ key_columns (flag ∷ []) (x ∷ [])
key_columns_more {X = X} flags xs i flag x in_flags in_xs flag_is x_is =
    let same : length (take i flags) ≡ length (take i xs) = omega (arith, length-take-le i flags, length-take-le i xs) in
    rw (take_more flags i 0 in_flags, take_more xs i x in_xs, ← flag_is, ← x_is) (key_columns-push (take i flags) (take i xs) flag x same)

pub key_columns_all : {X : Type 0} (flags : List ℕ) (xs : List X) (i : ℕ) → i ≡ min (length flags) (length xs) → key_columns (take i flags) (take i xs) ≡ key_columns flags xs
key_columns_all [] xs zero e = refl
key_columns_all [] xs (suc i) e = absurd (omega arith)
key_columns_all (f ∷ flags) [] zero e = refl
key_columns_all (f ∷ flags) [] (suc i) e = absurd (omega arith)
key_columns_all (f ∷ flags) (x ∷ xs) zero e = absurd (omega arith)
key_columns_all (zero ∷ flags) (x ∷ xs) (suc i) e = key_columns_all flags xs i (omega arith)
key_columns_all {X = X} (suc f ∷ flags) (x ∷ xs) (suc i) e = ap (λ (l : List X). x ∷ l) (key_columns_all flags xs i (omega arith))

marked : {X : Type 0} (flag : ℕ) (x : X) → (flag ≡ 0 → ⊥) → key_columns (flag ∷ []) (x ∷ []) ≡ x ∷ []
marked zero x is = absurd (is refl)
marked (suc flag) x is = refl

-- flags and columns as a loop reads them
module _ (flags listed : List ℕ) (columns : List (List ℕ)) (strings : List (String Global)) (same : listed ≡ flags) (named : map string_bytes strings ≡ columns) (i flag : ℕ) (column : String Global) (in_listed : i < length listed) (in_strings : i < length strings) (flag_is : flag ≡ get_or listed i 0) (column_is : column ≡ get_or strings i column) where
  column_more : key_columns (take (i + 1) flags) (take (i + 1) columns) ≡ key_columns (take i flags) (take i columns) ++ key_columns (flag ∷ []) (string_bytes column ∷ [])
  column_more =
      let at : string_bytes column ≡ get_or (map string_bytes strings) i (string_bytes column) = sym (get_or-map string_bytes strings i column (string_bytes column) in_strings ∙ ap string_bytes (sym column_is)) in
      let within : i < length (map string_bytes strings) = rw length-map in_strings in
      let more = key_columns_more listed (map string_bytes strings) i flag (string_bytes column) in_listed within flag_is at in
      cc (same, named, more)

  pub key_name_more : (flag ≡ 0 → ⊥) → (texts : List (List ℕ)) → texts ≡ key_columns (take i flags) (take i columns) → texts ++ string_bytes column ∷ [] ≡ key_columns (take (i + 1) flags) (take (i + 1) columns)
  key_name_more is texts so = cc (so, column_more, marked flag (string_bytes column) is)

  pub other_name_more : flag ≡ 0 → (texts : List (List ℕ)) → texts ≡ key_columns (take i flags) (take i columns) → texts ≡ key_columns (take (i + 1) flags) (take (i + 1) columns)
  other_name_more is texts so =
      let none : key_columns (flag ∷ []) (string_bytes column ∷ []) ≡ [] = rw is refl in
      so ∙ sym (column_more ∙ ap (λ l. key_columns (take i flags) (take i columns) ++ l) none ∙ append-nil (key_columns (take i flags) (take i columns)))

-- the values of the names so far, and one name more
module _ (f : List ℕ → Option OwnedValue) (names : List (Bor (List ℕ))) (i : ℕ) (d : Bor (List ℕ)) (within : i < length names) where
  named_more : filter_map f (texts_of (take (i + 1) names)) ≡ filter_map f (texts_of (take i names)) ++ option_to_list (f (get_or names i d).now)
  named_more =
      ap (filter_map f) (map_more (λ (text : Bor (List ℕ)). text.now) names i d within)
      ∙ filter_map-append f (texts_of (take i names)) ((get_or names i d).now ∷ [])
      ∙ ap (λ l. filter_map f (texts_of (take i names)) ++ l) (cons_option-nil (f (get_or names i d).now))

  pub not_named : f (get_or names i d).now ≡ None → (values : List OwnedValue) → values ≡ filter_map f (texts_of (take i names)) → values ≡ filter_map f (texts_of (take (i + 1) names))
  not_named none values so =
      so ∙ sym (named_more ∙ ap (λ o. filter_map f (texts_of (take i names)) ++ option_to_list o) none ∙ append-nil (filter_map f (texts_of (take i names))))

  pub value_named : (value : OwnedValue) → f (get_or names i d).now ≡ Some value → (old new : List OwnedValue) → new ≡ old ++ value ∷ []
      → old ≡ filter_map f (texts_of (take i names)) → new ≡ filter_map f (texts_of (take (i + 1) names))
  value_named value some old new grown so =
      grown ∙ ap (λ l. l ++ value ∷ []) so ∙ sym (named_more ∙ ap (λ o. filter_map f (texts_of (take i names)) ++ option_to_list o) some)

-- conditions with a NULL name no key, others do
module _ (schema : SchemaData) (conditions : List Assignment) where
  key_from : (b : Bool) → list_any (λ (condition : Assignment). is_null condition.value) conditions ≡ b
      → named_key schema (map assignment_of conditions) ≡ (if b then None else Some (row_bytes (filter_map (assigned (map assignment_of conditions)) (key_names schema))))
  key_from b is =
      ap (λ t. if t then None else Some (row_bytes (filter_map (assigned (map assignment_of conditions)) (key_names schema))))
      (list_any-map (λ (a : AssignmentData). is_null a.value) assignment_of conditions ∙ is)

  pub key_of_null : list_any (λ (condition : Assignment). is_null condition.value) conditions ≡ true → named_key schema (map assignment_of conditions) ≡ None
  key_of_null = key_from true

  pub key_of_values : list_any (λ (condition : Assignment). is_null condition.value) conditions ≡ false
      → named_key schema (map assignment_of conditions) ≡ Some (row_bytes (filter_map (assigned (map assignment_of conditions)) (key_names schema)))
  key_of_values = key_from false
