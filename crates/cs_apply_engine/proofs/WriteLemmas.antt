-- A row that is written, and the rows of a state.
use Rattle.std.proofs.Common.{◌≡◌, ℕ, Bool, true, false, cond, List, Option, Some, None, refl, sym, ap, ◌∙◌}
use Rattle.std.specs.Ordering.{nat_cmp, is_eq}
use Rattle.std.specs.Cmp.Lexicographic.{slice_cmp, nat_list_cmp_total}
use Rattle.std.specs.FinMap.{get, insert, remove, get-insert, get-remove}
use Rattle.cs_value.specs.declared.value.OwnedValue.{OwnedValue}
use Rattle.cs_value.specs.State.{TableData, RowMap, State, schema_at, rows_at, row_at, with_rows}
use Rattle.cs_value.proofs.ByteMaps.{tied_bytes, self_tied}
use Rattle.cs_rows.proofs.WrittenRows.{same_schemas, rows_here, rows_other}
use Rattle.cs_apply_engine.specs.Steps.{with_result}

-- the rows of the table with the result
abbrev rows_with : RowMap → List ℕ → Option (List OwnedValue) → RowMap
rows_with rows key None = remove rows key
rows_with rows key (Some row) = insert rows key row

result_is : (state : State) (table key : List ℕ) (o : Option (List OwnedValue)) → with_result state table key o ≡ with_rows state table (rows_with (rows_at state table) key o)
result_is state table key None = refl
result_is state table key (Some row) = refl

result_at : (rows : RowMap) (key : List ℕ) (o : Option (List OwnedValue)) (q : List ℕ) → get (rows_with rows key o) q ≡ cond (is_eq (slice_cmp nat_cmp q key)) o (get rows q)
result_at rows key None q = get-remove nat_list_cmp_total rows key q
result_at rows key (Some row) q = get-insert nat_list_cmp_total rows key row q

module _ (state : State) (table : List ℕ) (found : TableData) (key : List ℕ) (o : Option (List OwnedValue)) (is : get state table ≡ Some found) where
  abbrev rows : RowMap
  rows = rows_with (rows_at state table) key o

  pub result_schemas : (name : List ℕ) → schema_at (with_result state table key o) name ≡ schema_at state name
  result_schemas name = ap (λ (s : State). schema_at s name) (result_is state table key o) ∙ same_schemas state table found rows is name

  pub result_here : row_at (with_result state table key o) table key ≡ o
  result_here =
      ap (λ (s : State). row_at s table key) (result_is state table key o)
      ∙ ap (λ (m : RowMap). get m key) (rows_here state table found rows is)
      ∙ result_at (rows_at state table) key o key
      ∙ ap (λ (b : Bool). cond b o (get (rows_at state table) key)) (self_tied key)

  pub result_elsewhere : (name q : List ℕ) → ¬ ((table ≡ name) × (key ≡ q)) → row_at (with_result state table key o) name q ≡ row_at state name q
  result_elsewhere name q apart = ap (λ (s : State). row_at s name q) (result_is state table key o) ∙ at (is_eq (slice_cmp nat_cmp name table)) refl
    where
      in_table : table ≡ name → (b : Bool) → is_eq (slice_cmp nat_cmp q key) ≡ b → cond b o (get (rows_at state table) q) ≡ get (rows_at state table) q
      in_table same true here = absurd (apart (same, sym (tied_bytes q key here)))
      in_table same false other = refl

      at : (b : Bool) → is_eq (slice_cmp nat_cmp name table) ≡ b → row_at (with_rows state table rows) name q ≡ row_at state name q
      at true here =
          let same = tied_bytes name table here in
          rw same (ap (λ (m : RowMap). get m q) (rows_here state table found rows is) ∙ result_at (rows_at state table) key o q
          ∙ in_table (sym same) (is_eq (slice_cmp nat_cmp q key)) refl)
      at false other = ap (λ (m : RowMap). get m q) (rows_other state table found rows is name other)
