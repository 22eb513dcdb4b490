-- The state once the rows of a table were written.
use Rattle.std.proofs.Common.{◌≡◌, ℕ, Bool, true, false, cond, List, Option, Some, option_map, refl, sym, ap, ◌∙◌}
use Rattle.std.specs.Prelude.{unwrap_or}
use Rattle.std.specs.Ordering.{nat_cmp, is_eq}
use Rattle.std.specs.Cmp.Lexicographic.{slice_cmp, nat_list_cmp_total}
use Rattle.std.specs.FinMap.{get, insert, empty, get-insert}
use Rattle.cs_value.specs.State.{TableData, RowMap, State, schema_at, rows_at, with_rows}
use Rattle.cs_value.proofs.ByteMaps.{tied_bytes, self_tied}

module _ (state : State) (table : List ℕ) (found : TableData) (rows : RowMap) (is : get state table ≡ Some found) where
  abbrev next : TableData
  next = record found { rows = rows }

  with_rows_is : with_rows state table rows ≡ insert state table next
  with_rows_is = rw is refl

  -- the table of a name
  at_name : (name : List ℕ) → get (with_rows state table rows) name ≡ cond (is_eq (slice_cmp nat_cmp name table)) (Some next) (get state name)
  at_name name = ap (λ (s : State). get s name) with_rows_is ∙ get-insert nat_list_cmp_total state table next name

  pub same_schemas : (name : List ℕ) → schema_at (with_rows state table rows) name ≡ schema_at state name
  same_schemas name = ap (option_map (λ (t : TableData). t.schema)) (at_name name) ∙ at (is_eq (slice_cmp nat_cmp name table)) refl
    where
      at : (b : Bool) → is_eq (slice_cmp nat_cmp name table) ≡ b → option_map (λ (t : TableData). t.schema) (cond b (Some next) (get state name)) ≡ schema_at state name
      at true here = sym (rw (tied_bytes name table here, is) refl)
      at false other = refl

  pub rows_here : rows_at (with_rows state table rows) table ≡ rows
  rows_here = ap (λ (o : Option TableData). unwrap_or (option_map (λ (t : TableData). t.rows) o) empty) (at_name table ∙ ap (λ (b : Bool). cond b (Some next) (get state table)) (self_tied table))

  pub rows_other : (name : List ℕ) → is_eq (slice_cmp nat_cmp name table) ≡ false → rows_at (with_rows state table rows) name ≡ rows_at state name
  rows_other name other = ap (λ (o : Option TableData). unwrap_or (option_map (λ (t : TableData). t.rows) o) empty) (at_name name ∙ ap (λ (b : Bool). cond b (Some next) (get state name)) other)
