-- Tables stay tables, and states stay states.
use Rattle.std.proofs.Common.{◌≡◌, ℕ, List, Option, Some, None, option_map, Bool, true, false, cond, refl, sym, subst, ◌∙◌}
use Rattle.std.specs.Prelude.{IfSome, unwrap_or}
use Rattle.std.specs.Ordering.{nat_cmp, is_eq}
use Rattle.std.specs.Cmp.Lexicographic.{slice_cmp, nat_list_cmp_total}
use Rattle.std.specs.FinMap.{get, insert, remove, empty, get-insert, get-remove, get-empty}
use Rattle.std.proofs.lemmas.Option.{none-some}
use Rattle.cs_value.specs.declared.value.OwnedValue.{OwnedValue}
use Rattle.cs_value.specs.Table.{IsName}
use Rattle.cs_value.specs.Maps.{ByBytes}
use Rattle.cs_value.specs.State.{SchemaData, IsSchema, TableData, IsRowAt, IsTable, State, IsNamedTable, IsState, schema_at, row_at}
use Rattle.cs_value.proofs.ByteMaps.{tied_bytes}
use Rattle.cs_value.proofs.ListLemmas.{IfSome-from_each}

-- what holds at every key of a map holds once an entry is put that meets it
pub each_insert : {X : Type 0} (P : List ℕ → X → Type 0) (m : ByBytes X) (k : List ℕ) (v : X) → ((q : List ℕ) (x : X) → get m q ≡ Some x → P q x) → P k v
    → (q : List ℕ) (x : X) → get (insert m k v) q ≡ Some x → P q x
each_insert {X} P m k v each here q x found = at (is_eq (slice_cmp nat_cmp q k)) refl (sym (get-insert nat_list_cmp_total m k v q) ∙ found)
  where
    at : (b : Bool) → is_eq (slice_cmp nat_cmp q k) ≡ b → cond b (Some v) (get m q) ≡ Some x → P q x
    at true is same = let one : v ≡ x = cc in rw (tied_bytes q k is, ← one) here
    at false is same = each q x same

-- and once an entry is taken away
pub each_remove : {X : Type 0} (P : List ℕ → X → Type 0) (m : ByBytes X) (k : List ℕ) → ((q : List ℕ) (x : X) → get m q ≡ Some x → P q x)
    → (q : List ℕ) (x : X) → get (remove m k) q ≡ Some x → P q x
each_remove {X} P m k each q x found = at (is_eq (slice_cmp nat_cmp q k)) (sym (get-remove nat_list_cmp_total m k q) ∙ found)
  where
    at : (b : Bool) → cond b None (get m q) ≡ Some x → P q x
    at true same = absurd (cc)
    at false same = each q x same

-- a table without rows is one
pub empty_table : (schema : SchemaData) → IsSchema schema → IsTable (record { schema = schema; rows = empty })
empty_table schema is = record { schema = is; rows = λ key row found. absurd (let none = sym (get-empty (slice_cmp nat_cmp) key) ∙ found in cc) }

-- a row that fits is put
pub table_insert : (table : TableData) (key : List ℕ) (row : List OwnedValue) → IsTable table → IsRowAt table.schema key row
    → IsTable (record table { rows = insert table.rows key row })
table_insert table key row is fit = record { schema = is.schema; rows = each_insert (IsRowAt table.schema) table.rows key row is.rows fit }

-- a row is taken away
pub table_remove : (table : TableData) (key : List ℕ) → IsTable table → IsTable (record table { rows = remove table.rows key })
table_remove table key is = record { schema = is.schema; rows = each_remove (IsRowAt table.schema) table.rows key is.rows }

-- there are no tables
pub empty_state : IsState empty
empty_state name table found = absurd (let none = sym (get-empty (slice_cmp nat_cmp) name) ∙ found in cc)

-- a table is put
pub state_insert : (state : State) (name : List ℕ) (table : TableData) → IsState state → IsName name → IsTable table → IsState (insert state name table)
state_insert state name table is named fit = each_insert IsNamedTable state name table is (record { named = named; is_table = fit })

-- a table is there where a schema is
pub table_of_schema : (o : Option TableData) (schema : SchemaData) → option_map (λ (t : TableData). t.schema) o ≡ Some schema → (table : TableData) × (o ≡ Some table) × (table.schema ≡ schema)
table_of_schema None schema has = absurd (none-some schema has)
table_of_schema (Some table) schema has = (table, refl, cc)

-- the row under a key, if there is one, fits the schema of its table
pub row_at_fits : (state : State) (name : List ℕ) (schema : SchemaData) → IsState state → schema_at state name ≡ Some schema → (key : List ℕ)
    → IfSome (row_at state name key) (IsRowAt schema key)
row_at_fits state name schema is has key =
    let there = table_of_schema (get state name) schema has in
    subst (λ (o : Option TableData). IfSome (get (unwrap_or (option_map (λ (t : TableData). t.rows) o) empty) key) (IsRowAt schema key)) (sym there.1)
    (subst (λ (s : SchemaData). IfSome (get there.0.rows key) (IsRowAt s key)) there.2
    (IfSome-from_each (IsRowAt there.0.schema key) (get there.0.rows key) ((is name there.0 there.1).is_table.rows key)))
