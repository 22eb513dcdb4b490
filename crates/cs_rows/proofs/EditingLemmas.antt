-- Rows that fit a table, and what edits of them make.
use Rattle.std.proofs.Common.{◌≡◌, ℕ, zero, suc, Bool, true, false, cond, ◌==◌, List, [], ◌∷◌, length, map as map_list, Option, Some, None, true≢false, refl, sym, ap, subst, ◌∙◌, arith}
use Rattle.std.specs.Cmp.{nat_eq_equiv}
use Rattle.cs_value.specs.declared.value.OwnedValue.{OwnedValue}
use Rattle.cs_value.specs.declared.value.OwnedValue.TheVariants.{Int, Text, Blob, Null}
use Rattle.std.specs.Option.{option_map}
use Rattle.std.specs.FinMap as map
use Rattle.cs_value.specs.Table.{IsKeyedRow}
use Rattle.cs_value.specs.declared.value.OwnedField.TheVariants.{Defined}
use Rattle.cs_value.specs.State.{SchemaData, TableData, RowMap, State, has_null, Obeys, IsRowAt, schema_at, rows_at, without_row}
use Rattle.cs_rows.specs.Rows.{Fits}
use Rattle.std.specs.Cmp.Lexicographic.{nat_list_cmp_total}
use Rattle.cs_value.proofs.KeyedRows.{length-IsKeyedRow}
use Rattle.cs_value.proofs.ByteMaps.{self_tied}
use Rattle.cs_rows.proofs.MemoryLemmas.{with_rows_found, rows_at_found}
use Rattle.cs_rows.specs.declared.fault.StoreError.TheVariants.{NullInKey, NotNull}
use Rattle.cs_rows.specs.Editing.{has_null_key, row_fault}

same_number : (n : ℕ) → (n == n) ≡ true
same_number n = nat_eq_equiv.refl n

-- a keyed row has no NULL in its key
keyed_no_null : (flags : List ℕ) (row : List OwnedValue) → IsKeyedRow flags row → has_null_key flags row ≡ false
keyed_no_null [] [] h = refl
keyed_no_null [] (v ∷ row) h = absurd h
keyed_no_null (zero ∷ flags) [] h = absurd h
keyed_no_null (suc flag ∷ flags) [] h = absurd h
keyed_no_null (zero ∷ flags) (v ∷ row) h = keyed_no_null flags row h
keyed_no_null (suc flag ∷ flags) (Int z ∷ row) h = keyed_no_null flags row h.1
keyed_no_null (suc flag ∷ flags) (Text t ∷ row) h = keyed_no_null flags row h.1
keyed_no_null (suc flag ∷ flags) (Blob b ∷ row) h = keyed_no_null flags row h.1
keyed_no_null (suc flag ∷ flags) (Null ∷ row) h = absurd (h.0 refl)

-- and a row of the table's width without one is keyed
no_null_keyed : (flags : List ℕ) (row : List OwnedValue) → length row ≡ length flags → has_null_key flags row ≡ false → IsKeyedRow flags row
no_null_keyed [] [] same h = tt
no_null_keyed [] (v ∷ row) same h = absurd (omega arith)
no_null_keyed (zero ∷ flags) [] same h = absurd (omega arith)
no_null_keyed (suc flag ∷ flags) [] same h = absurd (omega arith)
no_null_keyed (zero ∷ flags) (v ∷ row) same h = no_null_keyed flags row (omega arith) h
no_null_keyed (suc flag ∷ flags) (Int z ∷ row) same h = (λ e. absurd cc, no_null_keyed flags row (omega arith) h)
no_null_keyed (suc flag ∷ flags) (Text t ∷ row) same h = (λ e. absurd cc, no_null_keyed flags row (omega arith) h)
no_null_keyed (suc flag ∷ flags) (Blob b ∷ row) same h = (λ e. absurd cc, no_null_keyed flags row (omega arith) h)
no_null_keyed (suc flag ∷ flags) (Null ∷ row) same h = absurd (true≢false h)

-- a keyed row without a NULL that is refused fits the table
pub no_fault : (schema : SchemaData) (row : List OwnedValue) → IsKeyedRow schema.flags row → Obeys schema.refuses row → row_fault schema row ≡ None
no_fault schema row keyed obeys = rw (length-IsKeyedRow schema.flags row keyed, keyed_no_null schema.flags row keyed, same_number (length row), obeys) refl

-- another keyed row has NULL in a column that refuses it
pub refused_null : (schema : SchemaData) (row : List OwnedValue) → IsKeyedRow schema.flags row → ¬ (Obeys schema.refuses row) → row_fault schema row ≡ Some NotNull
refused_null schema row keyed disobeys = at (has_null schema.refuses (map_list Defined row)) refl
  where
    at : (b : Bool) → has_null schema.refuses (map_list Defined row) ≡ b → row_fault schema row ≡ Some NotNull
    at true is = rw (length-IsKeyedRow schema.flags row keyed, keyed_no_null schema.flags row keyed, same_number (length row), is) refl
    at false is = absurd (disobeys is)

-- another row of the table's width has a NULL in its key
pub null_fault : (schema : SchemaData) (row : List OwnedValue) → length row ≡ length schema.flags → ¬ (IsKeyedRow schema.flags row) → row_fault schema row ≡ Some NullInKey
null_fault schema row same not_keyed = at (has_null_key schema.flags row) refl
  where
    at : (b : Bool) → has_null_key schema.flags row ≡ b → row_fault schema row ≡ Some NullInKey
    at true is = rw (same, is, same_number (length schema.flags)) refl
    at false is = absurd (not_keyed (no_null_keyed schema.flags row same is))

-- a row that fits the schema of a name fits its table
pub fits_in : (state : State) (name key : List ℕ) (row : List OwnedValue) (schema : SchemaData) → schema_at state name ≡ Some schema → IsRowAt schema key row → Fits state name key row
fits_in state name key row schema found fit = at (map.get state name) refl
  where
    at : (o : Option TableData) → map.get state name ≡ o → Fits state name key row
    at None none = absurd (let e = sym found ∙ ap (option_map (λ (t : TableData). t.schema)) none in cc)
    at (Some table) some =
        let same : schema ≡ table.schema = let e = sym found ∙ ap (option_map (λ (t : TableData). t.schema)) some in cc in
        record { table = table; found = some; fit = subst (λ (s : SchemaData). IsRowAt s key row) same fit }

-- a row still fits once another is taken away
pub fits_without : (state : State) (name key next : List ℕ) (row : List OwnedValue) → Fits state name next row → Fits (without_row state name key) name next row
fits_without state name key next row fits =
    let rows : RowMap = map.remove fits.table.rows key in
    let table : TableData = record { schema = fits.table.schema; rows = rows } in
    let here : map.get (map.insert state name table) name ≡ Some table = map.get-insert nat_list_cmp_total state name table name ∙ ap (λ b. cond b (Some table) (map.get state name)) (self_tied name) in
    let same : without_row state name key ≡ map.insert state name table = with_rows_found state name fits.table (map.remove (rows_at state name) key) fits.found
    ∙ ap (λ (r : RowMap). let t : TableData = record { schema = fits.table.schema; rows = map.remove r key } in map.insert state name t) (rows_at_found state name fits.table fits.found) in
    record { table = table; found = ap (λ (s : State). map.get s name) same ∙ here; fit = fits.fit }
