-- A state with the first images put back.
use Rattle.std.proofs.Common.{◌≡◌, ◌≢◌, ℕ, Bool, true, false, List, [], ◌∷◌, map, Option, None, Some, refl, sym, subst, ◌∙◌}
use Rattle.std.specs.Prelude.{IfSome}
use Rattle.std.specs.List.{AllByRecursion}
use Rattle.std.proofs.lemmas.List.Elements.{recursion_from_All}
use Rattle.cs_value.specs.declared.value.OwnedValue.{OwnedValue}
use Rattle.std.specs.FinMap.{get}
use Rattle.std.specs.Ordering.{nat_cmp, is_eq}
use Rattle.std.specs.Cmp.Lexicographic.{slice_cmp}
use Rattle.cs_value.specs.State.{SchemaData, RowMap, TableData, State, IsTable, IsState, IsRowAt, schema_at, rows_at, with_rows}
use Rattle.cs_value.proofs.ByteMaps.{tied_bytes}
use Rattle.cs_value.proofs.ListLemmas.{PairsByRecursion}
use Rattle.cs_value.proofs.StateLemmas.{table_of_schema, table_insert, table_remove, state_insert, row_at_fits}
use Rattle.cs_rows.proofs.MemoryLemmas.{with_rows_found}
use Rattle.cs_rows.proofs.WrittenRows.{same_schemas, rows_here, rows_other}
use Rattle.cs_session_notes.specs.FirstImages.{FirstImage, AttachedTable, Notes, IsAttachedTable, HasAttached, put_back, put_all_back, rewound_rows, rewound, rewound_state}

pub other_name : (name table : List ℕ) → ¬ (table ≡ name) → is_eq (slice_cmp nat_cmp name table) ≡ false
other_name name table apart = at (is_eq (slice_cmp nat_cmp name table)) refl
  where
    at : (b : Bool) → is_eq (slice_cmp nat_cmp name table) ≡ b → b ≡ false
    at true tied = absurd (apart (sym (tied_bytes name table tied)))
    at false tied = refl

-- a table with these rows
abbrev with_schema : RowMap → SchemaData → TableData
with_schema rows schema = record { schema = schema; rows = rows }

back_table : (schema : SchemaData) (first : FirstImage) (rows : RowMap) → IfSome first.row (IsRowAt schema first.key) → IsTable (with_schema rows schema)
    → IsTable (with_schema (put_back first rows) schema)
back_table schema first rows fits is = at first.row fits
  where
    at : (row : Option (List OwnedValue)) → IfSome row (IsRowAt schema first.key) → IsTable (with_schema (put_back (record { key = first.key; row = row }) rows) schema)
    at None fit = table_remove (with_schema rows schema) first.key is
    at (Some row) fit = table_insert (with_schema rows schema) first.key row is fit

-- if first images that fit are put back, a table is still one
all_back_table : (schema : SchemaData) (firsts : List FirstImage) (rows : RowMap) → AllByRecursion (λ f. IfSome f.row (IsRowAt schema f.key)) firsts
    → IsTable (with_schema rows schema) → IsTable (with_schema (put_all_back firsts rows) schema)
all_back_table schema [] rows fits is = is
all_back_table schema (first ∷ firsts) rows fits is = back_table schema first (put_all_back firsts rows) fits.0 (all_back_table schema firsts rows fits.1 is)

module _ (state : State) where
  -- the tables stay
  pub rewound_schemas : (notes : Notes) → AllByRecursion (HasAttached state) notes → (name : List ℕ) → schema_at (rewound_state notes state) name ≡ schema_at state name
  rewound_schemas [] has name = refl
  rewound_schemas (table ∷ notes) has name =
      let found = table_of_schema (get (rewound_state notes state) table.name) table.schema (rewound_schemas notes has.1 table.name ∙ has.0) in
      same_schemas (rewound_state notes state) table.name found.0 (rewound_rows state table) found.1 name ∙ rewound_schemas notes has.1 name

  -- if the first images fit their tables, it is one
  pub rewound_is_state : IsState state → (notes : Notes) → AllByRecursion IsAttachedTable notes → AllByRecursion (HasAttached state) notes → IsState (rewound_state notes state)
  rewound_is_state is [] each has = is
  rewound_is_state is (table ∷ notes) each has =
      let mid = rewound_state notes state in
      let found = table_of_schema (get mid table.name) table.schema (rewound_schemas notes has.1 table.name ∙ has.0) in
      let rows = rewound_rows state table in
      let fits = recursion_from_All (λ (f : FirstImage). IfSome f.row (IsRowAt table.schema f.key)) table.firsts each.0.rows in
      let stood : IsTable (with_schema (rows_at state table.name) table.schema) = record {
        schema = each.0.schema;
        rows = λ key row there. subst (λ (o : Option (List OwnedValue)). IfSome o (IsRowAt table.schema key)) there (row_at_fits state table.name table.schema is has.0 key);
      } in
      let put : IsTable (with_schema rows table.schema) = all_back_table table.schema table.firsts (rows_at state table.name) fits stood in
      subst IsState (sym (with_rows_found mid table.name found.0 rows found.1))
      (state_insert mid table.name (with_schema rows found.0.schema) (rewound_is_state is notes each.1 has.1) each.0.named
      (subst (λ (s : SchemaData). IsTable (with_schema rows s)) (sym found.2) put))

  -- the rows of a table that is not attached stay
  pub rewound_elsewhere : (notes : Notes) → AllByRecursion (HasAttached state) notes → (name : List ℕ) → AllByRecursion (λ t. ¬ (t.name ≡ name)) notes
      → rows_at (rewound_state notes state) name ≡ rows_at state name
  rewound_elsewhere [] has name apart = refl
  rewound_elsewhere (table ∷ notes) has name apart =
      let found = table_of_schema (get (rewound_state notes state) table.name) table.schema (rewound_schemas notes has.1 table.name ∙ has.0) in
      rows_other (rewound_state notes state) table.name found.0 (rewound_rows state table) found.1 name (other_name name table.name apart.0)
      ∙ rewound_elsewhere notes has.1 name apart.1

  -- those of one that is attached are those from before
  abbrev pub IsRewound : State → AttachedTable → Type 0
  IsRewound before table = rows_at before table.name ≡ rewound_rows state table

  others_rewound : (table : AttachedTable) (before : State) (found : TableData) (is : get before table.name ≡ Some found) (notes : Notes)
      → AllByRecursion (λ t. table.name ≢ t.name) notes → AllByRecursion (IsRewound before) notes
      → AllByRecursion (IsRewound (with_rows before table.name (rewound_rows state table))) notes
  others_rewound table before found is [] apart rows = tt
  others_rewound table before found is (t ∷ notes) apart rows = (
    rows_other before table.name found (rewound_rows state table) is t.name (other_name t.name table.name apart.0) ∙ rows.0,
    others_rewound table before found is notes apart.1 rows.1,
  )

  pub rewound_here : (notes : Notes) → AllByRecursion (HasAttached state) notes → PairsByRecursion (λ s t. s.name ≢ t.name) notes → AllByRecursion (IsRewound (rewound_state notes state)) notes
  rewound_here [] has apart = tt
  rewound_here (table ∷ notes) has apart =
      let found = table_of_schema (get (rewound_state notes state) table.name) table.schema (rewound_schemas notes has.1 table.name ∙ has.0) in (
        rows_here (rewound_state notes state) table.name found.0 (rewound_rows state table) found.1,
        others_rewound table (rewound_state notes state) found.0 found.1 notes apart.0 (rewound_here notes has.1 apart.1),
      )

  -- one after another
  pub all_rewound : (before : State) (notes : Notes) → AllByRecursion (IsRewound before) notes → map (λ t. rows_at before t.name) notes ≡ rewound notes state
  all_rewound before [] rows = refl
  all_rewound before (table ∷ notes) rows = let first = rows.0 in let others = all_rewound before notes rows.1 in cc (first, others)
