-- A put: whether a row has its key is read before the edit.
use Rattle.std.proofs.Common.{◌≡◌, ℕ, Bool, true, false, List, Option, is_some, Result, Ok, string_bytes, sym, ap, ◌∙◌}
use Rattle.std.specs.declared.alloc.Global.{Global}
use Rattle.std.specs.declared.string.String.{String}
use Rattle.cs_value.specs.declared.value.OwnedValue.{OwnedValue}
use Rattle.cs_value.specs.Key.{key_columns, row_key}
use Rattle.cs_value.specs.Spelling.{row_bytes}
use Rattle.cs_value.specs.State.{SchemaData, State, row_at}
use Rattle.cs_rows.specs.Editing.{Edited, edited, inserted, updated}
use Rattle.cs_calls_answers.specs.declared.answer.Refused.{Refused}
use Rattle.cs_calls_conversions.specs.Refusals.{of_edit_error, of_row_error, of_update_error}
use Rattle.cs_calls_executor.specs.TableCalls.{on_table, edit_outcome, put_by, puts, putting}
use Rattle.cs_calls_executor.proofs.ReadLemmas.{schema_found, value_found}

module _ (tables : State) (table : List ℕ) (schema : SchemaData) (row : List OwnedValue) where
  -- the tables after a put, once the schema is known
  abbrev pub put_at : Result Edited Refused
  put_at = on_table tables table (λ s. put_by tables table schema row (is_some (row_at tables table (row_key schema.flags row))))

  module _ (found : on_table tables table (λ s. Ok s) ≡ Ok schema) where
    pub put_known : puts tables table row ≡ put_at
    put_known =
        schema_found tables table schema (λ s. put_by tables table s row (is_some (row_at tables table (row_key s.flags row)))) found
        ∙ sym (schema_found tables table schema (λ s. put_by tables table schema row (is_some (row_at tables table (row_key schema.flags row)))) found)

    -- the row of its key
    pub row_known : (key : List ℕ) → key ≡ row_key schema.flags row → on_table tables table (λ s. Ok (row_at tables table (row_key s.flags row))) ≡ on_table tables table (λ s. Ok (row_at tables table key))
    row_known key is =
        schema_found tables table schema (λ s. Ok (row_at tables table (row_key s.flags row))) found
        ∙ sym (schema_found tables table schema (λ s. Ok (row_at tables table key)) found ∙ ap (λ (k : List ℕ). Ok (row_at tables table k)) is)

  -- the edit makes them
  pub put_made : (name : String Global) (values : List OwnedValue) (key : List ℕ) (there : Option (List OwnedValue)) → string_bytes name ≡ table → values ≡ key_columns schema.flags row → key ≡ row_bytes values
      → on_table tables table (λ s. Ok (row_at tables table key)) ≡ Ok there
      → put_at ≡ edit_outcome (of_edit_error table schema values (putting name key row (is_some there))) (edited tables (putting name key row (is_some there)))
  put_made name values key there named of_row is found =
      ap (λ (k : List ℕ). on_table tables table (λ s. put_by tables table schema row (is_some (row_at tables table k)))) (sym key_is)
      ∙ value_found tables table (row_at tables table key) there (λ o. put_by tables table schema row (is_some o)) found
      ∙ by (is_some there)
    where
      key_is : key ≡ row_key schema.flags row
      key_is = is ∙ ap row_bytes of_row

      by : (b : Bool) → put_by tables table schema row b ≡ edit_outcome (of_edit_error table schema values (putting name key row b)) (edited tables (putting name key row b))
      by true =
          ap (λ (v : List OwnedValue). edit_outcome (of_update_error table schema v row) (updated tables table (row_key schema.flags row) row)) (sym of_row)
          ∙ ap (λ (k : List ℕ). edit_outcome (of_update_error table schema values row) (updated tables table k row)) (sym key_is)
          ∙ ap (λ (n : List ℕ). edit_outcome (of_update_error table schema values row) (updated tables n key row)) (sym named)
      by false = ap (λ (n : List ℕ). edit_outcome (of_row_error table schema row) (inserted tables n row)) (sym named)
