-- The key that a call names, once its table is found.
use Rattle.std.proofs.Common.{◌≡◌, ◌⊎◌, inl, inr, ℕ, List, Option, None, Some, Result, Ok, Err, IsErrAnd, sym, ap, subst, ◌∙◌}
use Rattle.cs_value.specs.declared.value.OwnedValue.{OwnedValue}
use Rattle.cs_value.specs.Spelling.{row_bytes}
use Rattle.cs_value.specs.State.{SchemaData, State}
use Rattle.cs_calls_answers.specs.declared.answer.Refused.{Refused}
use Rattle.cs_calls_answers.specs.Refusals.{plain_refusal}
use Rattle.cs_calls_conversions.specs.Keys.{key_refusal}
use Rattle.cs_calls_executor.specs.Answered.{IsResource}
use Rattle.cs_calls_executor.specs.TableCalls.{on_table, refused_or, with_key}
use Rattle.cs_calls_executor.proofs.ReadLemmas.{no_memory, schema_found}

module _ {X : Type 0} (tables : State) (table : List ℕ) (schema : SchemaData) (values : List OwnedValue) (next : SchemaData → List ℕ → Result X Refused) (found : on_table tables table (λ s. Ok s) ≡ Ok schema) where
  with_it : on_table tables table (λ s. with_key table s values (next s)) ≡ refused_or (key_refusal table schema values) (next schema (row_bytes values))
  with_it = schema_found tables table schema (λ s. with_key table s values (next s)) found

  -- it names none
  pub key_refused : (why : Refused) → (key_refusal table schema values ≡ Some why) ⊎ (why ≡ plain_refusal 60)
      → (Err why ≡ on_table tables table (λ s. with_key table s values (next s))) ⊎ IsErrAnd {T = X} (Err why) IsResource
  key_refused why (inl refused) = inl (sym (with_it ∙ ap (λ (o : Option Refused). refused_or o (next schema (row_bytes values))) refused))
  key_refused why (inr memory) = inr (subst IsResource (sym memory) no_memory)

  -- it names this one
  pub key_named : (key : List ℕ) → key_refusal table schema values ≡ None → key ≡ row_bytes values → on_table tables table (λ s. with_key table s values (next s)) ≡ next schema key
  key_named key named is = with_it ∙ ap (λ (o : Option Refused). refused_or o (next schema (row_bytes values))) named ∙ ap (next schema) (sym is)
