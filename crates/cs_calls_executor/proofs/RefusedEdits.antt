-- What an edit makes, and why it is refused, as calls have it.
use Rattle.std.proofs.Common.{◌≡◌, ◌⊎◌, inl, inr, ℕ, List, Vec, Global, Result, Ok, Err, refl, sym, ap, subst, ◌∙◌}
use Rattle.sqlite.specs.State as sqlite
use Rattle.sqlite.specs.State.{HasCleanDisk}
use Rattle.cs_value.specs.declared.value.OwnedValue.{OwnedValue}
use Rattle.cs_value.specs.State.{SchemaData, State}
use Rattle.cs_rows.specs.declared.edit.Edit.{Edit}
use Rattle.cs_rows.specs.declared.edit.Written.{Written}
use Rattle.cs_rows.specs.declared.fault.StoreError.{StoreError}
use Rattle.cs_rows.specs.declared.fault.StoreError.TheVariants.{NoMemory}
use Rattle.cs_rows.specs.Editing.{Edited, EditsInto, edited}
use Rattle.cs_rows.specs.Faults as stores
use Rattle.cs_rows.specs.Faults.{IsReadRefusal}
use Rattle.cs_store.specs.Store.{tables_in}
use Rattle.cs_store.specs.Within.{Within}
use Rattle.cs_calls_answers.specs.declared.answer.Refused.{Refused}
use Rattle.cs_calls_answers.specs.Refusals.{plain_refusal}
use Rattle.cs_calls_conversions.specs.Refusals.{of_edit_error}
use Rattle.cs_calls_executor.specs.Answered.{IsRefusalOf, IsResource, Edits, edited_as}
use Rattle.cs_calls_executor.specs.TableCalls.{edit_outcome}
use Rattle.cs_calls_executor.proofs.EditLemmas.{within_refused}
use Rattle.cs_calls_executor.proofs.ReadLemmas.{no_memory}
use Rattle.cs_calls_executor.proofs.RefusalLemmas.{edit_error_is}

module _ (table : List ℕ) (schema : SchemaData) (key : List OwnedValue) (edit : Edit) (old new : sqlite.State) where
  refusal : (Is : StoreError → Type 0) → ((e : StoreError) → Is e → IsReadRefusal e) → Is NoMemory → (error : StoreError) (why : Refused) → (why ≡ of_edit_error table schema key edit error) ⊎ (why ≡ plain_refusal 60) → Is error
      → IsRefusalOf Is why
  refusal Is reads memory error why (inl is) may = record { error = error; of = may; is = is ∙ edit_error_is table schema key edit error (reads error may) }
  refusal Is reads memory error why (inr out) may = record { error = NoMemory; of = memory; is = out }

  pub edit_refused : {X : Type 0} (error : StoreError) (why : Refused) → (why ≡ of_edit_error table schema key edit error) ⊎ (why ≡ plain_refusal 60)
      → (HasCleanDisk new → (edited (tables_in old.now) edit ≡ Err error) ⊎ stores.IsResource error) → Within {X = X} (EditsInto (tables_in old.now) edit) IsReadRefusal old new (Err error)
      → Edits (λ tables. edit_outcome (of_edit_error table schema key edit) (edited tables edit)) old new (Err why)
  edit_refused {X} error why is refused within = record {
    within = within_refused (EditsInto (tables_in old.now) edit) _ IsReadRefusal old new error why (refusal IsReadRefusal (λ e may. may) (inr (inl refl)) error why is) within;
    refused = λ clean. at (refused clean) is;
  }
    where
      at : (edited (tables_in old.now) edit ≡ Err error) ⊎ stores.IsResource error → (why ≡ of_edit_error table schema key edit error) ⊎ (why ≡ plain_refusal 60)
          → (edit_outcome (of_edit_error table schema key edit) (edited (tables_in old.now) edit) ≡ Err why) ⊎ IsResource why
      at it (inr memory) = inr (subst IsResource (sym memory) no_memory)
      at (inl it) (inl same) = inl (ap (λ (r : Result Edited StoreError). edit_outcome (of_edit_error table schema key edit) r) it ∙ ap (λ (w : Refused). Err w) (sym same))
      at (inr short) (inl same) = inr (refusal stores.IsResource (λ e may. inr may) (inl refl) error why (inl same) short)

  pub edit_made : (written : Vec Written Global) → (HasCleanDisk new → edited (tables_in old.now) edit ≡ Ok (edited_as (tables_in new.now) written)) → Within (EditsInto (tables_in old.now) edit) IsReadRefusal old new (Ok written)
      → Edits (λ tables. edit_outcome (of_edit_error table schema key edit) (edited tables edit)) old new (Ok written)
  edit_made written made within = record {
    within = record {
      kept = within.kept;
      made = λ clean. ((within.made clean).0, ap (λ (r : Result Edited StoreError). edit_outcome (of_edit_error table schema key edit) r) (made clean));
      back = λ clean. tt;
      ended = λ clean. tt;
      goes_on = λ clean inside. tt;
    };
    refused = λ clean. tt;
  }
