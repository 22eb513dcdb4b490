-- A declaration that is refused.
use Rattle.std.proofs.Common.{◌≡◌, ◌⊎◌, inl, inr, ℕ, List, [], Vec, Global, map, Ok, Err, IsTrue, false, refl, sym, ap, subst, ◌∙◌}
use Rattle.sqlite.specs.State as sqlite
use Rattle.sqlite.specs.State.{HasCleanDisk}
use Rattle.cs_value.specs.State.{SchemaData}
use Rattle.cs_rows.specs.declared.fault.StoreError.{StoreError}
use Rattle.cs_rows.specs.declared.fault.StoreError.TheVariants.{NoMemory}
use Rattle.cs_rows.specs.declared.edit.Written.{Written}
use Rattle.cs_rows.specs.Editing.{Declares, written_of}
use Rattle.cs_rows.specs.Faults as stores
use Rattle.cs_rows.specs.Faults.{IsReadRefusal, refused_for}
use Rattle.cs_store.specs.Store.{tables_in}
use Rattle.cs_store.specs.Within.{Within}
use Rattle.cs_store.proofs.WithinLemmas.{same_within}
use Rattle.cs_calls_answers.specs.declared.answer.Refused.{Refused}
use Rattle.cs_calls_answers.specs.Refusals.{plain_refusal, out_of_memory}
use Rattle.cs_calls_conversions.specs.Columns.{declared_schema}
use Rattle.cs_calls_conversions.specs.Refusals.{of_declare_error, of_error}
use Rattle.cs_calls_parts.specs.declared.lists.Column.{Column}
use Rattle.cs_calls_executor.specs.Answered.{IsRefusalOf, IsResource, Makes, MayEnd}
use Rattle.cs_calls_executor.specs.TableCalls.{Declared}
use Rattle.cs_calls_executor.proofs.EditLemmas.{within_refused}
use Rattle.cs_calls_executor.proofs.ReadLemmas.{no_memory}

-- then the declaration plays no part
declare_error_is : (table : List ℕ) (error : StoreError) → IsReadRefusal error → of_declare_error table error ≡ of_error error
declare_error_is table error (inl is) = subst (λ (e : StoreError). of_declare_error table e ≡ of_error e) (sym is) refl
declare_error_is table error (inr (inl is)) = subst (λ (e : StoreError). of_declare_error table e ≡ of_error e) (sym is) refl
declare_error_is table error (inr (inr (refused_for cause))) = refl

module _ (table : List ℕ) (columns : List Column) where
  -- there is no memory for it
  pub declare_unstarted : (old : sqlite.State) → (HasCleanDisk old → old.in_transaction ≡ false → IsTrue old.is_open → old.now ≡ old.committed) → Makes (λ tables. Declared tables table columns) old old (Err out_of_memory)
  declare_unstarted old settled = record {
    within = same_within out_of_memory _ MayEnd old settled;
    refused = λ clean. inr no_memory;
  }

  refusal : (Is : StoreError → Type 0) → ((e : StoreError) → Is e → IsReadRefusal e) → Is NoMemory → (error : StoreError) (why : Refused) → (why ≡ of_declare_error table error) ⊎ (why ≡ plain_refusal 60) → Is error → IsRefusalOf Is why
  refusal Is reads memory error why (inl is) may = record { error = error; of = may; is = is ∙ declare_error_is table error (reads error may) }
  refusal Is reads memory error why (inr out) may = record { error = NoMemory; of = memory; is = out }

  -- it is refused
  pub declare_refused : (name : List ℕ) (schema : SchemaData) → name ≡ table → schema ≡ declared_schema columns → (old new : sqlite.State) (error : StoreError) (why : Refused)
      → (why ≡ of_declare_error table error) ⊎ (why ≡ plain_refusal 60) → (HasCleanDisk new → Declares (tables_in old.now) name schema (Err error) ⊎ stores.IsResource error)
      → {X : Type 0} → Within {X = X} (λ left. Declares (tables_in old.now) name schema (Ok left)) IsReadRefusal old new (Err error) → Makes (λ tables. Declared tables table columns) old new (Err why)
  declare_refused name schema named_is schema_is old new error why is refused {X} within = record {
    within = within_refused (λ left. Declares (tables_in old.now) name schema (Ok left)) _ IsReadRefusal old new error why (refusal IsReadRefusal (λ e may. may) (inr (inl refl)) error why is) within;
    refused = λ clean. at (refused clean) is;
  }
    where
      at : Declares (tables_in old.now) name schema (Err error) ⊎ stores.IsResource error → (why ≡ of_declare_error table error) ⊎ (why ≡ plain_refusal 60) → Declared (tables_in old.now) table columns (Err why) ⊎ IsResource why
      at it (inr memory) = inr (subst IsResource (sym memory) no_memory)
      at (inl it) (inl same) = inl (error, subst (λ (n : List ℕ). Declares (tables_in old.now) n (declared_schema columns) (Err error)) named_is (subst (λ (s : SchemaData). Declares (tables_in old.now) name s (Err error)) schema_is it), same)
      at (inr short) (inl same) = inr (refusal stores.IsResource (λ e may. inr may) (inl refl) error why (inl same) short)

  -- it is done, and no key is written
  pub declare_made : (name : List ℕ) (schema : SchemaData) → name ≡ table → schema ≡ declared_schema columns → (old new : sqlite.State) (written : Vec Written Global) → written.items ≡ []
      → {X : Type 0} (x : X) → Within {X = X} (λ left. Declares (tables_in old.now) name schema (Ok left)) IsReadRefusal old new (Ok x) → Makes (λ tables. Declared tables table columns) old new (Ok written)
  declare_made name schema named_is schema_is old new written none {X} x within = record {
    within = record {
      kept = within.kept;
      made = λ clean.
          let made = within.made clean in (
            made.0,
            (subst (λ (n : List ℕ). Declares (tables_in old.now) n (declared_schema columns) (Ok (tables_in new.now))) named_is (subst (λ (s : SchemaData). Declares (tables_in old.now) name s (Ok (tables_in new.now))) schema_is made.1), ap (map written_of) none),
          );
      back = λ clean. tt;
      ended = λ clean. tt;
      goes_on = λ clean inside. tt;
    };
    refused = λ clean. tt;
  }
