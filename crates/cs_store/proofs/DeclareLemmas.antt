-- What a declaration in a batch makes of the tables that a store held.
use Rattle.std.proofs.Common.{◌≡◌, ◌⊎◌, ℕ, List, Ok, Err, inl, inr, sym, subst}
use Rattle.cs_value.specs.State as tables
use Rattle.sqlite.specs.State.{State, HasCleanDisk}
use Rattle.cs_rows.specs.declared.fault.StoreError.{StoreError}
use Rattle.cs_rows.specs.declared.fault.StoreError.TheVariants.{TableExists}
use Rattle.cs_rows.specs.Faults.{IsResource}
use Rattle.cs_rows.specs.Rows.{IsDeclared}
use Rattle.cs_rows.specs.Editing.{IsDeclarable, Declares}
use Rattle.cs_store_tables.specs.Store.{AddsTable, Begins, KeepsStore, tables_in}
use Rattle.cs_store.proofs.CrashLemmas.{begun_tables}

-- a table that is added was declared
pub added_declares : (old new : tables.State) (name : List ℕ) (schema : tables.SchemaData) → IsDeclarable name schema → AddsTable old name schema new → Declares old name schema (Ok new)
added_declares old new name schema may added = (may, added.free, added.added)

-- a name that is found taken is refused
pub taken_is_declared : (found old : tables.State) → found ≡ old → (name : List ℕ) (schema : tables.SchemaData) (e : StoreError) → IsDeclarable name schema → ((e ≡ TableExists) × IsDeclared found name) ⊎ IsResource e
    → Declares old name schema (Err e) ⊎ IsResource e
taken_is_declared found old same name schema e may (inl taken) = inl (subst (λ x. Declares old name schema (Err x)) (sym taken.0) (may, subst (λ s. IsDeclared s name) same taken.1))
taken_is_declared found old same name schema e may (inr resource) = inr resource

-- and so in a batch
pub taken_declares : (old begun mid : State) → (HasCleanDisk begun → Begins old begun) → KeepsStore begun mid → HasCleanDisk mid → (name : List ℕ) (schema : tables.SchemaData) (e : StoreError) → IsDeclarable name schema
    → ((e ≡ TableExists) × IsDeclared (tables_in begun.now) name) ⊎ IsResource e → Declares (tables_in old.now) name schema (Err e) ⊎ IsResource e
taken_declares old begun mid begins keeps clean = taken_is_declared (tables_in begun.now) (tables_in old.now) (begun_tables old begun mid begins keeps clean)
