-- What a call of a session in a transaction leaves, by its answer.
use Rattle.std.proofs.Common.{◌≡◌, ℕ, Option, inl, inr, true, IsTrue, sym, refl, subst}
use Rattle.sqlite.specs.Effect.{Database}
use Rattle.sqlite.specs.State as store
use Rattle.sqlite.specs.State.{HasCleanDisk, Shows}
use Rattle.cs_value.specs.State.{IsState}
use Rattle.cs_rows.specs.declared.fault.StoreError.{StoreError}
use Rattle.cs_rows.specs.Faults as stores
use Rattle.cs_rows.specs.Faults.{refused_for}
use Rattle.cs_store_sql.specs.Failing.{LeadsTo, itself, by_each}
use Rattle.cs_store.specs.Failing.{IsMade, Writes}
use Rattle.cs_store.specs.Laws.{was_clean}
use Rattle.cs_store.specs.Records.{KeepsCrash, KeepsOthers}
use Rattle.cs_store.specs.Store.{HoldsState, tables_in}
use Rattle.cs_session_notes.specs.Changes.{IsRowsRefusal}
use Rattle.cs_session_notes.specs.Faults.{fault_of}

-- what the store refuses for want of a resource may end the transaction
pub resource_refusal : (e : StoreError) → stores.IsResource e → IsRowsRefusal (fault_of e)
resource_refusal e (inl memory) = subst (λ (f : StoreError). IsRowsRefusal (fault_of f)) (sym memory) (inl refl)
resource_refusal e (inr (refused_for cause)) = inr (inr (inr (refused_for cause)))

-- a transaction that set a mark shows the tables of a state
pub marked_state : (old marked : store.State) → (HasCleanDisk marked → Shows old marked old.now old.committed true) → KeepsCrash old marked
    → (HasCleanDisk old → IsTrue old.is_open → HoldsState old.now × KeepsOthers old.committed old.now) → HasCleanDisk marked → IsState (tables_in marked.now)
marked_state old marked shows starts law clean =
    let shown = shows clean in
    subst (λ (db : Database). IsState (tables_in db)) (sym shown.now_is) (law (was_clean old marked starts clean) shown.was_open).0.stores.is_state

-- without a write the database stays
pub nothing_made : {limit : Option ℕ} {a b : Database} → LeadsTo (IsMade (Writes (λ held write. ⊥))) limit a b → b ≡ a
nothing_made itself = refl
nothing_made (by_each mid new statement tally leads is ends) = absurd is.0.2
