-- What a call of a history does in the transaction of a store.
use Rattle.std.specs.Prelude.{◌≡◌, false, IsTrue, Result, IfOk, OnErr}
use Rattle.sqlite.specs.State.{State, HasCleanDisk}
use Rattle.cs_value.specs.State as tables
use Rattle.cs_store_sql.specs.Records.{IsUndone}
use Rattle.cs_store_tables.specs.Store.{IsInside, KeepsStore, tables_in}

-- If the disk has returned what was written: a call is accepted, the transaction is open, and `Makes` holds of what it
-- answers and of the tables before and after. Or it is refused, and the transaction shows what it showed before; or it
-- has ended, and the store is as it was committed last. Nothing is committed.
pub record Carries {X E : Type 0} (Makes : X → tables.State → tables.State → Type 0) (old new : State)
    (result : Result X E) : Type 0 where
  pub kept : KeepsStore old new
  pub made : HasCleanDisk new → IfOk result (λ x. IsInside new × Makes x (tables_in old.now) (tables_in new.now))
  pub back : HasCleanDisk new → OnErr result (IsTrue new.in_transaction → new.now ≡ old.now)
  pub ended : HasCleanDisk new → OnErr result (new.in_transaction ≡ false → IsUndone old new)

-- The same of a part of a call in an open transaction, without what is shown after a refusal.
pub record Works {X E : Type 0} (Makes : X → tables.State → tables.State → Type 0) (old new : State)
    (result : Result X E) : Type 0 where
  pub kept : KeepsStore old new
  pub made : HasCleanDisk new → IsTrue old.in_transaction
      → IfOk result (λ x. IsTrue new.in_transaction × Makes x (tables_in old.now) (tables_in new.now))
