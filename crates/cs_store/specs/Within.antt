-- What a call does in the transaction of a store.
use Rattle.std.specs.Prelude.{◌≡◌, ◌⊎◌, Bool, true, false, IsTrue, List, Result, IfErr, OnOk, OnErr, if◌then◌else◌}
use Rattle.sqlite.specs.Effect.{Database}
use Rattle.sqlite.specs.State.{State, Savepoint, HasCleanDisk, Shows}
use Rattle.cs_value.specs.State as tables
use Rattle.cs_store_sql.specs.Marks.{IsMarked}
use Rattle.cs_store_sql.specs.Records.{IsUndone, KeepsOthers}
use Rattle.cs_store_tables.specs.Store.{HoldsState, IsInside, KeepsStore, tables_in}

-- If the disk has returned what was written: a call is accepted, the transaction is open, and `Makes` holds of its
-- tables. Or it is refused: the transaction shows what it showed before, or it has ended, and the store is as it was
-- committed last. An open one ends only with an error for which `MayEnd` holds. Nothing is committed. A transaction that
-- is still open has the marks that it had.
pub record Within {X E : Type 0} (Makes : tables.State → Type 0) (MayEnd : E → Type 0) (old new : State)
    (result : Result X E) : Type 0 where
  pub kept : KeepsStore old new
  pub made : HasCleanDisk new → OnOk result (IsInside new × Makes (tables_in new.now))
  pub back : HasCleanDisk new → OnErr result (IsTrue new.in_transaction → new.now ≡ old.now)
  pub ended : HasCleanDisk new → OnErr result (new.in_transaction ≡ false → IsUndone old new)
  pub goes_on : HasCleanDisk new → IsTrue old.in_transaction → IfErr result (λ e. MayEnd e ⊎ IsTrue new.in_transaction)

-- The newest mark was set where tables were shown, and all but the records was as it was committed last.
abbrev pub HasBefore : State → Type 0
HasBefore s = (before : List Savepoint) × (db : Database) × HoldsState db
    × (IsTrue s.is_open → KeepsOthers s.committed db) × IsMarked before db s

-- A call ends that set a mark first, at a database `db` and after the marks `before`: if it is accepted, the transaction
-- shows what it shows. If it is refused, it shows `db` again, or it had ended, and shows what was committed last.
pub record EndsCall (accepted : Bool) (before : List Savepoint) (db : Database) (old new : State) : Type 0 where
  pub goes_on : IsTrue old.in_transaction
      → Shows old new (if accepted then old.now else db) old.committed true × (new.marks ≡ before)
  pub has_ended : old.in_transaction ≡ false → IsUndone old new
