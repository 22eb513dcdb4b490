-- What a call does that makes one transaction of a store.
use Rattle.std.specs.Prelude.{◌≡◌, IsTrue, Result, OnOk, OnErr}
use Rattle.sqlite.specs.State.{State, HasCleanDisk}
use Rattle.cs_value.specs.State as tables
use Rattle.cs_store_sql.specs.Records.{KeepsContent, KeepsOthers}
use Rattle.cs_store_tables.specs.Crash.{CanBegin, IsAtomic, LeavesOnly}
use Rattle.cs_store_tables.specs.Store.{IsAtRest, tables_in}

-- A call commits tables, and `Commits` holds of them; or it is refused and changes nothing. A crash leaves the tables
-- from before or such tables: only the latter once it is done, and only the former once it is refused and the store is
-- still open. All but the records is kept.
pub record Transacts {X E : Type 0} (Commits : tables.State → Type 0) (old new : State) (result : Result X E) : Type 0 where
  pub at_rest : HasCleanDisk new → OnOk result (IsAtRest new)
  pub others : HasCleanDisk new → OnOk result (KeepsOthers old.now new.now)
  pub kept : HasCleanDisk new → OnErr result (KeepsContent old new)
  pub atomic : IsAtomic CanBegin Commits old new
  pub left : OnOk result (LeavesOnly (λ left. left ≡ tables_in new.now) new)
  pub stands : OnErr result (IsTrue new.is_open → LeavesOnly (λ left. left ≡ tables_in old.committed) new)
