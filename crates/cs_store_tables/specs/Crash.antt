-- What a crash may leave of a store.
use Rattle.std.specs.Prelude.{◌≡◌, ◌⊎◌, IsTrue, false}
use Rattle.sqlite_schema.specs.declared.schema.Schema.{Schema}
use Rattle.sqlite_trees.specs.Tree.{Trees}
use Rattle.sqlite.specs.Effect.{Database, IsDatabase}
use Rattle.sqlite.specs.State.{State, HasCleanDisk, Survives}
use Rattle.cs_value.specs.State as tables
use Rattle.cs_store_sql.specs.Records.{KeepsCrash}
use Rattle.cs_store_tables.specs.Store.{HoldsState, HoldsTables, tables_in}

-- with the schema of a store, the trees are those of a state: so they are adopted as a store, with its tables, and of
-- these tables this holds
pub record MayLeave (Holds : tables.State → Type 0) (trees : Trees) : Type 0 where
  pub schema : Schema
  pub store : HoldsState (record { schema = schema; trees = trees })
  pub tables : Holds (tables_in (record { schema = schema; trees = trees }))

-- a crash leaves a store whose tables satisfy this, and nothing else, if the disk has returned what was written
abbrev pub LeavesOnly : (tables.State → Type 0) → State → Type 0
LeavesOnly Holds s = HasCleanDisk s → (trees : Trees) → s.may_leave trees → MayLeave Holds trees

-- a batch can begin
pub record CanBegin (s : State) : Type 0 where
  pub is_open : IsTrue s.is_open
  pub autocommit : s.in_transaction ≡ false

-- What a crash leaves at the end of a call that commits once, if it starts. Of any store that is what it could leave
-- before, or what the call commits; of one that was open before, the tables of its last commit then, or those that the
-- call commits. Where the call cannot start, it is nothing that could not be left before.
pub record IsAtomic (Starts : State → Type 0) (Commits : tables.State → Type 0) (old new : State) : Type 0 where
  pub survives : Survives old new (MayLeave Commits)
  pub opened : IsTrue old.is_open → LeavesOnly (λ left. (left ≡ tables_in old.committed) ⊎ Commits left) new
  pub unstarted : ¬ Starts old → KeepsCrash old new

-- What a crash leaves of a database that is to be adopted as a store: of one that was open the last commit as it was,
-- or a store of this version with the tables that the database held, so the last commit alone where it held none. Where
-- no transaction can begin, it is nothing that could not be left before.
pub record LeavesTakenOver (old new : State) : Type 0 where
  pub opened : IsTrue old.is_open → HasCleanDisk new → (trees : Trees) → new.may_leave trees
      → (trees ≡ old.committed.trees) ⊎ MayLeave (HoldsTables old.now) trees
  pub unstarted : ¬ CanBegin old → KeepsCrash old new

-- the database is what a crash left of these tables, as an open finds it
pub record IsLeftOf (held : tables.State) (db : Database) : Type 0 where
  pub sound : IsDatabase db
  pub left : MayLeave (λ left. left ≡ held) db.trees
