-- Why a query on records fails: the disk failed, memory ran out, or its steps are limited.
use Rattle.std.proofs.Common.{◌≡◌, ◌≢◌, inl, inr, ℕ, zero, suc, ◌+◌, ◌≤◌, ◌^◌, ◌==◌, nat_le, pos, true, false, true≢false, append-nil, List, [], ◌∷◌, length, find, slice_get, None, Some, IsSome, Any, refl, sym, ap, subst, ◌∙◌, arith}
use Rattle.std.proofs.Common.{IsTrue}
use Rattle.std.specs.List.{AllByRecursion, position_from}
use Rattle.std.proofs.lemmas.Bool.{cases_Bool, lt-leb, false_from_ne_true, eqb-true, eq-eqb}
use Rattle.std.proofs.lemmas.List.Elements.{recursion_from_All}
use Rattle.sqlite_value.specs.declared.value.Value.TheVariants.{Int, Text, Blob}
use Rattle.sqlite_value.specs.declared.keys.Key.{Key}
use Rattle.sqlite_value.specs.Order.{Row}
use Rattle.sqlite_trees.specs.Tree.{Trees}
use Rattle.sqlite_sql.specs.Term.{Term}
use Rattle.sqlite_sql.specs.Group.{value_over}
use Rattle.sqlite_sql.specs.Query.{Query}
use Rattle.sqlite_rules.proofs.ListLemmas.{any_has}
use Rattle.sqlite_sql.specs.Program.{ProgramOverflows, overlay}
use Rattle.sqlite_typing.specs.Types.{accepts}
use Rattle.sqlite_schema.specs.Names.{same_name}
use Rattle.sqlite_schema.specs.declared.command.Command.TheVariants.{Select}
use Rattle.sqlite_resolve.specs.declared.compiled.Compiled.{Compiled}
use Rattle.sqlite.specs.declared.error.Error.{Error}
use Rattle.sqlite.specs.declared.error.Error.TheVariants.{SqliteFailure}
use Rattle.sqlite.specs.declared.error.ErrorCode.TheVariants.{OutOfMemory, OperationInterrupted}
use Rattle.sqlite.specs.Effect.{Database, RefusesQuery}
use Rattle.sqlite.specs.State.{State, FailsToQuery, IsNotRun}
use Rattle.sqlite_schema.specs.declared.schema.Table.{Table}
use Rattle.sqlite_schema.specs.declared.schema.Schema.{Schema}
use Rattle.cs_store_sql.specs.Records.{records_table, records_tree, table_name, IsApart, IsQuery, DeclaresRecords, KeepsCrash}
use Rattle.sqlite_disk.specs.Disk.{MoreFaults}
use Rattle.sqlite_trees.specs.declared.error.StoreError.{StoreError}
use Rattle.sqlite_trees.specs.declared.error.StoreError.TheVariants as store
use Rattle.cs_store_sql.specs.Failing.{CannotRead, HasDiskFailed, IsHindered}
use Rattle.cs_store_sql.specs.Statements.{find_query, list_query, count_query, page_query, scan_query, all_rows, counting_query, limited_query, alone, IsSelect}
use Rattle.cs_store_sql.proofs.QueryLemmas.{returns_nothing}
use Rattle.cs_store_sql.proofs.QueryTexts.{understood_is, unlisted}
use Rattle.cs_store_sql.proofs.StatementLemmas.{IsWhole, is_statement, by_disk}

-- ---- a query on one table

no_any : {X : Type 0} (xs : List X) → ¬ Any (λ _. ⊥) xs
no_any xs h = h.4

-- it sums nothing up
no_fold : (tree : ℕ) (terms project : List Term) (order : List (Term × Key)) (limit : Term) (params : Row) (db : Trees) → ¬ ProgramOverflows db params [] [] (limited_query tree terms project order limit)
no_fold tree terms project order limit params db (inl none) = none
no_fold tree terms project order limit params db (inr fold) = no_any (overlay db [] tree) fold

-- nor does one that counts
no_sum : (tree : ℕ) (terms : List Term) (params : Row) (db : Trees) → ¬ ProgramOverflows db params [] [] (counting_query tree terms)
no_sum tree terms params db (inl over) =
    let group = any_has _ over.0 over.2 in
    let it = any_has _ all_rows.aggregates group.2 in
    elim it.1 [ inl same ↦ (let none = subst (λ a. value_over group.0 a ≡ None) same it.2 in cc) | inr later ↦ later ]
no_sum tree terms params db (inr fold) = no_any (overlay db [] tree) fold

module _ (sql : List ℕ) (q : Query) (params : Row) (old new : State) (e : Error) (no_overflow : (db : Trees) → ¬ ProgramOverflows db params [] [] q) where
  -- where it is accepted, it is refused only for a limit on steps
  refused_limit : accepts old.now.schema q params ≡ true → RefusesQuery old.step_limit old.now (alone q) params e → (e ≡ SqliteFailure OperationInterrupted) × IsSome old.step_limit
  refused_limit accepted (inl mistyped) = absurd (true≢false (sym accepted ∙ mistyped.1))
  refused_limit accepted (inr (inl overflows)) = absurd (no_overflow old.now.trees overflows.1)
  refused_limit accepted (inr (inr limited)) = limited

  -- and fails only for the disk, for memory or for that limit
  fails_so : IsQuery sql → (IsTrue old.is_open → IsSelect old.now.schema sql (length params) q × (accepts old.now.schema q params ≡ true)) → e ≢ SqliteFailure OutOfMemory
      → FailsToQuery sql params old new e → CannotRead old new e
  unfolding FailsToQuery IsNotRun
  fails_so query known other (inl (inl it)) =
      let asks = (known it.1.0.was_open).0 in
      absurd (is_statement old sql params e (subst (IsWhole sql (length params)) (sym (understood_is old.now.schema sql asks.0 asks.1.is)) (asks.1.whole, asks.1.given, asks.1.reads_no_time)) it.0)
  fails_so query known other (inl (inr fails)) = inl (by_disk old new e ⊥ (λ none. none) other fails)
  fails_so query known other (inr (c, it, shows)) =
      let quiet = rw (returns_nothing sql params old c query it) at shows in
      let asked = known quiet.3.0.was_open in
      let asks = asked.0 in
      let same : c ≡ asks.0 = (let is = sym it.is ∙ understood_is old.now.schema sql asks.0 asks.1.is in cc) in
      let plain : c.formats ≡ [] = ap (λ (x : Compiled). x.formats) same ∙ asks.1.reads_no_time in
      let command : c.command ≡ Select (alone q) asks.2.0 = ap (λ (x : Compiled). x.command) same ∙ asks.2.1 in
      let shown = rw (plain, command, append-nil params, unlisted old.now.schema sql asks.0 asks.1.is) at quiet in
      let at_now : RefusesQuery old.step_limit old.now (alone q) params e = subst (λ (db : Database). RefusesQuery old.step_limit db (alone q) params e) shown.1 shown.2 in
      inr (refused_limit asked.1 at_now)

pub query_fails : (sql : List ℕ) (tree : ℕ) (terms project : List Term) (order : List (Term × Key)) (limit : Term) (params : Row) (old new : State) (e : Error) → IsQuery sql
    → (IsTrue old.is_open → IsSelect old.now.schema sql (length params) (limited_query tree terms project order limit) × (accepts old.now.schema (limited_query tree terms project order limit) params ≡ true))
    → e ≢ SqliteFailure OutOfMemory → FailsToQuery sql params old new e → CannotRead old new e
query_fails sql tree terms project order limit params old new e = fails_so sql (limited_query tree terms project order limit) params old new e (no_fold tree terms project order limit params)

pub count_fails : (sql : List ℕ) (tree : ℕ) (terms : List Term) (params : Row) (old new : State) (e : Error) → IsQuery sql
    → (IsTrue old.is_open → IsSelect old.now.schema sql (length params) (counting_query tree terms) × (accepts old.now.schema (counting_query tree terms) params ≡ true))
    → e ≢ SqliteFailure OutOfMemory → FailsToQuery sql params old new e → CannotRead old new e
count_fails sql tree terms params old new e = fails_so sql (counting_query tree terms) params old new e (no_sum tree terms params)

-- ---- the table of a tree

-- the first table with the tree of records is that of records
found_from : (tree : ℕ) (it : Table) → it.tree ≡ tree → (tables : List Table) (from index : ℕ) → AllByRecursion (IsApart tree) tables
    → position_from (λ t. same_name t.name table_name) from tables ≡ Some (from + index) → slice_get tables index ≡ Some it → find (λ t. t.tree == tree) tables ≡ Some it
found_from tree it own [] from index apart named there = absurd cc
found_from tree it own (t ∷ tables) from zero apart named there =
    let same : t ≡ it = cc in
    let tied : (t.tree == tree) ≡ true = eq-eqb t.tree tree (ap (λ (x : Table). x.tree) same ∙ own) in
    rw tied there
found_from tree it own (t ∷ tables) from (suc index) apart named there = elim (cases_Bool (same_name t.name table_name)) [
  | inl here ↦ absurd (let same : from ≡ from + suc index = (let e = rw here at named in cc) in omega (arith, same))
  | inr other ↦
      let elsewhere : (t.tree == tree) ≡ false = false_from_ne_true _ (λ tied. apart.0.elsewhere other (eqb-true t.tree tree tied)) in
      let moved : from + suc index ≡ from + 1 + index = omega arith in
      rw elsewhere (found_from tree it own tables (from + 1) index apart.1 (subst (λ n. position_from (λ t. same_name t.name table_name) (from + 1) tables ≡ Some n) moved (rw other at named)) there)
]

module _ (schema : Schema) (declares : DeclaresRecords schema) where
  abbrev tree : ℕ
  tree = records_tree schema

  table_found : find (λ t. t.tree == tree) schema.tables ≡ Some (records_table tree)
  table_found = found_from tree (records_table tree) refl schema.tables zero declares.index (recursion_from_All (IsApart tree) schema.tables declares.apart) (subst (λ n. position_from (λ t. same_name t.name table_name) zero schema.tables ≡ Some n) (omega arith) declares.named) declares.table

  is_stored : nat_le (2 ^ 31) tree ≡ false
  is_stored = lt-leb _ _ declares.stored

  -- ---- what is accepted

  pub find_accepted : (tab key : List ℕ) → accepts schema (find_query tree) (Text tab ∷ Blob key ∷ []) ≡ true
  find_accepted tab key = rw (is_stored, table_found) refl

  pub list_accepted : (tab : List ℕ) → accepts schema (list_query tree) (Text tab ∷ []) ≡ true
  list_accepted tab = rw (is_stored, table_found) refl

  pub count_accepted : (tab : List ℕ) → accepts schema (count_query tree) (Text tab ∷ []) ≡ true
  count_accepted tab = rw (is_stored, table_found) refl

  pub page_accepted : (tab key : List ℕ) (most : ℕ) → accepts schema (page_query tree) (Text tab ∷ Blob key ∷ Int (pos most) ∷ []) ≡ true
  page_accepted tab key most = rw (is_stored, table_found) refl

  pub scan_accepted : accepts schema (scan_query tree) [] ≡ true
  scan_accepted = rw (is_stored, table_found) refl

-- ---- one call after another

-- a fault that was counted later was counted since an earlier call, and stays counted
more_from : (a b c : ℕ) → a ≤ b → MoreFaults b c → MoreFaults a c
more_from a b c le more = omega (arith, le, more)

more_to : (a b c : ℕ) → b ≤ c → MoreFaults a b → MoreFaults a c
more_to a b c le more = omega (arith, le, more)

-- a hindrance after calls that kept the connection open is one from before them, and stays one
hindered_from : (old mid new : State) → KeepsCrash old mid → IsTrue mid.is_open → (kind : StoreError) → IsHindered mid new kind → IsHindered old new kind
hindered_from old mid new keeps live store.Io more = more_from old.faults mid.faults new.faults keeps.counts more
hindered_from old mid new keeps live store.Corrupt more = more_from old.faults mid.faults new.faults keeps.counts more
hindered_from old mid new keeps live store.Full more = more_from old.faults mid.faults new.faults keeps.counts more
hindered_from old mid new keeps live store.Broken (inl more) = inl (more_from old.faults mid.faults new.faults keeps.counts more)
hindered_from old mid new keeps live store.Broken (inr shut) = absurd (true≢false (sym live ∙ shut))
hindered_from old mid new keeps live store.OutOfMemory none = none
hindered_from old mid new keeps live store.Unstorable none = none

hindered_to : (old mid new : State) → KeepsCrash mid new → (kind : StoreError) → IsHindered old mid kind → IsHindered old new kind
hindered_to old mid new keeps store.Io more = more_to old.faults mid.faults new.faults keeps.counts more
hindered_to old mid new keeps store.Corrupt more = more_to old.faults mid.faults new.faults keeps.counts more
hindered_to old mid new keeps store.Full more = more_to old.faults mid.faults new.faults keeps.counts more
hindered_to old mid new keeps store.Broken (inl more) = inl (more_to old.faults mid.faults new.faults keeps.counts more)
hindered_to old mid new keeps store.Broken (inr shut) = inr shut
hindered_to old mid new keeps store.OutOfMemory none = none
hindered_to old mid new keeps store.Unstorable none = none

pub disk_from : (old mid new : State) (e : Error) → KeepsCrash old mid → IsTrue mid.is_open → HasDiskFailed mid new e → HasDiskFailed old new e
disk_from old mid new e keeps live failed = (failed.0, failed.1, hindered_from old mid new keeps live failed.0 failed.2)

pub disk_to : (old mid new : State) (e : Error) → KeepsCrash mid new → HasDiskFailed old mid e → HasDiskFailed old new e
disk_to old mid new e keeps failed = (failed.0, failed.1, hindered_to old mid new keeps failed.0 failed.2)

-- so is a read that fails
pub read_from : (old mid new : State) (e : Error) → KeepsCrash old mid → IsTrue mid.is_open → CannotRead mid new e → CannotRead old new e
read_from old mid new e keeps live (inl failed) = inl (disk_from old mid new e keeps live failed)
read_from old mid new e keeps live (inr limited) = inr (limited.0, subst IsSome keeps.limit limited.1)

pub read_to : (old mid new : State) (e : Error) → KeepsCrash mid new → CannotRead old mid e → CannotRead old new e
read_to old mid new e keeps (inl failed) = inl (disk_to old mid new e keeps failed)
read_to old mid new e keeps (inr limited) = inr limited
