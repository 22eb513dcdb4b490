-- What statements give, of what calls of a store and of statements ensure.
use Rattle.std.proofs.Common.{◌≡◌, ◌≢◌, ◌⊎◌, inl, inr, ℕ, Bool, false, true≢false, List, [], map, Option, Some, None, option_map, Result, Ok, Err, refl, sym, ap, subst, ◌∙◌}
use Rattle.std.specs.Prelude.{IsSome, if◌then◌else◌, string_bytes}
use Rattle.std.specs.FinMap as map_of
use Rattle.std.specs.declared.string.String.{String}
use Rattle.std.specs.declared.alloc.Global.{Global}
use Rattle.std.proofs.lemmas.Option.{none-some}
use Rattle.cs_value.specs.declared.value.OwnedValue.{OwnedValue}
use Rattle.cs_value.specs.declared.refusal.OrNoMemory.{OrNoMemory}
use Rattle.cs_value.specs.declared.refusal.OrNoMemory.TheVariants as tool
use Rattle.cs_value.specs.Refusals.{Refuses}
use Rattle.sqlite.specs.State.{State as Connection, HasCleanDisk}
use Rattle.cs_value.specs.State.{SchemaData, TableData, State, schema_at, rows_at, row_at}
use Rattle.cs_rows.specs.declared.fault.StoreError.{StoreError}
use Rattle.cs_rows.specs.declared.fault.StoreError.TheVariants.{NoTable, NoRow}
use Rattle.cs_store.specs.Faults as faults
use Rattle.cs_store.specs.Editing.{either, Declares, schema_of, updated, deleted}
use Rattle.cs_store.specs.Store.{KeepsStore, tables_in}
use Rattle.cs_session_notes.specs.FirstImages.{Notes}
use Rattle.cs_shell_grammar.specs.Commands.{AssignmentData}
use Rattle.cs_shell_columns.specs.declared.fault.UnknownColumn.{UnknownColumn as NoColumn}
use Rattle.cs_shell_columns.specs.Columns.{AreColumns, NamesKey, marks_of, columns_of}
use Rattle.cs_shell_columns.specs.Rows.{with_assigned}
use Rattle.cs_shell_replies.specs.declared.refusal.Refusal.{Refusal}
use Rattle.cs_shell_replies.specs.declared.refusal.Refusal.TheVariants.{Store, NoMemory}
use Rattle.cs_shell_executor.specs.declared.statements.Target.{Target}
use Rattle.cs_shell_replies.specs.ErrorLines.{of_store, of_column}
use Rattle.cs_shell_replies.specs.Replies.{Reply, Silent, Listed, Refused}
use Rattle.cs_shell_executor.specs.LineAnswers.{CreateGives, unknown_key, declared, not_declared, declared_schema, EditGives, SelectGives, RowTarget, FindsRow}
use Rattle.cs_shell_executor.specs.LineAnswers.{unknown_column, no_table, null_key, found, DeleteGives, not_deleted, deletes_row, UpdateGives, not_updated, no_row, updates_row}
use Rattle.cs_shell_executor.specs.ShellState.{SlotMap, ShellState}
use Rattle.cs_store.specs.Turns.{Reads}
use Rattle.cs_shell_executor.specs.Works.{OrUnable, Works, IsHere, Finds, target_of, seen}
use Rattle.cs_shell_executor.proofs.SessionLemmas.{declares_seen}
use Rattle.cs_shell_executor.proofs.TurnLemmas.{or_store, no_memory, unable_as, resource_of_store, reads, reads_then, works_of_read, works_after_read}

-- ---- CREATE TABLE

pub create_unknown : (state : ShellState) (name : List ℕ) (columns : List (List ℕ)) (refuses : List Bool) (keys : List (List ℕ)) (e : OrNoMemory NoColumn) → Refuses (λ _. ¬ AreColumns columns keys) e
    → OrUnable (λ old. CreateGives old name columns refuses keys) state (Refused (of_column e)) state
create_unknown state name columns refuses keys (tool.Fault f) why = inl (unknown_key why)
create_unknown state name columns refuses keys tool.NoMemory why = no_memory (λ old. CreateGives old name columns refuses keys) state

-- the schema that is declared is that of the columns and of their marks
schema_is : (columns : List (String Global)) (refuses : List Bool) (keys : List (List ℕ)) (marks : List Bool) → marks ≡ marks_of (map string_bytes columns) keys
    → schema_of columns marks refuses ≡ declared_schema (map string_bytes columns) refuses keys
schema_is columns refuses keys marks same = λ i. record { columns = map string_bytes columns; flags = map (λ k. if k then 1 else 0) (same i); refuses = either (same i) refuses }

pub create_refused : (state : ShellState) (name : List ℕ) (columns : List (String Global)) (refuses : List Bool) (keys : List (List ℕ)) (marks : List Bool) (e : StoreError)
    → marks ≡ marks_of (map string_bytes columns) keys → AreColumns (map string_bytes columns) keys
    → Declares state.tables name (schema_of columns marks refuses) (Err e) ⊎ faults.IsResource e
    → OrUnable (λ old. CreateGives old name (map string_bytes columns) refuses keys) state (Refused (of_store e)) state
create_refused state name columns refuses keys marks e same are (inl why) =
    or_store (λ old. CreateGives old name (map string_bytes columns) refuses keys) state e (inl (not_declared e are (subst (λ (s : SchemaData). Declares state.tables name s (Err e)) (schema_is columns refuses keys marks same) why)))
create_refused state name columns refuses keys marks e same are (inr resource) = or_store (λ old. CreateGives old name (map string_bytes columns) refuses keys) state e (inr resource)

-- where the store is shut no more is refused than what makes no table
pub create_shut : (state : ShellState) (name : List ℕ) (columns : List (String Global)) (refuses : List Bool) (keys : List (List ℕ)) (marks : List Bool) (e : StoreError)
    → marks ≡ marks_of (map string_bytes columns) keys → AreColumns (map string_bytes columns) keys
    → ((t : State) → Declares t name (schema_of columns marks refuses) (Err e) ⊎ faults.IsResource e)
    → OrUnable (λ old. CreateGives old name (map string_bytes columns) refuses keys) state (Refused (of_store e)) state
create_shut state name columns refuses keys marks e same are why = create_refused state name columns refuses keys marks e same are (why state.tables)

pub create_declares : (old new : State) (name : List ℕ) (columns : List (String Global)) (refuses : List Bool) (keys : List (List ℕ)) (marks : List Bool) (session : Option Notes)
    → marks ≡ marks_of (map string_bytes columns) keys → AreColumns (map string_bytes columns) keys → Declares old name (schema_of columns marks refuses) (Ok new)
    → IsHere old session → IsHere new session
    × ((slots : SlotMap) → OrUnable (λ s. CreateGives s name (map string_bytes columns) refuses keys) (seen old slots session) Silent (seen new slots session))
create_declares old new name columns refuses keys marks session same are done here =
    let is = subst (λ (s : SchemaData). Declares old name s (Ok new)) (schema_is columns refuses keys marks same) done in
    let stays = declares_seen old new name (declared_schema (map string_bytes columns) refuses keys) session is here in
    (stays.0, λ slots. inl (subst (λ (s : ShellState). CreateGives (seen old slots session) name (map string_bytes columns) refuses keys Silent s) (sym (stays.1 slots)) (declared new are is)))

-- ---- SELECT

pub select_refused : (state : ShellState) (name : List ℕ) (e : StoreError) → ((e ≡ NoTable) × (schema_at state.tables name ≡ None)) ⊎ faults.IsResource e
    → OrUnable (λ old. SelectGives old name) state (Refused (of_store e)) state
select_refused state name e (inl why) = or_store (λ old. SelectGives old name) state e (inl (refl, inl (ap (λ (e : StoreError). Refused (Store e)) why.0, why.1)))
select_refused state name e (inr resource) = or_store (λ old. SelectGives old name) state e (inr resource)

-- a table that is declared has a schema
has_schema : (o : Option TableData) → IsSome o → option_map (λ (t : TableData). t.schema) o ≢ None
has_schema None some none = absurd (true≢false (sym some))
has_schema (Some table) some none = none-some table.schema (sym none)

pub select_gives : (state : ShellState) (name : List ℕ) (rows : List (List OwnedValue)) → IsSome (map_of.get state.tables name) → rows ≡ map_of.values (rows_at state.tables name)
    → OrUnable (λ old. SelectGives old name) state (Listed rows) state
select_gives state name rows some is = inl (refl, inr (has_schema (map_of.get state.tables name) some, ap (λ (rs : List (List OwnedValue)). Listed rs) is))

-- ---- rows that are found

module _ (tables : State) (name : List ℕ) (sets conditions : List AssignmentData) where
  pub finds_resource : (e : StoreError) → faults.IsResource e → Finds name sets conditions (Err (of_store e)) tables
  finds_resource e resource = inr (resource_of_store e resource)

  module _ (schema : SchemaData) (found : schema_at tables name ≡ Some schema) where
    -- columns that are set and are none
    pub finds_unset : (e : OrNoMemory NoColumn) → Refuses (λ _. ¬ AreColumns schema.columns (columns_of sets)) e → Finds name sets conditions (Err (of_column e)) tables
    finds_unset (tool.Fault f) why = inl (unknown_column schema found (λ are. why are.0))
    finds_unset tool.NoMemory why = inr (inl refl)

    -- conditions that name no row
    pub finds_unnamed : (e : OrNoMemory NoColumn) → Refuses (λ _. ¬ NamesKey schema conditions) e → Finds name sets conditions (Err (of_column e)) tables
    finds_unnamed (tool.Fault f) why = inl (unknown_column schema found (λ are. why are.1))
    finds_unnamed tool.NoMemory why = inr (inl refl)

  -- a table that is not there
  pub finds_no_table : schema_at tables name ≡ None → Finds name sets conditions (Err (Store NoTable)) tables
  finds_no_table none = inl (no_table none)

-- ---- UPDATE and DELETE

-- the table of a row that is found is there
abbrev IsThere : State → List ℕ → Result RowTarget Refusal → Type 0
IsThere tables name (Ok target) = schema_at tables name ≡ Some target.schema
IsThere tables name (Err why) = Unit {0}

found_there : (tables : State) (name : List ℕ) (sets conditions : List AssignmentData) (r : Result RowTarget Refusal) → FindsRow tables name sets conditions r → IsThere tables name r
found_there tables name sets conditions r (no_table none) = tt
found_there tables name sets conditions r (unknown_column schema is why) = tt
found_there tables name sets conditions r (null_key schema is columns names none) = tt
found_there tables name sets conditions r (found schema key is columns names named) = is

module _ (name : List ℕ) (conditions : List AssignmentData) where
  abbrev Deletes : ShellState → Reply → ShellState → Type 0
  Deletes old = DeleteGives old name conditions

  pub delete_not_found : (a b : Connection) (session : Option Notes) (why : Refusal) → Reads a b (Finds name [] conditions (Err why)) → Works a b session session Deletes (Refused why)
  delete_not_found a b session why read =
      works_of_read (Finds name [] conditions (Err why)) Deletes a b session (Refused why) read (λ t finds slots. at (seen t slots session) finds)
    where
      at : (state : ShellState) → Finds name [] conditions (Err why) state.tables → OrUnable Deletes state (Refused why) state
      at state (inl finds) = inl (not_deleted why finds)
      at state (inr resource) = unable_as Deletes state why resource

  pub delete_works : (a b c : Connection) (before after : Option Notes) (target : Target) (reply : Reply) → Reads a b (Finds name [] conditions (Ok target))
      → Works b c before after (λ old. EditGives old (deleted old.tables name target.key)) reply → Works a c before after Deletes reply
  delete_works a b c before after target reply read works =
      works_after_read (Finds name [] conditions (Ok target)) Deletes (λ old. EditGives old (deleted old.tables name target.key)) a b c before after reply read works
      (λ t finds slots new gives. deletes_row (target_of target) reply new finds gives)

module _ (name : List ℕ) (sets conditions : List AssignmentData) where
  abbrev Updates : ShellState → Reply → ShellState → Type 0
  Updates old = UpdateGives old name sets conditions

  pub update_not_found : (a b : Connection) (session : Option Notes) (why : Refusal) → Reads a b (Finds name sets conditions (Err why)) → Works a b session session Updates (Refused why)
  update_not_found a b session why read =
      works_of_read (Finds name sets conditions (Err why)) Updates a b session (Refused why) read (λ t finds slots. at (seen t slots session) finds)
    where
      at : (state : ShellState) → Finds name sets conditions (Err why) state.tables → OrUnable Updates state (Refused why) state
      at state (inl finds) = inl (not_updated why finds)
      at state (inr resource) = unable_as Updates state why resource

  module _ (a b c : Connection) (target : Target) (found_place : Reads a b (Finds name sets conditions (Ok target))) (kept : KeepsStore b c) where
    -- the row is looked up
    looks_up : (P : State → Type 0) → (HasCleanDisk c → b.is_open ≡ false → (t : State) → P t) → (HasCleanDisk c → P (tables_in b.now)) → Reads a c (λ t. Finds name sets conditions (Ok target) t × P t)
    looks_up P shut holds = reads_then (Finds name sets conditions (Ok target)) P a b c found_place (reads P b c kept shut holds)

    pub update_no_row : (session : Option Notes) → (HasCleanDisk c → b.is_open ≡ false → ⊥) → (HasCleanDisk c → None ≡ row_at (tables_in b.now) name target.key)
        → Works a c session session Updates (Refused (Store NoRow))
    update_no_row session shut none =
        works_of_read (λ t. Finds name sets conditions (Ok target) t × (None ≡ row_at t name target.key)) Updates a c session (Refused (Store NoRow))
        (looks_up (λ t. None ≡ row_at t name target.key) (λ clean is t. absurd (shut clean is)) none) (λ t read slots. inl (no_row (target_of target) read.0 (sym read.1)))

    pub update_no_memory : (session : Option Notes) → Works a c session session Updates (Refused NoMemory)
    update_no_memory session =
        works_of_read (λ t. Finds name sets conditions (Ok target) t × Unit {0}) Updates a c session (Refused NoMemory) (looks_up (λ t. Unit {0}) (λ clean is t. tt) (λ clean. tt))
        (λ t read slots. no_memory Updates (seen t slots session))

    pub update_get_refused : (session : Option Notes) (e : StoreError) → (HasCleanDisk c → b.is_open ≡ false → faults.IsResource e)
        → (HasCleanDisk c → ((e ≡ NoTable) × (schema_at (tables_in b.now) name ≡ None)) ⊎ faults.IsResource e) → Works a c session session Updates (Refused (of_store e))
    update_get_refused session e shut why =
        works_of_read (λ t. Finds name sets conditions (Ok target) t × (((e ≡ NoTable) × (schema_at t name ≡ None)) ⊎ faults.IsResource e)) Updates a c session (Refused (of_store e))
        (looks_up (λ t. ((e ≡ NoTable) × (schema_at t name ≡ None)) ⊎ faults.IsResource e) (λ clean is t. inr (shut clean is)) why)
        (λ t read slots. at (seen t slots session) read.0 read.1)
      where
        at : (state : ShellState) → FindsRow state.tables name sets conditions (Ok (target_of target)) → ((e ≡ NoTable) × (schema_at state.tables name ≡ None)) ⊎ faults.IsResource e
            → OrUnable Updates state (Refused (of_store e)) state
        at state finds (inr resource) = or_store Updates state e (inr resource)
        at state finds (inl none) = absurd (none-some target.schema (sym none.1 ∙ found_there state.tables name sets conditions (Ok (target_of target)) finds))

    pub update_works : (d : Connection) (before after : Option Notes) (row made : List OwnedValue) (reply : Reply) → (HasCleanDisk c → b.is_open ≡ false → ⊥)
        → (HasCleanDisk c → Some row ≡ row_at (tables_in b.now) name target.key) → made ≡ with_assigned sets target.schema.columns row
        → Works c d before after (λ old. EditGives old (updated old.tables name target.key made)) reply → Works a d before after Updates reply
    update_works d before after row made reply shut is same works =
        works_after_read (λ t. Finds name sets conditions (Ok target) t × (Some row ≡ row_at t name target.key)) Updates (λ old. EditGives old (updated old.tables name target.key made)) a c d before after reply
        (looks_up (λ t. Some row ≡ row_at t name target.key) (λ clean is t. absurd (shut clean is)) is) works
        (λ t read slots new gives. updates_row (target_of target) row reply new read.0 (sym read.1)
        (subst (λ (m : List OwnedValue). EditGives (seen t slots before) (updated t name target.key m) reply new) same gives))
