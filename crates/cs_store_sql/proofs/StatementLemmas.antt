-- What a statement leaves where it is refused, and what a known one may commit.
use Rattle.std.proofs.Common.{◌≡◌, ◌≢◌, ◌⊎◌, ◌||◌, ◌==◌, inl, inr, ℕ, ◌≤◌, Option, List, [], ◌∷◌, length, map, find, append-nil, Bool, true, false, None, Some, option_map, option_and_then, slice_get, Ok, Err, Result, IsTrue, IfSome, if◌then◌else◌, refl, sym, ap, subst, subst₂, ◌∙◌, arith}
use Rattle.std.specs.List.{AllByRecursion, filter_map, flat_map}
use Rattle.std.specs.Char.{to_ascii_lowercase}
use Rattle.std.specs.Cmp.Lexicographic.{texts_ties}
use Rattle.std.proofs.lemmas.Bool.{cases_Bool, both_ways, eqb-true, false_from_ne_true}
use Rattle.std.proofs.lemmas.List.Elements.{recursion_from_All}
use Rattle.sqlite_value.specs.declared.keys.Order.{Order}
use Rattle.sqlite_schema.specs.declared.schema.Keys.{Keys}
use Rattle.sqlite_schema.specs.declared.schema.Reference.{Reference}
use Rattle.sqlite_schema.specs.declared.schema.Table.{Table}
use Rattle.sqlite_schema.specs.Names.{same_name}
use Rattle.sqlite_schema.specs.Rules.{ParentKey, key_in, key_places, declared_order}
use Rattle.sqlite_rules.specs.declared.action.Deed.{Deed}
use Rattle.sqlite_rules.specs.Edit.{Edit, taken_by, Applies}
use Rattle.sqlite_rules.specs.Action.{works, work_for, work_by, Writes as WritesEdit}
use Rattle.sqlite_rules.proofs.ListLemmas.{all_has, all_from, has_found}
use Rattle.sqlite.specs.Does.{Tally, AtPlace, OnRows, Does}
use Rattle.sqlite_value.specs.Order.{Row}
use Rattle.sqlite_trees.specs.Tree.{Trees}
use Rattle.sqlite_schema.specs.declared.schema.Schema.{Schema}
use Rattle.sqlite_schema.specs.declared.command.Command.{Command}
use Rattle.sqlite_schema.specs.declared.command.Command.TheVariants.{Commit, Release}
use Rattle.sqlite_schema.specs.declared.command.Returning.{Returning}
use Rattle.sqlite_resolve.specs.declared.compiled.Compiled.{Compiled}
use Rattle.sqlite_resolve.specs.declared.error.CompileError.{CompileError}
use Rattle.sqlite.specs.declared.error.Error.{Error}
use Rattle.sqlite.specs.declared.error.Error.TheVariants.{SqliteFailure}
use Rattle.sqlite.specs.declared.error.ErrorCode.TheVariants.{OutOfMemory, ConstraintViolation}
use Rattle.sqlite_schema.specs.declared.schema.Constraint.TheVariants.{Unique}
use Rattle.sqlite_trees.specs.declared.error.StoreError.{StoreError}
use Rattle.sqlite_trees.specs.declared.error.StoreError.TheVariants as cause
use Rattle.sqlite.specs.Clock.{timed}
use Rattle.sqlite.specs.Given.{IsPlain}
use Rattle.sqlite.specs.Listing.{understood}
use Rattle.sqlite.specs.Calls.{IsWrite}
use Rattle.sqlite.specs.Effect.{is_query}
use Rattle.sqlite.specs.State.{State, mode_of, Shows, Writes, HasCleanDisk, Survives, is_pragma, ExecutesIn, Executes, IsNotRun, IsNoStatement, IsUnchanged, IsRolledBack, IsMisplaced, Fails, MayCommit, RunsCommand, CommitsBy, shows_rows, store_error, text_of}
use Rattle.sqlite.proofs.Callers.{command_of, statement_of, one_step}
use Rattle.sqlite.proofs.StateLemmas.{survives_weaker}
use Rattle.cs_store_sql.specs.declared.fault.RecordsError.TheVariants.{Database}
use Rattle.cs_store_sql.specs.Faults.{not_unique, refusal_of}
use Rattle.cs_store_sql.specs.Failing.{HasDiskFailed}
use Rattle.cs_store_sql.specs.Records.{table_name, records_tree, IsApart, DeclaresRecords, Rests, KeepsCrash, GoesOn, IsUndone}
use Rattle.cs_store_sql.proofs.RowLemmas.{same_is}

-- ---- for each text

-- a statement that did not run leaves the connection as it was, or rolled back
pub not_run_rests : (sql : List ℕ) (params : Row) (old new : State) (e : Error) → IsNotRun old new sql params e → Rests old new
unfolding IsNotRun
not_run_rests sql params old new e (inl no_statement) = inl no_statement.1
not_run_rests sql params old new e (inr fails) = inr fails.3

-- and so does a command that is refused
pub command_rests : (sql : List ℕ) (params : Row) (old new : State) (c : Compiled) (e : Error) → RunsCommand old new sql c params (Err e) → Rests old new
command_rests sql params old new c e (inl refused) = inl refused.1
command_rests sql params old new c e (inr fails) = inr fails.3

-- and so each statement that is refused
pub refusal_rests : (sql : List ℕ) (params : Row) (old new : State) (e : Error) → Executes sql params old new (Err e) → Rests old new
unfolding ExecutesIn
refusal_rests sql params old new e (inl not_run) = not_run_rests sql params old new e not_run
refusal_rests sql params old new e (inr ran) = elim (cases_Bool (shows_rows false ran.0)) [
  | inl shows ↦ inl (rw shows at ran.2).1
  | inr runs ↦ command_rests sql _ old new ran.0 e (rw runs at ran.2)
]

-- one that is refused for none of the store's errors changes nothing
command_stays : (sql : List ℕ) (params : Row) (old new : State) (c : Compiled) (e : Error) → ((kind : StoreError) → e ≢ store_error kind) → RunsCommand old new sql c params (Err e) → IsUnchanged old new
command_stays sql params old new c e other (inl refused) = refused.1
command_stays sql params old new c e other (inr fails) = absurd (other fails.0 fails.1)

pub refusal_stays : (sql : List ℕ) (params : Row) (old new : State) (e : Error) → ((kind : StoreError) → e ≢ store_error kind) → Executes sql params old new (Err e) → IsUnchanged old new
unfolding ExecutesIn IsNotRun
refusal_stays sql params old new e other (inl (inl no_statement)) = no_statement.1
refusal_stays sql params old new e other (inl (inr fails)) = absurd (other fails.0 fails.1)
refusal_stays sql params old new e other (inr ran) = elim (cases_Bool (shows_rows false ran.0)) [
  | inl shows ↦ (rw shows at ran.2).1
  | inr runs ↦ command_stays sql _ old new ran.0 e other (rw runs at ran.2)
]

-- as one that is not unique
pub not_of_store : (kind : StoreError) → SqliteFailure (ConstraintViolation Unique) ≢ store_error kind
not_of_store cause.OutOfMemory same = absurd cc
not_of_store cause.Io same = absurd cc
not_of_store cause.Corrupt same = absurd cc
not_of_store cause.Full same = absurd cc
not_of_store cause.Broken same = absurd cc
not_of_store cause.Unstorable same = absurd cc

error_is : (e f : Error) → refusal_of e ≡ Database f → e ≡ f
error_is (SqliteFailure OutOfMemory) f same = absurd cc
error_is (SqliteFailure code) f same = cc
error_is e f same = cc

pub not_unique_stays : (sql : List ℕ) (params : Row) (old new : State) (e : Error) → refusal_of e ≡ not_unique → Executes sql params old new (Err e) → IsUnchanged old new
not_unique_stays sql params old new e same = refusal_stays sql params old new e (λ kind is. not_of_store kind (sym (error_is e _ same) ∙ is))

-- ---- for a text whose meaning is known

-- it is one statement, with this many parameters, and does not read the time
abbrev pub IsWhole : List ℕ → ℕ → Result Compiled CompileError → Type 0
IsWhole sql count (Ok c) = (length sql ≤ c.tail) × (count ≡ length c.names) × (c.formats ≡ [])
IsWhole sql count (Err e) = ⊥

-- so it is understood
no_fault : (sql : List ℕ) (count : ℕ) (r : Result Compiled CompileError) (fault : CompileError) → IsWhole sql count r → r ≢ Err fault
no_fault sql count (Ok c) fault whole e = absurd (cc)
no_fault sql count (Err other) fault whole e = whole

-- and it is run
pub is_statement : (s : State) (sql : List ℕ) (params : Row) (e : Error) → IsWhole sql (length params) (understood s.now.schema sql) → ¬ IsNoStatement s sql params e
is_statement s sql params e whole (inl fault) = no_fault sql (length params) _ fault.0 whole fault.1
is_statement s sql params e whole (inr it) =
    let known = subst (IsWhole sql (length params)) it.1 whole in
    elim it.2 [
      | inl more ↦ more.0 known.0
      | inr (inl counts) ↦ counts.0 known.1
      | inr (inr time) ↦ time.0 known.2
    ]

-- the command cannot store what it would write
abbrev pub IsTooBig : State → Command → Type 0
IsTooBig s command = (text : List ℕ) × (params : Row) × Does s.step_limit (mode_of s) params s.now text None command (Err None)

-- unless memory ran out or what is written is too big, the disk failed
pub by_disk : (old new : State) (e : Error) (too_big : Type 0) → ¬ too_big → e ≢ SqliteFailure OutOfMemory → Fails old new too_big e → HasDiskFailed old new e
by_disk old new e too_big fits other (cause.OutOfMemory, is, why, back, tells) = absurd (other is)
by_disk old new e too_big fits other (cause.Io, is, why, back, tells) = (cause.Io, is, why)
by_disk old new e too_big fits other (cause.Corrupt, is, why, back, tells) = (cause.Corrupt, is, why)
by_disk old new e too_big fits other (cause.Full, is, why, back, tells) = (cause.Full, is, why)
by_disk old new e too_big fits other (cause.Broken, is, why, back, tells) = (cause.Broken, is, inr why)
by_disk old new e too_big fits other (cause.Unstorable, is, why, back, tells) = absurd (fits why)

-- a failure, where what is too big is so for another reason too
fails_so : (old new : State) (e : Error) (one other : Type 0) → (one → other) → Fails old new one e → Fails old new other e
fails_so old new e one other so (cause.OutOfMemory, is, why, back, tells) = (cause.OutOfMemory, is, why, back, tells)
fails_so old new e one other so (cause.Io, is, why, back, tells) = (cause.Io, is, why, back, tells)
fails_so old new e one other so (cause.Corrupt, is, why, back, tells) = (cause.Corrupt, is, why, back, tells)
fails_so old new e one other so (cause.Full, is, why, back, tells) = (cause.Full, is, why, back, tells)
fails_so old new e one other so (cause.Broken, is, why, back, tells) = (cause.Broken, is, why, back, tells)
fails_so old new e one other so (cause.Unstorable, is, why, back, tells) = (cause.Unstorable, is, so why, back, tells)

-- a command that shows no rows shows none without RETURNING
pub quiet_is : (a b : Bool) → a || b ≡ false → a || (b || false) ≡ false
quiet_is true b e = e
quiet_is false true e = e
quiet_is false false e = e

module _ (sql : List ℕ) (params : Row) (schema : Schema) (command : Command) (is : command_of (understood schema sql) ≡ command) (plain : IsPlain (understood schema sql)) where
  -- what it commits, its command may commit
  pub commits_as : (s : State) (db : Trees) → s.now.schema ≡ schema → CommitsBy sql params s db → MayCommit s None command (statement_of sql (understood schema sql)) params db
  unfolding CommitsBy
  commits_as s db has h =
      let known = sym h.1.is ∙ ap (λ of. understood of sql) has in
      let bare = subst IsPlain (sym known) plain in
      let may = rw (bare.0, bare.1, append-nil params) at h.2 in
      subst₂ (λ k t. MayCommit s None k t params db) (ap command_of known ∙ is) (ap (statement_of sql) known) may

  -- where it is no write, its failure rolls back, or it was not in its place
  pub fails_as : ¬ IsWrite command → is_query command || is_pragma command ≡ false → (old new : State) (e : Error) → old.now.schema ≡ schema → IsWhole sql (length params) (understood schema sql)
      → Executes sql params old new (Err e) → Fails old new (IsTooBig old command) e ⊎ (IsMisplaced old command e × IsUnchanged old new)
  unfolding ExecutesIn IsNotRun
  fails_as reads quiet old new e has whole (inl (inl it)) =
      absurd (is_statement old sql params e (subst (λ of. IsWhole sql (length params) (understood of sql)) (sym has) whole) it.0)
  fails_as reads quiet old new e has whole (inl (inr fails)) = inl (fails_so old new e ⊥ (IsTooBig old command) (λ none. absurd none) fails)
  fails_as reads quiet old new e has whole (inr ran) =
      let c = ran.0 in
      let known = sym ran.1.is ∙ ap (λ of. understood of sql) has in
      let bare = subst IsPlain (sym known) plain in
      let command_is : c.command ≡ command = ap command_of known ∙ is in
      let none = bare.0 in
      let shows : shows_rows false c ≡ false = rw (command_is, none) (quiet_is _ _ quiet) in
      elim (rw shows at ran.2) [
        | inl (inl misplaced, same) ↦ inr (rw command_is at misplaced, same)
        | inl (inr (inl writes, refused), same) ↦ absurd (reads (rw command_is at writes))
        | inl (inr (inr returns, refused), same) ↦ absurd (let no = rw none at returns in cc)
        | inr fails ↦ inl (fails_so old new e _ (IsTooBig old command) (λ big. (text_of sql c, timed params c.formats ran.1.now, rw (command_is, none) at big)) fails)
      ]

-- the text is a statement under the schema, and does not end a transaction
pub record EndsNothing (schema : Schema) (sql : List ℕ) : Type 0 where
  pub command : Command
  pub is : command_of (understood schema sql) ≡ command
  pub plain : IsPlain (understood schema sql)
  pub commits : command ≢ Commit
  pub releases : (name : List ℕ) → command ≢ Release name

-- inside a transaction it commits nothing
pub inside_keeps_crash : (sql : List ℕ) (params : Row) (old new : State) → (HasCleanDisk old → EndsNothing old.now.schema sql) → (HasCleanDisk old → IsTrue old.in_transaction)
    → Survives old new (CommitsBy sql params old) → KeepsCrash old new
inside_keeps_crash sql params old new has inside survives = survives_weaker old new _ (λ _. ⊥) (λ clean db by. never (omega (arith, survives.clean)) db by) survives
  where
    never : HasCleanDisk old → (db : Trees) → CommitsBy sql params old db → ⊥
    never was db by =
        let it = has was in
        elim (commits_as sql params old.now.schema it.command it.is it.plain old db refl by) [
          | inl (inl ends, at) ↦ it.commits ends
          | inl (inr ends, at) ↦ it.releases ends.0 ends.2
          | inr writes ↦ both_ways _ writes.0 (inside was)
        ]

-- the state after a rollback
pub undone_by : (old new : State) → IsRolledBack old new → IsUndone old new
undone_by old new h = record { autocommit = h.autocommit; was_open = h.was_open; now = λ is_open. (h.undone is_open).0; committed = λ is_open. (h.undone is_open).1 }

-- inside a transaction a write leaves what was committed, and the transaction goes on
pub write_goes_on : (old new : State) (what : Option Returning) (command : Command) (text : List ℕ) (params : Row) (count : ℕ) → IsTrue old.in_transaction → Writes old new what command text params count
    → GoesOn old new
write_goes_on old new what command text params count inside w = subst (λ mode. Shows old new new.now (if mode then old.committed else new.now) mode) inside w.shown

-- a part that gave a value did not stop on the way
pub went : {B E R : Type 0} {b : B} {Stops : E → Type 0} → ((stop : E) × Stops stop × (Ok b ≡ Err stop)) ⊎ R → R
went (inl stopped) = absurd (let e = stopped.2 in cc)
went (inr further) = further

-- what two values that are given alike say
pub same_value : {B E : Type 0} {a b : B} → ◌≡◌ {A = Result B E} (Ok a) (Ok b) → a ≡ b
same_value e = cc

-- ---- a statement on the rows of a table

-- it is on the table at its index
pub on_table : (old new : State) (tally : Tally) (params : Row) (index : ℕ) (table : Table) (command : Command) → slice_get old.now.schema.tables index ≡ Some table
    → AtPlace (λ t. OnRows (record { limit = old.step_limit; keys = (mode_of old).keys; schema = old.now.schema; table = t; params = params }) (mode_of old) None command old.now.trees)
    (slice_get old.now.schema.tables index) (Ok (tally, new.now))
    → OnRows (record { limit = old.step_limit; keys = (mode_of old).keys; schema = old.now.schema; table = table; params = params }) (mode_of old) None command old.now.trees (Ok (tally, new.now))
on_table old new tally params index table command has =
    subst (λ o. AtPlace (λ t. OnRows (record { limit = old.step_limit; keys = (mode_of old).keys; schema = old.now.schema; table = t; params = params }) (mode_of old) None command old.now.trees) o (Ok (tally, new.now))) has

-- ---- no key refers to the table of records

-- what is a name but for case has the same other names
name_apart : (a b c : List ℕ) → same_name a b ≡ true → same_name b c ≡ false → same_name a c ≡ false
unfolding same_name
name_apart a b c same other =
    let is : map to_ascii_lowercase a ≡ map to_ascii_lowercase b =
    same_is (map to_ascii_lowercase a) (map to_ascii_lowercase b) (texts_ties (map to_ascii_lowercase a) (map to_ascii_lowercase b) ∙ same) in
    rw is other

-- a key that refers to a table with another tree sets off nothing here
key_elsewhere : (tree : ℕ) (names : List (List ℕ)) (found : Option Table) → IfSome found (λ t. t.tree ≢ tree)
    → IfSome (option_and_then (λ t. option_and_then (key_in t) (key_places t names)) found) (λ key. (key.0 == tree) ≡ false)
key_elsewhere tree names None h = tt
key_elsewhere tree names (Some t) h = at (key_places t names)
  where
    in_order : (places : List ℕ) (order : Option Order) → IfSome {T = ParentKey} (option_map (λ o. (t.tree, places, o)) order) (λ key. (key.0 == tree) ≡ false)
    in_order places None = tt
    in_order places (Some o) = false_from_ne_true _ (λ same. h (eqb-true t.tree tree same))

    at : (places : Option (List ℕ)) → IfSome (option_and_then (key_in t) places) (λ key. (key.0 == tree) ≡ false)
    at None = tt
    at (Some places) = in_order places (declared_order t places)

no_work : (depth tree : ℕ) (moves : List (Row × Row)) (child : Table) (ref : Reference) (deed : Option Deed) (key : Option ParentKey) → IfSome key (λ k. (k.0 == tree) ≡ false)
    → work_by depth tree moves child ref deed key ≡ None
no_work depth tree moves child ref None key h = refl
no_work depth tree moves child ref (Some deed) None h = refl
no_work depth tree moves child ref (Some deed) (Some key) h = rw h refl

none_mapped : {X Y : Type 0} (f : X → Option Y) (xs : List X) → AllByRecursion (λ x. f x ≡ None) xs → filter_map f xs ≡ []
none_mapped f [] h = refl
none_mapped f (x ∷ xs) h = rw h.0 (none_mapped f xs h.1)

none_flat : {X Y : Type 0} (f : X → List Y) (xs : List X) → AllByRecursion (λ x. f x ≡ []) xs → flat_map f xs ≡ []
none_flat f [] h = refl
none_flat f (x ∷ xs) h = rw h.0 (none_flat f xs h.1)

-- so a write of the table sets off no action
pub no_works : (schema : Schema) (keys : Keys) (olds news : List Row) → DeclaresRecords schema → works schema keys 0 (records_tree schema) olds news ≡ []
no_works schema keys olds news declares =
    let tree = records_tree schema in
    let apart = recursion_from_All (IsApart tree) schema.tables declares.apart in
    none_flat _ schema.tables (all_from _ schema.tables (λ child has.
    let own = all_has (IsApart tree) schema.tables child apart has in
    let elsewhere = recursion_from_All _ child.references own.references in
    none_mapped (work_for schema keys 0 tree olds news child) child.references (all_from _ child.references (λ ref there.
    no_work 0 tree _ child ref _ _ (key_elsewhere tree ref.parent_columns _ (parent ref (all_has (λ key. same_name key.parent table_name ≡ false) child.references ref elsewhere there)))))))
  where
    at : (ref : Reference) → same_name ref.parent table_name ≡ false → (o : Option Table) → find (λ t. same_name t.name ref.parent) schema.tables ≡ o → IfSome o (λ t. t.tree ≢ records_tree schema)
    at ref other None none = tt
    at ref other (Some t) some =
        let found = has_found (λ t. same_name t.name ref.parent) schema.tables t some in
        (all_has (IsApart (records_tree schema)) schema.tables t (recursion_from_All (IsApart (records_tree schema)) schema.tables declares.apart) found.0).elsewhere (name_apart t.name ref.parent table_name found.1 other)

    parent : (ref : Reference) → same_name ref.parent table_name ≡ false → IfSome (find (λ t. same_name t.name ref.parent) schema.tables) (λ t. t.tree ≢ records_tree schema)
    parent ref other = at ref other _ refl

-- and is its one step
pub one_edit : (schema : Schema) (keys : Keys) (db next : Trees) (edit : Edit) → DeclaresRecords schema → edit.table.tree ≡ records_tree schema → WritesEdit schema keys db edit (Ok next)
    → Applies schema keys db edit next
one_edit schema keys db next edit declares is h =
    one_step schema keys db next edit (subst (λ t. works schema keys 0 t (taken_by db edit) edit.news ≡ []) (sym is) (no_works schema keys (taken_by db edit) edit.news declares)) h
