-- What each statement that writes a record does, whichever it is.
use Rattle.std.proofs.Common.{◌≡◌, ◌≢◌, ◌||◌, ℕ, true, false, Option, List, length, None, Ok, IsTrue, refl}
use Rattle.sqlite_value.specs.Order.{Row}
use Rattle.sqlite_schema.specs.declared.schema.Schema.{Schema}
use Rattle.sqlite_schema.specs.declared.command.Command.{Command}
use Rattle.sqlite_schema.specs.declared.command.Command.TheVariants.{Commit, Release}
use Rattle.sqlite_schema.specs.declared.command.Returning.{Returning}
use Rattle.sqlite.specs.Effect.{is_query}
use Rattle.sqlite.specs.Listing.{understood}
use Rattle.sqlite.specs.State.{State, HasCleanDisk, Survives, Runs, Writes, Executes, CommitsBy, is_pragma}
use Rattle.sqlite.proofs.Callers.{statement_of, runs_as}
use Rattle.cs_store_sql.specs.Failing.{Statement, puts, replaces, removes, takes, text_in, params_in}
use Rattle.cs_store_sql.specs.Records.{records_tree, DeclaresRecords, GoesOn, KeepsCrash}
use Rattle.cs_store_sql.specs.Statements.{IsCommand, put_command, replace_command, remove_command, take_command}
use Rattle.cs_store_sql.proofs.QueryTexts.{command_is, command_plain}
use Rattle.cs_store_sql.proofs.StatementLemmas.{inside_keeps_crash, write_goes_on}

-- the command of a statement on the table of records
abbrev pub command_in : (schema : Schema) → DeclaresRecords schema → Statement → Command
command_in schema declares (puts is_new tab key value) = put_command declares.index (records_tree schema) is_new
command_in schema declares (replaces number tab key value) = replace_command declares.index (records_tree schema)
command_in schema declares (removes tab key) = remove_command declares.index (records_tree schema)
command_in schema declares (takes number tab key) = take_command declares.index (records_tree schema)

pub is_command : (schema : Schema) (declares : DeclaresRecords schema) (s : Statement) → IsCommand schema (text_in s) (length (params_in s)) (command_in schema declares s)
is_command schema declares (puts true tab key value) = declares.statements.writes.inserts
is_command schema declares (puts false tab key value) = declares.statements.writes.puts
is_command schema declares (replaces number tab key value) = declares.statements.writes.replaces
is_command schema declares (removes tab key) = declares.statements.writes.removes
is_command schema declares (takes number tab key) = declares.statements.writes.takes

-- it shows no rows
pub is_quiet : (schema : Schema) (declares : DeclaresRecords schema) (s : Statement) → is_query (command_in schema declares s) || is_pragma (command_in schema declares s) ≡ false
is_quiet schema declares (puts true tab key value) = refl
is_quiet schema declares (puts false tab key value) = refl
is_quiet schema declares (replaces number tab key value) = refl
is_quiet schema declares (removes tab key) = refl
is_quiet schema declares (takes number tab key) = refl

-- it writes
pub writes_so : (schema : Schema) (declares : DeclaresRecords schema) (s : Statement) (old new : State) (returning : Option Returning) (text : List ℕ) (params : Row) (count : ℕ)
    → Runs old new returning (command_in schema declares s) text params count → Writes old new returning (command_in schema declares s) text params count
writes_so schema declares (puts true tab key value) old new returning text params count runs = runs
writes_so schema declares (puts false tab key value) old new returning text params count runs = runs
writes_so schema declares (replaces number tab key value) old new returning text params count runs = runs
writes_so schema declares (removes tab key) old new returning text params count runs = runs
writes_so schema declares (takes number tab key) old new returning text params count runs = runs

-- it ends no part of a transaction
no_commit : (schema : Schema) (declares : DeclaresRecords schema) (s : Statement) → command_in schema declares s ≢ Commit
no_commit schema declares (puts true tab key value) same = absurd (cc)
no_commit schema declares (puts false tab key value) same = absurd (cc)
no_commit schema declares (replaces number tab key value) same = absurd (cc)
no_commit schema declares (removes tab key) same = absurd (cc)
no_commit schema declares (takes number tab key) same = absurd (cc)

no_release : (schema : Schema) (declares : DeclaresRecords schema) (s : Statement) (name : List ℕ) → command_in schema declares s ≢ Release name
no_release schema declares (puts true tab key value) name same = absurd (cc)
no_release schema declares (puts false tab key value) name same = absurd (cc)
no_release schema declares (replaces number tab key value) name same = absurd (cc)
no_release schema declares (removes tab key) name same = absurd (cc)
no_release schema declares (takes number tab key) name same = absurd (cc)

module _ (s : Statement) (old new : State) where
  module _ (count : ℕ) (declares : DeclaresRecords old.now.schema) where
    -- it writes as its command says
    pub writes : Executes (text_in s) (params_in s) old new (Ok count)
        → Writes old new None (command_in old.now.schema declares s) (statement_of (text_in s) (understood old.now.schema (text_in s))) (params_in s) count
    writes h =
        let its = is_command old.now.schema declares s in
        writes_so old.now.schema declares s old new None _ (params_in s) count
        (runs_as (text_in s) (params_in s) old new old.now.schema refl (command_in old.now.schema declares s) (command_is _ _ _ its) (command_plain _ _ _ its) count h)

    -- the transaction goes on
    pub goes_on : IsTrue old.in_transaction → Executes (text_in s) (params_in s) old new (Ok count) → GoesOn old new
    goes_on inside h = write_goes_on old new _ _ _ _ count inside (writes h)

    -- with its marks
    pub keeps_marks : Executes (text_in s) (params_in s) old new (Ok count) → new.marks ≡ old.marks
    keeps_marks h = (writes h).marks

  -- inside a transaction it commits nothing
  pub keeps_crash : (HasCleanDisk old → DeclaresRecords old.now.schema) → (HasCleanDisk old → IsTrue old.in_transaction)
      → Survives old new (CommitsBy (text_in s) (params_in s) old) → KeepsCrash old new
  keeps_crash declares = inside_keeps_crash (text_in s) (params_in s) old new (λ clean.
      let has = declares clean in
      let its = is_command old.now.schema has s in
      let command = command_in old.now.schema has s in
      record {
        command = command;
        is = command_is old.now.schema (text_in s) command its;
        plain = command_plain old.now.schema (text_in s) command its;
        commits = no_commit old.now.schema has s;
        releases = no_release old.now.schema has s;
      })
