-- What is known of the texts: that no query writes, whatever the schema is, and what a text is that is compiled.
use Rattle.std.proofs.Common.{◌≡◌, ℕ, Bool, true, false, cond, List, None, Result, Ok, Err, refl, sym, ap, subst, ◌∙◌}
use Rattle.sqlite_ast.specs.declared.Statement.{Statement}
use Rattle.sqlite_ast.specs.declared.Statement.TheVariants as written
use Rattle.sqlite_syntax.specs.declared.statement.Parsed.{Parsed}
use Rattle.sqlite_schema.specs.declared.schema.Schema.{Schema}
use Rattle.sqlite_schema.specs.declared.command.Command.{Command}
use Rattle.sqlite_resolve.specs.Lowering.{Checked, and_then}
use Rattle.sqlite_resolve.specs.Compile.{first, returning, meaning, planned, compiled, with_command}
use Rattle.sqlite_resolve.specs.declared.compiled.Compiled.{Compiled}
use Rattle.sqlite_resolve.specs.declared.error.CompileError.{CompileError}
use Rattle.sqlite_resolve.specs.declared.error.CompileError.TheVariants.{NoSuchTable}
use Rattle.sqlite_tied.specs.Compute.{everything}
use Rattle.sqlite.specs.Listing.{understood, reads_listing, listing_schema, if_select, is_select}
use Rattle.sqlite.proofs.Callers.{IsPlain, command_of}
use Rattle.cs_store_sql.specs.Records.{ShowsOnly, IsQuery}
use Rattle.cs_store_sql.specs.Statements.{find_text, list_text, count_text, page_text, scan_text, IsPlainStatement, IsCommand}

-- ---- a SELECT writes nothing, whatever the schema is

-- the text is a SELECT
abbrev is_select_statement : Statement → Bool
is_select_statement (written.Select s) = true
is_select_statement _ = false

abbrev pub is_select_text : Checked Parsed → Bool
is_select_text (Ok p) = is_select_statement p.statement
is_select_text (Err e) = false

-- whatever becomes of its command, it has no RETURNING
planned_shows : (p : Parsed) (formats : List (List ℕ)) (r : Checked Command)
    → ShowsOnly (and_then (and_then (and_then r (λ c. Ok (c, None))) (λ found. Ok (formats, found))) (λ plan. Ok (with_command p plan)))
planned_shows p formats (Ok c) = refl
planned_shows p formats (Err e) = tt

statement_shows : (schema : Schema) (p : Parsed) (statement : Statement) → p.statement ≡ statement → is_select_statement statement ≡ true
    → ShowsOnly (and_then (planned schema p) (λ plan. Ok (with_command p plan)))
unfolding planned meaning returning
statement_shows schema p (written.Select s) is h = rw is (planned_shows p _ _)
statement_shows schema p _ is h = absurd cc

compiled_shows : (schema : Schema) (sql : List ℕ) → is_select_text (first sql) ≡ true → ShowsOnly (compiled schema sql)
unfolding compiled
compiled_shows schema sql h = go (first sql) h
  where
    go : (r : Checked Parsed) → is_select_text r ≡ true → ShowsOnly (and_then r (λ p. and_then (planned schema p) (λ plan. Ok (with_command p plan))))
    go (Ok p) is = statement_shows schema p p.statement refl is
    go (Err e) is = absurd cc

selected_shows : (r : Result Compiled CompileError) → ShowsOnly r → ShowsOnly (if_select r)
selected_shows (Ok c) h = elim (is_select c.command) as (λ b. ShowsOnly (cond b (Ok c) (Err NoSuchTable))) [ true ↦ h | false ↦ tt ]
selected_shows (Err e) h = tt

-- so it asks for nothing but rows
pub select_is_query : (sql : List ℕ) → is_select_text (first sql) ≡ true → IsQuery sql
unfolding understood
select_is_query sql h schema =
    elim (reads_listing schema sql) as (λ b. ShowsOnly (cond b (if_select (compiled listing_schema sql)) (compiled schema sql)))
    [ true ↦ selected_shows _ (compiled_shows listing_schema sql h) | false ↦ compiled_shows schema sql h ]

-- as these texts do
pub find_is_query : IsQuery find_text
unfolding first everything
find_is_query = select_is_query find_text refl

pub list_is_query : IsQuery list_text
unfolding first everything
list_is_query = select_is_query list_text refl

pub count_is_query : IsQuery count_text
unfolding first everything
count_is_query = select_is_query count_text refl

pub page_is_query : IsQuery page_text
unfolding first everything
page_is_query = select_is_query page_text refl

pub scan_is_query : IsQuery scan_text
unfolding first everything
scan_is_query = select_is_query scan_text refl

-- ---- a text that is compiled

-- it is understood as it is compiled, and is no query on sqlite_schema
pub understood_is : (schema : Schema) (sql : List ℕ) (it : Compiled) → compiled schema sql ≡ Ok it → understood schema sql ≡ Ok it
unfolding understood
understood_is schema sql it is = rw is refl

pub unlisted : (schema : Schema) (sql : List ℕ) (it : Compiled) → compiled schema sql ≡ Ok it → reads_listing schema sql ≡ false
unlisted schema sql it is = rw is refl

-- and is as plain as it says
pub plainly : {count : ℕ} (schema : Schema) (sql : List ℕ) (it : Compiled) → IsPlainStatement schema sql count it → IsPlain (understood schema sql)
plainly schema sql it plain = subst IsPlain (sym (understood_is schema sql it plain.is)) (plain.returns_nothing, plain.reads_no_time)

-- its command is the one that it says
pub commands : {count : ℕ} (schema : Schema) (sql : List ℕ) (it : Compiled) → IsPlainStatement schema sql count it → command_of (understood schema sql) ≡ it.command
commands schema sql it plain = ap command_of (understood_is schema sql it plain.is)

module _ {count : ℕ} (schema : Schema) (sql : List ℕ) (command : Command) (its : IsCommand schema sql count command) where
  pub command_is : command_of (understood schema sql) ≡ command
  command_is = commands schema sql its.0 its.1 ∙ its.2

  pub command_plain : IsPlain (understood schema sql)
  command_plain = plainly schema sql its.0 its.1
