-- The texts of SQL that read and write records, and what they are on a table of records.
use Rattle.std.specs.Prelude.{◌≡◌, ◌≤◌, ℕ, pos, negsuc, Bool, true, false, List, [], ◌∷◌, length, map, codes, Option, Some, None, Ok}
use Rattle.sqlite_value.specs.declared.value.Value.TheVariants as value
use Rattle.sqlite_value.specs.declared.keys.Collation.TheVariants.{Binary}
use Rattle.sqlite_value.specs.declared.keys.Key.{Key}
use Rattle.sqlite_value.specs.Keys.{ascending}
use Rattle.sqlite_sql.specs.declared.ops.BinaryOp.TheVariants.{Compare}
use Rattle.sqlite_sql.specs.declared.ops.CompareOp.{CompareOp}
use Rattle.sqlite_sql.specs.declared.ops.CompareOp.TheVariants.{Eq, Gt}
use Rattle.sqlite_sql.specs.Term.{Term, lit, col, op2}
use Rattle.sqlite_sql.specs.declared.aggregate.AggregateOp.TheVariants.{CountRows}
use Rattle.sqlite_sql.specs.Group.{Grouping}
use Rattle.sqlite_sql.specs.Query.{Query, inner, end}
use Rattle.sqlite_schema.specs.declared.schema.Schema.{Schema}
use Rattle.sqlite_schema.specs.declared.program.Program.{Program}
use Rattle.sqlite_schema.specs.declared.command.Command.{Command}
use Rattle.sqlite_schema.specs.declared.command.Command.TheVariants.{Select, Insert, InsertOr, Update, Delete, CreateTable}
use Rattle.sqlite_schema.specs.declared.command.Conflict.TheVariants.{Abort}
use Rattle.sqlite_schema.specs.declared.command.Source.{Source}
use Rattle.sqlite_schema.specs.declared.command.Source.TheVariants.{Values}
use Rattle.sqlite_schema.specs.declared.command.Upsert.{Upsert}
use Rattle.sqlite_resolve.specs.declared.compiled.Compiled.{Compiled}
use Rattle.sqlite_resolve.specs.Compile.{compiled}
use Rattle.cs_store_sql.specs.declared.expected.Expected.{Expected}
use Rattle.cs_store_sql.specs.declared.expected.Expected.TheVariants as expected
use Rattle.cs_store_sql.specs.declared.expected.Shape.{Shape}

-- ---- the texts

-- the number of the row of a record, and its value
abbrev pub find_text : List ℕ
find_text = codes "SELECT rowid, rowb FROM rec WHERE tab = ?1 AND keyb = ?2"

-- the records under a name
abbrev pub list_text : List ℕ
list_text = codes "SELECT keyb, rowb FROM rec WHERE tab = ?1 ORDER BY keyb"

-- the first records under a name whose keys are greater than a key
abbrev pub page_text : List ℕ
page_text = codes "SELECT keyb, rowb FROM rec WHERE tab = ?1 AND keyb > ?2 ORDER BY keyb LIMIT ?3"

-- how many records are under a name
abbrev pub count_text : List ℕ
count_text = codes "SELECT count(*) FROM rec WHERE tab = ?1"

-- the number of each row and its record, by these numbers
abbrev pub scan_text : List ℕ
scan_text = codes "SELECT rowid, tab, keyb, rowb FROM rec ORDER BY rowid"

-- what puts a record: a new one, which is refused where one is there, or one in place of that which is there
abbrev pub put_text : Bool → List ℕ
put_text true = codes "INSERT INTO rec VALUES(?1, ?2, ?3)"
put_text false = codes "INSERT INTO rec VALUES(?1, ?2, ?3) ON CONFLICT(tab, keyb) DO UPDATE SET rowb = ?3"

-- what replaces the value in the row with a number
abbrev pub replace_text : List ℕ
replace_text = codes "UPDATE rec SET rowb = ?1 WHERE rowid = ?2"

-- what removes a record, and the row with a number
abbrev pub remove_text : List ℕ
remove_text = codes "DELETE FROM rec WHERE tab = ?1 AND keyb = ?2"

abbrev pub take_text : List ℕ
take_text = codes "DELETE FROM rec WHERE rowid = ?1"

-- what makes the table
abbrev pub create_text : List ℕ
create_text = codes "CREATE TABLE IF NOT EXISTS rec(tab TEXT NOT NULL, keyb BLOB NOT NULL, rowb BLOB NOT NULL, PRIMARY KEY(tab, keyb)) STRICT"

-- ---- queries on one table

-- rising, by bytes
abbrev pub up : Key
up = ascending Binary

-- all rows are one group, of which their number is taken
abbrev pub all_rows : Grouping
all_rows = record {
  keys = [];
  collations = [];
  aggregates = record { op = CountRows; distinct = false; collation = Binary; argument = lit value.Null } ∷ [];
  having = [];
}

-- rows of the table with this tree that pass, shown and in an order, and at most so many
abbrev pub grouped_query : Option Grouping → ℕ → List Term → List Term → List (Term × Key) → Term → Query
grouped_query group tree filter project order limit = record {
  from = inner tree end;
  filter = filter;
  group = group;
  project = project;
  distinct = false;
  collations = [];
  order = order;
  limit = limit;
  offset = lit (value.Int (pos 0));
}

abbrev pub limited_query : ℕ → List Term → List Term → List (Term × Key) → Term → Query
limited_query = grouped_query None

-- all of them
abbrev pub no_limit : Term
no_limit = lit (value.Int (negsuc 0))

abbrev pub plain_query : ℕ → List Term → List Term → List (Term × Key) → Query
plain_query tree filter project order = limited_query tree filter project order no_limit

-- SQL's = and >, under the collation BINARY
abbrev pub compares : CompareOp → Term → Term → Term
compares op a b = op2 (Compare op Binary) a b

abbrev pub equals : Term → Term → Term
equals a b = compares Eq a b

abbrev pub above : Term → Term → Term
above a b = compares Gt a b

-- the terms that are compared with those of a compiled statement: a column of the row is in slot 1, a parameter in slot
-- 0
abbrev pub expected_term : Expected → Term
expected_term expected.Null = lit value.Null
expected_term (expected.Column slot at) = col slot at
expected_term (expected.Equal at param) = equals (col 1 at) (col 0 param)
expected_term (expected.Above at param) = above (col 1 at) (col 0 param)

-- by a column of the row
abbrev pub by_column : ℕ → Term × Key
by_column at = (col 1 at, up)

-- as many rows as a parameter says
abbrev pub expected_limit : Option ℕ → Term
expected_limit None = no_limit
expected_limit (Some param) = col 0 param

-- the rows that pass, or their number
abbrev pub expected_group : Bool → Option Grouping
expected_group false = None
expected_group true = Some all_rows

abbrev pub expected_query : ℕ → Shape → Query
expected_query tree shape =
    grouped_query (expected_group shape.counted) tree (map expected_term shape.filter.now) (map expected_term shape.project.now) (map by_column shape.order.now) (expected_limit shape.limit)

-- ---- what the texts are

-- the name and the key are the first two parameters
abbrev pub at_key : List Term
at_key = equals (col 1 1) (col 0 0) ∷ equals (col 1 2) (col 0 1) ∷ []

abbrev pub find_query : ℕ → Query
find_query tree = plain_query tree at_key (col 1 0 ∷ col 1 3 ∷ []) []

abbrev pub list_query : ℕ → Query
list_query tree = plain_query tree (equals (col 1 1) (col 0 0) ∷ []) (col 1 2 ∷ col 1 3 ∷ []) ((col 1 2, up) ∷ [])

-- the key and the number of rows are the second parameter and the third
abbrev pub page_query : ℕ → Query
page_query tree =
    limited_query tree (equals (col 1 1) (col 0 0) ∷ above (col 1 2) (col 0 1) ∷ []) (col 1 2 ∷ col 1 3 ∷ []) ((col 1 2, up) ∷ []) (col 0 2)

-- one row with the number of the rows that pass
abbrev pub counting_query : ℕ → List Term → Query
counting_query tree filter = grouped_query (Some all_rows) tree filter (col 1 0 ∷ []) [] no_limit

abbrev pub count_query : ℕ → Query
count_query tree = counting_query tree (equals (col 1 1) (col 0 0) ∷ [])

abbrev pub scan_query : ℕ → Query
scan_query tree = plain_query tree [] (col 1 0 ∷ col 1 1 ∷ col 1 2 ∷ col 1 3 ∷ []) ((col 1 0, up) ∷ [])

-- a program that is one query
abbrev pub alone : Query → Program
alone q = record { lets = []; body = q }

-- the row of a record, whose number is chosen
abbrev pub source_terms : List Term
source_terms = lit value.Null ∷ col 0 0 ∷ col 0 1 ∷ col 0 2 ∷ []

abbrev pub source : Source
source = Values source_terms 4

-- the number of the row is this parameter
abbrev pub at_number : ℕ → List Term
at_number param = equals (col 1 0) (col 0 param) ∷ []

-- of the row with the number that is one parameter, that number, and the row with the value that is another parameter
abbrev pub update_query : ℕ → ℕ → ℕ → Query
update_query tree number value = plain_query tree (at_number number) (col 1 0 ∷ col 1 0 ∷ col 1 1 ∷ col 1 2 ∷ col 0 value ∷ []) []

-- on a row with the same name and key, the update of that row, whose number is the fourth parameter
abbrev pub clause : ℕ → Upsert
clause tree = record { target = Some (1 ∷ 2 ∷ []); update = Some (alone (update_query tree 3 2)) }

-- the table has this index in the schema, and this tree
abbrev pub put_command : ℕ → ℕ → Bool → Command
put_command index tree true = Insert index source
put_command index tree false = InsertOr index Abort source (clause tree ∷ [])

abbrev pub replace_command : ℕ → ℕ → Command
replace_command index tree = Update index (alone (update_query tree 1 0))

-- the numbers of the rows that are removed
abbrev pub number_query : ℕ → List Term → Query
number_query tree terms = plain_query tree terms (col 1 0 ∷ []) []

abbrev pub removal : ℕ → ℕ → List Term → Command
removal index tree terms = Delete index (alone (number_query tree terms))

abbrev pub remove_command : ℕ → ℕ → Command
remove_command index tree = removal index tree at_key

abbrev pub take_command : ℕ → ℕ → Command
take_command index tree = removal index tree (at_number 0)

-- ---- under a schema

-- The whole text is this statement. It has `count` parameters and no RETURNING, and does not read the time.
pub record IsPlainStatement (schema : Schema) (sql : List ℕ) (count : ℕ) (it : Compiled) : Type 0 where
  pub is : compiled schema sql ≡ Ok it
  pub returns_nothing : it.returning ≡ None
  pub reads_no_time : it.formats ≡ []
  pub whole : length sql ≤ it.tail
  pub given : count ≡ length it.names

-- and its command is such a one
abbrev pub IsStatement : Schema → List ℕ → ℕ → (Command → Type 0) → Type 0
IsStatement schema sql count Is = (it : Compiled) × IsPlainStatement schema sql count it × Is it.command

abbrev pub IsCommand : Schema → List ℕ → ℕ → Command → Type 0
IsCommand schema sql count command = IsStatement schema sql count (λ its. its ≡ command)

-- the command is this query, whatever the names of its columns
abbrev pub IsSelectOf : Command → Program → Type 0
IsSelectOf command program = (names : List (List ℕ)) × (command ≡ Select program names)

abbrev pub IsSelect : Schema → List ℕ → ℕ → Query → Type 0
IsSelect schema sql count q = IsStatement schema sql count (λ its. IsSelectOf its (alone q))

-- the statement makes a table, and is the whole of the text that makes the table of records
pub record IsCreation (it : Compiled) : Type 0 where
  pub command : it.command ≡ CreateTable
  pub start : it.start ≡ 0
  pub end : it.end ≡ length create_text

-- the text that makes the table does so, as the whole of its text
abbrev pub Creates : Schema → Type 0
Creates schema = (it : Compiled) × IsPlainStatement schema create_text 0 it × IsCreation it
