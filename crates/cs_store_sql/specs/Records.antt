-- Records in one SQL table: a record has the name of a table, a key and a value, and no two records have both the name
-- and the key.
use Rattle.std.specs.Prelude.{bytes_eq, ◌⊎◌, ◌≡◌, ◌≢◌, ◌<◌, ◌≤◌, ◌^◌, ◌<ℤ◌, ℕ, ℤ, Bool, true, false, ◌&&◌, if◌then◌else◌, List, [], ◌∷◌, codes, take, length}
use Rattle.std.specs.Prelude.{Option, Some, None, option_map, option_and_then, unwrap_or, slice_get, Result, Ok, Err, ⊤, IsTrue, IsSome, IfSome, All, AllPairs}
use Rattle.std.specs.List.{AllByRecursion, find}
use Rattle.std.specs.Cmp.Lexicographic.{slice_cmp}
use Rattle.std.specs.Ordering.{nat_cmp, is_gt}
use Rattle.std.specs.FinMap.{is_sorted, find as find_entry}
use Rattle.sqlite.specs.State.{State, Shows, IsUnchanged, IsRolledBack, Survives}
use Rattle.sqlite_value.specs.declared.value.Value.{Value}
use Rattle.sqlite_value.specs.declared.value.Value.TheVariants.{Null, Int, Real, Text, Blob}
use Rattle.sqlite_value.specs.declared.keys.Collation.TheVariants.{Binary}
use Rattle.sqlite_value.specs.Order.{Row, column}
use Rattle.sqlite_value.specs.Keys.{plain}
use Rattle.sqlite_trees.specs.Tree.{rowid}
use Rattle.sqlite_schema.specs.declared.schema.Kind.{Kind}
use Rattle.sqlite_schema.specs.declared.schema.Kind.TheVariants as kind
use Rattle.sqlite_schema.specs.declared.schema.Column.{Column}
use Rattle.sqlite_schema.specs.declared.schema.Table.{Table}
use Rattle.sqlite_schema.specs.declared.schema.Index.{Index}
use Rattle.sqlite_schema.specs.declared.schema.Schema.{Schema}
use Rattle.sqlite_schema.specs.declared.schema.View.{View}
use Rattle.sqlite_schema.specs.Names.{same_name, table_named, index_named, view_named}
use Rattle.sqlite_rules.specs.Lists.{Has}
use Rattle.sqlite_catalog.specs.Change.{is_used, created, next_tree, KeepsRows}
use Rattle.sqlite_resolve.specs.Compile.{table_defined_by}
use Rattle.sqlite.specs.Does.{sequence_text, lacks_sequence}
use Rattle.sqlite_resolve.specs.declared.compiled.Compiled.{Compiled}
use Rattle.sqlite_resolve.specs.declared.error.CompileError.{CompileError}
use Rattle.sqlite.specs.Effect.{Database, IsDatabase, SparesFrozen}
use Rattle.sqlite.specs.Listing.{understood}
use Rattle.cs_store_sql.specs.declared.records.Place.{Place}
use Rattle.cs_store_sql.specs.declared.records.Place.TheVariants as place
use Rattle.cs_store_sql.specs.Meaning.{AreStatements}
use Rattle.cs_store_sql.specs.Statements.{create_text}

-- ---- the table

abbrev pub required : List ℕ → Kind → Column
required name k = record {
  name = name;
  kind = k;
  is_strict = true;
  not_null = true;
  default = Null;
  collation = Binary;
}

-- the name of the table
abbrev pub table_name : List ℕ
table_name = codes "rec"

-- CREATE TABLE rec(tab TEXT NOT NULL, keyb BLOB NOT NULL, rowb BLOB NOT NULL, PRIMARY KEY(tab, keyb)) STRICT,
-- whose rows are in this tree
abbrev pub records_table : ℕ → Table
records_table tree = record {
  name = table_name;
  tree = tree;
  columns =
      required (codes "tab") kind.Text ∷ required (codes "keyb") kind.Blob
      ∷ required (codes "rowb") kind.Blob ∷ [];
  key = None;
  primary = 1 ∷ 2 ∷ [];
  uniques = (1 ∷ 2 ∷ []) ∷ [];
  orders = plain ∷ [];
  checks = [];
  references = [];
  computed = [];
  stamps = record { places = []; terms = []; formats = [] };
  is_counted = false;
}

-- the tree of the table with that name
abbrev pub records_tree : Schema → ℕ
records_tree schema = unwrap_or (option_map (λ t. t.tree) (option_and_then (slice_get schema.tables) (table_named schema table_name))) 0

-- another table has another tree, and no key of a table refers to that of records
pub record IsApart (tree : ℕ) (table : Table) : Type 0 where
  pub elsewhere : same_name table.name table_name ≡ false → table.tree ≢ tree
  pub references : All (λ key. same_name key.parent table_name ≡ false) table.references

-- where rows of the table are unique under name and key in an index, these are compared by their bytes
abbrev pub IsOfKey : ℕ → Index → Type 0
IsOfKey tree index = IsTrue index.is_unique → index.table ≡ tree → index.columns ≡ 1 ∷ 2 ∷ [] → index.order ≡ plain

-- The schema declares the table of records. Its tree is stored, not computed by a statement. Each text is its statement
-- on that table.
pub record DeclaresRecords (schema : Schema) : Type 0 where
  pub index : ℕ
  pub named : table_named schema table_name ≡ Some index
  pub table : slice_get schema.tables index ≡ Some (records_table (records_tree schema))
  pub stored : records_tree schema < 2 ^ 31
  pub apart : All (IsApart (records_tree schema)) schema.tables
  pub keyed : All (IsOfKey (records_tree schema)) schema.indexes
  pub statements : AreStatements schema index (records_tree schema)

-- a table that has the name is declared otherwise, or no table has it and a view does
abbrev pub IsDeclaredOtherwise : Schema → Type 0
IsDeclaredOtherwise schema =
    ((index : ℕ) × (table : Table) × (table_named schema table_name ≡ Some index) × (slice_get schema.tables index ≡ Some table)
    × (table ≢ records_table table.tree))
    ⊎ ((table_named schema table_name ≡ None) × (index : ℕ) × (view : View) × (view_named schema table_name ≡ Some index)
    × (slice_get schema.views index ≡ Some view) × (view.foreign ≡ None))

-- Why a table that is declared as that of records is not used. A statement computes its tree, another table shares that
-- or refers to the table, an index compares its keys in another way, or a text is another statement on it.
abbrev pub IsBarred : Schema → ℕ → ℕ → Type 0
IsBarred schema index tree =
    (2 ^ 31 ≤ tree)
    ⊎ ((¬ All (IsApart tree) schema.tables)
    ⊎ ((¬ All (IsOfKey tree) schema.indexes)
    ⊎ (¬ AreStatements schema index tree)))

-- No statement reaches a table of the name, and the name is not free. An index has it, or something that the database
-- keeps as it is: an index or a trigger of this name; or a table that has a trigger, an index on some of its rows or on
-- an expression, or no numbers of its rows.
abbrev pub IsOutOfReach : Schema → Type 0
IsOutOfReach schema =
    (table_named schema table_name ≡ None)
    × (IsSome (index_named schema table_name)
    ⊎ ((index : ℕ) × (view : View) × (view_named schema table_name ≡ Some index) × (slice_get schema.views index ≡ Some view)
    × IsSome view.foreign))

-- why the statements on records cannot be used under the schema
abbrev pub IsUnsupported : Schema → Type 0
IsUnsupported schema =
    IsOutOfReach schema
    ⊎ ((index : ℕ) × (table : Table) × (table_named schema table_name ≡ Some index) × (slice_get schema.tables index ≡ Some table)
    × (table ≡ records_table table.tree) × IsBarred schema index table.tree)

-- nothing has the name of the table
abbrev pub LacksRecords : Schema → Type 0
LacksRecords schema = is_used schema table_name ≡ false

-- ---- its records

-- the bytes of a text or a blob
abbrev pub content : Value → List ℕ
content (Text t) = t
content (Blob b) = b
content Null = []
content (Int n) = []
content (Real x) = []

-- the value under each name and key
abbrev pub Records : Type 0
Records = List ℕ → List ℕ → Option (List ℕ)

-- the row is that of the record with this name and key
abbrev pub is_under : List ℕ → List ℕ → Row → Bool
is_under tab key row = bytes_eq (content (column row 1)) tab && bytes_eq (content (column row 2)) key

-- the records that rows of the table hold
unfoldable pub records_of : List Row → Records
records_of rows tab key = option_map (λ row. content (column row 3)) (find (is_under tab key) rows)

-- the records, with this value, or none, under that name and key
abbrev pub changed : Records → List ℕ → List ℕ → Option (List ℕ) → Records
changed records tab key here t k = if bytes_eq t tab && bytes_eq k key then here else records t k

-- each row has a number, and no two the same
pub record AreNumbered (rows : List Row) : Type 0 where
  pub each : AllByRecursion (λ row. (n : ℤ) × (rowid row ≡ Int n)) rows
  pub once : AllPairs (λ a b. rowid a ≢ rowid b) rows

-- the rows of the table
abbrev pub record_rows : Database → List Row
record_rows db = db.trees (records_tree db.schema)

-- the database has the table of records
pub record HoldsRecords (db : Database) : Type 0 where
  pub declares : DeclaresRecords db.schema
  pub sound : IsDatabase db
  pub numbered : AreNumbered (record_rows db)

abbrev pub records_in : Database → Records
records_in db = records_of (record_rows db)

-- the row with this number is that of the record under this name and key
abbrev pub IsAt : Database → List ℕ → List ℕ → ℤ → Type 0
IsAt db tab key number = (row : Row) × Has (record_rows db) row × (rowid row ≡ Int number) × (is_under tab key row ≡ true)

-- the row of that record is at that place, as far as is known
abbrev pub IsPlaced : Database → List ℕ → List ℕ → Place → Type 0
IsPlaced db tab key place.Unknown = Unit {0}
IsPlaced db tab key (place.At number) = IsAt db tab key number

-- a record: the name of a table, a key and a value
pub record RecordData : Type 0 where
  pub tab : List ℕ
  pub key : List ℕ
  pub value : List ℕ

-- the record of a row, which its number precedes
abbrev pub record_of : Row → RecordData
record_of row = record { tab = content (column row 1); key = content (column row 2); value = content (column row 3) }

-- each row has a number, no two the same, and each record passes the test
pub record Pass (Passes : RecordData → Type 0) (rows : List Row) : Type 0 where
  pub numbered : AreNumbered rows
  pub each : AllByRecursion (λ row. Passes (record_of row)) rows

-- the keys and values under a name, each once and by key
pub record ListsTable (records : Records) (tab : List ℕ) (listed : List (List ℕ × List ℕ)) : Type 0 where
  pub rising : IsTrue (is_sorted (slice_cmp nat_cmp) listed)
  pub each : (key : List ℕ) → find_entry (slice_cmp nat_cmp) key listed ≡ records tab key

-- so many records are under a name
abbrev pub Counts : Records → List ℕ → ℕ → Type 0
Counts records tab n = (listed : List (List ℕ × List ℕ)) × ListsTable records tab listed × (n ≡ length listed)

-- the key is greater than that one
abbrev pub is_above : List ℕ → List ℕ → Bool
is_above last key = is_gt (slice_cmp nat_cmp key last)

-- the keys and values under a name whose keys are greater than that one, each once and by key
pub record ListsAfter (records : Records) (tab : List ℕ) (after : List ℕ) (listed : List (List ℕ × List ℕ)) : Type 0 where
  pub rising : IsTrue (is_sorted (slice_cmp nat_cmp) listed)
  pub each : (key : List ℕ) → find_entry (slice_cmp nat_cmp) key listed ≡ (if is_above after key then records tab key else None)

-- the first of them, at most so many
abbrev pub ListsPage : Records → List ℕ → List ℕ → ℕ → List (List ℕ × List ℕ) → Type 0
ListsPage records tab after limit listed = (all : List (List ℕ × List ℕ)) × ListsAfter records tab after all × (listed ≡ take limit all)

-- ---- what statements do

-- a table that the text defines, and whose name nothing has, is added, without a row
pub record Adds (text : List ℕ) (old new : Database) : Type 0 where
  pub table : Table
  pub defined : table_defined_by text ≡ Ok table
  pub free : is_used old.schema table.name ≡ false
  pub schema : new.schema ≡ created old.schema table
  pub empty : new.trees (next_tree old.schema) ≡ []
  pub others : KeepsRows old.schema.tables old.trees new.trees

-- what SQL here does not understand is spared, by one statement after another; each leaves a database
pub data IsSpared : Database → Database → Type 0 where
  by_one : (old new : Database) → SparesFrozen old new → IsSpared old new
  by_each : (old mid new : Database) → IsSpared old mid → IsDatabase mid → IsSpared mid new → IsSpared old new

-- the table is another one than that of records
abbrev pub IsOther : Table → Type 0
IsOther table = same_name table.name table_name ≡ false

-- the schema, and at its end the table of records with the index of its key
abbrev pub with_records : Schema → Schema
with_records schema = created schema (records_table 0)

-- A table of the schema counts its rows, and the table in which SQL counts is missing: it is added, without a row.
pub record AddsCounts (schema : Schema) (new : Database) : Type 0 where
  pub lacks : IsTrue (lacks_sequence schema)
  pub table : Table
  pub defined : table_defined_by sequence_text ≡ Ok table
  pub is : new.schema ≡ created schema table
  pub empty : new.trees (next_tree schema) ≡ []

-- no table has AUTOINCREMENT, or `sqlite_sequence` is there: nothing else is added
pub record AddsAlone (schema : Schema) (new : Database) : Type 0 where
  pub has : lacks_sequence schema ≡ false
  pub is : new.schema ≡ schema

-- the table of records is added where nothing has its name, and then `sqlite_sequence`, if and only if a table has
-- AUTOINCREMENT and it is not there
pub record AddsRecords (old new : Database) : Type 0 where
  pub lacks : LacksRecords old.schema
  pub adds : AddsAlone (with_records old.schema) new ⊎ AddsCounts (with_records old.schema) new

-- Each other table has its rows, and what SQL here does not understand is spared. Every table, index and view is
-- declared as it was, and nothing is added but the table of records and that of counts.
pub record KeepsOthers (old new : Database) : Type 0 where
  pub rows : (table : Table) → Has old.schema.tables table → IsOther table → new.trees table.tree ≡ old.trees table.tree
  pub schema : (new.schema ≡ old.schema) ⊎ AddsRecords old new
  pub frozen : IsSpared old new

-- the table is added that the text for the table of records defines, and then `sqlite_sequence`, if and only if a table
-- has AUTOINCREMENT and it is not there
pub record Makes (old new : Database) : Type 0 where
  pub sound : IsDatabase new
  pub first : Database
  pub adds : Adds create_text old first
  pub counts : ((lacks_sequence first.schema ≡ false) × (new ≡ first)) ⊎ (IsTrue (lacks_sequence first.schema) × Adds sequence_text first new)
  pub frozen : SparesFrozen old new

-- the records are as before but for this one, and so is all else
pub record Sets (old new : Database) (tab key : List ℕ) (here : Option (List ℕ)) : Type 0 where
  pub holds : HoldsRecords new
  pub change : (t k : List ℕ) → records_in new t k ≡ changed (records_in old) tab key here t k
  pub others : KeepsOthers old new

-- the statement changed nothing, or its failure took the database back to the last commit
abbrev pub Rests : State → State → Type 0
Rests old new = IsUnchanged old new ⊎ IsRolledBack old new

-- the transaction goes on, and what was committed stays
abbrev pub GoesOn : State → State → Type 0
GoesOn old new = Shows old new new.now old.committed true

-- the database is as the last commit left it, and no transaction is open
pub record IsUndone (old new : State) : Type 0 where
  pub autocommit : new.in_transaction ≡ false
  pub was_open : IsTrue new.is_open → IsTrue old.is_open
  pub now : IsTrue new.is_open → new.now ≡ old.committed
  pub committed : IsTrue new.is_open → new.committed ≡ old.committed

-- the connection shows what it showed, what was committed stays, and an open transaction is still open
pub record KeepsContent (old new : State) : Type 0 where
  pub was_open : IsTrue new.is_open → IsTrue old.is_open
  pub mode : new.in_transaction ≡ old.in_transaction
  pub inside : IsTrue new.in_transaction → IsTrue old.is_open → IsTrue new.is_open
  pub now : IsTrue new.is_open → new.now ≡ old.now
  pub committed : IsTrue new.is_open → new.committed ≡ old.committed

-- a crash leaves nothing that it could not leave before
abbrev pub KeepsCrash : State → State → Type 0
KeepsCrash old new = Survives old new (λ _. ⊥)

-- ---- what queries show

-- whatever the schema is, the text asks for nothing but rows
abbrev pub ShowsOnly : Result Compiled CompileError → Type 0
ShowsOnly (Ok c) = c.returning ≡ None
ShowsOnly (Err e) = ⊤

abbrev pub IsQuery : List ℕ → Type 0
IsQuery sql = (schema : Schema) → ShowsOnly (understood schema sql)

-- a key and a value, in a row that a query shows
abbrev pub shown_keyed : Row → List ℕ × List ℕ
shown_keyed row = (content (column row 0), content (column row 1))

-- the row shows this number first, and it is above the last one
abbrev pub HasNumberAbove : Option ℤ → Row → ℤ → Type 0
HasNumberAbove last row number = (column row 0 ≡ Int number) × IfSome last (λ before. before <ℤ number)
