-- The table that its text makes, schemas that declare it, and schemas that do not, worked as examples.
use Rattle.std.proofs.Common.{◌≡◌, ◌≢◌, ◌≤◌, length, inl, ℕ, true, false, List, [], ◌∷◌, ◌++◌, codes, None, Result, Ok, Err, true≢false, refl, ap, arith}
use Rattle.std.proofs.lemmas.List.Elements.{All-from_recursion}
use Rattle.sqlite_value.specs.Keys.{plain}
use Rattle.sqlite_schema.specs.declared.schema.Kind.TheVariants as kind
use Rattle.sqlite_schema.specs.declared.schema.Table.{Table}
use Rattle.sqlite_schema.specs.declared.schema.Index.{Index}
use Rattle.sqlite_schema.specs.declared.schema.Schema.{Schema}
use Rattle.sqlite_schema.specs.Names.{same_name}
use Rattle.sqlite_schema.specs.declared.command.Command.{Command}
use Rattle.sqlite_sql.specs.Query.{Query}
use Rattle.sqlite_catalog.specs.Change.{automatics}
use Rattle.sqlite_resolve.specs.Compile.{first, compiled}
use Rattle.sqlite_resolve.specs.declared.compiled.Compiled.{Compiled}
use Rattle.sqlite_resolve.specs.declared.error.CompileError.{CompileError}
use Rattle.sqlite_tied.specs.Compute.{everything}
use Rattle.cs_store_sql.specs.Records.{required, records_table, IsApart, IsOfKey, DeclaresRecords, IsDeclaredOtherwise, LacksRecords}
use Rattle.cs_store_sql.specs.Meaning.{AreStatements}
use Rattle.cs_store_sql.specs.Statements.{find_text, find_query, list_text, list_query, count_text, count_query, page_text, page_query, scan_text, scan_query, put_text, put_command, replace_text, replace_command, remove_text, remove_command, take_text, take_command, alone, IsStatement, IsSelectOf}

-- ---- schemas

-- with these tables, and the indexes for the keys of one
abbrev schema_of : List Table → Table → ℕ → List Index → Schema
schema_of tables keyed tree more = record { tables = tables; indexes = automatics keyed 0 tree keyed.uniques ++ more; views = [] }

-- only the table of records
abbrev records_alone : Schema
records_alone = schema_of (records_table 0 ∷ []) (records_table 0) 1 []

-- an own table, with a column and no key
abbrev own_table : ℕ → Table
own_table tree = record (records_table tree) {
  name = codes "own";
  columns = record (required (codes "a") kind.Any) { is_strict = false; not_null = false } ∷ [];
  primary = [];
  uniques = [];
  orders = [];
}

-- after that table, and with an index on its values
abbrev records_after : Schema
records_after = schema_of (own_table 0 ∷ records_table 1 ∷ []) (records_table 1) 2
    (record { name = codes "i"; tree = 3; table = 1; columns = 3 ∷ []; order = plain; is_unique = false } ∷ [])

-- ---- the texts under them

-- what is asked of a text that is compiled
abbrev Says : List ℕ → ℕ → (Command → Type 0) → Result Compiled CompileError → Type 0
Says sql count Is (Ok it) = (it.returning ≡ None) × (it.formats ≡ []) × (length sql ≤ it.tail) × (count ≡ length it.names) × Is it.command
Says sql count Is (Err e) = ⊥

said : (schema : Schema) (sql : List ℕ) (count : ℕ) (Is : Command → Type 0) → Says sql count Is (compiled schema sql) → IsStatement schema sql count Is
said schema sql count Is says = by (compiled schema sql) refl says
  where
    by : (r : Result Compiled CompileError) → compiled schema sql ≡ r → Says sql count Is r → IsStatement schema sql count Is
    by (Ok it) is h = (it, record { is = is; returns_nothing = h.0; reads_no_time = h.1; whole = h.2; given = h.3 }, h.4)
    by (Err e) is none = absurd none

-- a query, and a command
abbrev Selects : Schema → List ℕ → ℕ → Query → Type 0
Selects schema sql count query = Says sql count (λ its. IsSelectOf its (alone query)) (compiled schema sql)

abbrev Commands : Schema → List ℕ → ℕ → Command → Type 0
Commands schema sql count command = Says sql count (λ its. its ≡ command) (compiled schema sql)

-- the statements on a table at this index, with this tree
record Texts (schema : Schema) (index tree : ℕ) : Type 0 where
  finds : Selects schema find_text 2 (find_query tree)
  lists : Selects schema list_text 1 (list_query tree)
  counts : Selects schema count_text 1 (count_query tree)
  pages : Selects schema page_text 3 (page_query tree)
  scans : Selects schema scan_text 0 (scan_query tree)
  inserts : Commands schema (put_text true) 3 (put_command index tree true)
  puts : Commands schema (put_text false) 3 (put_command index tree false)
  replaces : Commands schema replace_text 2 (replace_command index tree)
  removes : Commands schema remove_text 2 (remove_command index tree)
  takes : Commands schema take_text 1 (take_command index tree)

statements : (schema : Schema) (index tree : ℕ) → Texts schema index tree → AreStatements schema index tree
statements schema index tree t = record {
  finds = said schema find_text 2 (λ its. IsSelectOf its (alone (find_query tree))) t.finds;
  lists = said schema list_text 1 (λ its. IsSelectOf its (alone (list_query tree))) t.lists;
  counts = said schema count_text 1 (λ its. IsSelectOf its (alone (count_query tree))) t.counts;
  pages = said schema page_text 3 (λ its. IsSelectOf its (alone (page_query tree))) t.pages;
  scans = said schema scan_text 0 (λ its. IsSelectOf its (alone (scan_query tree))) t.scans;
  writes = record {
    inserts = said schema (put_text true) 3 (λ its. its ≡ put_command index tree true) t.inserts;
    puts = said schema (put_text false) 3 (λ its. its ≡ put_command index tree false) t.puts;
    replaces = said schema replace_text 2 (λ its. its ≡ replace_command index tree) t.replaces;
    removes = said schema remove_text 2 (λ its. its ≡ remove_command index tree) t.removes;
    takes = said schema take_text 1 (λ its. its ≡ take_command index tree) t.takes;
  };
}

puts_alone : Commands records_alone (put_text false) 3 (put_command 0 0 false)
unfolding compiled first everything
puts_alone = (refl, refl, omega arith, refl, refl)

texts_alone : Texts records_alone 0 0
unfolding compiled first everything
texts_alone = record {
  finds = (refl, refl, omega arith, refl, (_, refl));
  lists = (refl, refl, omega arith, refl, (_, refl));
  counts = (refl, refl, omega arith, refl, (_, refl));
  pages = (refl, refl, omega arith, refl, (_, refl));
  scans = (refl, refl, omega arith, refl, (_, refl));
  inserts = (refl, refl, omega arith, refl, refl);
  puts = puts_alone;
  replaces = (refl, refl, omega arith, refl, refl);
  removes = (refl, refl, omega arith, refl, refl);
  takes = (refl, refl, omega arith, refl, refl);
}

puts_after : Commands records_after (put_text false) 3 (put_command 1 1 false)
unfolding compiled first everything
puts_after = (refl, refl, omega arith, refl, refl)

texts_after : Texts records_after 1 1
unfolding compiled first everything
texts_after = record {
  finds = (refl, refl, omega arith, refl, (_, refl));
  lists = (refl, refl, omega arith, refl, (_, refl));
  counts = (refl, refl, omega arith, refl, (_, refl));
  pages = (refl, refl, omega arith, refl, (_, refl));
  scans = (refl, refl, omega arith, refl, (_, refl));
  inserts = (refl, refl, omega arith, refl, refl);
  puts = puts_after;
  replaces = (refl, refl, omega arith, refl, refl);
  removes = (refl, refl, omega arith, refl, refl);
  takes = (refl, refl, omega arith, refl, refl);
}

-- ---- what they declare

-- the table of records is apart from none, and an index for its key compares bytes
records_apart : (tree : ℕ) → IsApart tree (records_table tree)
unfolding same_name
records_apart tree = record { elsewhere = λ other. absurd (true≢false other); references = All-from_recursion _ [] tt }

own_apart : (tree other : ℕ) → tree ≢ other → IsApart other (own_table tree)
own_apart tree other apart = record { elsewhere = λ named. apart; references = All-from_recursion _ [] tt }

-- only the table of records
pub alone_declares : DeclaresRecords records_alone
unfolding same_name
alone_declares = record {
  index = 0;
  named = refl;
  table = refl;
  stored = omega arith;
  apart = All-from_recursion (IsApart 0) (records_table 0 ∷ []) (records_apart 0, tt);
  keyed = All-from_recursion (IsOfKey 0) records_alone.indexes ((λ unique on keys. refl), tt);
  statements = statements records_alone 0 0 texts_alone;
}

-- after another table, and with a further index
pub after_declares : DeclaresRecords records_after
unfolding same_name
after_declares = record {
  index = 1;
  named = refl;
  table = refl;
  stored = omega arith;
  apart = All-from_recursion (IsApart 1) records_after.tables (own_apart 0 1 (λ same. omega arith), (records_apart 1, tt));
  keyed = All-from_recursion (IsOfKey 1) records_after.indexes ((λ unique on keys. refl), ((λ unique on keys. refl), tt));
  statements = statements records_after 1 1 texts_after;
}

-- a table with another key is declared otherwise, and a schema without the table lacks it
pub other_is_otherwise : IsDeclaredOtherwise (schema_of (record (records_table 0) { primary = 2 ∷ 1 ∷ [] } ∷ []) (records_table 0) 1 [])
unfolding same_name
other_is_otherwise = inl (0, record (records_table 0) { primary = 2 ∷ 1 ∷ [] }, refl, refl, λ same. absurd (let e : 2 ∷ 1 ∷ [] ≡ 1 ∷ 2 ∷ [] = ap (λ (t : Table). t.primary) same in cc))

pub own_lacks : LacksRecords (record { tables = own_table 0 ∷ []; indexes = []; views = [] })
unfolding same_name
own_lacks = refl
