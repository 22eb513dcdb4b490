-- What the texts are on a table of records.
use Rattle.std.specs.Prelude.{◌≡◌, ℕ, map, true, false}
use Rattle.sqlite_schema.specs.declared.schema.Schema.{Schema}
use Rattle.sqlite_schema.specs.declared.command.Command.{Command}
use Rattle.cs_store_sql.specs.declared.meaning.Meant.{Meant}
use Rattle.cs_store_sql.specs.declared.meaning.Meant.TheVariants as meant
use Rattle.cs_store_sql.specs.Statements.{find_text, find_query, list_text, list_query, count_text, count_query, page_text, page_query, scan_text, scan_query, put_text, put_command, replace_text, replace_command, remove_text, remove_command, take_text, take_command, alone, removal, expected_term, expected_query, IsCommand, IsSelectOf, IsSelect}

-- the command is this one, on the table that has this index in the schema, and this tree
abbrev pub IsMeant : Command → ℕ → ℕ → Meant → Type 0
IsMeant command index tree (meant.Select shape) = IsSelectOf command (alone (expected_query tree shape.now))
IsMeant command index tree meant.Insert = command ≡ put_command index tree true
IsMeant command index tree meant.Put = command ≡ put_command index tree false
IsMeant command index tree meant.Replace = command ≡ replace_command index tree
IsMeant command index tree (meant.Remove filter) = command ≡ removal index tree (map expected_term filter.now)

-- each text that writes is a statement on that table
pub record AreWrites (schema : Schema) (index tree : ℕ) : Type 0 where
  pub inserts : IsCommand schema (put_text true) 3 (put_command index tree true)
  pub puts : IsCommand schema (put_text false) 3 (put_command index tree false)
  pub replaces : IsCommand schema replace_text 2 (replace_command index tree)
  pub removes : IsCommand schema remove_text 2 (remove_command index tree)
  pub takes : IsCommand schema take_text 1 (take_command index tree)

-- each text is a statement on that table
pub record AreStatements (schema : Schema) (index tree : ℕ) : Type 0 where
  pub finds : IsSelect schema find_text 2 (find_query tree)
  pub lists : IsSelect schema list_text 1 (list_query tree)
  pub counts : IsSelect schema count_text 1 (count_query tree)
  pub pages : IsSelect schema page_text 3 (page_query tree)
  pub scans : IsSelect schema scan_text 0 (scan_query tree)
  pub writes : AreWrites schema index tree
