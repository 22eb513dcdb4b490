-- Entries that are found by their keys, as contracts see them; this project's own.
use Rattle.std.specs.Prelude.{ℕ, List}
use Rattle.cs_wire_entries.specs.declared.entry.Entry.{Entry}

-- the flags of their table, and the entries
pub record KeyedData : Type 0 where
  pub flags : List ℕ
  pub entries : List Entry
