-- Tables that are found by their names, as contracts see them; this project's own.
use Rattle.std.specs.Prelude.{◌≡◌, ℕ, List, [], ◌∷◌, ◌++◌, get_or}
use Rattle.cs_wire.specs.Changeset.{HeaderData, GroupData, IsFileOf}
use Rattle.cs_file_scan.specs.declared.checked.ListedTable.{ListedTable}
use Rattle.cs_wire.specs.Headers.{header_of}
use Rattle.cs_file_scan.specs.Tables.{TablesData, EntriesLeft}

-- a table, and where its entries begin
pub record NamedTable : Type 0 where
  pub header : HeaderData
  pub start : ℕ

abbrev pub table_of : ListedTable → NamedTable
table_of t = record { header = header_of t.header; start = t.start }

-- the file, and its tables
pub record NamedData : Type 0 where
  pub file : List ℕ
  pub tables : List NamedTable

-- the file where the entries of a table begin
abbrev pub tables_from : List ℕ → NamedTable → TablesData
tables_from file table = record { file = file; place = table.start; flags = table.header.flags }

abbrev pub no_table : NamedTable
no_table = record { header = record { name = []; flags = [] }; start = 0 }

-- the header of the table at an index, and the file where its entries begin
abbrev pub header_at : NamedData → ℕ → HeaderData
header_at named index = (get_or named.tables index no_table).header

abbrev pub tables_at : NamedData → ℕ → TablesData
tables_at named index = tables_from named.file (get_or named.tables index no_table)

-- a table is that of the group, whose entries begin there, and these groups come after it
pub record IsTableOf (file : List ℕ) (table : NamedTable) (group : GroupData) (others : List GroupData) : Type 0 where
  pub header : table.header ≡ group.header
  pub are_left : EntriesLeft (tables_from file table) group.entries others

-- the tables are those of the groups, and these groups come after them
unfoldable pub AreTablesOf : List ℕ → List NamedTable → List GroupData → List GroupData → Type 0
AreTablesOf file [] [] behind = Unit {0}
AreTablesOf file (table ∷ tables) (group ∷ groups) behind =
    IsTableOf file table group (groups ++ behind) × AreTablesOf file tables groups behind
AreTablesOf file [] (group ∷ groups) behind = ⊥
AreTablesOf file (table ∷ tables) [] behind = ⊥

abbrev pub AreListed : NamedData → List GroupData → Type 0
AreListed named groups = AreTablesOf named.file named.tables groups []

-- the file is that of a changeset, and its tables are listed
abbrev pub IsListing : List ℕ → NamedData → Type 0
IsListing file named = (groups : List GroupData) × IsFileOf file groups × AreListed named groups
