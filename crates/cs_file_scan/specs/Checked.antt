-- What a quick pass through a file has found so far. No public contract names this.
use Rattle.std.specs.Prelude.{◌≡◌, ◌≢◌, ℕ, ◌≤◌, true, List, ◌++◌, length, map, All, AllPairs}
use Rattle.std.specs.List.{flat_map}
use Rattle.cs_wire_entries.specs.declared.entry.Entry.{Entry}
use Rattle.cs_wire.specs.Entry.{IsEntry, entry_bytes, key_of}
use Rattle.cs_wire.specs.Changeset.{GroupData, IsGroup, entries_bytes, group_bytes, file_bytes}
use Rattle.cs_file_scan.specs.declared.checked.EntryRun.{EntryRun}
use Rattle.cs_file_scan.specs.Distinct.{number_of}
use Rattle.cs_file_scan.specs.Named.{NamedTable}
use Rattle.cs_wire.specs.ReadFaults.{Stands}

-- there are entries up to a place, and these are the numbers of their keys
pub record HasEntries (file : List ℕ) (at : ℕ) (flags keys : List ℕ) (end : ℕ) : Type 0 where
  pub entries : List Entry
  pub each : All (IsEntry flags) entries
  pub stand : Stands file at (entries_bytes entries) end
  pub keys_are : keys ≡ map (λ e. number_of (key_of flags e.change)) entries

-- and this was appended for each
pub record VisitsEntries (text : Entry → List ℕ) (old new : List ℕ) (file : List ℕ) (at : ℕ) (flags keys : List ℕ)
    (end : ℕ) : Type 0 where
  pub has : HasEntries file at flags keys end
  pub written : new ≡ old ++ flat_map text has.entries

-- an entry is there, this is the number of its key, and this was appended for it
pub record VisitsEntry (text : Entry → List ℕ) (old new : List ℕ) (file : List ℕ) (at : ℕ) (flags : List ℕ)
    (number end : ℕ) : Type 0 where
  pub entry : Entry
  pub is_entry : IsEntry flags entry
  pub stands : Stands file at (entry_bytes entry) end
  pub number_is : number ≡ number_of (key_of flags entry.change)
  pub written : new ≡ old ++ text entry

-- so many entries were visited, and if the numbers of their keys rise, no two are the same
pub record Passes (text : Entry → List ℕ) (old new : List ℕ) (file : List ℕ) (at : ℕ) (flags : List ℕ)
    (passed : EntryRun) : Type 0 where
  pub numbers : List ℕ
  pub visits : VisitsEntries text old new file at flags numbers passed.end
  pub count_is : passed.count ≡ length numbers
  pub apart : passed.rises ≡ true → AllPairs (λ m n. m ≢ n) numbers

-- so many entries were visited, and no two of the numbers of their keys are the same
pub record VisitsDistinct (text : Entry → List ℕ) (old new : List ℕ) (file : List ℕ) (at : ℕ) (flags : List ℕ)
    (count end : ℕ) : Type 0 where
  pub numbers : List ℕ
  pub visits : VisitsEntries text old new file at flags numbers end
  pub count_is : count ≡ length numbers
  pub apart : AllPairs (λ m n. m ≢ n) numbers

-- the group of a table that has these entries
abbrev pub group_of : NamedTable → List Entry → GroupData
group_of table entries = record { header = table.header; entries = entries }

-- the group of this table is there up to a place
pub record HasTable (file : List ℕ) (at : ℕ) (table : NamedTable) (end : ℕ) : Type 0 where
  pub entries : List Entry
  pub is_group : IsGroup (group_of table entries)
  pub stands : Stands file at (group_bytes (group_of table entries)) end
  pub within : table.start ≤ length file
  pub entries_stand : Stands file table.start (entries_bytes entries) end

-- and this was appended for it
pub record VisitsTable (text : GroupData → List ℕ) (old new : List ℕ) (file : List ℕ) (at : ℕ) (table : NamedTable)
    (end : ℕ) : Type 0 where
  pub has : HasTable file at table end
  pub written : new ≡ old ++ text (group_of table has.entries)

-- the file begins with groups, and these are the numbers of their names
pub record HasGroups (file names : List ℕ) (end : ℕ) : Type 0 where
  pub groups : List GroupData
  pub each : All IsGroup groups
  pub stand : Stands file 0 (file_bytes groups) end
  pub names_are : names ≡ map (λ g. number_of g.header.name) groups

-- and this was appended for each
pub record VisitsGroups (text : GroupData → List ℕ) (old new : List ℕ) (file names : List ℕ) (end : ℕ) : Type 0 where
  pub has : HasGroups file names end
  pub written : new ≡ old ++ flat_map text has.groups
