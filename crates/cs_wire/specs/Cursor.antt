-- What a cursor hands out: the tables and entries of a file, one after another; this project's own.
use Rattle.std.specs.Prelude.{◌≡◌, ◌≢◌, ℕ, ◌<◌, List, [], ◌∷◌, ◌++◌, length, All, AllPairs, Option, Some, None, Result, Ok, Err}
use Rattle.cs_value.specs.declared.refusal.OrNoMemory.{OrNoMemory}
use Rattle.cs_value.specs.declared.refusal.OrNoMemory.TheVariants as refusal
use Rattle.cs_wire.specs.declared.ending.Ending.{Ending}
use Rattle.cs_wire.specs.declared.ending.Ending.TheVariants.{Done, Fault, NoMemory}
use Rattle.cs_value.specs.Table.{IsFlags}
use Rattle.cs_wire_entries.specs.declared.entry.Entry.{Entry}
use Rattle.cs_wire_entries.specs.declared.fault.ReadFault.{ReadFault}
use Rattle.cs_wire.specs.declared.item.Item.{Item}
use Rattle.cs_wire.specs.declared.item.Item.TheVariants as item
use Rattle.cs_wire_entries.specs.Entry.{IsEntry, key_of}
use Rattle.cs_wire_entries.specs.Changeset.{GroupData, IsFileOf, IsHeader, IsNewName, file_bytes}
use Rattle.cs_wire.specs.Headers.{header_of}
use Rattle.cs_wire_entries.specs.ReadFaults.{Stands, ReadFails}

-- the changes of a table, perhaps none yet
pub record IsBegun (group : GroupData) : Type 0 where
  pub header : IsHeader group.header
  pub each : All (IsEntry group.header.flags) group.entries
  pub once : AllPairs (λ d e. key_of group.header.flags d.change ≢ key_of group.header.flags e.change) group.entries

-- the changes of tables, no table twice, the last of them perhaps without any yet
pub record IsOpen (groups : List GroupData) : Type 0 where
  pub each : All IsBegun groups
  pub some : AllPairs (λ g h. 0 < length g.entries) groups
  pub once : AllPairs (λ g h. g.header.name ≢ h.header.name) groups

-- the file begins with these groups, which end at this place
pub record Begins (file : List ℕ) (place : ℕ) (groups : List GroupData) : Type 0 where
  pub is_open : IsOpen groups
  pub stand : Stands file 0 (file_bytes groups) place

-- one more entry in the last of the groups
abbrev pub with_entry : List GroupData → Entry → List GroupData
with_entry [] entry = []
with_entry (group ∷ []) entry = record { header = group.header; entries = group.entries ++ entry ∷ [] } ∷ []
with_entry (group ∷ next ∷ groups) entry = group ∷ with_entry (next ∷ groups) entry

-- the groups, and what an item adds to them
abbrev pub with_item : List GroupData → Item → List GroupData
with_item groups (item.Table header) = groups ++ record { header = header_of header; entries = [] } ∷ []
with_item groups (item.Entry seen) = with_entry groups seen.entry

-- the flags of the last of the groups
abbrev pub last_flags : List GroupData → List ℕ
last_flags [] = []
last_flags (group ∷ []) = group.header.flags
last_flags (group ∷ next ∷ groups) = last_flags (next ∷ groups)

-- an item is well formed by itself
abbrev pub IsItem : Item → Type 0
IsItem (item.Table header) = IsHeader (header_of header)
IsItem (item.Entry seen) = IsFlags seen.flags × IsEntry seen.flags seen.entry

-- a table is another than those of the groups; an entry is of the last of them, and there is one
abbrev pub IsNext : List GroupData → Item → Type 0
IsNext groups (item.Table header) = IsNewName groups header.name.now
IsNext groups (item.Entry seen) = (0 < length groups) × (seen.flags ≡ last_flags groups)

-- what contracts see of a cursor: its file, the place after what it handed out, and how it ended
pub record CursorData : Type 0 where
  pub file : List ℕ
  pub place : ℕ
  pub over : Option Ending

-- what a cursor that ended so answers
abbrev pub answer_of : Ending → Result (Option Item) (OrNoMemory ReadFault)
answer_of Done = Ok None
answer_of (Fault fault) = Err (refusal.Fault fault)
answer_of NoMemory = Err refusal.NoMemory

-- how a cursor ends with an answer
abbrev pub ending_of : Result (Option Item) (OrNoMemory ReadFault) → Option Ending
ending_of (Ok None) = Some Done
ending_of (Ok (Some handed)) = None
ending_of (Err (refusal.Fault fault)) = Some (Fault fault)
ending_of (Err refusal.NoMemory) = Some NoMemory

-- what is known at an end
abbrev pub IsEnd : List ℕ → ℕ → Option Ending → Type 0
IsEnd file place None = Unit {0}
IsEnd file place (Some Done) = (groups : List GroupData) → Begins file place groups → IsFileOf file groups
IsEnd file place (Some (Fault fault)) = ReadFails file fault.kind fault.place
IsEnd file place (Some NoMemory) = Unit {0}
