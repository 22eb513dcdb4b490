-- What a concatenation has after one more file; this project's own.
use Rattle.std.specs.Prelude.{ℕ, List}
use Rattle.cs_value.specs.declared.refusal.OrNoMemory.{OrNoMemory}
use Rattle.cs_value.specs.declared.refusal.OrNoMemory.TheVariants.{Fault, NoMemory}
use Rattle.cs_wire.specs.Changeset.{GroupData, IsFileOf}
use Rattle.cs_wire.specs.ReadFaults.{ReadFails}
use Rattle.cs_files.specs.declared.fault.FileFault.{FileFault}
use Rattle.cs_files.specs.declared.fault.FileFault.TheVariants.{First, Second, Schema}
use Rattle.cs_group.specs.Joining.{AreJoinable, FirstClash, joined}
use Rattle.cs_changegroup.specs.Slots.{HasGroups, TablesView}

-- why a file is not added to these groups: it is no changeset, or one of its tables differs
abbrev pub AddFails : List GroupData → List ℕ → FileFault → Type 0
AddFails groups file (First fault) = ReadFails file fault.kind fault.place
AddFails groups file (Second fault) = ⊥
AddFails groups file (Schema fault) = (others : List GroupData) × IsFileOf file others
    × FirstClash groups others fault.place

-- P holds, unless memory ran out
abbrev pub IfFault : Type 0 → OrNoMemory FileFault → Type 0
IfFault P (Fault fault) = P
IfFault P NoMemory = Unit {0}

-- the tables have what these groups make together with the file
pub record HasJoined (files : List ℕ) (groups : List GroupData) (file : List ℕ) (view : TablesView) : Type 0 where
  pub others : List GroupData
  pub is_file : IsFileOf file others
  pub joinable : AreJoinable groups others
  pub has : HasGroups files view (joined groups others)
