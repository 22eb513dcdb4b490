-- What a caller in C sees of a group, to which files are added.
use Rattle.std.specs.Prelude.{◌≡◌, ℕ, List, [], Option, Some, None, length}
use Rattle.cs_wire.specs.Changeset.{GroupData, IsFileOf}
use Rattle.cs_files.specs.declared.fault.FileFault.{FileFault}
use Rattle.cs_group.specs.Joining.{AreJoinable, joined}
use Rattle.cs_changegroup.specs.Adding.{AddFails}
use Rattle.cs_changegroup.specs.Folding.{Holds}
use Rattle.vollikash.specs.declared.held.Held.{Held}

-- the groups that a group has: none if it is null
abbrev pub GroupHas : Option Held → List GroupData → Type 0
GroupHas None groups = groups ≡ []
GroupHas (Some held) groups = Holds held.group groups

-- the group has what these groups make together with the file
pub record AddsTo (groups : List GroupData) (file : List ℕ) (value : Option Held) : Type 0 where
  pub others : List GroupData
  pub is_file : IsFileOf file others
  pub joinable : AreJoinable groups others
  pub has : GroupHas value (joined groups others)

-- why a file is not added to these groups; it is the file at index 0
abbrev pub AddFailsAt : List GroupData → List ℕ → ℕ → FileFault → Type 0
AddFailsAt groups file index fault = (index ≡ 0) × AddFails groups file fault

-- the number of bytes of the files that were added
abbrev pub limit_of : Option Held → ℕ
limit_of None = 0
limit_of (Some held) = length held.group.files
