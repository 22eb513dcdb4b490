-- The concatenation of files, one after the other, as changesets; this project's own.
use Rattle.std.specs.Prelude.{◌≡◌, ℕ, zero, suc, ◌≤◌, List, [], ◌∷◌, Option, IfSome, length}
use Rattle.cs_value.specs.declared.refusal.OrNoMemory.{OrNoMemory}
use Rattle.cs_value.specs.declared.refusal.OrNoMemory.TheVariants.{Fault, NoMemory}
use Rattle.cs_wire.specs.Changeset.{GroupData, IsFileOf, file_bytes}
use Rattle.cs_files.specs.declared.fault.FileFault.{FileFault}
use Rattle.cs_files.specs.declared.fault.FileFault.TheVariants.{First, Second, Schema}
use Rattle.cs_group.specs.Joining.{AreJoinable, joined}
use Rattle.cs_changegroup.specs.Chaining.{AreLengths, files_in}
use Rattle.cs_changegroup.specs.Slots.{HasGroups, TablesView}

-- out is what the groups of start make together with the files, one after the other
abbrev pub FoldsFrom : List GroupData → List (List ℕ) → List GroupData → Type 0
FoldsFrom start [] out = start ≡ out
FoldsFrom start (file ∷ files) out = (others : List GroupData) × IsFileOf file others × AreJoinable start others
    × FoldsFrom (joined start others) files out

-- the tables have the groups of the concatenation of files that are in a buffer, and have these lengths
pub record FoldsTo (files lengths : List ℕ) (tables : TablesView) : Type 0 where
  pub groups : List GroupData
  pub folds : FoldsFrom [] (files_in files lengths) groups
  pub has : HasGroups files tables groups
  pub fewer : length (file_bytes groups) ≤ length files

-- the error of a file at an index: only the first is a first file
abbrev pub error_at : ℕ → OrNoMemory FileFault → OrNoMemory FileFault
error_at zero error = error
error_at (suc index) (Fault (First fault)) = Fault (Second fault)
error_at (suc index) (Fault (Second fault)) = Fault (Second fault)
error_at (suc index) (Fault (Schema fault)) = Fault (Schema fault)
error_at (suc index) NoMemory = NoMemory

-- what contracts see of a changegroup: its files, their lengths, and the tables, if they are joined
pub record ChangegroupView : Type 0 where
  pub files : List ℕ
  pub lengths : List ℕ
  pub tables : Option TablesView

-- the changegroup has these groups: they are the concatenation of its files
pub record Holds (view : ChangegroupView) (groups : List GroupData) : Type 0 where
  pub are_lengths : AreLengths view.files view.lengths
  pub folds : FoldsFrom [] (files_in view.files view.lengths) groups
  pub fewer : length (file_bytes groups) ≤ length view.files
  pub tables : IfSome view.tables (λ tables. HasGroups view.files tables groups)

-- the changegroup has what these groups make together with the file
pub record Adds (groups : List GroupData) (file : List ℕ) (view : ChangegroupView) : Type 0 where
  pub others : List GroupData
  pub is_file : IsFileOf file others
  pub joinable : AreJoinable groups others
  pub holds : Holds view (joined groups others)
