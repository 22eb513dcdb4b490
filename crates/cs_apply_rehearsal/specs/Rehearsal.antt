-- What a rehearsal finds: each conflict that an apply of a file can have, whatever is chosen.
use Rattle.std.specs.Prelude.{◌≡◌, ℕ, List, map, All}
use Rattle.cs_value.specs.State.{State}
use Rattle.cs_wire.specs.Changeset.{GroupData}
use Rattle.cs_wire.specs.ReadFaults.{ReadFails}
use Rattle.cs_rows.specs.Faults.{IsStoreFault}
use Rattle.cs_apply_conflict_kinds.specs.declared.conflict.Noop.{Noop}
use Rattle.cs_apply_conflict_kinds.specs.Applying.{NoneWider, met_under, placed}
use Rattle.cs_apply_engine.specs.declared.fault.ApplyFault.{ApplyFault}
use Rattle.cs_apply_engine.specs.declared.fault.ApplyFault.TheVariants.{Read, Wider, Abort, Misuse, Store, NoMemory}
use Rattle.cs_apply_engine.specs.declared.running.Direction.TheVariants.{Forward}
use Rattle.cs_apply_engine.specs.Report.{conflict_of}
use Rattle.cs_apply_engine.specs.Running.{IsReadAs, IsWider}
use Rattle.cs_apply_rehearsal.specs.declared.found.Found.{Found}
use Rattle.cs_apply_rehearsal.specs.Found.{FoundData, IsIndexed}
use Rattle.cs_apply_rehearsal.specs.Rehearsing.{rehearsing}

abbrev pub found_of : Found → FoundData
found_of f = record { index = f.index; conflict = conflict_of f.conflict }

-- The conflicts that an apply of the file to these tables can have, in the order of the file. Their indices count the
-- entries of all tables of the file, also of those that are skipped. A conflict has one entry there, since each table
-- and each key is there once.
pub record Rehearses (noop : Noop) (file : List ℕ) (tables : State) (found : List FoundData) : Type 0 where
  pub changeset : List GroupData
  pub read : IsReadAs file Forward changeset
  pub none_wider : NoneWider tables changeset
  pub conflicts : map (λ f. f.conflict) found ≡ map (λ m. m.conflict) (met_under noop tables changeset rehearsing)
  pub indexed : All (IsIndexed (placed changeset)) found

-- Why a file is not rehearsed: it is no changeset's, a table is wider, or the store or memory refuses. No choice ends a
-- rehearsal.
abbrev pub RefusesRehearsal : List ℕ → State → ApplyFault → Type 0
RefusesRehearsal file tables (Read fault) = ReadFails file fault.kind fault.place
RefusesRehearsal file tables (Wider place) = IsWider file Forward tables place
RefusesRehearsal file tables (Abort conflict) = ⊥
RefusesRehearsal file tables (Misuse conflict) = ⊥
RefusesRehearsal file tables (Store error) = IsStoreFault error
RefusesRehearsal file tables NoMemory = Unit {0}
