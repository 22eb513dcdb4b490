-- An apply with the choices of a rehearsal. No public contract names this.
use Rattle.std.specs.Prelude.{◌≡◌, ℕ, List, map}
use Rattle.cs_value.specs.State.{State}
use Rattle.cs_wire.specs.Changeset.{GroupData}
use Rattle.cs_apply_conflict_kinds.specs.declared.conflict.Noop.{Noop}
use Rattle.cs_apply_conflict_kinds.specs.Applying.{NoneWider, met_under}
use Rattle.cs_apply_engine.specs.declared.conflict.Met.{Met}
use Rattle.cs_apply_engine.specs.declared.running.Direction.TheVariants.{Forward}
use Rattle.cs_apply_engine.specs.Running.{IsReadAs}
use Rattle.cs_apply_rehearsal.specs.Numbering.{conflicts_of}
use Rattle.cs_apply_rehearsal.specs.Rehearsing.{rehearsing}

-- an apply of the file with these choices has these conflicts
pub record Tries (noop : Noop) (file : List ℕ) (tables : State) (conflicts : List Met) : Type 0 where
  pub changeset : List GroupData
  pub read : IsReadAs file Forward changeset
  pub none_wider : NoneWider tables changeset
  pub same : conflicts_of conflicts ≡ map (λ m. m.conflict) (met_under noop tables changeset rehearsing)
