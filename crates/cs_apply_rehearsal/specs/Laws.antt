-- What holds of each apply with choices for the conflicts of its rehearsal.
use Rattle.std.specs.Prelude.{◌≡◌, ℕ, List, length, map, Contains}
use Rattle.cs_value.specs.State.{State}
use Rattle.cs_apply_conflict_kinds.specs.declared.conflict.Choice.{Choice}
use Rattle.cs_apply_conflict_kinds.specs.declared.conflict.Choice.TheVariants as choice
use Rattle.cs_apply_conflict_kinds.specs.declared.conflict.Noop.{Noop}
use Rattle.cs_apply_conflict_kinds.specs.Applying.{MetData}
use Rattle.cs_apply_engine.specs.declared.conflict.Conflict.{Conflict}
use Rattle.cs_apply_engine.specs.declared.report.Report.{Report}
use Rattle.cs_apply_engine.specs.declared.fault.ApplyFault.TheVariants.{Abort, Misuse}
use Rattle.cs_apply_engine.specs.declared.running.Direction.TheVariants.{Forward}
use Rattle.cs_apply_engine.specs.Report.{conflict_of, met_of}
use Rattle.cs_apply_engine.specs.Running.{Handler, Applies, Refuses}
use Rattle.cs_apply_rehearsal.specs.Found.{FoundData}
use Rattle.cs_apply_rehearsal.specs.Choosing.{IsChoiceFor, chosen_for, coming, listed_with}
use Rattle.cs_apply_rehearsal.specs.Rehearsal.{Rehearses}

-- the handler that chooses by a list of conflicts with choices
abbrev pub chooses_by : List MetData → Handler
chooses_by listed conflict choice = IsChoiceFor listed (conflict_of conflict) choice

-- With a choice for each conflict of a rehearsal, an apply of the file has exactly the conflicts that come, with these
-- choices, in order.
abbrev pub RehearsalTells : Type 0
RehearsalTells = (noop : Noop) (file : List ℕ) (tables : State) (found : List FoundData) (choices : List Choice) (report : Report) (made : State)
    → Rehearses noop file tables found → length choices ≡ length found
    → Applies (chooses_by (listed_with found choices)) noop file Forward tables report made
    → map met_of report.conflicts.items ≡ coming (chosen_for found choices)

-- If such an apply ends at a conflict, the rehearsal has it, and the choice for it is the one that ends the apply.
abbrev pub RehearsalEnds : Type 0
RehearsalEnds = (noop : Noop) (file : List ℕ) (tables : State) (found : List FoundData) (choices : List Choice) (conflict : Conflict)
    → Rehearses noop file tables found → length choices ≡ length found
    → (Refuses (chooses_by (listed_with found choices)) noop file Forward tables (Abort conflict)
    → Contains (listed_with found choices) (record { conflict = conflict_of conflict; choice = choice.Abort }))
    × (Refuses (chooses_by (listed_with found choices)) noop file Forward tables (Misuse conflict)
    → Contains (listed_with found choices) (record { conflict = conflict_of conflict; choice = choice.Replace }))
