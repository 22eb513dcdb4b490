-- The entries so far are inverted, and the others are as they were.
use Rattle.std.proofs.Common.{◌≡◌, ◌++◌, map, take, drop}
use Rattle.cs_wire_entries.specs.Views.{inverse_entry}
use Rattle.cs_wire_entries.proofs.inverse.invert_entries.Given as goal

abbrev pub invariant-loop-entry : goal.invariant-loop-entry
invariant-loop-entry l = l.entries ≡ map (inverse_entry l.flags) (take l.entry-index l.initial.entries) ++ drop l.entry-index l.initial.entries
