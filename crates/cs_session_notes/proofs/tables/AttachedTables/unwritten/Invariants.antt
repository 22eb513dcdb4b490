-- The tables so far are copied, without what they note.
use Rattle.std.proofs.Common.{◌≡◌, map, take}
use Rattle.std.specs.List.{AllByRecursion}
use Rattle.cs_session_notes.specs.Merging.{unwritten}
use Rattle.cs_session_notes.specs.Views.{attached_of, HasNonePending}
use Rattle.cs_session_notes.proofs.tables.AttachedTables.unwritten.Given as goal

abbrev pub invariant-loop-table : goal.invariant-loop-table
invariant-loop-table l =
    (map attached_of l.copy ≡ map unwritten (map attached_of (take l.table-index l.tables))) × AllByRecursion HasNonePending l.copy
