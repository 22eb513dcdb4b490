-- The keys of the tables so far are appended.
use Rattle.std.proofs.Common.{◌≡◌, map, take}
use Rattle.cs_rows.specs.Editing.{written_of}
use Rattle.cs_session_notes.specs.Merging.{all_noted}
use Rattle.cs_session_notes.specs.Views.{attached_of}
use Rattle.cs_session_notes.proofs.writes.noted_writes.Given as goal

abbrev pub invariant-loop-table : goal.invariant-loop-table
invariant-loop-table l = map written_of l.writes.items ≡ all_noted (map attached_of (take l.table-index l.tables))
