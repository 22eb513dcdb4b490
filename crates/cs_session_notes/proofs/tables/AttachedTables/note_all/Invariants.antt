-- The writes so far are noted, and the others are left.
use Rattle.std.proofs.Common.{map, drop}
use Rattle.cs_rows.specs.Editing.{written_of}
use Rattle.cs_session_notes.specs.Views.{attached_of, kept_of}
use Rattle.cs_session_notes.proofs.TablesLemmas.{AreNoted}
use Rattle.cs_session_notes.proofs.tables.AttachedTables.note_all.Given as goal

abbrev pub invariant-loop-one : goal.invariant-loop-one
invariant-loop-one l = AreNoted (map attached_of l.fn.self) (map kept_of l.fn.self) (map written_of l.written) (drop l.one-index (map written_of l.written)) l.self
