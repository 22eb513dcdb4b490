-- The tables so far are there as they were attached.
use Rattle.std.proofs.Common.{◌≡◌, take, map, All, true}
use Rattle.cs_session_notes.specs.FirstImages.{HasAttached}
use Rattle.cs_session_notes.specs.Views.{attached_of}
use Rattle.cs_session_notes.proofs.checking.check_tables.Given as goal

abbrev pub invariant-loop-table : goal.invariant-loop-table
invariant-loop-table g l =
    let rows = g.B.Rows in
    rows.keeps (λ _ _. ⊥) true l.fn.rows l.rows
    × (rows.is_honest l.rows → rows.is_honest l.fn.rows × (rows.state l.rows ≡ rows.state l.fn.rows)
    × All (HasAttached (rows.state l.fn.rows)) (map attached_of (take l.table-index l.tables)))
