-- Each table is there as it was attached, and the groups of those so far are made.
use Rattle.std.proofs.Common.{◌≡◌, take, map, true}
use Rattle.cs_wire.specs.Changeset.{GroupData}
use Rattle.cs_session_notes.specs.FirstImages.{AttachedTable, recorded_changes}
use Rattle.cs_session_notes.specs.Changes.{HasTables}
use Rattle.cs_session_notes.specs.Views.{attached_of}
use Rattle.cs_session_notes.proofs.EntriesLemmas.{HasNoOther}
use Rattle.cs_session_notes.proofs.changes.net_changeset.Given as goal

abbrev pub invariant-loop-table : goal.invariant-loop-table
invariant-loop-table g l =
    let rows = g.B.Rows in
    let notes = map attached_of (take l.table-index l.tables) in
    rows.keeps (λ _ _. ⊥) true l.fn.rows l.rows × HasNoOther (λ (t : AttachedTable). t.name) (λ (g : GroupData). g.header.name) notes l.changeset
    × (rows.is_honest l.rows → rows.is_honest l.fn.rows × (rows.state l.rows ≡ rows.state l.fn.rows)
    × (l.changeset ≡ recorded_changes notes (rows.state l.fn.rows)) × HasTables (rows.state l.fn.rows) (map attached_of l.tables))
