-- The entries of the first images so far are there, and the others are left.
use Rattle.std.proofs.Common.{◌≡◌, List, ◌++◌, map, true}
use Rattle.std.specs.Prelude.{filter_map}
use Rattle.cs_session_notes.specs.FirstImages.{FirstImage, entry_since}
use Rattle.cs_session_notes.specs.Images.{first_of}
use Rattle.cs_session_notes.specs.Views.{attached_of}
use Rattle.cs_session_notes.proofs.EntriesLemmas.{AreOfKeys}
use Rattle.cs_session_notes.proofs.changes.table_entries.Given as goal

abbrev pub invariant-loop-key : goal.invariant-loop-key
invariant-loop-key g l =
    let rows = g.B.Rows in
    let table = attached_of l.table in
    rows.keeps (λ _ _. ⊥) true l.fn.rows l.rows × ((done : List FirstImage) × (done ++ map first_of l.key-iterator ≡ table.firsts) × AreOfKeys table.schema.flags done l.entries.items
    × (rows.is_honest l.rows → rows.is_honest l.fn.rows × (rows.state l.rows ≡ rows.state l.fn.rows)
    × (l.entries.items ≡ filter_map (entry_since (rows.state l.fn.rows) table) done)))
