-- The keys so far are appended, and the others are left.
use Rattle.std.proofs.Common.{◌≡◌, List, ◌++◌, map}
use Rattle.cs_rows.specs.Editing.{written_of}
use Rattle.cs_session_notes.specs.FirstImages.{FirstImage}
use Rattle.cs_session_notes.specs.Merging.{noted_writes}
use Rattle.cs_session_notes.specs.Images.{first_of}
use Rattle.cs_session_notes.specs.Views.{attached_of}
use Rattle.cs_session_notes.proofs.writes.append_writes.Given as goal

abbrev pub invariant-loop-key : goal.invariant-loop-key
invariant-loop-key l =
    let table = attached_of l.table in
    (done : List FirstImage) × (done ++ map first_of l.key-iterator ≡ table.firsts)
    × (map written_of l.writes.items ≡ map written_of l.fn.writes.items ++ noted_writes (record table { firsts = done }))
