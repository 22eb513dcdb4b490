-- `carrying::note`: the refusal of a session.
use Rattle.std.proofs.Common.{map}
use Rattle.cs_rows.specs.Editing.{written_of}
use Rattle.cs_session_notes.specs.Noting.{AreFormers}
use Rattle.cs_calls_service.proofs.NotedLemmas.{fault_is}
use Rattle.cs_calls_service.proofs.carrying.note.Goals as goal

pub returns-in-Err-clause-refused : goal.returns-in-Err-clause-refused
returns-in-Err-clause-refused c =
    fault_is c.in-Err.fault c.session_refusal.result (AreFormers c.args.session (map written_of c.args.carried.written.items) → ⊥) c.session_refusal.ensures (rw c.deref.ensures.value at c.in-Err.ensures.refused)
