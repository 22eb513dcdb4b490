-- `laws::merge_law`: the laws.
use Rattle.cs_session_notes.proofs.MergeLemmas.{merge_notes, merge_restores}
use Rattle.cs_session.proofs.laws.merge_law.Goals as goal

pub returns : goal.returns
returns c = record { restores = merge_restores; notes = merge_notes }
