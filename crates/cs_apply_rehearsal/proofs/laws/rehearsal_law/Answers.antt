-- `laws::rehearsal_law`: the laws, by the law of files.
use Rattle.cs_apply_rehearsal.proofs.LawLemmas.{rehearsal_ends, rehearsal_tells}
use Rattle.cs_apply_rehearsal.proofs.laws.rehearsal_law.Goals as goal

pub returns : goal.returns
returns c = record { tells = rehearsal_tells c.changeset_files_law.ensures; ends = rehearsal_ends c.changeset_files_law.ensures }
