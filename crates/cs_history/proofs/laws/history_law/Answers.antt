-- `laws::history_law`: what it ensures.
use Rattle.cs_history.proofs.RunLemmas.{begins_sound, forgets_sound, moves_sound, runs_sound, same_tables}
use Rattle.cs_history.proofs.laws.history_law.Goals as goal

pub returns-clause-empty : goal.returns-clause-empty
returns-clause-empty c = begins_sound

pub returns-clause-runs : goal.returns-clause-runs
returns-clause-runs c = runs_sound

pub returns-clause-moves : goal.returns-clause-moves
returns-clause-moves c = moves_sound

pub returns-clause-forgets : goal.returns-clause-forgets
returns-clause-forgets c = forgets_sound

pub returns-clause-same : goal.returns-clause-same
returns-clause-same c = same_tables c.changeset_files_law.ensures
