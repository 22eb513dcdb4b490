-- `laws::restores_law`: what it ensures.
use Rattle.cs_history.proofs.RunLemmas.{there_and_back, undo_restores, redo_restores}
use Rattle.cs_history.proofs.laws.restores_law.Goals as goal

pub returns-clause-undo : goal.returns-clause-undo
returns-clause-undo c = undo_restores

pub returns-clause-redo : goal.returns-clause-redo
returns-clause-redo c = redo_restores

pub returns-clause-back : goal.returns-clause-back
returns-clause-back c = there_and_back
