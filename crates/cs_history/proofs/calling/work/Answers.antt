-- `calling::work`: the clause `works`, call by call.
use Rattle.cs_history.proofs.calling.work.Goals as goal

pub returns-in-Open-clause-works : goal.returns-in-Open-clause-works
returns-in-Open-clause-works g c = rw c.in-Open.is c.open_table.ensures.works

pub returns-in-Undo-clause-works : goal.returns-in-Undo-clause-works
returns-in-Undo-clause-works g c = rw c.in-Undo.is c.turn.ensures.works

pub returns-in-Redo-clause-works : goal.returns-in-Redo-clause-works
returns-in-Redo-clause-works g c = rw c.in-Redo.is c.turn-in-Redo.ensures.works

pub returns-in-Forget-clause-works : goal.returns-in-Forget-clause-works
returns-in-Forget-clause-works g c = rw c.in-Forget.is c.forget.ensures.works

pub returns-in-Undo-clause-refused : goal.returns-in-Undo-clause-refused
returns-in-Undo-clause-refused g c = rw c.in-Undo.is c.turn.ensures.refused

pub returns-in-Redo-clause-refused : goal.returns-in-Redo-clause-refused
returns-in-Redo-clause-refused g c = rw c.in-Redo.is c.turn-in-Redo.ensures.refused
