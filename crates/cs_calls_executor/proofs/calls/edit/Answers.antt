-- `calls::edit`: a table is declared.
use Rattle.cs_calls_executor.proofs.calls.edit.Goals as goal

pub returns-in-Declare : goal.returns-in-Declare
returns-in-Declare g c = rw c.in-Declare.is c.declare.ensures
