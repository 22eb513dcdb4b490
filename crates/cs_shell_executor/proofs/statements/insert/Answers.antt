-- `statements::insert`: what it ensures.
use Rattle.cs_shell_executor.proofs.statements.insert.Goals as goal

pub returns : goal.returns
returns g c = rw (← c.new-row.ensures) c.edit_row.ensures
