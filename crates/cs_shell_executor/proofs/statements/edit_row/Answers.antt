-- `statements::edit_row`: what it ensures.
use Rattle.std.proofs.Common.{rules}
use Rattle.cs_shell_executor.proofs.statements.edit_row.Goals as goal

pub returns-in-Some : goal.returns-in-Some
returns-in-Some g c = rw c.in-Some.is (search rules)

pub returns-in-None : goal.returns-in-None
returns-in-None g c = rw c.in-None.is (search rules)
