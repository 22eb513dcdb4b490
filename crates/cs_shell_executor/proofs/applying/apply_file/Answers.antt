-- `applying::apply_file`: what it ensures.
use Rattle.cs_shell_executor.proofs.applying.apply_file.Goals as goal

pub returns-in-Some : goal.returns-in-Some
returns-in-Some g c = rw c.in-Some.is c.apply_noted.ensures

pub returns-in-None : goal.returns-in-None
returns-in-None g c = rw c.in-None.is c.apply_unnoted.ensures.works
