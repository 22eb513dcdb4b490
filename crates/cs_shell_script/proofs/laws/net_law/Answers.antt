-- `laws::net_law`: what it ensures.
use Rattle.cs_shell_script.proofs.NetLawLemmas.{net_of_touched}
use Rattle.cs_shell_script.proofs.laws.net_law.Goals as goal

pub returns : goal.returns
returns c = net_of_touched
