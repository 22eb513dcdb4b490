-- `laws::script_net_law`: what it ensures.
use Rattle.std.proofs.Common.{refl}
use Rattle.cs_shell_script.specs.StoreRuns.{beginning}
use Rattle.cs_shell_script.proofs.SessionLawLemmas.{lines_lead}
use Rattle.cs_shell_script.proofs.laws.script_net_law.Goals as goal

pub returns : goal.returns
returns c = λ tables lines replies last given. c.net_law.ensures.lines (beginning tables) last lines refl (lines_lead (beginning tables) last lines replies given)
