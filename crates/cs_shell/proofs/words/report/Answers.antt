-- `words::report`: what it ensures.
use Rattle.cs_shell.proofs.words.report.Goals as goal

pub returns : goal.returns
returns g c = (c.write_refusal.result, c.write_refusal.ensures)
