-- `inverse::inverse_twice_law`: what it ensures.
use Rattle.cs_group.proofs.InverseLemmas.{inverse_twice}
use Rattle.cs_group.proofs.inverse.inverse_twice_law.Goals as goal

pub returns : goal.returns
returns c = inverse_twice c.entry_inverses_law.ensures
