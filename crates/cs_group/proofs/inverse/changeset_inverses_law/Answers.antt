-- `inverse::changeset_inverses_law`: what it ensures.
use Rattle.cs_group.proofs.InverseLemmas.{changeset_inverses}
use Rattle.cs_group.proofs.inverse.changeset_inverses_law.Goals as goal

pub returns : goal.returns
returns c = changeset_inverses c.entry_inverses_law.ensures
