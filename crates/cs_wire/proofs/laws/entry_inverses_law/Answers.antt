-- `laws::entry_inverses_law`: what it ensures.
use Rattle.cs_wire.proofs.EntryInverses.{entry_inverses}
use Rattle.cs_wire.proofs.laws.entry_inverses_law.Goals as goal

pub returns : goal.returns
returns c = entry_inverses
