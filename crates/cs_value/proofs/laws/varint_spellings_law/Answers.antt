-- `laws::varint_spellings_law`: what it ensures.
use Rattle.cs_value.proofs.Spellings.{varint_spellings}
use Rattle.cs_value.proofs.laws.varint_spellings_law.Goals as goal

pub returns : goal.returns
returns c = varint_spellings
