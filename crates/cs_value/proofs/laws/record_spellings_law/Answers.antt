-- `laws::record_spellings_law`: what it ensures.
use Rattle.cs_value.proofs.Spellings.{record_spellings}
use Rattle.cs_value.proofs.laws.record_spellings_law.Goals as goal

pub returns : goal.returns
returns c = record_spellings
