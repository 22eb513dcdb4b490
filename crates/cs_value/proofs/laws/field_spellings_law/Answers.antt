-- `laws::field_spellings_law`: what it ensures.
use Rattle.cs_value.proofs.Spellings.{field_spellings}
use Rattle.cs_value.proofs.laws.field_spellings_law.Goals as goal

pub returns : goal.returns
returns c = field_spellings
