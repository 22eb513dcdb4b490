-- `laws::key_bytes_law`: what it ensures.
use Rattle.cs_value.proofs.Spellings.{row_bytes_same}
use Rattle.cs_value.proofs.laws.key_bytes_law.Goals as goal

pub returns : goal.returns
returns c = row_bytes_same
