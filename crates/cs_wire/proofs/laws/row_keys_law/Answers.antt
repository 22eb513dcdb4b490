-- `laws::row_keys_law`: what it ensures.
use Rattle.cs_wire.proofs.KeyLemmas.{row_keys}
use Rattle.cs_wire.proofs.laws.row_keys_law.Goals as goal

pub returns : goal.returns
returns c = row_keys
