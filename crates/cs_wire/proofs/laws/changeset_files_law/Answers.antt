-- `laws::changeset_files_law`: what it ensures.
use Rattle.cs_wire.proofs.FileSpellings.{changeset_files}
use Rattle.cs_wire.proofs.laws.changeset_files_law.Goals as goal

pub returns : goal.returns
returns c = changeset_files c.varint_spellings_law.ensures c.record_spellings_law.ensures
