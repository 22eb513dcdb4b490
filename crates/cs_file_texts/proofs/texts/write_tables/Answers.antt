-- `texts::write_tables`: what it ensures.
use Rattle.std.proofs.Common.{refl}
use Rattle.cs_file_texts.proofs.GatherLemmas.{Writes-flushed}
use Rattle.cs_file_texts.proofs.texts.write_tables.Goals as goal

pub returns : goal.returns
returns g c = λ groups left. Writes-flushed _ refl c.new-gather.ensures (c.in_ok-add_tables.ensures groups left).gathered c.flush.ensures.written
