-- `print::write_rows`: what it ensures.
use Rattle.std.proofs.Common.{refl}
use Rattle.cs_file_texts.proofs.GatherLemmas.{Writes-flushed}
use Rattle.cs_shell_replies.proofs.print.write_rows.Goals as goal

pub returns : goal.returns
returns g c = Writes-flushed _ refl c.new-gather.ensures c.in_ok-add_rows.ensures.gathered c.flush.ensures.written
