-- `print::write_line`: what it ensures.
use Rattle.std.proofs.Common.{ap, sym, ◌++◌, codes}
use Rattle.cs_file_texts.proofs.GatherLemmas.{Writes-flushed}
use Rattle.cs_shell_replies.proofs.print.write_line.Goals as goal

pub returns : goal.returns
returns g c = Writes-flushed _ (ap (λ l. l ++ codes "\n") (sym c.as_bytes.ensures.value)) c.new-gather.ensures c.in_ok-add_pieces.ensures.gathered c.flush.ensures.written
