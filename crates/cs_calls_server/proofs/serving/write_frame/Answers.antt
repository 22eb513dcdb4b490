-- `serving::write_frame`: what it ensures.
use Rattle.std.proofs.Common.{◌∙◌, ◌++◌, ap, append-nil, sym}
use Rattle.cs_file_texts.proofs.GatherLemmas.{Writes-flushed}
use Rattle.cs_calls_server.proofs.serving.write_frame.Goals as goal

pub returns : goal.returns
returns g c =
    Writes-flushed _ (ap (λ l. l ++ c.args.answer.now) (sym c.to_be_bytes-count.ensures) ∙ ap (λ l. c.to_be_bytes-count.result ++ l) (sym (append-nil c.args.answer.now)))
    c.new-frame.ensures c.in_ok-add_pieces.ensures.gathered c.flush.ensures.written
