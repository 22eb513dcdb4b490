-- `serving::exchange`: what it ensures.
use Rattle.std.proofs.lemmas.Result.{err_from_is_err_and}
use Rattle.cs_calls_server.specs.Serving.{sent_bytes}
use Rattle.cs_calls_server.proofs.FrameLemmas.{not_full, written_is_not_full}
use Rattle.cs_calls_server.proofs.ServingLemmas.{Served-one, Serves-short, Serves-cut, Serves-unwritten}
use Rattle.cs_calls_server.proofs.serving.exchange.Goals as goal

pub returns-in_err-count-clause-ended : goal.returns-in_err-count-clause-ended
returns-in_err-count-clause-ended g c =
    let p = err_from_is_err_and c.from_residual.result c.from_residual.ensures.1 in
    let s = c.in_err-count.ensures.stopped in
    rw (p.1, p.2) (Serves-short _ _ _ _ _ _ _ _ s.0 s.1 s.2, not_full g.R.Read.remaining _ _ s.2.stopped)

pub returns-in_err-received-clause-ended : goal.returns-in_err-received-clause-ended
returns-in_err-received-clause-ended g c =
    let p = err_from_is_err_and c.from_residual-in_err-received.result c.from_residual-in_err-received.ensures.1 in
    let head = c.in_ok-count.ensures.read in
    let s = c.in_err-received.ensures.stopped in
    rw (p.1, p.2) (
      Serves-cut g.R.Read.remaining g.W.Write.contents g.A.Answering.gives _ c.args.answering.now c.args.input.now c.read_length.new.input c.read_call.new.input c.args.out.now c.in_ok-count.count s.0 head.0 s.1 head.1 s.2 s.3,
      not_full g.R.Read.remaining _ _ s.3.1,
    )

pub returns-in-Ok-clause-served : goal.returns-in-Ok-clause-served
returns-in-Ok-clause-served g c =
    let head = c.in_ok-count.ensures.read in
    let body = c.in_ok-received.ensures.received in
    let response = c.respond-sent.ensures body.0 body.2 in
    Served-one g.R.Read.remaining g.W.Write.contents g.A.Answering.gives c.args.answering.now c.respond-sent.new.answering c.args.input.now c.read_length.new.input c.read_call.new.input c.args.out.now c.send.new.out body.0
    (sent_bytes c.respond-sent.result) c.in_ok-count.count body.1.1 head.1 body.1.0 response.given (rw c.in-Ok.is at c.send.ensures.wrote)

pub returns-clause-ended : goal.returns-clause-ended
returns-clause-ended g c =
    let head = c.in_ok-count.ensures.read in
    let body = c.in_ok-received.ensures.received in
    let response = c.respond-sent.ensures body.0 body.2 in (
      Serves-unwritten g.R.Read.remaining g.W.Write.contents g.A.Answering.gives c.args.answering.now c.respond-sent.new.answering c.args.input.now c.read_length.new.input c.read_call.new.input c.args.out.now c.send.new.out body.0
          (sent_bytes c.respond-sent.result) c.in_ok-count.count body.1.1 head.1 body.1.0 response.given (rw c.in-Err.is at c.send.ensures.wrote) (rw c.in-Err.is at c.send.ensures.flagged),
      written_is_not_full,
    )
