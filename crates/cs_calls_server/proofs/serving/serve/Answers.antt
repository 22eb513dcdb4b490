-- `serving::serve`: the invariant of the loop, and what it ensures.
use Rattle.cs_calls_server.proofs.ServingLemmas.{Served-start, Served-more, Serves-behind}
use Rattle.cs_calls_server.proofs.serving.serve.Goals as goal

pub loop-init : goal.loop-init
loop-init g c = Served-start g.R.Read.remaining g.W.Write.contents g.A.Answering.gives c.args.answering.now c.args.input.now c.args.out.now

pub returns-in-Err : goal.returns-in-Err
returns-in-Err g c =
    let ended = rw c.in-Err.is at c.exchange.ensures.ended in
    Serves-behind g.R.Read.remaining g.W.Write.contents g.A.Answering.gives c.in-Err.ending c.args.answering.now c.loop.answering c.exchange.new.answering c.args.input.now c.loop.input c.exchange.new.input c.args.out.now c.loop.out
    c.exchange.new.out c.loop.counter ended.1 c.loop.invariant ended.0

pub loop-preserved : goal.loop-preserved
loop-preserved g c =
    Served-more g.R.Read.remaining g.W.Write.contents g.A.Answering.gives c.args.answering.now c.loop.answering c.exchange.new.answering c.args.input.now c.loop.input c.exchange.new.input c.args.out.now c.loop.out c.exchange.new.out
    c.loop.counter c.loop.invariant (rw c.in_default.is at c.exchange.ensures.served)
