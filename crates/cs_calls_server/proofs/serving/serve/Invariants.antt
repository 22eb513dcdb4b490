use Rattle.cs_calls_server.specs.Serving.{Served}
use Rattle.cs_calls_server.proofs.serving.serve.Given as goal

abbrev pub invariant-loop : goal.invariant-loop
invariant-loop g l =
    Served g.R.Read.remaining g.W.Write.contents g.A.Answering.gives l.initial.answering l.answering l.initial.input l.input l.initial.out l.out l.counter
