-- `kind::Kind::of_number`: what it ensures.
use Rattle.std.proofs.Common.{◌∙◌, arith}
use Rattle.cs_calls_requests.specs.Kinds.{kinds}
use Rattle.cs_calls_requests.proofs.KindLemmas.{kind_at-index}
use Rattle.cs_calls_requests.proofs.kind.Kind.of_number.Goals as goal

pub returns-in-Some : goal.returns-in-Some
unfolding kinds
returns-in-Some c = c.at.ensures ∙ kind_at-index c.args.number c.from.result (omega (arith, c.in-Some.ensures.0)) (omega (arith, c.from.ensures, c.in-Some.ensures.1))
