-- `changesets::invert`: what it ensures.
use Rattle.std.proofs.lemmas.Result.{err_from_is_err_and}
use Rattle.cs_shell_executor.specs.LineAnswers.{inverted, nothing_to_invert, unable}
use Rattle.cs_shell_executor.proofs.ReplyLemmas.{gives_not_inverted}
use Rattle.cs_shell_executor.proofs.changesets.invert.Goals as goal

pub returns-in_err-get : goal.returns-in_err-get
returns-in_err-get c =
    let p = err_from_is_err_and c.from_residual.result c.from_residual.ensures.1 in
    rw (p.1, p.2, c.in_err-get.ensures.0) (nothing_to_invert _ _ _ c.in_err-get.ensures.1)

pub returns-in_err-inverse : goal.returns-in_err-inverse
returns-in_err-inverse c =
    let p = err_from_is_err_and c.from_residual-in_err-inverse.result c.from_residual-in_err-inverse.ensures.1 in
    rw (p.1, p.2) (gives_not_inverted _ _ _ _ _ c.in_ok-get.ensures c.in_err-inverse.ensures.refused)

pub returns-in_err-insert : goal.returns-in_err-insert
returns-in_err-insert c =
    let p = err_from_is_err_and c.from_residual-in_err-insert.result c.from_residual-in_err-insert.ensures.1 in
    rw (p.1, p.2, c.in_err-insert.ensures.err) (unable _ _)

pub returns : goal.returns
returns c = rw c.in_ok-insert.ensures.ok (inverted _ _ _ _ _ c.in_ok-get.ensures c.in_ok-inverse.ensures.inverted)
