-- `changesets::load`: what it ensures.
use Rattle.std.proofs.lemmas.Result.{err_from_is_err_and}
use Rattle.cs_shell_executor.specs.LineAnswers.{loaded, unable}
use Rattle.cs_shell_executor.proofs.ReplyLemmas.{gives_not_loaded}
use Rattle.cs_shell_executor.proofs.changesets.load.Goals as goal

pub returns-in_err-bytes : goal.returns-in_err-bytes
returns-in_err-bytes c =
    let p = err_from_is_err_and c.from_residual.result c.from_residual.ensures.1 in
    rw (p.1, p.2) (gives_not_loaded _ _ _ _ c.in_err-bytes.ensures.err)

pub returns-in_err-insert : goal.returns-in_err-insert
returns-in_err-insert c =
    let p = err_from_is_err_and c.from_residual-in_err-insert.result c.from_residual-in_err-insert.ensures.1 in
    rw (p.1, p.2, c.in_err-insert.ensures.err) (unable _ _)

pub returns : goal.returns
returns c = rw c.in_ok-insert.ensures.ok (loaded _ _ _ _ c.in_ok-bytes.ensures.ok)
