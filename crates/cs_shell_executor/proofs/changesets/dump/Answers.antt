-- `changesets::dump`: what it ensures.
use Rattle.std.proofs.Common.{Some, ap, ◌∙◌}
use Rattle.std.proofs.lemmas.Result.{err_from_is_err_and}
use Rattle.cs_shell_executor.specs.LineAnswers.{dumped, nothing_to_dump}
use Rattle.cs_shell_executor.proofs.ReplyLemmas.{gives_not_dumped}
use Rattle.cs_shell_executor.proofs.changesets.dump.Goals as goal

pub returns-in_err-get : goal.returns-in_err-get
returns-in_err-get c =
    let p = err_from_is_err_and c.from_residual.result c.from_residual.ensures.1 in
    rw (p.1, p.2, c.in_err-get.ensures.0) (nothing_to_dump _ _ c.in_err-get.ensures.1)

pub returns-in_err-read : goal.returns-in_err-read
returns-in_err-read c =
    let p = err_from_is_err_and c.from_residual-in_err-read.result c.from_residual-in_err-read.ensures.1 in
    rw (p.1, p.2) (gives_not_dumped _ _ _ _ c.in_ok-get.ensures c.in_err-read.ensures.refused)

pub returns : goal.returns
returns c = dumped _ _ _ c.in_ok-read.ensures.found.0 (c.in_ok-get.ensures ∙ ap Some c.in_ok-read.ensures.found.1)
