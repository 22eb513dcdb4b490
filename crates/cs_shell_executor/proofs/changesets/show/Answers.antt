-- `changesets::show`: what it ensures.
use Rattle.std.proofs.lemmas.Result.{err_from_is_err_and}
use Rattle.cs_shell_executor.specs.LineAnswers.{shown, nothing_to_show, unable}
use Rattle.cs_shell_executor.proofs.changesets.show.Goals as goal

pub returns-in_err-bytes : goal.returns-in_err-bytes
returns-in_err-bytes c =
    let p = err_from_is_err_and c.from_residual.result c.from_residual.ensures.1 in
    rw (p.1, p.2, c.in_err-bytes.ensures.0) (nothing_to_show _ _ c.in_err-bytes.ensures.1)

pub returns-in_err-encode : goal.returns-in_err-encode
returns-in_err-encode c =
    let p = err_from_is_err_and c.from_residual-in_err-encode.result c.from_residual-in_err-encode.ensures.1 in
    rw (p.1, p.2) (unable _ _)

pub returns : goal.returns
returns c = rw c.in_ok-encode.ensures (shown _ _ _ c.in_ok-bytes.ensures)
