-- `changesets::join`: what it ensures.
use Rattle.std.proofs.Common.{inl, inr}
use Rattle.std.proofs.lemmas.Result.{err_from_is_err_and}
use Rattle.cs_shell_executor.specs.LineAnswers.{joined, nothing_to_join, unable}
use Rattle.cs_shell_executor.proofs.ReplyLemmas.{gives_not_joined}
use Rattle.cs_shell_executor.proofs.changesets.join.Goals as goal

pub returns-in_err-file : goal.returns-in_err-file
returns-in_err-file c =
    let p = err_from_is_err_and c.from_residual.result c.from_residual.ensures.1 in
    rw (p.1, p.2, c.in_err-file.ensures.0) (nothing_to_join _ _ _ _ (inl c.in_err-file.ensures.1))

pub returns-in_err-other : goal.returns-in_err-other
returns-in_err-other c =
    let p = err_from_is_err_and c.from_residual-in_err-other.result c.from_residual-in_err-other.ensures.1 in
    rw (p.1, p.2, c.in_err-other.ensures.0) (nothing_to_join _ _ _ _ (inr c.in_err-other.ensures.1))

pub returns-in_err-joined : goal.returns-in_err-joined
returns-in_err-joined c =
    let p = err_from_is_err_and c.from_residual-in_err-joined.result c.from_residual-in_err-joined.ensures.1 in
    rw (p.1, p.2) (gives_not_joined _ _ _ _ _ _ _ c.in_ok-file.ensures c.in_ok-other.ensures c.in_err-joined.ensures.refused)

pub returns-in_err-insert : goal.returns-in_err-insert
returns-in_err-insert c =
    let p = err_from_is_err_and c.from_residual-in_err-insert.result c.from_residual-in_err-insert.ensures.1 in
    rw (p.1, p.2, c.in_err-insert.ensures.err) (unable _ _)

pub returns : goal.returns
returns c = rw c.in_ok-insert.ensures.ok (joined _ _ _ _ _ _ _ c.in_ok-file.ensures c.in_ok-other.ensures c.in_ok-joined.ensures.joined)
