-- `sessions::is_empty`: what it ensures.
use Rattle.std.proofs.Common.{inl}
use Rattle.cs_shell_executor.proofs.SessionTurnLemmas.{gives_empty, gives_written}
use Rattle.cs_shell_executor.proofs.sessions.is_empty.Goals as goal
use Rattle.cs_shell_executor.proofs.sessions.is_empty.Goals.{then-is_empty, else-is_empty}

pub returns : goal.returns
returns c = λ tables slots.
    rw (c.in-Some.is, c.in_ok-from_str.ensures.ok)
    (elim c.if-is_empty.branch [
      | then-is_empty w ↦ rw w.text-is (inl (gives_empty tables slots _ (c.is_empty.ensures.0 w.if-is_empty.true)))
      | else-is_empty w ↦ rw w.text-is (inl (gives_written tables slots _ (λ none. let is = c.is_empty.ensures.1 none in cc (is, w.if-is_empty.false))))
    ])
