-- What holds of any interpreter that answers lines over a store.
use Rattle.std.proofs.Common.{ℕ, Bool, List, inl, refl, arith}
use Rattle.sqlite.specs.State.{State}
use Rattle.cs_shell_executor.specs.declared.workspace.Workspace.{Workspace}
use Rattle.cs_shell_replies.specs.declared.refusal.Refusal.TheVariants.{NoMemory}
use Rattle.cs_shell_replies.specs.Replies.{Refused}
use Rattle.cs_shell_executor.specs.LineAnswers.{unanswered}
use Rattle.cs_store.specs.Turns.{by_nothing}
use Rattle.cs_shell_script.specs.Shells.{Answers}

-- memory may be refused for any line, and then nothing changes
pub loses_line : (store : State) (is_at_rest : Bool) (work : Workspace) (line : List ℕ)
    → Answers store store is_at_rest is_at_rest work work line (Refused NoMemory)
loses_line store is_at_rest work line rests = record {
  disk = record { clean = omega arith; counts = omega arith; closes = λ clean is_open. inl is_open };
  done = λ clean tables known. (tables, known, λ here. (here, inl (unanswered _ line NoMemory (inl refl))));
  others = λ clean tables known. record { was_open = λ is_open. is_open; others = λ is_open. by_nothing };
}
