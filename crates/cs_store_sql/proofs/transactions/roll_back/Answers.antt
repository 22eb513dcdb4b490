-- `transactions::roll_back`: the clauses `undone` and `survives`.
use Rattle.std.proofs.Common.{rules}
use Rattle.cs_store_sql.proofs.TransactionLemmas.{roll_back_undone, roll_back_keeps_crash}
use Rattle.cs_store_sql.proofs.transactions.roll_back.Goals as goal

pub returns-then-not-is_autocommit-clause-undone : goal.returns-then-not-is_autocommit-clause-undone
returns-then-not-is_autocommit-clause-undone g c clean = roll_back_undone _ _ (let open_is = c.is_autocommit.ensures.value in search rules) _ (c.execute.ensures.runs clean)

pub returns-then-not-is_autocommit-clause-survives : goal.returns-then-not-is_autocommit-clause-survives
returns-then-not-is_autocommit-clause-survives g c = roll_back_keeps_crash _ _ c.execute.ensures.survives
