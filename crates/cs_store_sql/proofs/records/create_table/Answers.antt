-- `records::create_table`: the clauses `commit`, `survives`, `makes`, `goes_on` and `failed`.
use Rattle.std.proofs.Common.{rules, inr, subst}
use Rattle.sqlite.specs.Held.{state}
use Rattle.cs_store_sql.specs.Statements.{Creates}
use Rattle.cs_store_sql.proofs.ContentLemmas.{rests_commit, commit_itself}
use Rattle.cs_store_sql.proofs.FailureLemmas.{failure}
use Rattle.cs_store_sql.proofs.QueryLemmas.{on_err}
use Rattle.cs_store_sql.proofs.StatementLemmas.{refusal_rests}
use Rattle.cs_store_sql.proofs.TableLemmas.{makes, make_goes_on, make_keeps_crash}
use Rattle.cs_store_sql.proofs.records.create_table.Goals as goal

pub returns-in_err-creates-clause-commit : goal.returns-in_err-creates-clause-commit
returns-in_err-creates-clause-commit g c clean = on_err c.from_residual.result _ (commit_itself (state g.S.Store c.args.conn.now))

pub returns-then-not-branch-clause-commit : goal.returns-then-not-branch-clause-commit
returns-then-not-branch-clause-commit g c clean = commit_itself (state g.S.Store c.args.conn.now)

pub returns-in_err-execute-clause-commit : goal.returns-in_err-execute-clause-commit
returns-in_err-execute-clause-commit g c clean = on_err c.from_residual-in_err-execute.result _ (rests_commit _ _ (refusal_rests _ _ _ _ _ (c.in_err-execute.ensures.runs clean)))

pub returns-in_err-execute-clause-survives : goal.returns-in_err-execute-clause-survives
returns-in_err-execute-clause-survives g c inside = make_keeps_crash _ _ (subst Creates c.schema.ensures.value (c.in_ok-creates.ensures.0 (let go = c.if-not-branch.false in search rules))) inside c.execute.ensures.survives

pub returns-clause-makes : goal.returns-clause-makes
returns-clause-makes g c clean = makes _ _ _ (subst Creates c.schema.ensures.value (c.in_ok-creates.ensures.0 (let go = c.if-not-branch.false in search rules))) (c.in_ok-execute.ensures.runs clean)

pub returns-clause-goes_on : goal.returns-clause-goes_on
returns-clause-goes_on g c clean inside = make_goes_on _ _ _ (subst Creates c.schema.ensures.value (c.in_ok-creates.ensures.0 (let go = c.if-not-branch.false in search rules))) inside (c.in_ok-execute.ensures.runs clean)

pub returns-clause-survives : goal.returns-clause-survives
returns-clause-survives g c inside = make_keeps_crash _ _ (subst Creates c.schema.ensures.value (c.in_ok-creates.ensures.0 (let go = c.if-not-branch.false in search rules))) inside c.execute.ensures.survives

pub returns-in_err-execute-clause-failed : goal.returns-in_err-execute-clause-failed
returns-in_err-execute-clause-failed g c clean = failure c.from_residual-in_err-execute.result _ c.in_err-execute.field-0.0 (c.from_residual-in_err-execute.ensures.1) (λ other. inr (c.in_err-execute.ensures.runs clean))
