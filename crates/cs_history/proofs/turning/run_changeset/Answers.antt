-- `turning::run_changeset`: the clause `works`.
use Rattle.std.proofs.Common.{Bool, subst, sym}
use Rattle.sqlite.specs.Held.{state}
use Rattle.cs_store.specs.Store.{tables_in}
use Rattle.cs_history.specs.Actions.{Runs}
use Rattle.cs_history.specs.Moving.{Turning}
use Rattle.cs_history.proofs.WorkLemmas.{works_so}
use Rattle.cs_history.proofs.turning.run_changeset.Goals as goal

pub returns-then-reverts-clause-works : goal.returns-then-reverts-clause-works
returns-then-reverts-clause-works g c =
    works_so c.revert_file.result (λ x made. (subst (λ (b : Bool). Runs b c.args.file.now (tables_in (state g.S.Store c.args.transaction.now).now) (tables_in (state g.S.Store c.revert_file.new.transaction).now)) (sym c.if-reverts.true) made.0, λ reached leads. made.1 reached (subst (λ (b : Bool). Turning b c.args.file.now (tables_in (state g.S.Store c.args.transaction.now).now) reached) c.if-reverts.true leads))) c.revert_file.ensures.works

pub returns-else-reverts-clause-works : goal.returns-else-reverts-clause-works
returns-else-reverts-clause-works g c =
    works_so c.apply_file.result (λ x made. (subst (λ (b : Bool). Runs b c.args.file.now (tables_in (state g.S.Store c.args.transaction.now).now) (tables_in (state g.S.Store c.apply_file.new.transaction).now)) (sym c.if-reverts.false) made.0, λ reached leads. made.1 reached (subst (λ (b : Bool). Turning b c.args.file.now (tables_in (state g.S.Store c.args.transaction.now).now) reached) c.if-reverts.false leads))) c.apply_file.ensures.works
