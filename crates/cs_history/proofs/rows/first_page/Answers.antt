-- `rows::first_page`: what it ensures.
use Rattle.std.proofs.Common.{◌≡◌, Bool, Ok, sym, ap, subst}
use Rattle.sqlite.specs.Held.{state}
use Rattle.cs_store.specs.Store.{tables_in}
use Rattle.cs_store.specs.Pages.{page_in}
use Rattle.cs_value.specs.State.{rows_at}
use Rattle.cs_history.specs.Moving.{start_of}
use Rattle.cs_history.proofs.FaultLemmas.{store_named}
use Rattle.cs_history.proofs.WorkLemmas.{reads_work, works_err, works_ok}
use Rattle.cs_history.proofs.rows.first_page.Goals as goal

pub returns-in_err-page-clause-works : goal.returns-in_err-page-clause-works
returns-in_err-page-clause-works g c = works_err c.from_residual.result _ c.from_residual.ensures.1 c.page.ensures.kept

pub returns-in_err-page-clause-named : goal.returns-in_err-page-clause-named
returns-in_err-page-clause-named g c = store_named c.from_residual.result c.in_err-page.field-0.0 c.from_residual.ensures.1

pub returns-in_err-page-2-clause-works : goal.returns-in_err-page-2-clause-works
returns-in_err-page-2-clause-works g c = works_err c.from_residual-in_err-page-2.result _ c.from_residual-in_err-page-2.ensures.1 c.page-2.ensures.kept

pub returns-in_err-page-2-clause-named : goal.returns-in_err-page-2-clause-named
returns-in_err-page-2-clause-named g c = store_named c.from_residual-in_err-page-2.result c.in_err-page-2.field-0.0 c.from_residual-in_err-page-2.ensures.1

pub returns-then-not-done-clause-works : goal.returns-then-not-done-clause-works
returns-then-not-done-clause-works g c =
    works_ok (reads_work (λ rows before after. (after ≡ before) × (rows.items ≡ page_in (rows_at before c.args.name.now) (start_of c.args.done) 1)) (Ok c.in_ok-page.field-0) c.page.ensures.kept c.in_ok-page.ensures.reads
    (λ clean. (ap tables_in (c.in_ok-page.ensures.same clean), subst (λ (b : Bool). c.in_ok-page.field-0.items ≡ page_in (rows_at (tables_in (state g.S.Store c.args.transaction.now).now) c.args.name.now) (start_of b) 1) (sym c.if-not-done.true) (c.in_ok-page.ensures.listed clean))))
