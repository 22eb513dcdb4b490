-- `transaction::apply_in_transaction`: the clause `clean`.
use Rattle.std.proofs.lemmas.Result.{on_ok_weaker}
use Rattle.std.specs.Fn.{FnReturnsAt}
use Rattle.sqlite.specs.Held.{state}
use Rattle.cs_store.specs.Laws.{was_clean}
use Rattle.cs_store.specs.Store.{tables_in}
use Rattle.cs_apply.proofs.TransactionLemmas.{clean_leads}
use Rattle.cs_apply.proofs.transaction.apply_in_transaction.Goals as goal

pub returns-clause-clean : goal.returns-clause-clean
returns-clause-clean g c clean =
    let old = state g.S.Store c.args.transaction.now in
    let new = state g.S.Store c.call.new.transaction in
    let within = c.call.ensures.within in
    let was = was_clean old new within.kept.crash clean in
    clean_leads c.call.result (FnReturnsAt g.H.Fn c.args.handler.now) c.args.noop c.args.file.now (tables_in old.now) (tables_in new.now)
    (on_ok_weaker c.call.result (λ made. (c.store_law.ensures.holds was ((within.kept.commit clean).was_open made.0.is_open)).0.stores.is_state) (within.made clean))
    (c.call.ensures.applied clean)
