-- `applying::work`: the file is applied by the choices of the call, and what follows is its work.
use Rattle.std.proofs.Common.{rules}
use Rattle.sqlite.specs.Held.{state}
use Rattle.cs_store.specs.Store.{tables_in}
use Rattle.cs_apply_engine.specs.declared.running.Direction.TheVariants.{Forward}
use Rattle.cs_apply_engine.specs.Steps.{IsStoreRefusal}
use Rattle.cs_calls_executor.specs.Applying.{chooses}
use Rattle.cs_calls_executor.specs.declared.applying.ApplyCall.TheVariants.{Apply, Revert}
use Rattle.cs_calls_executor.proofs.ApplyLemmas.{applied_so, refused_so}
use Rattle.cs_calls_executor.proofs.WorkLemmas.{finished_works, open_within, within_ran}
use Rattle.cs_calls_executor.proofs.applying.work.Goals as goal

pub returns-in-Apply : goal.returns-in-Apply
returns-in-Apply g c =
    let it = c.in-Apply in
    let run = c.apply_in_transaction-outcome in
    let old = state g.S.Store c.args.transaction.now in
    let mid = state g.S.Store run.new.transaction in
    let file = c.as_slice.result.now in
    rw (it.is, ← c.as_slice.ensures.same) (finished_works (Apply file it.noop it.policy) old mid run.result (state g.S.Store c.finish.new.transaction) c.finish.result run.ensures.within.kept
    (within_ran (Apply file it.noop it.policy) old mid run.result _ run.ensures.within
    (λ clean. applied_so _ (chooses it.policy) (λ k chosen given. search rules) it.noop file Forward (tables_in old.now) run.result (tables_in mid.now) (run.ensures.applied clean))
    (λ clean. refused_so _ (chooses it.policy) (λ k chosen given. search rules) it.noop file Forward (tables_in old.now) run.result (run.ensures.refused clean)))
    (c.finish.ensures (open_within _ IsStoreRefusal old mid run.result run.ensures.within)))

pub returns-in-Revert : goal.returns-in-Revert
returns-in-Revert g c =
    let run = c.revert_in_transaction-outcome in
    let old = state g.S.Store c.args.transaction.now in
    let mid = state g.S.Store run.new.transaction in
    let file = c.as_slice-in-Revert.result.now in
    rw (c.in-Revert.is, ← c.as_slice-in-Revert.ensures.same) (finished_works (Revert file) old mid run.result (state g.S.Store c.finish-in-Revert.new.transaction) c.finish-in-Revert.result run.ensures.within.kept
    (within_ran (Revert file) old mid run.result _ run.ensures.within run.ensures.applied run.ensures.refused)
    (c.finish-in-Revert.ensures (open_within _ IsStoreRefusal old mid run.result run.ensures.within)))
