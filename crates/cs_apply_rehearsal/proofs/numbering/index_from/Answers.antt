-- `numbering::index_from`: the entry is found, it is another one, or none is left.
use Rattle.std.proofs.Common.{true≢false, sym, ◌∙◌}
use Rattle.cs_apply_engine.specs.Report.{conflict_of}
use Rattle.cs_apply_rehearsal.proofs.NumberLemmas.{entry_at, entry_not}
use Rattle.cs_apply_rehearsal.proofs.numbering.index_from.Goals as goal

pub returns-then-is_of-clause-found : goal.returns-then-is_of-clause-found
returns-then-is_of-clause-found c others along =
    entry_at c.args.places.now c.loop-index.index (conflict_of c.args.conflict.now) others c.index-places-index.result c.loop-index-test.true c.index-places-index.is (c.is_of.ensures.0 c.if-is_of.true) (c.loop-index.invariant others along)

pub loop-index-preserved : goal.loop-index-preserved
loop-index-preserved c others along =
    entry_not c.args.places.now c.loop-index.index (conflict_of c.args.conflict.now) others c.index-places-index.result c.loop-index-test.true c.index-places-index.is (λ of. true≢false (sym (c.is_of.ensures.1 of) ∙ c.if-is_of.false)) (c.loop-index.invariant others along)
