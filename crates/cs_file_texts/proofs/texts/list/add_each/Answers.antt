-- `texts::list::add_each`: the invariant of the loop at `item`, what it ensures.
use Rattle.std.proofs.Common.{arith}
use Rattle.cs_value.proofs.ListLemmas.{flat_map_take_more_at, flat_map_split_at}
use Rattle.cs_file_texts.proofs.GatherLemmas.{Gathered-more, Gathers-stopped}
use Rattle.cs_file_texts.proofs.texts.list.add_each.Goals as goal

pub loop-item-preserved : goal.loop-item-preserved
loop-item-preserved g c =
    Gathered-more _ (flat_map_take_more_at c.args.items.now c.loop-item.item-index c.item-item.result (omega arith) c.item-item.is g.T.Print.text) c.loop-item.invariant c.in_ok-print.ensures.gathered

pub returns-in_err-print : goal.returns-in_err-print
returns-in_err-print g c =
    Gathers-stopped _ _ _ _ c.from_residual.ensures.0 (flat_map_split_at c.args.items.now c.loop-item.item-index c.item-item.result (omega arith) c.item-item.is g.T.Print.text) c.loop-item.invariant c.in_err-print.ensures
