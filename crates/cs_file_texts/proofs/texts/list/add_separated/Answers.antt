-- `texts::list::add_separated`: the invariant of the loop at `item`, what it ensures.
use Rattle.std.proofs.Common.{arith, refl}
use Rattle.cs_file_texts.specs.Texts.{separated}
use Rattle.cs_file_texts.proofs.GatherLemmas.{Gathered-nil, Gathered-more, Gathers-stopped}
use Rattle.cs_file_texts.proofs.SeparatedLemmas.{separated_step, separated_rest, lead_step}
use Rattle.cs_file_texts.proofs.texts.list.add_separated.Goals as goal

pub loop-item-init : goal.loop-item-init
unfolding separated
loop-item-init g c = record { gathered = Gathered-nil _ _; lead = refl }

pub loop-item-preserved : goal.loop-item-preserved
loop-item-preserved g c = record {
  gathered = Gathered-more _ (separated_step c.args.between.now g.T.Print.text c.args.items.now c.loop-item.item-index c.item-item.result c.loop-item.lead.now (omega arith) c.item-item.is c.loop-item.invariant.lead) c.loop-item.invariant.gathered c.in_ok-add_behind.ensures.gathered;
  lead = lead_step c.args.between.now g.T.Print.text c.args.items.now c.loop-item.item-index c.item-item.result (omega arith);
}

pub returns-in_err-add_behind : goal.returns-in_err-add_behind
returns-in_err-add_behind g c =
    Gathers-stopped _ _ _ _ c.from_residual.ensures.0 (separated_rest c.args.between.now g.T.Print.text c.args.items.now c.loop-item.item-index c.item-item.result c.loop-item.lead.now (omega arith) c.item-item.is c.loop-item.invariant.lead) c.loop-item.invariant.gathered c.in_err-add_behind.ensures
