-- `texts::groups::add_groups`: the invariant of the loop at `group`, what it ensures.
use Rattle.std.proofs.Common.{arith}
use Rattle.cs_value.proofs.ListLemmas.{flat_map_take_more_at, flat_map_split_at}
use Rattle.cs_file_texts.specs.Forms.{group_part}
use Rattle.cs_file_texts.proofs.GatherLemmas.{Gathered-more, Gathers-stopped}
use Rattle.cs_file_texts.proofs.texts.groups.add_groups.Goals as goal

pub loop-group-preserved : goal.loop-group-preserved
loop-group-preserved g c =
    Gathered-more _ (flat_map_take_more_at c.args.groups.now c.loop-group.group-index c.group-item.result (omega arith) c.group-item.is (group_part c.args.form)) c.loop-group.invariant c.in_ok-add_group.ensures.gathered

pub returns-in_err-add_group : goal.returns-in_err-add_group
returns-in_err-add_group g c =
    Gathers-stopped _ _ _ _ c.from_residual.ensures.0 (flat_map_split_at c.args.groups.now c.loop-group.group-index c.group-item.result (omega arith) c.group-item.is (group_part c.args.form)) c.loop-group.invariant c.in_err-add_group.ensures
