-- `report::add_conflicts`: the invariant of the loop at `met`, what it ensures.
use Rattle.std.proofs.Common.{arith}
use Rattle.cs_value.proofs.ListLemmas.{flat_map_take_more_at, flat_map_split_at}
use Rattle.cs_apply_engine.specs.Report.{met_of}
use Rattle.cs_file_texts.proofs.GatherLemmas.{Gathered-more, Gathers-stopped}
use Rattle.cs_shell_replies.specs.Report.{met_text}
use Rattle.cs_shell_replies.proofs.report.add_conflicts.Goals as goal

pub loop-met-preserved : goal.loop-met-preserved
loop-met-preserved g c =
    Gathered-more _ (flat_map_take_more_at c.args.conflicts.now c.loop-met.met-index c.met-item.result (omega arith) c.met-item.is (λ met. met_text (met_of met))) c.loop-met.invariant c.in_ok-add_met.ensures.gathered

pub returns-in_err-add_met : goal.returns-in_err-add_met
returns-in_err-add_met g c =
    Gathers-stopped _ _ _ _ c.from_residual.ensures.0 (flat_map_split_at c.args.conflicts.now c.loop-met.met-index c.met-item.result (omega arith) c.met-item.is (λ met. met_text (met_of met))) c.loop-met.invariant c.in_err-add_met.ensures
