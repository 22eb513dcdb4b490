use Rattle.std.proofs.Common.{take}
use Rattle.std.specs.List.{flat_map}
use Rattle.cs_apply_engine.specs.Report.{met_of}
use Rattle.cs_files.specs.Gathering.{Gathered}
use Rattle.cs_shell_replies.specs.Report.{met_text}
use Rattle.cs_shell_replies.proofs.report.add_conflicts.Given as goal

abbrev pub invariant-loop-met : goal.invariant-loop-met
invariant-loop-met g l =
    Gathered g.W.Write.contents l.initial.gather l.gather l.initial.out l.out (flat_map (λ met. met_text (met_of met)) (take l.met-index l.conflicts))
