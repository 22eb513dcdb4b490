use Rattle.std.proofs.Common.{take}
use Rattle.std.specs.Prelude.{string_bytes}
use Rattle.std.specs.List.{flat_map}
use Rattle.cs_shell_replies.specs.Report.{skip_text}
use Rattle.cs_files.specs.Gathering.{Gathered}
use Rattle.cs_shell_replies.proofs.report.add_skips.Given as goal

abbrev pub invariant-loop-table : goal.invariant-loop-table
invariant-loop-table g l =
    Gathered g.W.Write.contents l.initial.gather l.gather l.initial.out l.out (flat_map (λ t. skip_text (string_bytes t)) (take l.table-index l.tables))
