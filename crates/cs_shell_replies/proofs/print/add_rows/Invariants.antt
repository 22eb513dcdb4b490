use Rattle.std.proofs.Common.{take}
use Rattle.cs_files.specs.Gathering.{Gathered}
use Rattle.cs_shell_replies.specs.Replies.{rows_text}
use Rattle.cs_shell_replies.proofs.print.add_rows.Given as goal

abbrev pub invariant-loop-row : goal.invariant-loop-row
invariant-loop-row g l = Gathered g.W.Write.contents l.initial.gather l.gather l.initial.out l.out (rows_text (take l.row-index l.rows))
