-- `print::add_rows`: the invariant of the loop at `row`, what it ensures.
use Rattle.std.proofs.Common.{arith}
use Rattle.cs_value.proofs.ListLemmas.{flat_map_take_more_at, flat_map_split_at}
use Rattle.cs_files.specs.Texts.{listed_text}
use Rattle.cs_file_texts.proofs.GatherLemmas.{Gathered-more, Gathers-stopped}
use Rattle.cs_shell_replies.specs.Replies.{line_text}
use Rattle.cs_shell_replies.proofs.print.add_rows.Goals as goal

pub loop-row-preserved : goal.loop-row-preserved
loop-row-preserved g c =
    Gathered-more _ (flat_map_take_more_at c.args.rows.now c.loop-row.row-index c.row-item.result (omega arith) c.row-item.is (λ row. line_text (listed_text row))) c.loop-row.invariant c.in_ok-add_pieces.ensures.gathered

pub returns-in_err-add_pieces : goal.returns-in_err-add_pieces
returns-in_err-add_pieces g c =
    Gathers-stopped _ _ _ _ c.from_residual.ensures.0 (flat_map_split_at c.args.rows.now c.loop-row.row-index c.row-item.result (omega arith) c.row-item.is (λ row. line_text (listed_text row))) c.loop-row.invariant c.in_err-add_pieces.ensures
