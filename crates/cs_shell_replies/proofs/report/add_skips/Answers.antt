-- `report::add_skips`: the invariant of the loop at `table`, what it ensures.
use Rattle.std.proofs.Common.{arith, ◌+◌, ◌++◌, ap, sym, ◌∙◌, take, drop}
use Rattle.std.specs.Prelude.{string_bytes}
use Rattle.std.specs.List.{flat_map}
use Rattle.cs_value.proofs.ListLemmas.{flat_map_take_more_at, flat_map_split_at}
use Rattle.cs_shell_replies.specs.Report.{skip_text}
use Rattle.cs_file_texts.proofs.GatherLemmas.{Gathered-more, Gathers-stopped}
use Rattle.cs_shell_replies.proofs.report.add_skips.Goals as goal

pub loop-table-preserved : goal.loop-table-preserved
loop-table-preserved g c =
    let tables = c.args.tables.now in
    let i = c.loop-table.table-index in
    Gathered-more _ (flat_map_take_more_at tables i c.table-item.result (omega arith) c.table-item.is (λ t. skip_text (string_bytes t))
    ∙ ap (λ l. flat_map (λ t. skip_text (string_bytes t)) (take i tables) ++ skip_text l) (sym c.as_str.ensures.value)) c.loop-table.invariant c.in_ok-add_skip.ensures.gathered

pub returns-in_err-add_skip : goal.returns-in_err-add_skip
returns-in_err-add_skip g c =
    let tables = c.args.tables.now in
    let i = c.loop-table.table-index in
    Gathers-stopped _ _ _ (flat_map (λ t. skip_text (string_bytes t)) (drop (i + 1) tables)) c.from_residual.ensures.0 (flat_map_split_at tables i c.table-item.result (omega arith) c.table-item.is (λ t. skip_text (string_bytes t))
    ∙ ap (λ l. flat_map (λ t. skip_text (string_bytes t)) (take i tables) ++ (skip_text l ++ flat_map (λ t. skip_text (string_bytes t)) (drop (i + 1) tables))) (sym c.as_str.ensures.value)) c.loop-table.invariant c.in_err-add_skip.ensures
