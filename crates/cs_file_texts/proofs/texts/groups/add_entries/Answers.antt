-- `texts::groups::add_entries`: the invariant of the loop at `entry`, what it ensures.
use Rattle.std.proofs.Common.{sym, ap, arith}
use Rattle.cs_value.proofs.ListLemmas.{flat_map_take_more_at, flat_map_split_at}
use Rattle.cs_wire.specs.Items.{FlaggedEntry}
use Rattle.cs_file_texts.specs.Forms.{entry_part}
use Rattle.cs_file_texts.proofs.GatherLemmas.{Gathered-is, Gathered-more, Gathers-is, Gathers-stopped}
use Rattle.cs_file_texts.proofs.texts.groups.add_entries.Goals as goal

pub loop-entry-preserved : goal.loop-entry-preserved
loop-entry-preserved g c =
    let text = entry_part c.args.form c.args.header.name.now in
    let same = ap (λ (seen : FlaggedEntry). text seen.entry) c.from_entry-entry.ensures in
    Gathered-more _ (flat_map_take_more_at c.args.entries.now c.loop-entry.entry-index c.entry-item.result (omega arith) c.entry-item.is text)
    c.loop-entry.invariant (Gathered-is _ (sym same) c.in_ok-add_entry.ensures.gathered)

pub returns-in_err-add_entry : goal.returns-in_err-add_entry
returns-in_err-add_entry g c =
    let text = entry_part c.args.form c.args.header.name.now in
    let same = ap (λ (seen : FlaggedEntry). text seen.entry) c.from_entry-entry.ensures in
    Gathers-stopped _ _ _ _ c.from_residual.ensures.0 (flat_map_split_at c.args.entries.now c.loop-entry.entry-index c.entry-item.result (omega arith) c.entry-item.is text)
    c.loop-entry.invariant (Gathers-is _ (sym same) c.in_err-add_entry.ensures)
