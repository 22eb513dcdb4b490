-- `inverse::invert_entries`: the invariant of the loop at `entry`.
use Rattle.std.proofs.Common.{set, sym, ap, ◌∙◌}
use Rattle.std.proofs.lemmas.List.Edits.{map_over_more}
use Rattle.cs_wire_entries.specs.Views.{inverse_entry}
use Rattle.cs_wire_entries.proofs.inverse.invert_entries.Goals as goal

pub loop-entry-preserved : goal.loop-entry-preserved
loop-entry-preserved c =
    ap (set c.loop-entry.entries c.loop-entry.entry-index) (c.invert_entry.ensures ∙ ap (inverse_entry c.args.flags.now) (sym c.entry-item.is))
    ∙ map_over_more (inverse_entry c.args.flags.now) c.args.entries.now c.loop-entry.entries c.loop-entry.entry-index c.entry-item.result
    c.loop-entry-test.true c.loop-entry.invariant c.entry-item.is
