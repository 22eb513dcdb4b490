-- `entry_ref::EntryRef::old_fields`: the clause `width` of an update.
use Rattle.std.proofs.Common.{length, ap, ◌∙◌}
use Rattle.cs_wire_entries.specs.Items.{FlaggedEntry}
use Rattle.cs_wire_entries.proofs.ShownLemmas.{length-shown_record}
use Rattle.cs_wire_entries.proofs.entry_ref.EntryRef.old_fields.Goals as goal

pub returns-in-Update-clause-width : goal.returns-in-Update-clause-width
returns-in-Update-clause-width c =
    let i = c.self.inside in
    ap length c.new-in-Update.ensures ∙ length-shown_record i.exchanged i.flags.now _ _ c.self.invariant.first_is.width (λ exchanged. (c.self.invariant.second_is c.in-Update.is).width)
    ∙ ap (λ (seen : FlaggedEntry). length seen.flags) c.self.view_is
