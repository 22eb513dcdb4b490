-- `entry_ref::EntryRef::fields_after`: the clauses `fields` and `width` of an update.
use Rattle.std.proofs.Common.{Some, length, ap, sym, ◌∙◌}
use Rattle.cs_wire_entries.specs.Entry.{after_image}
use Rattle.cs_wire_entries.specs.Items.{FlaggedEntry}
use Rattle.cs_wire_entries.proofs.ShownLemmas.{length-shown_record, with_key-shown}
use Rattle.cs_wire_entries.proofs.entry_ref.EntryRef.fields_after.Goals as goal

pub returns-in-Update-clause-fields : goal.returns-in-Update-clause-fields
returns-in-Update-clause-fields c =
    let i = c.self.inside in
    let is = c.self.invariant in
    let same = with_key-shown i.exchanged i.flags.now _ _ (sym is.first_is.width) (sym (is.second_is c.in-Update.is).width) in
    ap Some (c.new-in-Update.ensures ∙ sym same) ∙ rw c.in-Update.is at (ap (λ (seen : FlaggedEntry). after_image seen.flags seen.entry.change) c.self.view_is)

pub returns-in-Update-clause-width : goal.returns-in-Update-clause-width
returns-in-Update-clause-width c =
    let i = c.self.inside in
    ap length c.new-in-Update.ensures ∙ length-shown_record _ i.flags.now _ _ c.self.invariant.first_is.width (λ exchanged. (c.self.invariant.second_is c.in-Update.is).width)
    ∙ ap (λ (seen : FlaggedEntry). length seen.flags) c.self.view_is
