-- `entry_ref::EntryRef::inverse`: the invariant, the clauses `inverse` and `well_formed`.
use Rattle.std.proofs.Common.{length, not, subst}
use Rattle.cs_wire_entries.specs.Inverse.{IsInverseEntry}
use Rattle.cs_wire_entries.specs.Items.{FlaggedEntry, entry_of, shown_entry}
use Rattle.cs_wire_entries.specs.Records.{fields_at}
use Rattle.cs_wire_entries.specs.Views.{inverse_operation}
use Rattle.cs_wire_entries.proofs.ShownLemmas.{IsShown-inverse, shown_inverse_entry}
use Rattle.cs_wire_entries.proofs.entry_ref.EntryRef.inverse.Goals as goal

pub invariant_of-result : goal.invariant_of-result
invariant_of-result c =
    let i = c.self.inside in
    rw c.inverse.ensures (IsShown-inverse i.flags.now i.operation i.exchanged i.indirect i.first i.second c.self.invariant)

pub returns-clause-inverse : goal.returns-clause-inverse
returns-clause-inverse c =
    let i = c.self.inside in
    let is = shown_inverse_entry i.flags.now i.operation i.exchanged i.indirect i.first i.second c.self.invariant in
    let undone = (shown_entry (not i.exchanged) (entry_of i.flags.now (inverse_operation i.operation) i.indirect (fields_at (length i.flags.now) i.first) (fields_at (length i.flags.now) i.second))).entry in
    rw c.inverse.ensures (subst (λ (seen : FlaggedEntry). IsInverseEntry seen.flags seen.entry undone) c.self.view_is is)

pub returns-clause-well_formed : goal.returns-clause-well_formed
returns-clause-well_formed c =
    let i = c.self.inside in
    rw c.inverse.ensures (IsShown-inverse i.flags.now i.operation i.exchanged i.indirect i.first i.second c.self.invariant).is_shown
