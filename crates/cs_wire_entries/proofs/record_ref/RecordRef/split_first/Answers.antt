-- `record_ref::RecordRef::split_first`: the clause `split` of a record that is spelled.
use Rattle.std.proofs.Common.{refl}
use Rattle.cs_wire_entries.specs.Items.{fields_in}
use Rattle.cs_wire_entries.proofs.record_ref.RecordRef.split_first.Goals as goal

pub returns-in-Spelled-clause-split : goal.returns-in-Spelled-clause-split
unfolding fields_in
returns-in-Spelled-clause-split c = λ left has. rw (c.in-Spelled.is, c.front_field.ensures.field, c.front_field.ensures.rest) refl
