-- `entry_ref::EntryRef::from_row`: the invariant, what it ensures.
use Rattle.cs_wire_entries.proofs.ShownLemmas.{IsShown-row, row_is_shown}
use Rattle.cs_wire_entries.proofs.entry_ref.EntryRef.from_row.Goals as goal

pub invariant_of-result : goal.invariant_of-result
invariant_of-result c = IsShown-row c.args.flags.now c.args.operation c.args.indirect c.args.values c.requires.operation c.requires.row.0 c.requires.row.1

pub returns : goal.returns
returns c = row_is_shown c.args.flags.now c.args.operation c.args.indirect c.args.values.now c.requires.operation
