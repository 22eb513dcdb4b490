-- `entry_ref::EntryRef::from_bytes`: the invariant, what it ensures.
use Rattle.std.proofs.Common.{length, ap}
use Rattle.cs_wire_entries.specs.declared.entry.Change.{Change}
use Rattle.cs_wire_entries.specs.Items.{change_in}
use Rattle.cs_wire_entries.proofs.ShownLemmas.{IsShown-spelled, shown-as_is}
use Rattle.cs_wire_entries.proofs.entry_ref.EntryRef.from_bytes.Goals as goal

pub invariant_of-result : goal.invariant_of-result
invariant_of-result c = IsShown-spelled c.args.flags.now c.args.operation c.args.indirect c.args.first c.args.second c.requires

pub returns : goal.returns
returns c =
    ap (λ (change : Change). record { flags = c.args.flags.now; entry = record { indirect = c.args.indirect; change = change } })
    (shown-as_is c.args.flags.now (change_in (length c.args.flags.now) c.args.operation c.args.first.now c.args.second.now))
