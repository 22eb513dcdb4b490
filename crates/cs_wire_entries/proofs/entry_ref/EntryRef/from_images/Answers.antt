-- `entry_ref::EntryRef::from_images`: the invariant.
use Rattle.cs_wire_entries.proofs.ShownLemmas.{IsShown-images}
use Rattle.cs_wire_entries.proofs.entry_ref.EntryRef.from_images.Goals as goal

pub invariant_of-result : goal.invariant_of-result
invariant_of-result c = IsShown-images c.args.flags.now c.args.indirect c.args.old c.args.new c.requires
