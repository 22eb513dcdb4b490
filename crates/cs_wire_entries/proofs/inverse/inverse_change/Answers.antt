-- `inverse::inverse_change`: what `exchange` asks for.
use Rattle.cs_wire_entries.proofs.EntryLemmas.{length-IsKeyedUpdate}
use Rattle.cs_wire_entries.proofs.inverse.inverse_change.Goals as goal

pub exchange-old-requires-clause-old : goal.exchange-old-requires-clause-old
exchange-old-requires-clause-old c = (length-IsKeyedUpdate c.args.flags.now c.in-Update.old c.in-Update.new (rw c.in-Update.is at c.requires).2).0

pub exchange-old-requires-clause-new : goal.exchange-old-requires-clause-new
exchange-old-requires-clause-new c = (length-IsKeyedUpdate c.args.flags.now c.in-Update.old c.in-Update.new (rw c.in-Update.is at c.requires).2).1
