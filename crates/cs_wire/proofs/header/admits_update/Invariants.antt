-- The columns so far fit their flags.
use Rattle.std.proofs.Common.{ℕ, ◌<◌}
use Rattle.cs_wire.proofs.AdmitLemmas.{IsUpdateColumn}
use Rattle.cs_wire.proofs.header.admits_update.Given as goal

abbrev pub invariant-loop-column : goal.invariant-loop-column
invariant-loop-column l = (k : ℕ) → k < l.column → IsUpdateColumn l.flags l.old l.new k
