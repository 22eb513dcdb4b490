-- The fields of the columns so far are exchanged.
use Rattle.cs_wire_entries.proofs.InverseLemmas.{Exchanging}
use Rattle.cs_wire_entries.proofs.inverse.exchange_fields.Given as goal

abbrev pub invariant-loop-column : goal.invariant-loop-column
invariant-loop-column l = Exchanging l.flags l.initial.old l.initial.new l.column l.old l.new
