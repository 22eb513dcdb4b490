use Rattle.cs_wire_entries.proofs.RunLemmas.{Skips}
use Rattle.cs_wire_entries.proofs.spelled.skip_fields.Given as goal

abbrev pub invariant-loop : goal.invariant-loop
invariant-loop l = Skips l.bytes l.count l.counter l.rest
