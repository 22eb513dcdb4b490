-- What the columns so far leave open is said by the others.
use Rattle.std.proofs.Common.{◌≡◌, drop}
use Rattle.cs_apply_conflict_kinds.specs.Judging.{leads}
use Rattle.cs_apply_conflict_kinds.proofs.judging.leads.Given as goal

abbrev pub invariant-loop-column : goal.invariant-loop-column
invariant-loop-column l = leads (drop l.column l.flags) (drop l.column l.table) ≡ leads l.flags l.table
