use Rattle.std.proofs.Common.{◌-◌, ◌≤◌, length, take}
use Rattle.cs_wire_entries.proofs.RunLemmas.{IsRun}
use Rattle.cs_wire_entries.proofs.spelled.run_len.Given as goal

abbrev pub invariant-flags : goal.invariant-flags
invariant-flags l = (l.len ≤ length l.flags) × IsRun l.of_key (take l.len l.flags)

abbrev pub decreases-flags : goal.decreases-flags
decreases-flags l = length l.flags - l.len
