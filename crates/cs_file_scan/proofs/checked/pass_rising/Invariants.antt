-- The entries up to a place were visited.
use Rattle.std.proofs.Common.{◌-◌, length}
use Rattle.cs_file_scan.proofs.PassLemmas.{PassesSoFar}
use Rattle.cs_file_scan.proofs.checked.pass_rising.Given as goal

abbrev pub invariant-entries : goal.invariant-entries
invariant-entries g l = PassesSoFar (g.V.Visit.entry_text l.flags) (g.V.Visit.written l.initial.visitor) (g.V.Visit.written l.visitor) l.file l.at l.flags l.passed l.last

abbrev pub decreases-entries : goal.decreases-entries
decreases-entries g l = length l.file - l.passed.end
