use Rattle.std.proofs.Common.{ℕ, ◌<◌}
use Rattle.cs_rows.proofs.RuleLemmas.{IsRule}
use Rattle.cs_rows.proofs.schema.are_rules.Given as goal

-- the marks so far are right
abbrev pub invariant-loop-column : goal.invariant-loop-column
invariant-loop-column l = (k : ℕ) → k < l.column → IsRule l.flags l.refuses k
