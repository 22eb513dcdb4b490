use Rattle.std.proofs.Common.{ℕ, ◌<◌}
use Rattle.cs_rows.proofs.RuleLemmas.{ObeysAt}
use Rattle.cs_rows.proofs.schema.obeys.Given as goal

-- the columns so far have no NULL that they refuse
abbrev pub invariant-loop-column : goal.invariant-loop-column
invariant-loop-column l = (k : ℕ) → k < l.column → ObeysAt l.refuses l.row k
