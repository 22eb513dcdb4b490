-- The columns so far fit their flags.
use Rattle.std.proofs.Common.{ℕ, ◌<◌}
use Rattle.cs_value.proofs.KeyedRows.{IsKeyedColumn}
use Rattle.cs_value.proofs.row.Row.is_keyed.Given as goal

abbrev pub invariant-loop-column : goal.invariant-loop-column
invariant-loop-column l = (k : ℕ) → k < l.column → IsKeyedColumn l.flags l.self k
