use Rattle.std.proofs.Common.{◌≡◌, map, take}
use Rattle.sqlite_sql.specs.Syntax.{order_of}
use Rattle.cs_store_sql.specs.Statements.{by_column}
use Rattle.cs_store_sql.proofs.expected.are_rising.Given as goal

-- the keys so far are those columns
abbrev pub invariant-loop-at : goal.invariant-loop-at
invariant-loop-at l = order_of l.nodes (take l.at l.keys) ≡ map by_column (take l.at l.columns)
