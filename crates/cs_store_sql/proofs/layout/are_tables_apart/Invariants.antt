use Rattle.std.proofs.Common.{All, take}
use Rattle.cs_store_sql.specs.Records.{IsApart}
use Rattle.cs_store_sql.proofs.layout.are_tables_apart.Given as goal

-- so far it is so
abbrev pub invariant-loop-table : goal.invariant-loop-table
invariant-loop-table l = All (IsApart l.tree) (take l.table-index l.tables)
