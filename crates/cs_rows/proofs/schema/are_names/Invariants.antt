use Rattle.std.proofs.Common.{map, take, string_bytes}
use Rattle.std.specs.List.{AllByRecursion}
use Rattle.cs_value.specs.State.{IsColumnName}
use Rattle.cs_rows.proofs.schema.are_names.Given as goal

-- the names so far are names of columns
abbrev pub invariant-loop-column : goal.invariant-loop-column
invariant-loop-column l = AllByRecursion IsColumnName (map string_bytes (take l.column-index l.columns))
