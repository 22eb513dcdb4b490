use Rattle.std.proofs.Common.{map, string_bytes}
use Rattle.cs_rows.proofs.SchemaLemmas.{NamesSoFar}
use Rattle.cs_rows.proofs.schema.are_apart.Given as goal

-- the names so far are apart, and the set has these
abbrev pub invariant-loop-column : goal.invariant-loop-column
invariant-loop-column l = NamesSoFar (map string_bytes l.columns) l.column-index l.names
