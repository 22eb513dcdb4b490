use Rattle.std.proofs.Common.{map, string_bytes}
use Rattle.cs_store_encoding.proofs.DeclarationLemmas.{ColumnsSoFar}
use Rattle.cs_store_encoding.proofs.declaration.read_columns.Given as goal

-- the columns so far are those that the bytes begin with
abbrev pub invariant-columns : goal.invariant-columns
invariant-columns l = ColumnsSoFar l.bytes l.counter l.codes.items (map string_bytes l.columns.items) l.rest
