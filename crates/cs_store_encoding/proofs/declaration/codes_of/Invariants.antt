use Rattle.std.proofs.Common.{◌≡◌, take}
use Rattle.cs_store_encoding.specs.Declaration.{column_codes}
use Rattle.cs_store_encoding.proofs.declaration.codes_of.Given as goal

-- the bytes so far are those of the first columns
abbrev pub invariant-loop-column : goal.invariant-loop-column
invariant-loop-column l = l.codes.items ≡ take l.column (column_codes l.schema.flags l.schema.refuses)
