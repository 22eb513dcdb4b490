use Rattle.std.proofs.Common.{◌≡◌, take}
use Rattle.cs_calls_conversions.specs.Columns.{columns_with}
use Rattle.cs_calls_conversions.proofs.columns.columns_of.Given as goal

-- the columns so far
abbrev pub invariant-loop-index : goal.invariant-loop-index
invariant-loop-index l = l.columns.items ≡ columns_with (take l.index l.schema.columns) l.schema.flags l.schema.refuses
