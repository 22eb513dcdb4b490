use Rattle.std.proofs.Common.{◌≡◌, ◌++◌, map, take, length, string_bytes}
use Rattle.cs_store_encoding.specs.Declaration.{columns_bytes}
use Rattle.cs_store_encoding.proofs.declaration.write_columns.Given as goal

-- the columns so far are written
abbrev pub invariant-loop-code : goal.invariant-loop-code
invariant-loop-code l = l.out.items ≡ l.initial.out.items ++ columns_bytes (take (length l.yielded) l.codes) (take (length l.yielded) (map string_bytes l.columns))
