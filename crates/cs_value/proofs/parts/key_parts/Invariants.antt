-- The bytes are those of the parts so far in the key columns.
use Rattle.std.proofs.Common.{◌≡◌, take, length}
use Rattle.std.specs.List.{flat_map}
use Rattle.cs_value.specs.Key.{key_columns}
use Rattle.cs_value.proofs.parts.key_parts.Given as goal

abbrev pub invariant-loop-flag : goal.invariant-loop-flag
invariant-loop-flag g l = l.bytes.items ≡ flat_map g.T.Part.spelled (key_columns (take (length l.yielded) l.flags) (take (length l.yielded) l.parts))
