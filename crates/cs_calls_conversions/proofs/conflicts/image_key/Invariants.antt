use Rattle.std.proofs.Common.{◌≡◌, take}
use Rattle.cs_value.specs.Key.{key_columns}
use Rattle.cs_calls_conversions.specs.Conflicts.{values_of}
use Rattle.cs_calls_conversions.proofs.conflicts.image_key.Given as goal

-- those of the columns so far
abbrev pub invariant-loop-column : goal.invariant-loop-column
invariant-loop-column l = l.values.items ≡ values_of (key_columns l.flags (take l.column l.image))
