-- The values so far are there.
use Rattle.std.proofs.Common.{◌≡◌, map, take}
use Rattle.cs_value.specs.Value.{field_of}
use Rattle.cs_group.specs.Net.{values_of}
use Rattle.cs_group.proofs.net.row_of.Given as goal

abbrev pub invariant-loop-field : goal.invariant-loop-field
invariant-loop-field l = l.values.items ≡ values_of (map field_of (take l.field-index l.fields))
