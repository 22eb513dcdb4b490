-- The fields so far are listed.
use Rattle.std.proofs.Common.{◌≡◌, ◌++◌, map}
use Rattle.std.specs.List.{AllByRecursion}
use Rattle.cs_value.specs.Value.{field_of, FieldFits}
use Rattle.cs_group.proofs.image.list_fields.Given as goal

abbrev pub invariant-fields : goal.invariant-fields
invariant-fields l = (map field_of l.list.items ++ l.left ≡ l.fn.fields) × AllByRecursion FieldFits l.list.items
