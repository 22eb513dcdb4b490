-- The values so far are fields.
use Rattle.std.proofs.Common.{◌≡◌, map, take}
use Rattle.std.specs.List.{AllByRecursion}
use Rattle.cs_value.specs.Value.{field_of, FieldFits}
use Rattle.cs_value.specs.declared.value.OwnedField.TheVariants.{Defined}
use Rattle.cs_group.proofs.image.row_fields.Given as goal

abbrev pub invariant-loop-value : goal.invariant-loop-value
invariant-loop-value l = (map field_of l.fields.items ≡ map Defined (take l.value-index l.value-items)) × AllByRecursion FieldFits l.fields.items
