-- The fields of the columns so far are laid over the others.
use Rattle.std.proofs.Common.{◌≡◌, map, take}
use Rattle.std.specs.List.{AllByRecursion}
use Rattle.cs_value.specs.Value.{field_of, FieldFits}
use Rattle.cs_group.specs.Joining.{laid_over}
use Rattle.cs_group.proofs.image.lay_over.Given as goal

abbrev pub invariant-loop-column : goal.invariant-loop-column
invariant-loop-column l = (map field_of l.fields.items ≡ laid_over (map field_of (take l.column l.upper)) (map field_of (take l.column l.lower))) × AllByRecursion FieldFits l.fields.items
