use Rattle.std.proofs.Common.{◌≡◌, ◌++◌, map, length}
use Rattle.cs_value.specs.declared.value.OwnedField.TheVariants.{Defined}
use Rattle.cs_store_encoding.proofs.stored_row.defined_row.Given as goal

-- the values so far and the fields that are left are the image
abbrev pub invariant-loop-field : goal.invariant-loop-field
invariant-loop-field l = record {
  so_far : map Defined l.values.items ++ l.field-iterator.rest.items ≡ l.fn.image;
  left : l.field-iterator.rest.len ≡ length l.field-iterator.rest.items;
}
