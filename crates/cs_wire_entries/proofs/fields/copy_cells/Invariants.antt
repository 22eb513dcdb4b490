use Rattle.std.proofs.Common.{◌≡◌, ◌++◌, map}
use Rattle.cs_wire_entries.proofs.fields.copy_cells.Given as goal

abbrev pub invariant-fields : goal.invariant-fields
invariant-fields g l = l.cells.items ++ map g.C.Cell.cell_of l.left ≡ map g.C.Cell.cell_of l.fn.fields
