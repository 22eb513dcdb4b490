use Rattle.std.proofs.Common.{◌≡◌, ◌++◌, length, take}
use Rattle.cs_value.specs.Spelling.{record_bytes}
use Rattle.cs_wire_entries.proofs.fields.write_fields.Given as goal

abbrev pub invariant-fields : goal.invariant-fields
invariant-fields l =
    (l.out.items ++ record_bytes l.left ≡ l.fn.out.items ++ record_bytes l.fn.fields) × (take (length l.fn.out.items) l.out.items ≡ l.fn.out.items)
