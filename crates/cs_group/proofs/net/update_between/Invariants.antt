-- The fields of the columns so far are there.
use Rattle.std.proofs.Common.{◌≡◌, map, take}
use Rattle.cs_value.specs.Value.{field_of}
use Rattle.cs_group.specs.Net.{old_record, new_record}
use Rattle.cs_group.proofs.net.update_between.Given as goal

abbrev pub invariant-loop-column : goal.invariant-loop-column
invariant-loop-column l = (l.old.items ≡ old_record (take l.column l.flags) (map field_of (take l.column l.before)) (map field_of (take l.column l.after)))
    × (l.new.items ≡ new_record (take l.column l.flags) (map field_of (take l.column l.before)) (map field_of (take l.column l.after)))
