-- The entries so far are written.
use Rattle.std.proofs.Common.{◌≡◌, ◌++◌, List, take}
use Rattle.cs_wire.specs.Changeset.{entries_bytes}
use Rattle.cs_changegroup.specs.Slots.{AreSlots, KeptEntry, live_entries}
use Rattle.cs_changegroup.proofs.table.Table.write_entries.Given as goal

abbrev pub invariant-loop-slot : goal.invariant-loop-slot
invariant-loop-slot l = (kept : List KeptEntry) → AreSlots l.files l.self kept
    → l.out.items ≡ l.initial.out.items ++ entries_bytes (live_entries (take l.slot-index kept))
