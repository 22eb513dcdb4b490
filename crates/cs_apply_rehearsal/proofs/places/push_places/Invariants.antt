-- the entries so far are appended
use Rattle.std.proofs.Common.{◌≡◌, ◌++◌, map, take}
use Rattle.cs_apply_conflict_kinds.specs.Applying.{placed_by}
use Rattle.cs_apply_rehearsal.specs.Places.{place_of}
use Rattle.cs_apply_rehearsal.proofs.places.push_places.Given as goal

abbrev pub invariant-loop-entry : goal.invariant-loop-entry
invariant-loop-entry l = map place_of l.places.items ≡ map place_of l.initial.places.items ++ map (placed_by l.fn.group.header) (take l.entry-index l.entry-items)
