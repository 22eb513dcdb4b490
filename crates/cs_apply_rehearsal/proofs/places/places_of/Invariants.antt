-- the entries of the groups so far are listed
use Rattle.std.proofs.Common.{◌≡◌, map, take}
use Rattle.cs_apply_conflict_kinds.specs.Applying.{placed}
use Rattle.cs_apply_rehearsal.specs.Places.{place_of}
use Rattle.cs_apply_rehearsal.proofs.places.places_of.Given as goal

abbrev pub invariant-loop-group : goal.invariant-loop-group
invariant-loop-group l = map place_of l.places.items ≡ placed (take l.group-index l.group-items)
