-- the entry is not before the index
use Rattle.std.proofs.Common.{List, ◌∷◌, drop, map}
use Rattle.cs_apply_conflict_kinds.specs.Applying.{ConflictData}
use Rattle.cs_apply_engine.specs.Report.{conflict_of}
use Rattle.cs_apply_rehearsal.specs.Along.{AreAlong}
use Rattle.cs_apply_rehearsal.specs.Places.{place_of}
use Rattle.cs_apply_rehearsal.proofs.numbering.index_from.Given as goal

abbrev pub invariant-loop-index : goal.invariant-loop-index
invariant-loop-index l = (others : List ConflictData)
    → AreAlong (drop l.fn.start (map place_of l.places)) (conflict_of l.conflict ∷ others)
    → AreAlong (drop l.index (map place_of l.places)) (conflict_of l.conflict ∷ others)
