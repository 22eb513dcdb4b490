use Rattle.std.proofs.Common.{◌≡◌, ◌++◌, List, ℕ, length}
use Rattle.std.specs.Io.KnownBytes.{Appends}
use Rattle.cs_file_texts.specs.Told.{known}
use Rattle.cs_file_texts.proofs.told.write_whole.Given as goal

abbrev pub invariant-loop-rest : goal.invariant-loop-rest
invariant-loop-rest g l =
    (front : List ℕ) × (l.bytes ≡ front ++ l.rest) × Appends (known g.W.Write.contents l.initial.out) (known g.W.Write.contents l.out) front

abbrev pub decreases-loop-rest : goal.decreases-loop-rest
decreases-loop-rest g l = length l.rest
