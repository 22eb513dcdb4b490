use Rattle.std.proofs.Common.{take}
use Rattle.std.specs.List.{flat_map}
use Rattle.cs_file_texts.specs.Gathering.{Gathered}
use Rattle.cs_file_texts.proofs.gather.Gather.add_all.Given as goal

abbrev pub invariant-loop-piece : goal.invariant-loop-piece
invariant-loop-piece g l =
    Gathered g.W.Write.contents l.initial.self l.self l.initial.out l.out (flat_map (λ piece. piece.now) (take l.piece-index l.pieces))
