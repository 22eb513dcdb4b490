-- `gather::Gather::add_all`: the invariant of the loop at `piece`, what it ensures.
use Rattle.std.proofs.Common.{arith}
use Rattle.cs_value.proofs.ListLemmas.{flat_map_take_more, flat_map_split}
use Rattle.cs_file_texts.proofs.GatherLemmas.{Gathered-more, Gathers-stopped}
use Rattle.cs_file_texts.proofs.gather.Gather.add_all.Goals as goal

pub loop-piece-preserved : goal.loop-piece-preserved
loop-piece-preserved g c =
    Gathered-more _ (flat_map_take_more c.args.pieces.now c.loop-piece.piece-index _ (omega arith) (λ piece. piece.now)) c.loop-piece.invariant c.in_ok-add.ensures.gathered

pub returns-in_err-add : goal.returns-in_err-add
returns-in_err-add g c =
    Gathers-stopped _ _ _ _ c.from_residual.ensures.0 (flat_map_split c.args.pieces.now c.loop-piece.piece-index _ (omega arith) (λ piece. piece.now)) c.loop-piece.invariant c.in_err-add.ensures
