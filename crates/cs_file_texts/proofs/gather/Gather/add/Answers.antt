-- `gather::Gather::add`: what it ensures.
use Rattle.std.proofs.Common.{refl}
use Rattle.cs_file_texts.proofs.GatherLemmas.{Gathered-nil, Gathers-stopped, Gathers-then, Gathers-written}
use Rattle.cs_file_texts.proofs.gather.Gather.add.Goals as goal

pub returns-in_err-make_room : goal.returns-in_err-make_room
returns-in_err-make_room g c =
    Gathers-stopped _ _ _ c.args.piece.now c.from_residual.ensures.0 refl (Gathered-nil _ _) c.in_err-make_room.ensures.gathered

pub returns-then-piece-gt-ROOM_LEN : goal.returns-then-piece-gt-ROOM_LEN
returns-then-piece-gt-ROOM_LEN g c =
    Gathers-then _ refl c.in_ok-make_room.ensures.gathered.gathered (Gathers-written (c.in_ok-make_room.ensures.emptied c.if-piece-gt-ROOM_LEN.true) c.write_whole.ensures.writes)
