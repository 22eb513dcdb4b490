-- `frames::read_call`: the invariant of the loop.
use Rattle.std.proofs.Common.{arith}
use Rattle.cs_calls_server.proofs.FrameLemmas.{more_read}
use Rattle.cs_calls_server.proofs.frames.read_call.Goals as goal

pub loop-read-preserved : goal.loop-read-preserved
loop-read-preserved g c =
    more_read g.R.Read.remaining c.args.input.now c.loop-read.input c.next_piece.new.input c.loop-read.body c.add.new.self c.in_ok-piece.piece.now c.loop-read.read c.args.count c.loop-read.invariant
    c.in_ok-piece.ensures.piece (omega (arith, c.in_ok-piece.ensures.short, c.min-most.ensures)) c.add.ensures.added
