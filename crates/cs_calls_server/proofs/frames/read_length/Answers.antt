-- `frames::read_length`: the clause `stopped`.
use Rattle.std.proofs.Common.{arith, [], ◌∷◌}
use Rattle.std.proofs.lemmas.Result.{err_from_is_err_and}
use Rattle.cs_calls_server.proofs.FrameLemmas.{Stops-failed, Stops-two, Stops-three}
use Rattle.cs_calls_server.proofs.frames.read_length.Goals as goal

pub returns-in_err-first-clause-stopped : goal.returns-in_err-first-clause-stopped
returns-in_err-first-clause-stopped g c =
    let p = err_from_is_err_and c.from_residual.result c.from_residual.ensures.1 in
    let failed = c.in_err-first.ensures.failed in
    rw (p.1, p.2) ([], omega arith, Stops-failed _ _ _ _ failed.0 failed.1 failed.2)

pub returns-in_err-third-clause-stopped : goal.returns-in_err-third-clause-stopped
returns-in_err-third-clause-stopped g c =
    let p = err_from_is_err_and c.from_residual-in_err-third.result c.from_residual-in_err-third.ensures.1 in
    let one = rw c.in-Some.is at c.in_ok-first.ensures.byte in
    let stopped = c.in_err-third.ensures.stopped in
    rw (p.1, p.2) (c.in-Some.first ∷ c.in_ok-second.second ∷ [], omega arith, Stops-two g.R.Read.remaining _ c.args.input.now c.next_byte.new.input c.owed_byte.new.input c.owed_byte-2.new.input c.in-Some.first c.in_ok-second.second one c.in_ok-second.ensures.byte stopped.0 stopped.1)

pub returns-in_err-fourth-clause-stopped : goal.returns-in_err-fourth-clause-stopped
returns-in_err-fourth-clause-stopped g c =
    let p = err_from_is_err_and c.from_residual-in_err-fourth.result c.from_residual-in_err-fourth.ensures.1 in
    let one = rw c.in-Some.is at c.in_ok-first.ensures.byte in
    let stopped = c.in_err-fourth.ensures.stopped in
    rw (p.1, p.2) (c.in-Some.first ∷ c.in_ok-second.second ∷ c.in_ok-third.third ∷ [], omega arith, Stops-three g.R.Read.remaining _ c.args.input.now c.next_byte.new.input c.owed_byte.new.input c.owed_byte-2.new.input c.owed_byte-3.new.input c.in-Some.first c.in_ok-second.second c.in_ok-third.third one c.in_ok-second.ensures.byte c.in_ok-third.ensures.byte stopped.0 stopped.1)
