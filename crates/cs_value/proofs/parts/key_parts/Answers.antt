-- The pair of an iteration is the next flag with the next part, which is written where the flag is not 0.
use Rattle.std.proofs.Common.{length, ◌∙◌, arith}
use Rattle.std.proofs.lemmas.Slice.Zip.{zip_turn}
use Rattle.std.proofs.lemmas.List.{length_push}
use Rattle.cs_value.proofs.KeyColumns.{is_key_column, no_key_column}
use Rattle.cs_value.proofs.parts.key_parts.Goals as goal

pub loop-flag-preserved-then-flag-eq0 : goal.loop-flag-preserved-then-flag-eq0
loop-flag-preserved-then-flag-eq0 g c =
    let turn = zip_turn c.args.flags.now c.args.parts.now c.loop-flag.yielded _ _ c.next.new.self _ (cc) (cc) c.loop-flag.yielded_by _ c.in-Some.is c.next.ensures.steps in
    let part = c.in-Some.part.now in
    let same = no_key_column g.T.Part.spelled c.args.flags.now c.args.parts.now (length c.loop-flag.yielded) c.in-Some.flag.now part turn.0 turn.1 (turn.2 0) (turn.3 part) (omega arith) in
    rw (length_push c.loop-flag.yielded (c.in-Some.flag, c.in-Some.part)) (c.loop-flag.invariant ∙ same)

pub loop-flag-preserved : goal.loop-flag-preserved
loop-flag-preserved g c =
    let turn = zip_turn c.args.flags.now c.args.parts.now c.loop-flag.yielded _ _ c.next.new.self _ (cc) (cc) c.loop-flag.yielded_by _ c.in-Some.is c.next.ensures.steps in
    let part = c.in-Some.part.now in
    let more = is_key_column g.T.Part.spelled c.args.flags.now c.args.parts.now (length c.loop-flag.yielded) c.in-Some.flag.now part turn.0 turn.1 (turn.2 0) (turn.3 part) (omega arith) in
    rw (length_push c.loop-flag.yielded (c.in-Some.flag, c.in-Some.part), c.in_ok-write.ensures.ok, c.loop-flag.invariant) more
