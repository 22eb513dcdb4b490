-- `texts::literal::add_digits`: the invariant of the loop at `rest`, what it ensures.
use Rattle.std.proofs.Common.{[], ◌++◌, refl}
use Rattle.hex.specs.Hex.{encode_with}
use Rattle.cs_file_texts.proofs.GatherLemmas.{Gathered-nil, Gathered-more, Gathers-stopped}
use Rattle.cs_file_texts.proofs.TextLemmas.{encode_lower-append, digits_at}
use Rattle.cs_file_texts.proofs.texts.literal.add_digits.Goals as goal

pub loop-rest-init : goal.loop-rest-init
unfolding encode_with
loop-rest-init g c = record { front = []; split = refl; gathered = Gathered-nil _ _ }

pub loop-rest-preserved : goal.loop-rest-preserved
loop-rest-preserved g c =
    let before = c.loop-rest.invariant in
    let parts = digits_at c.args.bytes.now before.front c.loop-rest.rest.now _ _ _ before.split c.split_at.ensures.front c.split_at.ensures.back in
    record {
      front = before.front ++ c.split_at.result.0.now;
      split = parts.0;
      gathered = Gathered-more _ (encode_lower-append before.front c.split_at.result.0.now) before.gathered c.in_ok-add_chunk.ensures.gathered;
    }

pub returns-in_err-add_chunk : goal.returns-in_err-add_chunk
returns-in_err-add_chunk g c =
    let before = c.loop-rest.invariant in
    let parts = digits_at c.args.bytes.now before.front c.loop-rest.rest.now _ _ _ before.split c.split_at.ensures.front c.split_at.ensures.back in
    Gathers-stopped _ _ _ _ c.from_residual.ensures.0 parts.1 before.gathered c.in_err-add_chunk.ensures
