-- `spell::write_parts`: the clause `err`, what it ensures.
use Rattle.std.proofs.Common.{take}
use Rattle.std.specs.List.{flat_map}
use Rattle.cs_calls_parts.proofs.PartLemmas.{front_kept, on_err}
use Rattle.cs_calls_parts.proofs.spell.write_parts.Goals as goal

pub returns-in_err-write-clause-err : goal.returns-in_err-write-clause-err
returns-in_err-write-clause-err g c =
    on_err c.from_residual.result _ (front_kept c.args.out.now.items (flat_map g.T.Part.part_bytes (take c.loop-part.part-index c.args.parts.now)) c.loop-part.out.items c.write.new.out.items c.loop-part.invariant c.in_err-write.ensures.err)
