-- `told::write_whole`: the invariant of the loop at `rest`.
use Rattle.std.proofs.Common.{◌++◌, take}
use Rattle.std.proofs.KnownBytes.{Appends-trans}
use Rattle.cs_file_texts.proofs.WriteLemmas.{front_more}
use Rattle.cs_file_texts.proofs.told.write_whole.Goals as goal

pub loop-rest-preserved : goal.loop-rest-preserved
loop-rest-preserved g c =
    let so_far = c.loop-rest.invariant in
    (so_far.0 ++ take c.in-Ok.count c.loop-rest.rest.now, front_more _ so_far.0 _ _ so_far.1, Appends-trans _ _ _ so_far.0 _ so_far.2 c.in-Ok.ensures.bytes)
