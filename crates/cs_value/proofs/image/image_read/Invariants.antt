-- The fields so far are those that the bytes begin with.
use Rattle.cs_value.proofs.ImageReading.{FieldsSoFar}
use Rattle.cs_value.proofs.image.image_read.Given as goal

abbrev pub invariant-columns : goal.invariant-columns
invariant-columns l = FieldsSoFar l.bytes l.counter l.fields.items l.end
