-- `seen::word_of`: what it ensures of a long text.
use Rattle.cs_wire.specs.Seen.{word_of}
use Rattle.cs_wire.proofs.seen.word_of.Goals as goal

pub returns-in-len9-up : goal.returns-in-len9-up
unfolding word_of
returns-in-len9-up c = c.from_be_bytes.ensures
