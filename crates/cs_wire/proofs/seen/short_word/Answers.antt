-- `seen::short_word`: what it ensures.
use Rattle.cs_wire.specs.Seen.{word_of}
use Rattle.cs_wire.proofs.seen.short_word.Goals as goal

pub returns : goal.returns
unfolding word_of
returns c = rw (← c.byte_at.ensures, ← c.byte_at-2.ensures, ← c.byte_at-3.ensures, ← c.byte_at-4.ensures, ← c.byte_at-5.ensures, ← c.byte_at-6.ensures, ← c.byte_at-7.ensures, ← c.byte_at-8.ensures) c.from_be_bytes.ensures
