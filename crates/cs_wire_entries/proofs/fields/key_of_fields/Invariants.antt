use Rattle.cs_value.specs.Key.{image_key}
use Rattle.cs_wire_entries.proofs.ShownLemmas.{KeyLeft}
use Rattle.cs_wire_entries.proofs.fields.key_of_fields.Given as goal

abbrev pub invariant-loop-flag : goal.invariant-loop-flag
invariant-loop-flag l = KeyLeft l.flags l.flag-index l.key.items l.left (image_key l.flags l.fn.fields)
