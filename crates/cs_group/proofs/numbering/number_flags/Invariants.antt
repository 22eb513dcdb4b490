-- The flags so far are numbered, and the others come after the last number.
use Rattle.std.proofs.Common.{◌≡◌, ◌++◌, drop}
use Rattle.cs_group.specs.Numbering.{numbered_behind, numbered_flags}
use Rattle.cs_group.proofs.numbering.number_flags.Given as goal

abbrev pub invariant-loop-flag : goal.invariant-loop-flag
invariant-loop-flag l = l.numbers.items ++ numbered_behind l.last (drop l.flag-index l.flags) ≡ numbered_flags l.flags
