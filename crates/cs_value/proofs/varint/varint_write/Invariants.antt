-- The digits that are still to be written, and those that are, are the varint.
use Rattle.std.proofs.Common.{◌≡◌, ◌≤◌, ◌<◌, ◌^◌, ◌++◌, length, drop}
use Rattle.cs_value.specs.Varint.{leading_digits, varint}
use Rattle.cs_value.proofs.varint.varint_write.Given as goal

abbrev pub invariant-loop-high : goal.invariant-loop-high
invariant-loop-high l = record {
  spelled : leading_digits l.at l.high ++ drop l.at l.digits ≡ varint l.number;
  five : length l.digits ≡ 5;
  few : l.at ≤ 4;
  small : l.high < 128 ^ l.at;
}

abbrev pub decreases-loop-high : goal.decreases-loop-high
decreases-loop-high l = l.high
