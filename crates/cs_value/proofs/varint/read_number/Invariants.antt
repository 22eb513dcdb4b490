-- What is read of the rest, with the digits before it, is what is read of all. So many digits spell a number so small.
use Rattle.std.proofs.Common.{◌≡◌, ◌≢◌, ◌≤◌, ◌<◌, ◌^◌, get_or, drop}
use Rattle.cs_value.specs.Reading.{number_from}
use Rattle.cs_value.proofs.varint.read_number.Given as goal

abbrev pub invariant-loop-used : goal.invariant-loop-used
invariant-loop-used l = record {
  reads : number_from l.used l.number (drop l.used l.bytes) ≡ number_from 0 0 l.bytes;
  first : get_or l.bytes 0 0 ≢ 128;
  small : l.number < 128 ^ l.used;
  few : l.used ≤ 4;
}
