-- `varint::varint_write`: the invariant of the loop at `high`, the clause `ok`.
use Rattle.std.proofs.Common.{◌+◌, ◌-◌, ◌%◌, ◌∙◌, arith}
use Rattle.std.proofs.lemmas.Grind.{common_steps}
use Rattle.std.proofs.lemmas.List.{length-set}
use Rattle.cs_value.specs.Varint.{varint}
use Rattle.cs_value.proofs.VarintLoops.{writes_digit, one_digit, all_written, last_digit}
use Rattle.cs_value.proofs.varint.varint_write.Goals as goal

pub loop-high-init : goal.loop-high-init
loop-high-init c = record { spelled = last_digit c.args.number; five = omega arith; few = omega arith; small = omega arith }

pub loop-high-preserved : goal.loop-high-preserved
loop-high-preserved c =
    let i = c.loop-high.invariant in
    let one = one_digit c.loop-high.at c.loop-high.high (omega arith) i.small in
    record {
      spelled = writes_digit c.loop-high.at c.loop-high.high c.loop-high.digits (varint c.args.number) i.spelled (omega arith) one.0 (omega arith);
      five = length-set c.loop-high.digits (c.loop-high.at - 1) (c.loop-high.high % 128 + 128) ∙ i.five;
      few = omega arith;
      small = one.1;
    }

pub returns-clause-ok : goal.returns-clause-ok
returns-clause-ok c =
    let rest = all_written c.loop-high.at c.loop-high.high c.loop-high.digits (varint c.args.number) c.loop-high.invariant.spelled (omega arith) in
    grind (arith, common_steps, rest)
