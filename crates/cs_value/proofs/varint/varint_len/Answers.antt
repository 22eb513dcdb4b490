-- `varint::varint_len`: what it ensures.
use Rattle.std.proofs.Common.{arith}
use Rattle.cs_value.proofs.Digits.{length-varint_1, length-varint_2, length-varint_3, length-varint_4, length-varint_5}
use Rattle.cs_value.proofs.varint.varint_len.Goals as goal

pub returns-in-0-to-127 : goal.returns-in-0-to-127
returns-in-0-to-127 c = omega (arith, length-varint_1 c.args.number (omega arith))

pub returns-in-128-to-16383 : goal.returns-in-128-to-16383
returns-in-128-to-16383 c = omega (arith, length-varint_2 c.args.number (omega arith) (omega arith))

pub returns-in-16384-to-2097151 : goal.returns-in-16384-to-2097151
returns-in-16384-to-2097151 c = omega (arith, length-varint_3 c.args.number (omega arith) (omega arith))

pub returns-in-2097152-to-268435455 : goal.returns-in-2097152-to-268435455
returns-in-2097152-to-268435455 c = omega (arith, length-varint_4 c.args.number (omega arith) (omega arith))

pub returns-in_default : goal.returns-in_default
returns-in_default c = omega (arith, length-varint_5 c.args.number (omega arith) (omega arith))
