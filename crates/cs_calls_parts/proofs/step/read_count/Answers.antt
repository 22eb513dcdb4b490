-- `step::read_count`: the clause `exact`, what it ensures.
use Rattle.std.proofs.Common.{◌∙◌, arith}
use Rattle.cs_value.proofs.ByteLists.{AreBytes-from_each}
use Rattle.cs_calls_parts.proofs.Exact.{number_exact, number_of-ok, number_of-err}
use Rattle.cs_calls_parts.proofs.step.read_count.Goals as goal

pub returns-in-Ok-clause-exact : goal.returns-in-Ok-clause-exact
returns-in-Ok-clause-exact c =
    let fits = AreBytes-from_each c.args.bytes.now (λ i. omega (arith, c.type_inv.bytes i)) in
    let is = number_exact c.args.bytes.now c.varint_read.result fits c.varint_read.ensures.found c.varint_read.ensures.only c.varint_read.ensures.fault in
    rw c.split_at.ensures.back (number_of-ok c.args.bytes.now c.in-Ok.number c.in-Ok.used (is ∙ c.in-Ok.is))

pub returns-in-Err-clause-exact : goal.returns-in-Err-clause-exact
returns-in-Err-clause-exact c =
    let fits = AreBytes-from_each c.args.bytes.now (λ i. omega (arith, c.type_inv.bytes i)) in
    let is = number_exact c.args.bytes.now c.varint_read.result fits c.varint_read.ensures.found c.varint_read.ensures.only c.varint_read.ensures.fault in
    rw c.field_fault.ensures (number_of-err c.args.bytes.now c.in-Err.fault (is ∙ c.in-Err.is))
