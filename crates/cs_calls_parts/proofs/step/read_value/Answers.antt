-- `step::read_value`: what it ensures.
use Rattle.std.proofs.Common.{◌≡◌, ◌∙◌, Ok, ap, arith, refl}
use Rattle.cs_value.specs.declared.value.OwnedField.TheVariants.{Undefined, Defined}
use Rattle.cs_value.specs.Value.{value_of as value_shown}
use Rattle.cs_value.specs.Reading.{field_at}
use Rattle.cs_value.proofs.ByteLists.{AreBytes-from_each}
use Rattle.cs_calls_parts.proofs.Exact.{seen, field_exact, value_of-ok, value_of-undefined, value_of-err}
use Rattle.cs_calls_parts.proofs.step.read_value.Goals as goal

pub returns-in_ok-to_owned-in-Ok-Defined-default : goal.returns-in_ok-to_owned-in-Ok-Defined-default
returns-in_ok-to_owned-in-Ok-Defined-default c =
    let fits = AreBytes-from_each c.args.bytes.now (λ i. omega (arith, c.type_inv.bytes i)) in
    let exact = field_exact c.args.bytes.now c.field_read.result fits c.field_read.ensures.found c.field_read.ensures.only c.field_read.ensures.fault in
    let case = c.in-Ok-Defined-default in
    let read : field_at c.args.bytes.now ≡ Ok (Defined (value_shown case.value), case.used) = exact ∙ ap seen case.is ∙ rw case.field-0-0-is refl in
    rw (c.in_ok-to_owned-in-Ok-Defined-default.ensures, c.split_at.ensures.back) (value_of-ok c.args.bytes.now (value_shown case.value) case.used read)

pub returns-in-Ok-Undefined-default : goal.returns-in-Ok-Undefined-default
returns-in-Ok-Undefined-default c =
    let fits = AreBytes-from_each c.args.bytes.now (λ i. omega (arith, c.type_inv.bytes i)) in
    let exact = field_exact c.args.bytes.now c.field_read.result fits c.field_read.ensures.found c.field_read.ensures.only c.field_read.ensures.fault in
    let case = c.in-Ok-Undefined-default in
    let read : field_at c.args.bytes.now ≡ Ok (Undefined, case.field-0-1) = exact ∙ ap seen case.is ∙ rw case.field-0-0-is refl in
    rw c.refuse.ensures (value_of-undefined c.args.bytes.now case.field-0-1 read)

pub returns-in-Err : goal.returns-in-Err
returns-in-Err c =
    let fits = AreBytes-from_each c.args.bytes.now (λ i. omega (arith, c.type_inv.bytes i)) in
    let exact = field_exact c.args.bytes.now c.field_read.result fits c.field_read.ensures.found c.field_read.ensures.only c.field_read.ensures.fault in
    rw c.field_fault.ensures (value_of-err c.args.bytes.now c.in-Err.fault (exact ∙ ap seen c.in-Err.is))
