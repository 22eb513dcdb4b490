-- `image::image_read`: the clause `fault`, what it ensures.
use Rattle.std.proofs.Common.{arith}
use Rattle.std.proofs.lemmas.Result.{err_from_is_err_and}
use Rattle.cs_value.proofs.ImageReading.{no_field, has_field, all_fields}
use Rattle.cs_value.proofs.RefusalLemmas.{Answers-err}
use Rattle.cs_value.proofs.image.image_read.Goals as goal

pub returns-in_err-field-clause-only : goal.returns-in_err-field-clause-only
returns-in_err-field-clause-only c =
    let p = err_from_is_err_and c.from_residual.result c.from_residual.ensures.1 in
    λ fields rest is len e.
    let next = has_field c.args.bytes.now c.args.columns c.columns.counter c.columns.fields.items c.columns.end c.columns.invariant c.columns-test.true fields rest is len e in
    rw (p.1, p.2) (Answers-err c.in_err-field.field-0.0 _ _ (c.in_err-field.ensures.only next.field next.rest next.is_field next.spelled))

pub returns-in_err-field-clause-fault : goal.returns-in_err-field-clause-fault
returns-in_err-field-clause-fault c =
    let p = err_from_is_err_and c.from_residual.result c.from_residual.ensures.1 in
    rw (p.1, p.2) (no_field c.args.bytes.now c.args.columns c.columns.counter c.columns.fields.items c.columns.end c.in_err-field.field-0.0 c.columns.invariant c.columns-test.true c.in_err-field.ensures.fault)

pub returns-clause-only : goal.returns-clause-only
returns-clause-only c = λ fields rest is len e.
    rw c.new.ensures (all_fields c.args.bytes.now c.args.columns c.columns.counter c.columns.fields.items c.columns.end c.columns.invariant (omega arith) fields rest is len e)
