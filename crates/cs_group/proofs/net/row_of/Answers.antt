-- `net::row_of`: the invariant of the loop at `field`.
use Rattle.cs_group.proofs.ImageLemmas.{values_kept, values_grown}
use Rattle.cs_group.proofs.net.row_of.Goals.{in-Defined+in_ok-to_owned-in-Defined+in_ok-push-in-Defined, in-Undefined}
use Rattle.cs_group.proofs.net.row_of.Goals as goal

pub loop-field-preserved : goal.loop-field-preserved
loop-field-preserved c =
    let xs = c.args.fields.now in
    let i = c.loop-field.field-index in
    let values = c.loop-field.values.items in
    elim c.match-field.branch [
      | in-Undefined w ↦ rw w.values-is (values_kept xs i values c.loop-field-test.true c.loop-field.invariant w.in-Undefined.is)
      | in-Defined+in_ok-to_owned-in-Defined+in_ok-push-in-Defined w ↦ rw w.values-is (values_grown xs i values c.loop-field-test.true c.loop-field.invariant w.push.new.self.items w.in-Defined.value w.in_ok-to_owned-in-Defined.field-0 w.in-Defined.is w.in_ok-to_owned-in-Defined.ensures w.in_ok-push-in-Defined.ensures.items)
    ]
