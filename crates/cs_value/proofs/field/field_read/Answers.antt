-- `field::field_read`: the clauses `found` and `fault`, what it ensures.
use Rattle.std.proofs.Common.{arith}
use Rattle.cs_value.proofs.ByteLists.{AreBytes-from_each}
use Rattle.cs_value.proofs.FieldReading.{is_found, is_only, is_faulty}
use Rattle.cs_value.proofs.field.field_read.Goals as goal

pub returns-clause-found : goal.returns-clause-found
returns-clause-found c = is_found c.args.bytes.now c.read_by_type.result (AreBytes-from_each c.args.bytes.now (λ i. omega (arith, c.type_inv.bytes i))) c.read_by_type.ensures

pub returns-clause-only : goal.returns-clause-only
returns-clause-only c = λ f rest fits e. is_only c.args.bytes.now c.read_by_type.result f rest c.read_by_type.ensures fits e

pub returns-clause-fault : goal.returns-clause-fault
returns-clause-fault c = is_faulty c.args.bytes.now c.read_by_type.result (AreBytes-from_each c.args.bytes.now (λ i. omega (arith, c.type_inv.bytes i))) c.read_by_type.ensures
