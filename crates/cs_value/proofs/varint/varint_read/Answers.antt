-- `varint::varint_read`: the clauses `found` and `fault`, what it ensures.
use Rattle.std.proofs.Common.{ap, ◌∙◌, arith}
use Rattle.cs_value.specs.Reading.{number_at}
use Rattle.cs_value.proofs.ByteLists.{AreBytes-from_each}
use Rattle.cs_value.proofs.VarintLemmas.{number_again, is_found, is_faulty}
use Rattle.cs_value.proofs.varint.varint_read.Goals as goal

pub returns-clause-found : goal.returns-clause-found
returns-clause-found c = is_found c.args.bytes.now c.read_number.result (AreBytes-from_each c.args.bytes.now (λ i. omega (arith, c.type_inv.bytes i))) c.read_number.ensures.exact

pub returns-clause-only : goal.returns-clause-only
returns-clause-only c = λ n rest le e. c.read_number.ensures.exact ∙ ap number_at e ∙ number_again n rest le

pub returns-clause-fault : goal.returns-clause-fault
returns-clause-fault c = is_faulty c.args.bytes.now c.read_number.result c.read_number.ensures.exact
