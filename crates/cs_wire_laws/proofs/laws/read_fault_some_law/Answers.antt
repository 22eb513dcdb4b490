-- `laws::read_fault_some_law`: what it ensures.
use Rattle.cs_wire_laws.proofs.FileSome.{read_fault_some}
use Rattle.cs_wire_laws.proofs.laws.read_fault_some_law.Goals as goal

pub returns : goal.returns
returns c = read_fault_some
