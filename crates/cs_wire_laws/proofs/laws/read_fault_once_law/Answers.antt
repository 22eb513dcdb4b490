-- `laws::read_fault_once_law`: what it ensures.
use Rattle.cs_wire_laws.proofs.Cases.{read_fault_once}
use Rattle.cs_wire_laws.proofs.laws.read_fault_once_law.Goals as goal

pub returns : goal.returns
returns c = read_fault_once
