-- `named::NamedTables::new`: the invariant.
use Rattle.cs_wire.proofs.IndexLemmas.{IsIndex-none}
use Rattle.cs_file_scan.proofs.named.NamedTables.new.Goals as goal

pub invariant_of-result : goal.invariant_of-result
invariant_of-result c = rw (c.new.ensures.items, c.new-2.ensures) (IsIndex-none, tt)
