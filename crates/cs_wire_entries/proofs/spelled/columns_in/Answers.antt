-- `spelled::columns_in`: what it ensures.
use Rattle.cs_wire_entries.proofs.RunLemmas.{columns_between}
use Rattle.cs_wire_entries.proofs.spelled.columns_in.Goals as goal

pub returns : goal.returns
returns c =
    rw c.saturating_sub.ensures (columns_between c.args.bytes.now c.skip_fields-behind.result.now c.skip_fields-rest.result.now c.args.first c.args.count c.skip_fields-behind.ensures c.skip_fields-rest.ensures)
