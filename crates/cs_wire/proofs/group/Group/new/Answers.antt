-- `group::Group::new`: what `from_entries` asks for.
use Rattle.std.proofs.Common.{rules}
use Rattle.cs_wire_entries.specs.Changeset.{IsHeader}
use Rattle.cs_wire.proofs.GroupLemmas.{IsGroup-one}
use Rattle.cs_wire.proofs.group.Group.new.Goals as goal

pub from_entries-requires : goal.from_entries-requires
from_entries-requires c =
    let well_formed : IsHeader c.args.header = search rules in
    rw c.in_ok-vec.ensures.items (IsGroup-one c.args.header c.args.first well_formed c.requires)
