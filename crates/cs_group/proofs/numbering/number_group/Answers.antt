-- `numbering::number_group`: what `from_entries` asks for.
use Rattle.cs_group.proofs.NumberingLemmas.{IsGroup-numbered}
use Rattle.cs_group.proofs.numbering.number_group.Goals as goal

pub from_entries-requires : goal.from_entries-requires
from_entries-requires c =
    rw (c.in_ok-number_header.ensures, c.into_parts-header.ensures.header, c.into_parts-header.ensures.entries) (IsGroup-numbered c.args.group c.into_parts-header.ensures.well_formed)
