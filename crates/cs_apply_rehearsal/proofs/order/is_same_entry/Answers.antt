-- `order::is_same_entry`: entries are equal if neither is before the other.
use Rattle.std.proofs.Common.{◌∙◌, ap}
use Rattle.std.specs.Ordering.{is_eq}
use Rattle.cs_apply_rehearsal.proofs.SameLemmas.{entries_told}
use Rattle.cs_apply_rehearsal.proofs.order.is_same_entry.Goals as goal

pub returns : goal.returns
returns c = entries_told c.args.one.now c.args.other.now c.is_eq.result (c.is_eq.ensures ∙ ap is_eq c.compare_entries.ensures)
