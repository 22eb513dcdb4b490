-- `merging::merge_refs`: the clause `fits`.
use Rattle.std.proofs.Common.{◌≡◌, rules}
use Rattle.cs_group.specs.Joining.{merged}
use Rattle.cs_group.proofs.KeyPlaceLemmas.{fits_same}
use Rattle.cs_group.proofs.MergeLemmas.{merged_fits}
use Rattle.cs_group.proofs.merging.merge_refs.Goals as goal

pub returns-clause-fits : goal.returns-clause-fits
returns-clause-fits c =
    let first = c.args.first.now in
    let second = c.args.second.now in
    let is : c.match-branch-2.result ≡ merged first.flags first.entry second.entry = search rules in
    let other = fits_same second.flags first.flags second.entry.change c.requires.agree c.indirect-other.ensures.well_formed in
    rw is (merged_fits first.flags first.entry second.entry c.indirect-one.ensures.well_formed other c.requires.one_key)
