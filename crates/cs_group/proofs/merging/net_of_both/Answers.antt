-- `merging::net_of_both`: what it ensures, where the flags of the second are others that mark the same key.
use Rattle.std.proofs.Common.{◌≡◌, rules}
use Rattle.cs_wire.specs.Entry.{after_image}
use Rattle.cs_group.proofs.KeyPlaceLemmas.{after_image_same}
use Rattle.cs_group.proofs.merging.net_of_both.Goals as goal

pub returns : goal.returns
returns c =
    let first = c.args.first.now in
    let second = c.args.second.now in
    let same : after_image second.flags second.entry.change ≡ after_image first.flags second.entry.change = after_image_same second.flags first.flags second.entry.change c.requires.agree in
    search (same, rules)
