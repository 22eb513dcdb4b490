-- `net::are_same`: what it ensures.
use Rattle.std.proofs.Common.{◌∙◌}
use Rattle.cs_group.proofs.ImageLemmas.{same_images}
use Rattle.cs_group.proofs.net.are_same.Goals as goal

pub returns : goal.returns
returns c = c.eq.ensures ∙ same_images c.args.before.now c.args.after.now
