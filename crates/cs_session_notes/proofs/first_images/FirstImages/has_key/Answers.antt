-- `first_images::FirstImages::has_key`: what it ensures.
use Rattle.std.proofs.Common.{◌∙◌}
use Rattle.cs_session_notes.proofs.ImageLemmas.{is_there}
use Rattle.cs_session_notes.proofs.first_images.FirstImages.has_key.Goals as goal

pub returns : goal.returns
returns c = rw (← c.self.view_is) (c.contains_key.ensures ∙ is_there c.self.inside.kept c.self.inside.firsts.entries c.args.key.now)
