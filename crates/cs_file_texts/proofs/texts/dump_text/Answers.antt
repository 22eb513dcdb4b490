-- `texts::dump_text`: what it ensures.
use Rattle.cs_file_texts.specs.Texts.{group_text}
use Rattle.cs_file_texts.proofs.texts.dump_text.Goals as goal

pub returns : goal.returns
unfolding group_text
returns g c = rw c.groups.ensures.same at c.write_groups.ensures
