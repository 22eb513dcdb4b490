-- `dot::read_settings`: a word that is no setting ends it.
use Rattle.std.proofs.Common.{sym, ◌∙◌}
use Rattle.cs_shell_grammar.proofs.DotLemmas.{no_setting}
use Rattle.cs_shell_grammar.proofs.dot.read_settings.Goals as goal

pub returns-in_default-with_setting : goal.returns-in_default-with_setting
returns-in_default-with_setting c = c.loop-word.invariant ∙ no_setting _ _ _ _ c.in-Some.ensures.words (sym c.in_default-with_setting.ensures)
