-- `line::is_nothing`: the first word is looked at.
use Rattle.cs_shell_grammar.proofs.line.is_nothing.Goals as goal

pub returns-in-Some : goal.returns-in-Some
returns-in-Some c = rw c.in-Some.ensures.words c.begins_comment.ensures
