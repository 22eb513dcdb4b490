-- `piece::read_integer`: what it ensures.
use Rattle.cs_shell_tokens.proofs.IntegerLemmas.{parsed, not_parsed}
use Rattle.cs_shell_tokens.proofs.piece.read_integer.Goals as goal

pub returns-in-Ok : goal.returns-in-Ok
returns-in-Ok c = let h = c.in-Ok.ensures.value in parsed c.args.text.now c.in-Ok.number h.0.0.0 h.0.0.1 h.0.1

pub returns-in-Err : goal.returns-in-Err
returns-in-Err c = not_parsed c.args.text.now c.in-Err.ensures.value.0
