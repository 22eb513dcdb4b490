-- `token::next_token`: what it ensures.
use Rattle.cs_shell_tokens.proofs.TokenSteps.{finds_all}
use Rattle.cs_shell_tokens.proofs.token.next_token.Goals as goal

pub returns : goal.returns
returns c = record { found = finds_all c.args.line.now c.find_token.result c.find_token.ensures }
