-- `token::read_name`: what it ensures.
use Rattle.std.proofs.Common.{ap, ◌∙◌, false, string_bytes, Vec, Global, ℕ}
use Rattle.std.proofs.lemmas.Bool.{false≢true}
use Rattle.std.proofs.lemmas.Str.{IsUtf8-string_bytes}
use Rattle.cs_shell_tokens.specs.Reading.{unquoted, unquoted_of}
use Rattle.cs_shell_tokens.proofs.PartLemmas.{name_taken, name_refused}
use Rattle.cs_shell_tokens.proofs.token.read_name.Goals as goal

pub returns-in-Ok : goal.returns-in-Ok
returns-in-Ok c =
    name_taken (unquoted 34 false c.args.line.now) (string_bytes c.in-Ok.name) c.in-Some.name.items c.in-Some.rest.now (c.in_ok-name.ensures ∙ ap unquoted_of c.in-Some.is)
    (ap (λ (v : Vec ℕ Global). v.items) c.in-Ok.ensures.ok) (IsUtf8-string_bytes c.in-Ok.name)

pub returns : goal.returns
returns c =
    name_refused (unquoted 34 false c.args.line.now) c.in-Some.name.items c.in-Some.rest.now (c.in_ok-name.ensures ∙ ap unquoted_of c.in-Some.is)
    (λ h. false≢true (c.in-Err.ensures.succeeds h))
