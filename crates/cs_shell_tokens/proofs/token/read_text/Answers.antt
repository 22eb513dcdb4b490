-- `token::read_text`: what it ensures.
use Rattle.std.proofs.Common.{ap, ◌∙◌, subst, sym, false, string_bytes, Vec, Global, ℕ, List, length, ◌≤◌, rules}
use Rattle.std.specs.Str.{IsUtf8}
use Rattle.std.proofs.lemmas.Bool.{false≢true}
use Rattle.std.proofs.lemmas.Str.{IsUtf8-string_bytes}
use Rattle.cs_value.specs.declared.TheConstants.{MAX_CONTENT_LEN}
use Rattle.cs_shell_tokens.specs.Reading.{unquoted, unquoted_of}
use Rattle.cs_shell_tokens.proofs.PartLemmas.{text_taken, text_refused}
use Rattle.cs_shell_tokens.proofs.token.read_text.Goals as goal

pub returns-in_default-from_utf8 : goal.returns-in_default-from_utf8
returns-in_default-from_utf8 c =
    text_refused (unquoted 39 false c.args.line.now) c.in-Some.text.items c.in-Some.rest.now (c.in_ok-text.ensures ∙ ap unquoted_of c.in-Some.is)
    (λ h. false≢true (c.in_default-from_utf8.ensures.succeeds h))

pub returns : goal.returns
returns c =
    let short : length (string_bytes c.in-Ok.text) ≤ MAX_CONTENT_LEN = search rules in
    text_taken (unquoted 39 false c.args.line.now) c.new.result c.in-Some.text.items c.in-Some.rest.now (c.in_ok-text.ensures ∙ ap unquoted_of c.in-Some.is)
    (c.new.ensures ∙ ap (λ (v : Vec ℕ Global). v.items) c.in-Ok.ensures.ok) (subst IsUtf8 (sym c.new.ensures) (IsUtf8-string_bytes c.in-Ok.text)) (subst (λ (t : List ℕ). length t ≤ MAX_CONTENT_LEN) (sym c.new.ensures) short)
