-- `words::text`: the word is UTF-8, or not.
use Rattle.std.proofs.Common.{Some, ap, sym, ◌∙◌}
use Rattle.std.proofs.lemmas.Str.{is_utf8-from_IsUtf8, IsUtf8-from_is_utf8}
use Rattle.std.proofs.lemmas.Bool.{false_from_ne_true}
use Rattle.cs_shell_tokens.specs.Words.{words_of, text_in}
use Rattle.cs_shell_tokens.proofs.words.text.Goals as goal

pub returns-in_ok-from_str-in-Ok : goal.returns-in_ok-from_str-in-Ok
unfolding text_in
returns-in_ok-from_str-in-Ok c =
    rw (c.in-Some.ensures.words, is_utf8-from_IsUtf8 c.in-Some.word.now c.in-Ok.ensures.cases.1)
    (ap (λ w. Some (w, words_of c.in-Some.rest.now)) (sym (c.in_ok-from_str-in-Ok.ensures.ok ∙ c.in-Ok.ensures.cases.0)))

pub returns-in-Err : goal.returns-in-Err
unfolding text_in
returns-in-Err c =
    rw (c.in-Some.ensures.words, false_from_ne_true _ (λ h. c.in-Err.ensures.cases.0 (IsUtf8-from_is_utf8 c.in-Some.word.now h)))
