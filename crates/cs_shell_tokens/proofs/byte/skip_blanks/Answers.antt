-- `byte::skip_blanks`: the invariant of the loop at `byte`, and the clause `after`.
use Rattle.std.proofs.Common.{ap, sym, ◌∙◌, arith}
use Rattle.cs_shell_tokens.specs.Tokens.{is_blank}
use Rattle.cs_shell_tokens.specs.Words.{words_of, behind_word}
use Rattle.cs_shell_tokens.specs.Reading.{behind}
use Rattle.cs_shell_tokens.proofs.PartLemmas.{behind-pass, behind_left, begins_cons, begins_nothing}
use Rattle.cs_shell_tokens.proofs.WordLemmas.{words_of-blank, behind_word-blank}
use Rattle.cs_shell_tokens.proofs.byte.skip_blanks.Goals as goal

pub loop-byte-preserved : goal.loop-byte-preserved
loop-byte-preserved c = record {
  after = sym (behind-pass is_blank c.in-Some.byte.now c.in-Some.after.now (sym c.is_blank.ensures ∙ c.if-not-is_blank.false)) ∙ ap (behind is_blank) (sym c.in-Some.ensures.cases.0) ∙ c.loop-byte.invariant.after;
  words = sym (words_of-blank c.in-Some.byte.now c.in-Some.after.now (sym c.is_blank.ensures ∙ c.if-not-is_blank.false)) ∙ ap words_of (sym c.in-Some.ensures.cases.0) ∙ c.loop-byte.invariant.words;
  behind = sym (behind_word-blank c.in-Some.byte.now c.in-Some.after.now (sym c.is_blank.ensures ∙ c.if-not-is_blank.false)) ∙ ap behind_word (sym c.in-Some.ensures.cases.0) ∙ c.loop-byte.invariant.behind;
  shorter = omega (arith, c.in-Some.ensures.cases.1, c.loop-byte.invariant.shorter);
}

pub returns-then-not-is_blank-clause-after : goal.returns-then-not-is_blank-clause-after
returns-then-not-is_blank-clause-after c =
    behind_left is_blank c.args.line.now c.loop-byte.rest.now c.loop-byte.invariant.after
    (begins_cons is_blank c.in-Some.byte.now c.in-Some.after.now c.loop-byte.rest.now c.in-Some.ensures.cases.0 (sym c.is_blank.ensures ∙ c.if-not-is_blank.true))

pub returns-in_default-clause-after : goal.returns-in_default-clause-after
returns-in_default-clause-after c =
    behind_left is_blank c.args.line.now c.loop-byte.rest.now c.loop-byte.invariant.after (begins_nothing is_blank c.loop-byte.rest.now c.in_default.ensures.cases)
