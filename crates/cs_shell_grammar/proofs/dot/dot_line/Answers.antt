-- `dot::dot_line`: the first word says which form it is.
use Rattle.std.proofs.Common.{sym, ◌∙◌}
use Rattle.cs_shell_grammar.proofs.DotLemmas.{dot_is, dot_of-load, dot_of-hex, dot_of-dump, dot_of-invert, dot_of-concat, dot_of-apply, dot_of-revert, dot_of-session, dot_of-none}
use Rattle.cs_shell_grammar.proofs.dot.dot_line.Goals as goal

pub returns-then-is_word : goal.returns-then-is_word
returns-then-is_word c = rw (dot_is _ _ _ _ c.in-Some.ensures.words c.in-Some.ensures.behind ∙ dot_of-load _ _ (sym c.is_word.ensures ∙ c.if-is_word.true)) c.load.ensures

pub returns-then-is_word-2 : goal.returns-then-is_word-2
returns-then-is_word-2 c = rw (dot_is _ _ _ _ c.in-Some.ensures.words c.in-Some.ensures.behind ∙ dot_of-hex _ _ (sym c.is_word.ensures ∙ c.if-is_word.false) (sym c.is_word-else-is_word.ensures ∙ c.if-is_word-2.true)) c.hex.ensures

pub returns-then-is_word-3 : goal.returns-then-is_word-3
returns-then-is_word-3 c = rw (dot_is _ _ _ _ c.in-Some.ensures.words c.in-Some.ensures.behind ∙ dot_of-dump _ _ (sym c.is_word.ensures ∙ c.if-is_word.false) (sym c.is_word-else-is_word.ensures ∙ c.if-is_word-2.false) (sym c.is_word-else-is_word-2.ensures ∙ c.if-is_word-3.true)) c.dump.ensures

pub returns-then-is_word-4 : goal.returns-then-is_word-4
returns-then-is_word-4 c = rw (dot_is _ _ _ _ c.in-Some.ensures.words c.in-Some.ensures.behind ∙ dot_of-invert _ _ (sym c.is_word.ensures ∙ c.if-is_word.false) (sym c.is_word-else-is_word.ensures ∙ c.if-is_word-2.false) (sym c.is_word-else-is_word-2.ensures ∙ c.if-is_word-3.false) (sym c.is_word-else-is_word-3.ensures ∙ c.if-is_word-4.true)) c.invert.ensures

pub returns-then-is_word-5 : goal.returns-then-is_word-5
returns-then-is_word-5 c = rw (dot_is _ _ _ _ c.in-Some.ensures.words c.in-Some.ensures.behind ∙ dot_of-concat _ _ (sym c.is_word.ensures ∙ c.if-is_word.false) (sym c.is_word-else-is_word.ensures ∙ c.if-is_word-2.false) (sym c.is_word-else-is_word-2.ensures ∙ c.if-is_word-3.false) (sym c.is_word-else-is_word-3.ensures ∙ c.if-is_word-4.false) (sym c.is_word-else-is_word-4.ensures ∙ c.if-is_word-5.true)) c.concat.ensures

pub returns-then-is_word-6 : goal.returns-then-is_word-6
returns-then-is_word-6 c = rw (dot_is _ _ _ _ c.in-Some.ensures.words c.in-Some.ensures.behind ∙ dot_of-apply _ _ (sym c.is_word.ensures ∙ c.if-is_word.false) (sym c.is_word-else-is_word.ensures ∙ c.if-is_word-2.false) (sym c.is_word-else-is_word-2.ensures ∙ c.if-is_word-3.false) (sym c.is_word-else-is_word-3.ensures ∙ c.if-is_word-4.false) (sym c.is_word-else-is_word-4.ensures ∙ c.if-is_word-5.false) (sym c.is_word-else-is_word-5.ensures ∙ c.if-is_word-6.true)) c.apply.ensures

pub returns-then-is_word-7 : goal.returns-then-is_word-7
returns-then-is_word-7 c = rw (dot_is _ _ _ _ c.in-Some.ensures.words c.in-Some.ensures.behind ∙ dot_of-revert _ _ (sym c.is_word.ensures ∙ c.if-is_word.false) (sym c.is_word-else-is_word.ensures ∙ c.if-is_word-2.false) (sym c.is_word-else-is_word-2.ensures ∙ c.if-is_word-3.false) (sym c.is_word-else-is_word-3.ensures ∙ c.if-is_word-4.false) (sym c.is_word-else-is_word-4.ensures ∙ c.if-is_word-5.false) (sym c.is_word-else-is_word-5.ensures ∙ c.if-is_word-6.false) (sym c.is_word-else-is_word-6.ensures ∙ c.if-is_word-7.true)) c.revert.ensures

pub returns-then-is_word-8 : goal.returns-then-is_word-8
returns-then-is_word-8 c = rw (dot_is _ _ _ _ c.in-Some.ensures.words c.in-Some.ensures.behind ∙ dot_of-session _ _ (sym c.is_word.ensures ∙ c.if-is_word.false) (sym c.is_word-else-is_word.ensures ∙ c.if-is_word-2.false) (sym c.is_word-else-is_word-2.ensures ∙ c.if-is_word-3.false) (sym c.is_word-else-is_word-3.ensures ∙ c.if-is_word-4.false) (sym c.is_word-else-is_word-4.ensures ∙ c.if-is_word-5.false) (sym c.is_word-else-is_word-5.ensures ∙ c.if-is_word-6.false) (sym c.is_word-else-is_word-6.ensures ∙ c.if-is_word-7.false) (sym c.is_word-else-is_word-7.ensures ∙ c.if-is_word-8.true)) c.session.ensures

pub returns-else-is_word-8 : goal.returns-else-is_word-8
returns-else-is_word-8 c = dot_is _ _ _ _ c.in-Some.ensures.words c.in-Some.ensures.behind ∙ dot_of-none _ _ (sym c.is_word.ensures ∙ c.if-is_word.false) (sym c.is_word-else-is_word.ensures ∙ c.if-is_word-2.false) (sym c.is_word-else-is_word-2.ensures ∙ c.if-is_word-3.false) (sym c.is_word-else-is_word-3.ensures ∙ c.if-is_word-4.false) (sym c.is_word-else-is_word-4.ensures ∙ c.if-is_word-5.false) (sym c.is_word-else-is_word-5.ensures ∙ c.if-is_word-6.false) (sym c.is_word-else-is_word-6.ensures ∙ c.if-is_word-7.false) (sym c.is_word-else-is_word-7.ensures ∙ c.if-is_word-8.false)
