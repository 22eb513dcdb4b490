-- `dot::session`: the first word says which form it is.
use Rattle.std.proofs.Common.{sym, ◌∙◌}
use Rattle.cs_shell_grammar.proofs.DotLemmas.{session_is, session_of-attach, session_of-changeset, session_of-open, session_of-isempty, session_of-undo, session_of-close, session_of-none}
use Rattle.cs_shell_grammar.proofs.dot.session.Goals as goal

pub returns-then-is_word : goal.returns-then-is_word
returns-then-is_word c = rw (session_is _ _ _ _ c.in-Some.ensures.words c.in-Some.ensures.behind ∙ session_of-attach _ _ (sym c.is_word.ensures ∙ c.if-is_word.true)) c.attach.ensures

pub returns-then-is_word-2 : goal.returns-then-is_word-2
returns-then-is_word-2 c = rw (session_is _ _ _ _ c.in-Some.ensures.words c.in-Some.ensures.behind ∙ session_of-changeset _ _ (sym c.is_word.ensures ∙ c.if-is_word.false) (sym c.is_word-else-is_word.ensures ∙ c.if-is_word-2.true)) c.changeset.ensures

pub returns-then-is_word-3 : goal.returns-then-is_word-3
returns-then-is_word-3 c = rw (session_is _ _ _ _ c.in-Some.ensures.words c.in-Some.ensures.behind ∙ session_of-open _ _ (sym c.is_word.ensures ∙ c.if-is_word.false) (sym c.is_word-else-is_word.ensures ∙ c.if-is_word-2.false) (sym c.is_word-else-is_word-2.ensures ∙ c.if-is_word-3.true)) c.bare.ensures

pub returns-then-is_word-4 : goal.returns-then-is_word-4
returns-then-is_word-4 c = rw (session_is _ _ _ _ c.in-Some.ensures.words c.in-Some.ensures.behind ∙ session_of-isempty _ _ (sym c.is_word.ensures ∙ c.if-is_word.false) (sym c.is_word-else-is_word.ensures ∙ c.if-is_word-2.false) (sym c.is_word-else-is_word-2.ensures ∙ c.if-is_word-3.false) (sym c.is_word-else-is_word-3.ensures ∙ c.if-is_word-4.true)) c.bare-then-is_word-4.ensures

pub returns-then-is_word-5 : goal.returns-then-is_word-5
returns-then-is_word-5 c = rw (session_is _ _ _ _ c.in-Some.ensures.words c.in-Some.ensures.behind ∙ session_of-undo _ _ (sym c.is_word.ensures ∙ c.if-is_word.false) (sym c.is_word-else-is_word.ensures ∙ c.if-is_word-2.false) (sym c.is_word-else-is_word-2.ensures ∙ c.if-is_word-3.false) (sym c.is_word-else-is_word-3.ensures ∙ c.if-is_word-4.false) (sym c.is_word-else-is_word-4.ensures ∙ c.if-is_word-5.true)) c.bare-then-is_word-5.ensures

pub returns-then-is_word-6 : goal.returns-then-is_word-6
returns-then-is_word-6 c = rw (session_is _ _ _ _ c.in-Some.ensures.words c.in-Some.ensures.behind ∙ session_of-close _ _ (sym c.is_word.ensures ∙ c.if-is_word.false) (sym c.is_word-else-is_word.ensures ∙ c.if-is_word-2.false) (sym c.is_word-else-is_word-2.ensures ∙ c.if-is_word-3.false) (sym c.is_word-else-is_word-3.ensures ∙ c.if-is_word-4.false) (sym c.is_word-else-is_word-4.ensures ∙ c.if-is_word-5.false) (sym c.is_word-else-is_word-5.ensures ∙ c.if-is_word-6.true)) c.bare-then-is_word-6.ensures

pub returns-else-is_word-6 : goal.returns-else-is_word-6
returns-else-is_word-6 c = session_is _ _ _ _ c.in-Some.ensures.words c.in-Some.ensures.behind ∙ session_of-none _ _ (sym c.is_word.ensures ∙ c.if-is_word.false) (sym c.is_word-else-is_word.ensures ∙ c.if-is_word-2.false) (sym c.is_word-else-is_word-2.ensures ∙ c.if-is_word-3.false) (sym c.is_word-else-is_word-3.ensures ∙ c.if-is_word-4.false) (sym c.is_word-else-is_word-4.ensures ∙ c.if-is_word-5.false) (sym c.is_word-else-is_word-5.ensures ∙ c.if-is_word-6.false)
