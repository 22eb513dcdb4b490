-- `statement::form`: the first keyword says which form it is.
use Rattle.std.proofs.Common.{sym, ◌∙◌}
use Rattle.cs_shell_grammar.proofs.StatementLemmas.{form_is, form_of-create, form_of-insert, form_of-update, form_of-delete, form_of-select, form_of-none}
use Rattle.cs_shell_grammar.proofs.statement.form.Goals as goal

pub returns-then-is : goal.returns-then-is
returns-then-is c = rw (form_is _ _ _ c.in_ok-first.ensures ∙ form_of-create _ _ (sym c.is.ensures ∙ c.if-is.true)) c.create.ensures

pub returns-then-is-2 : goal.returns-then-is-2
returns-then-is-2 c = rw (form_is _ _ _ c.in_ok-first.ensures ∙ form_of-insert _ _ (sym c.is.ensures ∙ c.if-is.false) (sym c.is-else-is.ensures ∙ c.if-is-2.true)) c.insert.ensures

pub returns-then-is-3 : goal.returns-then-is-3
returns-then-is-3 c = rw (form_is _ _ _ c.in_ok-first.ensures ∙ form_of-update _ _ (sym c.is.ensures ∙ c.if-is.false) (sym c.is-else-is.ensures ∙ c.if-is-2.false) (sym c.is-else-is-2.ensures ∙ c.if-is-3.true)) c.update.ensures

pub returns-then-is-4 : goal.returns-then-is-4
returns-then-is-4 c = rw (form_is _ _ _ c.in_ok-first.ensures ∙ form_of-delete _ _ (sym c.is.ensures ∙ c.if-is.false) (sym c.is-else-is.ensures ∙ c.if-is-2.false) (sym c.is-else-is-2.ensures ∙ c.if-is-3.false) (sym c.is-else-is-3.ensures ∙ c.if-is-4.true)) c.delete.ensures

pub returns-then-is-5 : goal.returns-then-is-5
returns-then-is-5 c = rw (form_is _ _ _ c.in_ok-first.ensures ∙ form_of-select _ _ (sym c.is.ensures ∙ c.if-is.false) (sym c.is-else-is.ensures ∙ c.if-is-2.false) (sym c.is-else-is-2.ensures ∙ c.if-is-3.false) (sym c.is-else-is-3.ensures ∙ c.if-is-4.false) (sym c.is-else-is-4.ensures ∙ c.if-is-5.true)) c.select.ensures

pub returns-else-is-5 : goal.returns-else-is-5
returns-else-is-5 c = form_is _ _ _ c.in_ok-first.ensures ∙ form_of-none _ _ (sym c.is.ensures ∙ c.if-is.false) (sym c.is-else-is.ensures ∙ c.if-is-2.false) (sym c.is-else-is-2.ensures ∙ c.if-is-3.false) (sym c.is-else-is-3.ensures ∙ c.if-is-4.false) (sym c.is-else-is-4.ensures ∙ c.if-is-5.false)
