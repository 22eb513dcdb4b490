-- `watching::watch_table`: what it ensures.
use Rattle.std.proofs.Common.{◌≡◌, inr, true≢false, Some, sym, ap, subst, ◌∙◌}
use Rattle.sqlite.specs.Held.{state}
use Rattle.cs_value.specs.State.{State}
use Rattle.cs_store.specs.Laws.{keeps_then, was_clean}
use Rattle.cs_store.specs.Store.{tables_in}
use Rattle.cs_session_notes.specs.Attaching.{Attaches}
use Rattle.cs_history.specs.Stored.{history_schema}
use Rattle.cs_history.proofs.watching.watch_table.Goals as goal

pub returns-in_err-attach-clause-kept : goal.returns-in_err-attach-clause-kept
returns-in_err-attach-clause-kept g c = keeps_then c.in_ok-schema.ensures.kept c.attach.ensures.kept

pub returns-clause-kept : goal.returns-clause-kept
returns-clause-kept g c = keeps_then c.in_ok-schema.ensures.kept c.attach.ensures.kept

pub returns-clause-watched : goal.returns-clause-watched
returns-clause-watched g c clean =
    let old = state g.S.Store c.args.store.now in
    let read = state g.S.Store c.schema.new.self in
    let new = state g.S.Store c.attach.new.store in
    let was = was_clean read new c.attach.ensures.kept.crash clean in
    let same : tables_in read.now ≡ tables_in old.now = ap tables_in (c.in_ok-schema.ensures.same was) in
    inr (
      λ history.
          let is : Some c.in-Some.schema ≡ Some history_schema = sym c.in-Some.is ∙ c.in_ok-schema.ensures.found was ∙ history in
          let schema : c.in-Some.schema ≡ history_schema = cc in
          true≢false (sym (c.is_history.ensures.1 schema) ∙ c.if-is_history.false),
      subst (λ (s : State). Attaches s c.args.name.now c.args.session.now c.attach.new.self) same (c.in_ok-attach.ensures.attached clean),
    )
