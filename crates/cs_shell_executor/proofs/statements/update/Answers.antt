-- `statements::update`: what it ensures.
use Rattle.std.proofs.Common.{map, sym, ◌∙◌}
use Rattle.std.specs.Prelude.{string_bytes}
use Rattle.std.proofs.lemmas.Result.{err_from_is_err_and}
use Rattle.sqlite.specs.Held.{state}
use Rattle.cs_shell_grammar.specs.Commands.{assignment_of}
use Rattle.cs_shell_executor.proofs.StatementLemmas.{update_not_found, update_get_refused, update_no_row, update_no_memory, update_works}
use Rattle.cs_shell_executor.proofs.statements.update.Goals as goal

pub returns-in_err-schema : goal.returns-in_err-schema
returns-in_err-schema g c =
    let p = err_from_is_err_and c.from_residual.result c.from_residual.ensures.1 in
    rw (p.1, p.2)
    (update_not_found (string_bytes c.args.table) (map assignment_of c.args.sets.now) (map assignment_of c.args.conditions.now) (state g.S.Store c.args.store.now) (state g.S.Store c.find_row.new.store) c.args.session.now c.in_err-schema.field-0.0
    (rw c.as_str.ensures.value at c.in_err-schema.ensures))

pub returns-in_err-row : goal.returns-in_err-row
returns-in_err-row g c =
    let p = err_from_is_err_and c.from_residual-in_err-row.result c.from_residual-in_err-row.ensures.1 in
    rw (p.1, p.2)
    (update_get_refused (string_bytes c.args.table) (map assignment_of c.args.sets.now) (map assignment_of c.args.conditions.now) (state g.S.Store c.args.store.now) (state g.S.Store c.find_row.new.store) (state g.S.Store c.get.new.self) c.in_ok-schema.field-0
    (rw c.as_str.ensures.value at c.in_ok-schema.ensures) c.get.ensures.kept c.args.session.now c.in_err-row.field-0.0 (λ clean shut. c.in_err-row.ensures.shut clean shut) (λ clean. rw c.as_str-2.ensures.value at (c.in_err-row.ensures.refused clean)))

pub returns-in_default : goal.returns-in_default
returns-in_default g c =
    update_no_row (string_bytes c.args.table) (map assignment_of c.args.sets.now) (map assignment_of c.args.conditions.now) (state g.S.Store c.args.store.now) (state g.S.Store c.find_row.new.store) (state g.S.Store c.get.new.self) c.in_ok-schema.field-0
    (rw c.as_str.ensures.value at c.in_ok-schema.ensures) c.get.ensures.kept c.args.session.now (λ clean shut. c.in_ok-row.ensures.shut clean shut)
    (λ clean. sym c.in_default.is ∙ (rw c.as_str-2.ensures.value at (c.in_ok-row.ensures.found clean)))

pub returns-in_err-row-2 : goal.returns-in_err-row-2
returns-in_err-row-2 g c =
    let p = err_from_is_err_and c.from_residual-in_err-row-2.result c.from_residual-in_err-row-2.ensures.1 in
    rw (p.1, p.2)
    (update_no_memory (string_bytes c.args.table) (map assignment_of c.args.sets.now) (map assignment_of c.args.conditions.now) (state g.S.Store c.args.store.now) (state g.S.Store c.find_row.new.store) (state g.S.Store c.get.new.self) c.in_ok-schema.field-0
    (rw c.as_str.ensures.value at c.in_ok-schema.ensures) c.get.ensures.kept c.args.session.now)

pub returns : goal.returns
returns g c =
    update_works (string_bytes c.args.table) (map assignment_of c.args.sets.now) (map assignment_of c.args.conditions.now) (state g.S.Store c.args.store.now) (state g.S.Store c.find_row.new.store) (state g.S.Store c.get.new.self) c.in_ok-schema.field-0
    (rw c.as_str.ensures.value at c.in_ok-schema.ensures) c.get.ensures.kept
    (state g.S.Store c.edit_row.new.store) c.args.session.now c.edit_row.new.session c.in-Some.row _ _ (λ clean shut. c.in_ok-row.ensures.shut clean shut) (λ clean. sym c.in-Some.is ∙ (rw c.as_str-2.ensures.value at (c.in_ok-row.ensures.found clean))) c.in_ok-row-2.ensures
    c.edit_row.ensures
