-- `statements::find_row`: what it ensures.
use Rattle.std.proofs.Common.{map, inl, inr, refl, sym, ◌∙◌}
use Rattle.std.proofs.lemmas.Result.{err_from_is_err_and}
use Rattle.sqlite.specs.Held.{state}
use Rattle.cs_shell_grammar.specs.Commands.{assignment_of}
use Rattle.cs_shell_executor.specs.LineAnswers.{found, null_key}
use Rattle.cs_shell_executor.proofs.StatementLemmas.{finds_resource, finds_unset, finds_unnamed, finds_no_table}
use Rattle.cs_shell_executor.proofs.TurnLemmas.{reads}
use Rattle.cs_shell_executor.proofs.statements.find_row.Goals as goal

pub returns-in_err-schema : goal.returns-in_err-schema
returns-in_err-schema g c =
    let p = err_from_is_err_and c.from_residual.result c.from_residual.ensures.1 in
    rw (p.1, p.2)
    (reads _ (state g.S.Store c.args.store.now) (state g.S.Store c.schema.new.self) c.schema.ensures.kept
    (λ clean shut t. finds_resource t c.args.table.now (map assignment_of c.args.sets.now) (map assignment_of c.args.conditions.now) c.in_err-schema.field-0.0 (c.in_err-schema.ensures.refused clean))
    (λ clean. finds_resource _ c.args.table.now (map assignment_of c.args.sets.now) (map assignment_of c.args.conditions.now) c.in_err-schema.field-0.0 (c.in_err-schema.ensures.refused clean)))

pub returns-in_default : goal.returns-in_default
returns-in_default g c =
    reads _ (state g.S.Store c.args.store.now) (state g.S.Store c.schema.new.self) c.schema.ensures.kept
    (λ clean shut t. absurd (c.in_ok-schema.ensures.shut clean shut))
    (λ clean. finds_no_table _ c.args.table.now (map assignment_of c.args.sets.now) (map assignment_of c.args.conditions.now) (sym (c.in_ok-schema.ensures.found clean) ∙ c.in_default.is))

pub returns-in_err-check_assignments : goal.returns-in_err-check_assignments
returns-in_err-check_assignments g c =
    let p = err_from_is_err_and c.from_residual-in_err-check_assignments.result c.from_residual-in_err-check_assignments.ensures.1 in
    rw (p.1, p.2)
    (reads _ (state g.S.Store c.args.store.now) (state g.S.Store c.schema.new.self) c.schema.ensures.kept
    (λ clean shut t. absurd (c.in_ok-schema.ensures.shut clean shut))
    (λ clean. finds_unset _ c.args.table.now (map assignment_of c.args.sets.now) (map assignment_of c.args.conditions.now) c.in-Some.schema (sym (c.in_ok-schema.ensures.found clean) ∙ c.in-Some.is)
    c.in_err-check_assignments.field-0.0 c.in_err-check_assignments.ensures.refused))

pub returns-in_err-check_conditions : goal.returns-in_err-check_conditions
returns-in_err-check_conditions g c =
    let p = err_from_is_err_and c.from_residual-in_err-check_conditions.result c.from_residual-in_err-check_conditions.ensures.1 in
    rw (p.1, p.2)
    (reads _ (state g.S.Store c.args.store.now) (state g.S.Store c.schema.new.self) c.schema.ensures.kept
    (λ clean shut t. absurd (c.in_ok-schema.ensures.shut clean shut))
    (λ clean. finds_unnamed _ c.args.table.now (map assignment_of c.args.sets.now) (map assignment_of c.args.conditions.now) c.in-Some.schema (sym (c.in_ok-schema.ensures.found clean) ∙ c.in-Some.is)
    c.in_err-check_conditions.field-0.0 c.in_err-check_conditions.ensures.refused))

pub returns-in_err-key : goal.returns-in_err-key
returns-in_err-key g c =
    let p = err_from_is_err_and c.from_residual-in_err-key.result c.from_residual-in_err-key.ensures.1 in
    rw (p.1, p.2)
    (reads _ (state g.S.Store c.args.store.now) (state g.S.Store c.schema.new.self) c.schema.ensures.kept (λ clean shut t. inr (inl refl)) (λ clean. inr (inl refl)))

pub returns-in-Some-2 : goal.returns-in-Some-2
returns-in-Some-2 g c =
    reads _ (state g.S.Store c.args.store.now) (state g.S.Store c.schema.new.self) c.schema.ensures.kept
    (λ clean shut t. absurd (c.in_ok-schema.ensures.shut clean shut))
    (λ clean. found c.in-Some.schema c.in-Some-2.key (sym (c.in_ok-schema.ensures.found clean) ∙ c.in-Some.is) c.in_ok-check_assignments.ensures.known c.in_ok-check_conditions.ensures.named
    (sym c.in_ok-key.ensures ∙ c.in-Some-2.is))

pub returns-in-None : goal.returns-in-None
returns-in-None g c =
    reads _ (state g.S.Store c.args.store.now) (state g.S.Store c.schema.new.self) c.schema.ensures.kept
    (λ clean shut t. absurd (c.in_ok-schema.ensures.shut clean shut))
    (λ clean. inl (null_key c.in-Some.schema (sym (c.in_ok-schema.ensures.found clean) ∙ c.in-Some.is) c.in_ok-check_assignments.ensures.known c.in_ok-check_conditions.ensures.named
    (sym c.in_ok-key.ensures ∙ c.in-None.is)))
