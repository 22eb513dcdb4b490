-- `statements::delete`: what it ensures.
use Rattle.std.proofs.Common.{map}
use Rattle.std.specs.Prelude.{string_bytes}
use Rattle.std.proofs.lemmas.Result.{err_from_is_err_and}
use Rattle.sqlite.specs.Held.{state}
use Rattle.cs_shell_grammar.specs.Commands.{assignment_of}
use Rattle.cs_shell_executor.proofs.StatementLemmas.{delete_not_found, delete_works}
use Rattle.cs_shell_executor.proofs.statements.delete.Goals as goal

pub returns-in_err-key : goal.returns-in_err-key
returns-in_err-key g c =
    let p = err_from_is_err_and c.from_residual.result c.from_residual.ensures.1 in
    rw (p.1, p.2)
    (delete_not_found (string_bytes c.args.table) (map assignment_of c.args.conditions.now) (state g.S.Store c.args.store.now) (state g.S.Store c.find_row.new.store) c.args.session.now c.in_err-key.field-0.0
    (rw c.as_str.ensures.value at c.in_err-key.ensures))

pub returns : goal.returns
returns g c =
    delete_works (string_bytes c.args.table) (map assignment_of c.args.conditions.now) (state g.S.Store c.args.store.now) (state g.S.Store c.find_row.new.store) (state g.S.Store c.edit_row.new.store) c.args.session.now c.edit_row.new.session c.in_ok-key.field-0 _
    (rw c.as_str.ensures.value at c.in_ok-key.ensures) c.edit_row.ensures
