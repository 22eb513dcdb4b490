-- `opening::Store+FileStore+D::close_files`: the clauses `closed` and `refused`.
use Rattle.std.proofs.Common.{ap, ◌∙◌}
use Rattle.cs_store_tables.specs.Refusals.{refusal_of}
use Rattle.cs_store.proofs.opening.Store+FileStore+D.close_files.Goals as goal

pub returns-in-Ok-clause-closed : goal.returns-in-Ok-clause-closed
returns-in-Ok-clause-closed g c =
    let ok = rw c.into_connection.ensures at c.in-Ok.ensures.ok in
    (ok.0, ok.1, ok.2)

pub returns-in-Err-clause-refused : goal.returns-in-Err-clause-refused
returns-in-Err-clause-refused g c =
    let err = rw c.into_connection.ensures at c.in-Err.ensures.err in
    (err.0, λ clean. (c.in-Err.error, c.refused.ensures.is ∙ ap refusal_of c.from.ensures, err.1 clean))
