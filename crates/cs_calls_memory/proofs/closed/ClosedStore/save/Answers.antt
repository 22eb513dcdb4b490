-- `closed::ClosedStore::save`: the database file has the tables, without the log.
use Rattle.std.proofs.Common.{sym, subst, ◌∙◌}
use Rattle.std.proofs.lemmas.Result.{IfOk-weaker}
use Rattle.cs_store_memory.specs.Memory.{HasTables}
use Rattle.cs_calls_memory.proofs.closed.ClosedStore.save.Goals as goal

pub returns-in-Err-clause-refused : goal.returns-in-Err-clause-refused
returns-in-Err-clause-refused c held holds = rw c.in-Err.is at c.without_log-files.ensures.refused held holds

pub returns-clause-made : goal.returns-clause-made
returns-clause-made c held holds =
    let alone = rw c.in_default.is at c.without_log-files.ensures.alone in
    let kept = rw alone at c.without_log-files.ensures.kept held holds in
    IfOk-weaker c.copied-bytes.result _ _ (λ bytes same. subst (HasTables held) (sym (same ∙ c.as_slice.ensures)) kept) c.copied-bytes.ensures.copied
