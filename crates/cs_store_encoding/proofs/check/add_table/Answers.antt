-- `check::add_table`: the clause `added`.
use Rattle.cs_store_encoding.proofs.CheckLemmas.{declared_other, declared_table}
use Rattle.cs_store_encoding.proofs.check.add_table.Goals as goal

pub returns-in-Ok-None-clause-added : goal.returns-in-Ok-None-clause-added
returns-in-Ok-None-clause-added c = λ before so. declared_other _ before c.args.stored.now c.args.schemas.now so (rw c.in-Ok-None.field-0-is at c.in-Ok-None.ensures.read)

pub returns-in_ok-insert-in-Ok-Some-clause-added : goal.returns-in_ok-insert-in-Ok-Some-clause-added
returns-in_ok-insert-in-Ok-Some-clause-added c = λ before so.
    let here = rw c.in-Ok-Some.field-0-is at c.in-Ok-Some.ensures.read in
    rw c.in_ok-insert-in-Ok-Some.ensures (declared_table _ before c.args.stored.now c.args.schemas.now c.in-Ok-Some.name.items c.in-Ok-Some.schema so here)
