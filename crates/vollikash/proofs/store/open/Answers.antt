-- `store::open`: its clauses.
use Rattle.std.proofs.Common.{refl}
use Rattle.vollikash.proofs.store.open.Goals as goal

pub returns-then-not-is_null-clause-opened : goal.returns-then-not-is_null-clause-opened
returns-then-not-is_null-clause-opened c =
    record { store = record { host = c.in-Ok.host; answer = c.new.result }; is = refl; opened = c.in-Ok.ensures.opened; unanswered = c.new.ensures.items }

pub returns-clause-opened : goal.returns-clause-opened
returns-clause-opened c =
    record { store = record { host = c.in-Ok.host; answer = c.new.result }; is = rw (c.of.ensures, c.in-Ok-new.ensures.ok) refl; opened = c.in-Ok.ensures.opened; unanswered = c.new.ensures.items }

pub returns-clause-found : goal.returns-clause-found
returns-clause-found c held finds = rw (c.of.ensures, c.in-Ok-new.ensures.ok) (c.in-Ok.ensures.found held finds)
