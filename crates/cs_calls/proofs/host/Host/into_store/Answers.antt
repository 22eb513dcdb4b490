-- `host::Host::into_store`: the transaction is rolled back.
use Rattle.cs_calls.proofs.host.Host.into_store.Goals as goal

pub returns-in-Open-InTransaction : goal.returns-in-Open-InTransaction
returns-in-Open-InTransaction g c = rw (c.in-Open-InTransaction.is, c.in-Open-InTransaction.field-0-is) (record { undone = c.roll_back.ensures.undone; crash = c.roll_back.ensures.survives })
