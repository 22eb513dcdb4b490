-- `applying::tell_report`: what it ensures.
use Rattle.std.proofs.Common.{Err, ap, refl}
use Rattle.cs_shell_commands.proofs.applying.tell_report.Goals as goal

pub returns-in-Ok-Err : goal.returns-in-Ok-Err
returns-in-Ok-Err g c = (c.write_reply.result, c.write_reply.ensures, rw (c.in-Ok-Err.is-0, c.in-Ok-Err.is-1) (ap Err c.from.ensures))

pub returns-in-Ok-Ok : goal.returns-in-Ok-Ok
returns-in-Ok-Ok g c = (c.write_reply.result, c.write_reply.ensures, rw (c.in-Ok-Ok.is-0, c.in-Ok-Ok.is-1) refl)
