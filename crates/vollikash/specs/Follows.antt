-- A `&mut` to what C's handle points to, and the handle once it ends.
use Rattle.std.specs.Prelude.{Some}
use base.Fml.{Fml}
use denote.Ref.{MutBor}
use denote.Follow.{follows}
use Rattle.vollikash.specs.declared.held.Held.{Held}
use Rattle.vollikash.specs.contracts.held.Held.{the_row as held}
use Rattle.vollikash.specs.declared.handle.Handle.{Handle}
use Rattle.vollikash.specs.contracts.handle.Handle.{the_row as handle}

abbrev pub with_held : Handle → Held → Handle
with_held h held = record { at = h.at; value = Some held }

-- once the borrow r ends, the handle of h holds the last value written through r
abbrev pub handle_follows : MutBor Handle → MutBor Held → Fml
handle_follows h r = follows handle held h.ghost_name r.ghost_name (with_held h.now)
