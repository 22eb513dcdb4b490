-- What C's handle owns.
use Rattle.std.specs.Prelude.{Option, Some, None}
use base.Fml.{Fml, feq}
use base.Stored.{Coded}
use denote.RawPtr.{Ptr, null_ptr}
use mir.Syntax.{Ty}
use Rattle.std.specs.Coded.{coded_option}
use Rattle.std.specs.declared.alloc.Global.{Global}
use Rattle.std.specs.contracts.impls.GlobalAllocator.TheImpl.{ghosts}
use Rattle.std_alloc.specs.Box.Ownership.{box_owns}
use Rattle.vollikash.specs.declared.held.Held.{Held}
use Rattle.vollikash.specs.contracts.held.Held.{the_row}

-- the allocator, which has no bytes
abbrev pub heap : Global
heap = record { memory = record { seal = tt } }

-- the right to free what it allocated at a place
abbrev pub chunk : Ty → Ptr → Fml
chunk = ghosts.dealloc_token heap

-- by which values are told apart
abbrev pub held_code : Coded (Option Held)
held_code = coded_option the_row.coded

-- what is held at p, and the right to free it; or nothing, and p is null
abbrev pub held_at : Option Held → Ptr → Fml
held_at (Some held) p = box_owns chunk the_row p held
held_at None p = feq Ptr p null_ptr
