-- What the clause `kept` says, and the tables at other indices than those that are left have nothing pending.
use Rattle.std.proofs.Common.{◌≡◌, map, drop}
use Rattle.cs_session_notes.specs.Views.{attached_of, HaveNonePendingBut}
use Rattle.cs_session_notes.proofs.attached.keep_at.Given as goal

abbrev pub invariant-loop-index : goal.invariant-loop-index
invariant-loop-index l = (map attached_of l.tables ≡ map attached_of l.initial.tables) × HaveNonePendingBut (drop l.index-index l.indices) l.tables
