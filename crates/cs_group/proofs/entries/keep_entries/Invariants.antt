-- What becomes of the entries so far is there, and those of the second that have the key of one are marked.
use Rattle.std.proofs.Common.{◌≡◌, ◌++◌, length, take}
use Rattle.std.specs.Prelude.{filter_map}
use Rattle.cs_wire.specs.Entry.{key_of}
use Rattle.cs_group.specs.Joining.{outcome, joined_entry}
use Rattle.cs_group.specs.Marks.{AreMet}
use Rattle.cs_group.proofs.entries.keep_entries.Given as goal

abbrev pub invariant-loop-entry : goal.invariant-loop-entry
invariant-loop-entry l =
    (l.joined.entries ≡ l.initial.joined.entries ++ filter_map (outcome (λ e. key_of l.first.header.flags e.change) (joined_entry l.first.header.flags) l.second.entries) (take l.entry-index l.entry-items))
    × AreMet (λ e. key_of l.first.header.flags e.change) l.met.items (take l.entry-index l.entry-items) l.second.entries
    × (length l.met.items ≡ length l.second.entries)
    × (l.joined.flags ≡ l.initial.joined.flags)
