-- The entries so far that are not marked are there, and the keys of the others are left.
use Rattle.std.proofs.Common.{◌≡◌, ◌++◌, List, take, drop}
use Rattle.std.specs.Prelude.{filter}
use Rattle.cs_wire_entries.specs.declared.entry.Entry.{Entry}
use Rattle.cs_wire.specs.Entry.{key_of}
use Rattle.cs_wire.specs.Views.{group_keys}
use Rattle.cs_group.specs.Joining.{is_new}
use Rattle.cs_group.specs.Marks.{AreMet}
use Rattle.cs_group.proofs.entries.add_new_entries.Given as goal

abbrev pub invariant-loop-key : goal.invariant-loop-key
invariant-loop-key l =
    (l.key-iterator ≡ drop l.index (group_keys l.second.header.flags l.second.entries))
    × (l.joined.flags ≡ l.initial.joined.flags)
    × ((firsts : List Entry) → AreMet (λ e. key_of l.initial.joined.flags e.change) l.met firsts l.second.entries
    → l.joined.entries ≡ l.initial.joined.entries ++ filter (is_new (λ e. key_of l.initial.joined.flags e.change) firsts) (take l.index l.second.entries))
