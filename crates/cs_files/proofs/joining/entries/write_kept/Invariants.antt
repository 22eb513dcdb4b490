-- Of the entries that are left some have become what they become.
use Rattle.std.proofs.Common.{◌≡◌, ◌-◌, List, length}
use Rattle.cs_wire_entries.specs.declared.entry.Entry.{Entry}
use Rattle.cs_wire.specs.Entry.{entry_bytes, key_of}
use Rattle.cs_wire.specs.Changeset.{GroupData}
use Rattle.cs_file_scan.specs.KeyedFile.{AreKeyed, count_of}
use Rattle.cs_file_scan.specs.Tables.{EntriesLeft}
use Rattle.cs_group.specs.Joining.{joined_entry, outcome}
use Rattle.cs_group.specs.Marks.{AreApart, AreMet}
use Rattle.cs_files.specs.Writing.{some_bytes}
use Rattle.cs_files.proofs.PassLemmas.{WritesEntries}
use Rattle.cs_files.proofs.joining.entries.write_kept.Given as goal

abbrev pub invariant-entries : goal.invariant-entries
invariant-entries l =
    (l.left.flags ≡ l.fn.firsts.flags) × (length l.met.items ≡ count_of l.seconds)
    × ((entries others : List Entry) (groups behind : List GroupData) → EntriesLeft l.fn.firsts entries groups → AreKeyed l.seconds others behind → AreApart (record { flags = l.seconds.flags; entries = others })
    → (so : WritesEntries (λ e. some_bytes entry_bytes (outcome (λ f. key_of l.fn.firsts.flags f.change) (joined_entry l.fn.firsts.flags) others e)) l.fn.firsts.flags l.fn.out.items l.out.items l.left entries groups)
    × AreMet (λ e. key_of l.fn.firsts.flags e.change) l.met.items so.before others)

abbrev pub decreases-entries : goal.decreases-entries
decreases-entries l = length l.left.file - l.left.place
