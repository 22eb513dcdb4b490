-- Of the entries so far those that are not marked are written.
use Rattle.std.proofs.Common.{◌≡◌, ◌++◌, List, ℕ, take}
use Rattle.std.specs.List.{flat_map}
use Rattle.cs_wire_entries.specs.declared.entry.Entry.{Entry}
use Rattle.cs_wire.specs.Changeset.{GroupData}
use Rattle.cs_wire.specs.Entry.{entry_bytes, key_of}
use Rattle.cs_file_scan.specs.KeyedFile.{AreKeyed}
use Rattle.cs_group.specs.Joining.{if_new}
use Rattle.cs_group.specs.Marks.{AreMet}
use Rattle.cs_files.specs.Writing.{some_bytes}
use Rattle.cs_files.proofs.joining.entries.write_new.Given as goal

abbrev pub invariant-loop-index : goal.invariant-loop-index
invariant-loop-index l = (flags : List ℕ) (firsts others : List Entry) (behind : List GroupData) → AreKeyed l.seconds others behind → AreMet (λ e. key_of flags e.change) l.met firsts others
    → l.out.items ≡ l.initial.out.items ++ flat_map (λ e. some_bytes entry_bytes (if_new (λ f. key_of flags f.change) firsts e)) (take l.index others)
