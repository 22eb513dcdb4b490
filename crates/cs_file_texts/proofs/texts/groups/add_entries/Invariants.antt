use Rattle.std.proofs.Common.{take}
use Rattle.std.specs.List.{flat_map}
use Rattle.cs_file_texts.specs.Forms.{entry_part}
use Rattle.cs_file_texts.specs.Gathering.{Gathered}
use Rattle.cs_file_texts.proofs.texts.groups.add_entries.Given as goal

abbrev pub invariant-loop-entry : goal.invariant-loop-entry
invariant-loop-entry g l =
    Gathered g.W.Write.contents l.initial.gather l.gather l.initial.out l.out (flat_map (entry_part l.form l.header.name.now) (take l.entry-index l.entries))
