use Rattle.std.proofs.Common.{take}
use Rattle.std.specs.List.{flat_map}
use Rattle.cs_file_texts.specs.Gathering.{Gathered}
use Rattle.cs_file_texts.proofs.texts.list.add_each.Given as goal

abbrev pub invariant-loop-item : goal.invariant-loop-item
invariant-loop-item g l =
    Gathered g.W.Write.contents l.initial.gather l.gather l.initial.out l.out (flat_map g.T.Print.text (take l.item-index l.items))
