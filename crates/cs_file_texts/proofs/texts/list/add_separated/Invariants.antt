use Rattle.std.proofs.Common.{◌≡◌, map, take}
use Rattle.cs_file_texts.specs.Texts.{separated}
use Rattle.cs_file_texts.specs.Gathering.{Gathered}
use Rattle.cs_file_texts.proofs.SeparatedLemmas.{lead_of}
use Rattle.cs_file_texts.proofs.texts.list.add_separated.Given as goal

abbrev pub invariant-loop-item : goal.invariant-loop-item
invariant-loop-item g l = record {
  gathered : Gathered g.W.Write.contents l.initial.gather l.gather l.initial.out l.out (separated l.between (map g.T.Print.text (take l.item-index l.items)));
  lead : l.lead ≡ lead_of l.between (map g.T.Print.text (take l.item-index l.items));
}
