use Rattle.std.proofs.Common.{◌∷◌, [], take}
use Rattle.std.specs.List.{flat_map}
use Rattle.cs_value.specs.Quoting.{doubled}
use Rattle.cs_file_texts.specs.Gathering.{Gathered}
use Rattle.cs_file_texts.proofs.texts.literal.add_doubled.Given as goal

abbrev pub invariant-loop-byte : goal.invariant-loop-byte
invariant-loop-byte g l =
    Gathered g.W.Write.contents l.initial.gather l.gather l.initial.out l.out (flat_map (λ byte. doubled l.quote (byte ∷ [])) (take l.byte-index l.text))
