use Rattle.std.proofs.Common.{take}
use Rattle.cs_file_texts.specs.Forms.{form_text}
use Rattle.cs_file_texts.specs.Gathering.{Gathered}
use Rattle.cs_file_texts.proofs.texts.groups.add_groups.Given as goal

abbrev pub invariant-loop-group : goal.invariant-loop-group
invariant-loop-group g l =
    Gathered g.W.Write.contents l.initial.gather l.gather l.initial.out l.out (form_text l.form (take l.group-index l.groups))
