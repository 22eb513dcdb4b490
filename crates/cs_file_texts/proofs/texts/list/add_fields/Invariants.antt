use Rattle.std.proofs.Common.{◌≡◌, ◌++◌, List, map}
use Rattle.cs_value.specs.declared.value.OwnedField.{OwnedField}
use Rattle.cs_file_texts.specs.Texts.{field_text, separated}
use Rattle.cs_file_texts.specs.Gathering.{Gathered}
use Rattle.cs_file_texts.proofs.SeparatedLemmas.{lead_of}
use Rattle.cs_file_texts.proofs.texts.list.add_fields.Given as goal

abbrev pub invariant-fields : goal.invariant-fields
invariant-fields g l = record {
  before : List OwnedField;
  whole : l.fn.fields ≡ before ++ l.left;
  leads : l.lead ≡ lead_of l.between (map field_text before);
  gathered : Gathered g.W.Write.contents l.initial.gather l.gather l.initial.out l.out (separated l.between (map field_text before));
}
