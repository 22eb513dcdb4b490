use Rattle.std.proofs.Common.{◌≡◌, ◌++◌, List, length}
use Rattle.std.specs.List.{list_any}
use Rattle.cs_value.specs.declared.value.OwnedField.{OwnedField}
use Rattle.cs_file_texts.specs.Texts.{by_index}
use Rattle.cs_file_texts.specs.Pieces.{between_of, is_defined, term_text, terms_text}
use Rattle.cs_file_texts.specs.Gathering.{Gathered}
use Rattle.cs_file_texts.proofs.SeparatedLemmas.{lead_of}
use Rattle.cs_file_texts.proofs.texts.sql.add_terms.Given as goal

abbrev pub invariant-loop-index : goal.invariant-loop-index
invariant-loop-index g l = record {
  before : List OwnedField;
  counted : length before ≡ l.index;
  whole : l.fn.fields ≡ before ++ l.left;
  some : l.some ≡ list_any is_defined before;
  leads : l.lead ≡ lead_of (between_of l.terms) (by_index (term_text l.terms) 0 before);
  gathered : Gathered g.W.Write.contents l.initial.gather l.gather l.initial.out l.out (terms_text l.terms before);
}
