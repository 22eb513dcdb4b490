-- `value::skip_field`: what follows the field is left.
use Rattle.std.proofs.Common.{◌++◌, sym, ap, ◌∙◌}
use Rattle.cs_value.specs.declared.value.OwnedField.{OwnedField}
use Rattle.cs_value.specs.Spelling.{field_bytes}
use Rattle.cs_wire_entries.proofs.ReadingLemmas.{rest_is}
use Rattle.cs_file_iterator.proofs.value.skip_field.Goals as goal

pub returns-clause-skipped : goal.returns-clause-skipped
returns-clause-skipped c = λ field rest is spelled.
    let same = c.in_ok-end.ensures.only field rest is spelled in
    rest_is c.args.file.now c.args.place c.in_ok-end.end _ rest c.in_ok-end.ensures.found (spelled ∙ ap (λ (f : OwnedField). field_bytes f ++ rest) (sym same))
