-- `value::next_value`: the span shows the field, and lies in the file; what follows the field is left.
use Rattle.std.proofs.Common.{◌+◌, ◌≤◌, ◌++◌, length, sym, ap, subst, ◌∙◌}
use Rattle.cs_value.specs.declared.value.OwnedField.{OwnedField}
use Rattle.cs_value.specs.Spelling.{field_bytes}
use Rattle.cs_value.specs.Value.{field_of}
use Rattle.cs_wire_entries.proofs.ReadingLemmas.{rest_is}
use Rattle.cs_file_iterator.specs.declared.value.ValueSpan.{ValueSpan}
use Rattle.cs_file_iterator.specs.Values.{ShowsField}
use Rattle.cs_file_iterator.proofs.ValueLemmas.{span_shows, span_within}
use Rattle.cs_file_iterator.proofs.value.next_value.Goals as goal

pub returns-clause-value : goal.returns-clause-value
returns-clause-value c = λ field rest is spelled.
    let same = c.in_ok-field.ensures.only field rest is spelled in
    let shows = span_shows c.args.file.now c.args.place c.in_ok-field.end (field_of c.in_ok-field.field) c.in_ok-field.ensures.found c.requires in (
      subst (ShowsField c.args.file.now c.span_of.result) same (subst (λ (v : ValueSpan). ShowsField c.args.file.now v (field_of c.in_ok-field.field)) (sym c.span_of.ensures) shows),
      rest_is c.args.file.now c.args.place c.in_ok-field.end _ rest c.in_ok-field.ensures.found (spelled ∙ ap (λ (f : OwnedField). field_bytes f ++ rest) (sym same)),
    )

pub returns-clause-within : goal.returns-clause-within
returns-clause-within c = (
  subst (λ (v : ValueSpan). v.offset + v.length ≤ length c.args.file.now) (sym c.span_of.ensures) (span_within c.args.file.now c.args.place c.in_ok-field.end (field_of c.in_ok-field.field) c.in_ok-field.ensures.found c.requires),
  c.in_ok-field.ensures.found.within,
)
