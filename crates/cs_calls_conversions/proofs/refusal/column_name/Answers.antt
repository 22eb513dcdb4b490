-- `refusal::column_name`: the name at the index, if there is one.
use Rattle.std.proofs.Common.{◌≤◌, Some, Option, ℕ, length, option_and_then, slice_get, string_bytes, sym, ap, ◌∙◌}
use Rattle.std.proofs.lemmas.List.{length-map}
use Rattle.std.proofs.lemmas.Option.{slice_get_past}
use Rattle.cs_value.specs.declared.text.Text.{Text}
use Rattle.cs_calls_conversions.proofs.NameLemmas.{short_text, name_found}
use Rattle.cs_calls_conversions.proofs.refusal.column_name.Goals as goal

pub text_of-requires : goal.text_of-requires
text_of-requires c = short_text c.columns-columns.result.now c.args.schema.now c.in-Some.index c.index-columns-index.result c.as_str.result.now c.columns-columns.ensures c.flags.ensures.well_formed c.if-index-columns.false c.index-columns-index.is c.as_str.ensures.value

pub returns : goal.returns
returns c =
    let columns = c.args.schema.now.columns in
    let found = name_found c.columns-columns.result.now columns c.in-Some.index c.index-columns-index.result c.columns-columns.ensures c.if-index-columns.false c.index-columns-index.is in
    ap (λ (t : Text). Some t) (c.in_ok-text_of.ensures ∙ c.as_str.ensures.value) ∙ sym (ap (λ (o : Option ℕ). option_and_then (slice_get columns) o) c.in-Some.is ∙ found)

pub returns-then-index-columns : goal.returns-then-index-columns
returns-then-index-columns c =
    let columns = c.args.schema.now.columns in
    let past : length columns ≤ c.in-Some.index = rw (← c.columns-columns.ensures, length-map c.columns-columns.result.now string_bytes) c.if-index-columns.true in
    sym (ap (λ (o : Option ℕ). option_and_then (slice_get columns) o) c.in-Some.is ∙ slice_get_past columns c.in-Some.index past)
