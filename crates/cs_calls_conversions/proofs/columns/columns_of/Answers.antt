-- `columns::columns_of`: the next column has the name, the flag and the mark at its index.
use Rattle.std.proofs.Common.{◌≡◌, ◌++◌, ◌∷◌, [], ◌<◌, List, ℕ, Bool, get_or, take, length, sym, ap, ◌∙◌, string_bytes, arith}
use Rattle.std.proofs.lemmas.List.{length-map}
use Rattle.cs_value.specs.State.{is_marked}
use Rattle.cs_rows.proofs.RuleLemmas.{rules_length}
use Rattle.cs_calls_parts.specs.declared.lists.Column.{Column}
use Rattle.cs_calls_conversions.specs.Columns.{columns_with}
use Rattle.cs_calls_conversions.proofs.ColumnLemmas.{made, column_more}
use Rattle.cs_calls_conversions.proofs.NameLemmas.{short_text, name_at}
use Rattle.cs_calls_conversions.proofs.columns.columns_of.Goals as goal

pub text_of-requires : goal.text_of-requires
text_of-requires c = short_text c.columns-name-items.result.now c.args.schema.now c.loop-index.index c.name-item.result c.as_str.result.now c.columns-name-items.ensures c.flags-flags.ensures.well_formed c.loop-index-test.true c.name-item.is c.as_str.ensures.value

pub loop-index-preserved : goal.loop-index-preserved
loop-index-preserved c =
    let schema = c.args.schema.now in
    let names = c.columns-name-items.result.now in
    let i = c.loop-index.index in
    let name = string_bytes c.name-item.result in
    let well = c.flags-flags.ensures.well_formed in
    let here = name_at names schema.columns i c.name-item.result c.columns-name-items.ensures c.loop-index-test.true c.name-item.is in
    let within : i < length schema.columns = rw (← c.columns-name-items.ensures, length-map names string_bytes) c.loop-index-test.true in
    let in_flags : i < length schema.flags = omega (arith, well.as_many) in
    let in_refuses : i < length schema.refuses = omega (arith, rules_length schema.flags schema.refuses well.rules) in
    let is_key : c.is_key.result ≡ is_marked (get_or schema.flags i 0) = c.is_key.ensures ∙ ap (λ (l : List ℕ). is_marked (get_or l i 0)) c.flags-flags.ensures.same in
    let so_far = columns_with (take i schema.columns) schema.flags schema.refuses in
    c.in_ok-push.ensures.items
    ∙ ap (λ (l : List Column). l ++ made c.in_ok-text_of.field-0 c.is_key.result c.refuses_at.result ∷ []) c.loop-index.invariant
    ∙ ap (λ (n : List ℕ). so_far ++ made n c.is_key.result c.refuses_at.result ∷ []) (c.in_ok-text_of.ensures ∙ c.as_str.ensures.value)
    ∙ ap (λ (k : Bool). so_far ++ made name k c.refuses_at.result ∷ []) is_key
    ∙ ap (λ (r : Bool). so_far ++ made name (is_marked (get_or schema.flags i 0)) r ∷ []) c.refuses_at.ensures
    ∙ sym (column_more schema.columns schema.flags schema.refuses i name within in_flags in_refuses here)
