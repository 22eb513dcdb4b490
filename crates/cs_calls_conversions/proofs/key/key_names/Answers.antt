-- `key::key_names`: the next name is that of a key column, or it is left out.
use Rattle.std.proofs.Common.{◌≡◌, ◌++◌, ◌∷◌, [], ◌<◌, List, Vec, Global, ℕ, get_or, take, length, sym, ap, ◌∙◌, string_bytes}
use Rattle.std.proofs.lemmas.List.{length-map}
use Rattle.cs_value.specs.declared.text.Text.{Text}
use Rattle.cs_value.specs.Key.{key_columns}
use Rattle.cs_value.specs.State.{is_marked}
use Rattle.cs_calls_conversions.proofs.KeyLemmas.{no_columns, more_kept, more_left}
use Rattle.cs_calls_conversions.proofs.NameLemmas.{short_text, name_at}
use Rattle.cs_calls_conversions.proofs.key.key_names.Goals as goal
use Rattle.cs_calls_conversions.proofs.key.key_names.Goals.{then-is_key+in_ok-text_of+in_ok-push, else-is_key}

pub loop-column-init : goal.loop-column-init
loop-column-init c = c.new-names.ensures.items ∙ sym (no_columns c.args.schema.now.flags)

pub text_of-requires : goal.text_of-requires
text_of-requires c = short_text c.columns-name-items.result.now c.args.schema.now c.loop-column.column c.name-item.result c.as_str.result.now c.columns-name-items.ensures c.flags-flags.ensures.well_formed c.loop-column-test.true c.name-item.is c.as_str.ensures.value

pub loop-column-preserved : goal.loop-column-preserved
loop-column-preserved c =
    let flags = c.args.schema.now.flags in
    let names = c.columns-name-items.result.now in
    let columns = c.args.schema.now.columns in
    let i = c.loop-column.column in
    let name = c.name-item.result in
    let here = name_at names columns i name c.columns-name-items.ensures c.loop-column-test.true c.name-item.is in
    let within : i < length columns = rw (← c.columns-name-items.ensures, length-map names string_bytes) c.loop-column-test.true in
    let mark : c.is_key.result ≡ is_marked (get_or flags i 0) = c.is_key.ensures ∙ ap (λ (l : List ℕ). is_marked (get_or l i 0)) c.flags-flags.ensures.same in
    elim c.if-is_key.branch [
      | then-is_key+in_ok-text_of+in_ok-push w ↦
          ap (λ (v : Vec Text Global). v.items) w.names-is ∙ w.in_ok-push.ensures.items
          ∙ ap (λ (l : List Text). l ++ w.in_ok-text_of.field-0 ∷ []) c.loop-column.invariant
          ∙ ap (λ (t : Text). key_columns flags (take i columns) ++ t ∷ []) (w.in_ok-text_of.ensures ∙ w.as_str.ensures.value)
          ∙ sym (more_kept flags columns i (string_bytes name) within here (sym mark ∙ w.if-is_key.true))
      | else-is_key w ↦ ap (λ (v : Vec Text Global). v.items) w.names-is ∙ c.loop-column.invariant ∙ sym (more_left flags columns i (string_bytes name) within here (sym mark ∙ w.if-is_key.false))
    ]
