-- `rows::named_key`: what it ensures, where a value is NULL and where none is.
use Rattle.std.proofs.Common.{ℕ, List, Some, sym, ap, ◌∙◌}
use Rattle.cs_value.specs.Spelling.{row_bytes}
use Rattle.cs_shell_columns.proofs.RowLemmas.{key_of_null, key_of_values}
use Rattle.cs_shell_columns.proofs.rows.named_key.Goals as goal

pub returns-then-has_null : goal.returns-then-has_null
returns-then-has_null c = sym (key_of_null c.args.schema.now c.args.conditions.now (sym c.has_null.ensures ∙ c.if-has_null.true))

pub returns : goal.returns
returns c =
    ap (λ (key : List ℕ). Some key) (c.in_ok-from_values.ensures ∙ ap row_bytes (c.deref.ensures.value ∙ c.in_ok-key_values.ensures))
    ∙ sym (key_of_values c.args.schema.now c.args.conditions.now (sym c.has_null.ensures ∙ c.if-has_null.false))
