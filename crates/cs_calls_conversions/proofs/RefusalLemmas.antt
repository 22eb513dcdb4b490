-- Why values are those of no key.
use Rattle.std.proofs.Common.{◌≡◌, ◌≢◌, ℕ, List, length, Some, Option, option_map, position, slice_get, sym, ap, ◌∙◌, not, if◌then◌else◌, Bool, count_by}
use Rattle.std.proofs.lemmas.Bool.{eq-eqb, ne_eqb}
use Rattle.cs_value.specs.declared.value.OwnedValue.{OwnedValue}
use Rattle.cs_value.specs.State.{SchemaData, IsSchema, is_marked}
use Rattle.cs_calls_answers.specs.declared.answer.Refused.{Refused}
use Rattle.cs_calls_conversions.specs.Keys.{key_names, key_refusal}
use Rattle.cs_calls_conversions.specs.Refusals.{of_table, of_column, is_null}
use Rattle.cs_calls_conversions.proofs.KeyLemmas.{as_many}

-- the choice of `key_refusal`
choice : (same : Bool) (width other : Option Refused) → Option Refused
choice same width other = if not same then width else other

pub refuses_width : (table : List ℕ) (schema : SchemaData) (values : List OwnedValue) → length values ≢ length (key_names schema) → key_refusal table schema values ≡ Some (of_table 35 table)
unfolding choice
refuses_width table schema values apart =
    ap (λ (same : Bool). choice same (Some (of_table 35 table)) (option_map (λ at. of_column 36 table (slice_get (key_names schema) at)) (position is_null values))) (ne_eqb (length values) (length (key_names schema)) apart)

-- as many values as key columns: the first NULL decides
pub refuses_null : (table : List ℕ) (schema : SchemaData) (values : List OwnedValue) (at : Option ℕ) → length values ≡ length (key_names schema) → position is_null values ≡ at → key_refusal table schema values ≡ option_map (λ i. of_column 36 table (slice_get (key_names schema) i)) at
unfolding choice
refuses_null table schema values at same found =
    ap (λ (same : Bool). choice same (Some (of_table 35 table)) (option_map (λ i. of_column 36 table (slice_get (key_names schema) i)) (position is_null values))) (eq-eqb (length values) (length (key_names schema)) same)
    ∙ ap (λ (o : Option ℕ). option_map (λ i. of_column 36 table (slice_get (key_names schema) i)) o) found

-- the number of key columns, as the flags have it
pub key_len_is : (schema : SchemaData) → IsSchema schema → length (key_names schema) ≡ count_by is_marked schema.flags
key_len_is schema well = as_many schema.flags schema.columns (sym well.as_many)
