-- `key::key_of_call`: why values are those of no key.
use Rattle.std.proofs.Common.{◌≡◌, ℕ, List, length, Some, None, Option, inl, sym, ap, ◌∙◌}
use Rattle.cs_value.specs.declared.value.OwnedValue.{OwnedValue}
use Rattle.cs_value.specs.State.{is_marked}
use Rattle.std.specs.List.{count_by}
use Rattle.cs_calls_answers.specs.declared.answer.Refused.{Refused}
use Rattle.cs_calls_conversions.specs.Keys.{key_names}
use Rattle.cs_calls_conversions.specs.Refusals.{of_column}
use Rattle.cs_calls_conversions.proofs.RefusalLemmas.{refuses_width, refuses_null, key_len_is}
use Rattle.cs_calls_conversions.proofs.key.key_of_call.Goals as goal

pub returns-then-values-key_len-clause-refused : goal.returns-then-values-key_len-clause-refused
returns-then-values-key_len-clause-refused c =
    let schema = c.args.schema.now in
    let count : length (key_names schema) ≡ c.key_len.result = key_len_is schema c.flags.ensures.well_formed ∙ sym (c.key_len.ensures ∙ ap (λ (fs : List ℕ). count_by is_marked fs) c.flags.ensures.same) in
    let long = ap (λ (vs : List OwnedValue). length vs) c.values.ensures.same in
    inl (refuses_width c.args.table.now schema c.args.values.now (λ same. c.if-values-key_len.true (long ∙ same ∙ count)) ∙ ap (λ (r : Refused). Some r) (sym c.in_ok-of_table.ensures))

pub returns-in_ok-of_column-in-Some-clause-refused : goal.returns-in_ok-of_column-in-Some-clause-refused
returns-in_ok-of_column-in-Some-clause-refused c =
    let schema = c.args.schema.now in
    let count : length (key_names schema) ≡ c.key_len.result = key_len_is schema c.flags.ensures.well_formed ∙ sym (c.key_len.ensures ∙ ap (λ (fs : List ℕ). count_by is_marked fs) c.flags.ensures.same) in
    let long = ap (λ (vs : List OwnedValue). length vs) c.values.ensures.same in
    let found = rw c.values-2.ensures.same at c.in-Some.ensures in
    let refused = refuses_null c.args.table.now schema c.args.values.now (Some c.in-Some.index) (sym long ∙ c.if-values-key_len.false ∙ sym count) (sym found) in
    let named = ap (λ (column : Option (List ℕ)). of_column 36 c.args.table.now column) c.in_ok-column-in-Some.ensures in
    inl (refused ∙ ap (λ (r : Refused). Some r) (sym (c.in_ok-of_column-in-Some.ensures ∙ named)))

pub returns-in_ok-from_values-in-None-clause-named : goal.returns-in_ok-from_values-in-None-clause-named
returns-in_ok-from_values-in-None-clause-named c =
    let schema = c.args.schema.now in
    let count : length (key_names schema) ≡ c.key_len.result = key_len_is schema c.flags.ensures.well_formed ∙ sym (c.key_len.ensures ∙ ap (λ (fs : List ℕ). count_by is_marked fs) c.flags.ensures.same) in
    let long = ap (λ (vs : List OwnedValue). length vs) c.values.ensures.same in
    let found = rw c.values-2.ensures.same at c.in-None.ensures in
    refuses_null c.args.table.now schema c.args.values.now None (sym long ∙ c.if-values-key_len.false ∙ sym count) (sym found)
