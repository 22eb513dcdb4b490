-- `tables::names_of`: the clause `refused`.
use Rattle.std.proofs.Common.{◌≡◌, ◌<◌, map, length, inl, inr, get_or, sym, ap, ◌∙◌, [], arith}
use Rattle.std.proofs.lemmas.List.{get_or_read, length-map, get_or-map}
use Rattle.sqlite_rules.proofs.ListLemmas.{all_has, has_at}
use Rattle.cs_value.specs.Table.{IsName}
use Rattle.cs_store_tables.proofs.tables.names_of.Goals as goal

pub returns-in-Err-clause-refused : goal.returns-in-Err-clause-refused
returns-in-Err-clause-refused c = elim c.in-Err.ensures.refused [
  | inl damaged ↦
      let i = c.loop-record.record-index in
      let listed = c.args.listed.now in
      let names = map (λ e. e.0) listed in
      let within : i < length names = omega (arith, length-map listed (λ e. e.0), c.loop-record-test.true) in
      let item = get_or_read listed _ _ c.loop-record-test.true c.record-item.is ([], []) in
      let here : c.deref.result.now ≡ get_or names i c.deref.result.now =
      c.deref.ensures.value ∙ ap (λ e. e.0) c.record.view_is ∙ ap (λ e. e.0) item ∙ sym (get_or-map (λ e. e.0) listed i ([], []) c.deref.result.now c.loop-record-test.true) in
      inl (damaged.0, λ each. damaged.1 (all_has IsName names c.deref.result.now each (has_at names i c.deref.result.now within here)))
  | inr memory ↦ inr (inl memory)
]
