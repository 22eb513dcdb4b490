-- `tables::rows_in`: the clause `refused`.
use Rattle.std.proofs.Common.{◌≡◌, ◌<◌, [], map, inl, inr, length, get_or, sym, ap, ◌∙◌, arith}
use Rattle.std.proofs.lemmas.List.{get_or_read, length-map, get_or-map}
use Rattle.cs_store_tables.proofs.StoredLists.{stored_at}
use Rattle.cs_store_tables.proofs.tables.rows_in.Goals as goal

pub returns-in-Err-clause-refused : goal.returns-in-Err-clause-refused
returns-in-Err-clause-refused c = elim c.in-Err.ensures.refused [
  | inl damaged ↦
      let i = c.loop-record.record-index in
      let bytes = map (λ e. e.1) c.args.listed.now in
      inl (
        damaged.0,
        λ rows is.
            let within : i < length bytes = omega (arith, length-map c.args.listed.now (λ e. e.1), c.loop-record-test.true) in
            let at = stored_at c.args.schema.now bytes rows i is within in
            let item = get_or_read c.args.listed.now _ _ c.loop-record-test.true c.record-item.is ([], []) in
            let here : c.deref.result.now ≡ get_or bytes i [] =
            c.deref.ensures.value ∙ ap (λ e. e.1) c.record.view_is ∙ ap (λ e. e.1) item ∙ sym (get_or-map (λ e. e.1) c.args.listed.now i ([], []) [] c.loop-record-test.true) in
            damaged.1 at.0 at.1 (here ∙ at.2),
      )
  | inr memory ↦ inr (inl memory)
]
