-- `check::read_schemas`: the invariant of the loop at `record`, the clause `refused`.
use Rattle.std.proofs.Common.{inl, inr, sym, subst}
use Rattle.std.proofs.lemmas.List.Elements.{All-from_recursion}
use Rattle.std.proofs.lemmas.Result.{err_from_is_err_and}
use Rattle.cs_store_encoding.specs.Valid.{IsGoodTable}
use Rattle.cs_store_encoding.specs.Versions.{bytes_of}
use Rattle.cs_store_encoding.proofs.CheckLemmas.{declared_none}
use Rattle.cs_store_encoding.proofs.check.read_schemas.Goals as goal

pub loop-record-init : goal.loop-record-init
loop-record-init c = declared_none _ c.new-schemas.result c.new-schemas.ensures

pub returns-in_err-add_table-clause-refused : goal.returns-in_err-add_table-clause-refused
returns-in_err-add_table-clause-refused c =
    let Good = IsGoodTable (bytes_of c.args.version) in
    let p = err_from_is_err_and c.from_residual.result c.from_residual.ensures.1 in
    rw (p.1, p.2) (elim c.in_err-add_table.ensures.refused [
      | inl h ↦ inl (h.0, λ all. h.1 (subst Good (sym c.record-item.is) (All-from_recursion Good c.args.listed.now all c.loop-record.record-index c.record-item.result c.loop-record-test.true)))
      | inr h ↦ inr h
    ])
