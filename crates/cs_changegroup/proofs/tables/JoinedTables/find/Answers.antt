-- `tables::JoinedTables::find`: the invariant of the loop, the clause `newest`.
use Rattle.std.proofs.Common.{◌≡◌, ◌+◌, ◌-◌, ◌<◌, length, ap, sym, ◌∙◌, subst, arith}
use Rattle.std.proofs.lemmas.Bool.{iff_false}
use Rattle.cs_file_scan.specs.Chains.{IsEnd, bucket_at, bucket_of}
use Rattle.cs_file_scan.specs.Distinct.{number_of}
use Rattle.cs_changegroup.specs.Slots.{TablesView, kept_name}
use Rattle.cs_changegroup.proofs.ChainLemmas.{NoneFrom, NoneFrom-all, NoneFrom-before, NoneFrom-end, NoneFrom-found, as_many}
use Rattle.cs_changegroup.proofs.TableLemmas.{name_there, tables_long}
use Rattle.cs_changegroup.proofs.tables.JoinedTables.find.Goals as goal

pub indices-init : goal.indices-init
indices-init c =
    let self = c.args.self.now in
    let end = c.end-end.result in
    let names : c.self.inside.names ≡ self.names = ap (λ (t : TablesView). t.names) c.self.view_is in
    let number : c.number_of-number.result ≡ number_of c.args.name.now = c.number_of-number.ensures ∙ ap number_of c.as_bytes.ensures.value in
    let ends : IsEnd self.names (bucket_of self.names c.number_of-number.result) (length self.names.numbers) end = rw (← names) c.end-end.ensures in (
      ends.within,
      ends.last,
      λ files kept are. NoneFrom-end kept_name kept c.args.name.now self.names are.numbers end (rw (← number) ends),
    )

pub indices-preserved : goal.indices-preserved
indices-preserved c =
    let self = c.args.self.now in
    let so = c.indices.invariant in
    let index = c.indices.end - 1 in
    let step : c.indices.end ≡ index + 1 = omega (arith, c.indices-test.true) in
    let names : c.self.inside.names ≡ self.names = ap (λ (t : TablesView). t.names) c.self.view_is in
    let number : c.number_of-number.result ≡ number_of c.args.name.now = c.number_of-number.ensures ∙ ap number_of c.as_bytes.ensures.value in
    let before : IsEnd self.names (bucket_at self.names index) index c.before-end.result = rw (← names) c.before-end.ensures in
    let bucket : bucket_at self.names index ≡ bucket_of self.names c.number_of-number.result = so.1 index step in
    let other = iff_false c.has_name.ensures c.if-has_name.false in (
      omega (arith, before.within, so.0),
      λ at is. before.last at is ∙ bucket,
      λ files kept are.
          let lt : index < length kept = omega (arith, so.0, step, as_many kept_name kept c.args.name.now self.names are.numbers) in
          NoneFrom-before kept_name kept c.args.name.now self.names are.numbers index c.before-end.result before (bucket ∙ ap (bucket_of self.names) number)
          (record { within = lt; holds = λ d same. other (tables_long files self kept are index lt, name_there files self kept are index lt d ∙ same) })
          (subst (NoneFrom kept_name kept c.args.name.now) step (so.2 files kept are)),
    )

pub returns-clause-newest : goal.returns-clause-newest
returns-clause-newest c = λ files kept are. NoneFrom-all kept_name kept c.args.name.now c.indices.end (omega (arith, c.indices-test.false)) (c.indices.invariant.2 files kept are)

pub returns-then-has_name-clause-newest : goal.returns-then-has_name-clause-newest
returns-then-has_name-clause-newest c = λ files kept are.
    let self = c.args.self.now in
    let index = c.indices.end - 1 in
    let step : c.indices.end ≡ index + 1 = omega (arith, c.indices-test.true) in
    let so = c.indices.invariant in
    let lt : index < length kept = omega (arith, so.0, step, as_many kept_name kept c.args.name.now self.names are.numbers) in
    let has = c.has_name.ensures.0 c.if-has_name.true in
    NoneFrom-found kept_name kept c.args.name.now index (subst (NoneFrom kept_name kept c.args.name.now) step (so.2 files kept are))
    (record { within = lt; holds = λ d. sym (name_there files self kept are index lt d) ∙ has.1 })
