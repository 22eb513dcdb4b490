-- `table::Table::find`: the invariant of the loop, the clause `newest`.
use Rattle.std.proofs.Common.{◌≡◌, ◌+◌, ◌-◌, ℕ, List, ap, sym, ◌∙◌, subst, arith}
use Rattle.std.specs.Prelude.{is_none}
use Rattle.cs_wire_entries.specs.declared.entry.Entry.{Entry}
use Rattle.cs_wire.specs.Entry.{key_of}
use Rattle.cs_wire.specs.Views.{IsIndexWhere}
use Rattle.cs_file_scan.specs.Chains.{IsEnd, bucket_at, bucket_of}
use Rattle.cs_changegroup.specs.Slots.{TableView, kept_key}
use Rattle.cs_changegroup.proofs.ChainLemmas.{NoneFrom, NoneFrom-all, NoneFrom-before, NoneFrom-end, NoneFrom-found}
use Rattle.cs_changegroup.proofs.table.Table.find.Goals as goal

pub indices-init : goal.indices-init
indices-init c =
    let self = c.args.self.now in
    let end = c.end-end.result in
    let keys : c.self.inside.keys ≡ self.keys = ap (λ (t : TableView). t.keys) c.self.view_is in
    let ends : IsEnd self.keys (bucket_of self.keys c.args.number) _ end = rw (← keys) c.end-end.ensures in (
      ends.within,
      ends.last,
      λ kept are. NoneFrom-end (kept_key self.header.flags) kept c.args.key.now self.keys are.numbers end (rw (← c.requires) ends),
    )

pub indices-preserved : goal.indices-preserved
indices-preserved c =
    let self = c.args.self.now in
    let so = c.indices.invariant in
    let index = c.indices.end - 1 in
    let step : c.indices.end ≡ index + 1 = omega (arith, c.indices-test.true) in
    let keys : c.self.inside.keys ≡ self.keys = ap (λ (t : TableView). t.keys) c.self.view_is in
    let before : IsEnd self.keys (bucket_at self.keys index) index c.before-end.result = rw (← keys) c.before-end.ensures in
    let bucket : bucket_at self.keys index ≡ bucket_of self.keys c.args.number = so.1 index step in (
      omega (arith, before.within, so.0),
      λ other is. before.last other is ∙ bucket,
      λ kept are.
          NoneFrom-before (kept_key self.header.flags) kept c.args.key.now self.keys are.numbers index c.before-end.result before (bucket ∙ ap (bucket_of self.keys) c.requires)
          (c.in_ok-entry.ensures.absent kept are (ap is_none c.in_default.is)) (subst (NoneFrom (kept_key self.header.flags) kept c.args.key.now) step (so.2 kept are)),
    )

pub returns-clause-newest : goal.returns-clause-newest
returns-clause-newest c = λ kept are. NoneFrom-all (kept_key c.args.self.now.header.flags) kept c.args.key.now c.indices.end (omega (arith, c.indices-test.false)) (c.indices.invariant.2 kept are)

pub returns-in-Some-clause-newest : goal.returns-in-Some-clause-newest
returns-in-Some-clause-newest c = λ kept are.
    let self = c.args.self.now in
    let index = c.indices.end - 1 in
    let step : c.indices.end ≡ index + 1 = omega (arith, c.indices-test.true) in
    let entry = c.in-Some.entry in
    let flags : entry.flags ≡ self.header.flags = rw c.in-Some.is at c.in_ok-entry.ensures.flags in
    let key : key_of entry.flags entry.entry.change ≡ c.args.key.now = rw c.in-Some.is at c.in_ok-entry.ensures.key in
    let at : IsIndexWhere (λ k. k.entry ≡ entry.entry) kept index = rw c.in-Some.is at (c.in_ok-entry.ensures.found kept are) in
    NoneFrom-found (kept_key self.header.flags) kept c.args.key.now index (subst (NoneFrom (kept_key self.header.flags) kept c.args.key.now) step (c.indices.invariant.2 kept are))
    (record {
      within = at.within;
      holds = λ d. ap (λ (e : Entry). key_of self.header.flags e.change) (at.holds d) ∙ ap (λ (fs : List ℕ). key_of fs entry.entry.change) (sym flags) ∙ key;
    })
