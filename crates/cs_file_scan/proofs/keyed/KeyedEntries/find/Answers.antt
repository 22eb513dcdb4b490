-- `keyed::KeyedEntries::find`: the invariant of the loop, the clauses `found` and `absent`.
use Rattle.std.proofs.Common.{◌≡◌, ◌+◌, ◌-◌, ap, ◌∙◌, subst, ℕ, arith}
use Rattle.std.specs.Prelude.{is_none}
use Rattle.cs_file_scan.specs.Chains.{IsEnd, bucket_at, bucket_of}
use Rattle.cs_file_scan.specs.KeyedFile.{KeyedFile, count_of}
use Rattle.cs_file_scan.proofs.KeyedLemmas.{NoneFrom, NoneFrom-end, NoneFrom-before, NoneFrom-all}
use Rattle.cs_file_scan.proofs.keyed.KeyedEntries.find.Goals as goal

pub indices-init : goal.indices-init
indices-init c =
    let self = c.args.self.now in
    let end = c.end-end.result in
    let chains : c.self.inside.chains ≡ self.chains = ap (λ (k : KeyedFile). k.chains) c.self.view_is in
    let ends : IsEnd self.chains (bucket_of self.chains c.number_of-number.result) (count_of self) end = rw (← chains) c.end-end.ensures in (
      ends.within,
      ends.last,
      λ entries groups keyed. NoneFrom-end self entries groups keyed c.args.key.now end (rw (← c.number_of-number.ensures) ends),
    )

pub returns-in-Some-clause-found : goal.returns-in-Some-clause-found
returns-in-Some-clause-found c = λ entries groups keyed. rw c.in-Some.is at (c.in_ok-entry.ensures.found entries groups keyed)

pub indices-preserved : goal.indices-preserved
indices-preserved c =
    let self = c.args.self.now in
    let so = c.indices.invariant in
    let index = c.indices.end - 1 in
    let step : c.indices.end ≡ index + 1 = omega (arith, c.indices-test.true) in
    let chains : c.self.inside.chains ≡ self.chains = ap (λ (k : KeyedFile). k.chains) c.self.view_is in
    let before : IsEnd self.chains (bucket_at self.chains index) index c.before-end.result = rw (← chains) c.before-end.ensures in
    let bucket : bucket_at self.chains index ≡ bucket_of self.chains c.number_of-number.result = so.1 index step in (
      omega (arith, before.within, so.0),
      λ other is. before.last other is ∙ bucket,
      λ entries groups keyed.
          NoneFrom-before self entries groups keyed c.args.key.now index c.before-end.result before (bucket ∙ ap (bucket_of self.chains) c.number_of-number.ensures)
          (c.in_ok-entry.ensures.absent entries groups keyed (ap is_none c.in_default.is)) (subst (λ (end : ℕ). NoneFrom self entries c.args.key.now end) step (so.2 entries groups keyed)),
    )

pub returns-clause-absent : goal.returns-clause-absent
returns-clause-absent c = λ entries groups keyed none.
    NoneFrom-all c.args.self.now entries groups keyed c.args.key.now c.indices.end (omega (arith, c.indices-test.false)) (c.indices.invariant.2 entries groups keyed)
