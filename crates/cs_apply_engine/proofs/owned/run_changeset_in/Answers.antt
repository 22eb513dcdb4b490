-- `owned::run_changeset_in`: the invariant of the loop at `group`, and what it ensures.
use Rattle.std.proofs.Common.{◌≡◌, ◌<◌, ◌+◌, ℕ, List, length, get_or, refl, ap, ◌∙◌}
use Rattle.std.specs.Fn.{FnReturnsAt}
use Rattle.std.proofs.lemmas.List.{take_all}
use Rattle.std.proofs.lemmas.Result.{err_from_is_err_and}
use Rattle.cs_wire.specs.Changeset.{GroupData, file_bytes}
use Rattle.cs_apply_engine.specs.Running.{directed}
use Rattle.cs_apply_engine.specs.Writes.{IsRunWrite}
use Rattle.cs_apply_engine.proofs.BehindLemmas.{behind_start}
use Rattle.cs_apply_engine.proofs.CauseLemmas.{caused_on, not_own, run_write}
use Rattle.cs_apply_engine.proofs.DirectedLemmas.{directed_none, group_names, groups_more, read_as, run_outcome}
use Rattle.cs_apply_conflict_kinds.specs.declared.conflict.Noop.TheVariants.{Report as Reported}
use Rattle.cs_apply_engine.proofs.OutcomeLemmas.{told_reports}
use Rattle.cs_apply_engine.proofs.owned.run_changeset_in.Goals as goal

pub loop-group-init : goal.loop-group-init
loop-group-init g c = (
  c.requires,
  g.B.Rows.keeps_itself _ _,
  c.in_ok-run.ensures.start.tables,
  (c.in_ok-run.ensures.noop, c.in_ok-run.ensures.start.empty.ignored),
  c.in_ok-run.ensures.listed,
  λ honest. (honest, rw (directed_none c.args.direction) (behind_start (FnReturnsAt g.H.Fn c.args.handler.now) (g.B.Rows.state c.args.rows.now) c.in_ok-run.run' c.in_ok-run.ensures.start)),
)

pub loop-group-preserved : goal.loop-group-preserved
loop-group-preserved g c =
    let Is = IsRunWrite (directed c.args.direction c.args.changeset.now) in
    let so = c.loop-group.invariant in
    let all = c.args.changeset.now in
    let groups = c.groups-group-items.ensures in
    let i = c.loop-group.group-index in
    let group = c.group-item.result in
    let within : i < length all = rw groups.same at c.loop-group-test.true in
    let is : group ≡ get_or all i group = c.group-item.is ∙ ap (λ (l : List GroupData). get_or l i group) groups.same in (
      so.0,
      g.B.Rows.keeps_then Is _ _ _ _ so.1 (g.B.Rows.keeps_so _ Is _ _ _ (λ held write h wrote. run_write c.args.direction all i group held write within is wrote) c.in_ok-take_group.ensures.kept),
      c.in_ok-take_group.ensures.tables ∙ ap (λ (n : ℕ). n + 1) so.2,
      c.in_ok-take_group.ensures.reported,
      c.take_group.ensures.listed ∙ so.4,
      λ honest.
          let was = so.5 (c.take_group.ensures.was_honest honest) in (
            was.0,
            rw (groups_more c.args.direction all i group within is)
                (c.in_ok-take_group.ensures.behind honest (g.B.Rows.state c.args.rows.now) _ (group_names c.args.direction all i group groups.well_formed within is) was.1),
          ),
    )

pub returns-in_err-take_group-clause-caused : goal.returns-in_err-take_group-clause-caused
returns-in_err-take_group-clause-caused g c = λ honest.
    let Is = IsRunWrite (directed c.args.direction c.args.changeset.now) in
    let all = c.args.changeset.now in
    let groups = c.groups-group-items.ensures in
    let i = c.loop-group.group-index in
    let group = c.group-item.result in
    let within : i < length all = rw groups.same at c.loop-group-test.true in
    let is : group ≡ get_or all i group = c.group-item.is ∙ ap (λ (l : List GroupData). get_or l i group) groups.same in
    caused_on c.from_residual-in_err-take_group.result _ _ c.in_err-take_group.field-0.0 c.from_residual-in_err-take_group.ensures.1
    (λ why by. g.B.Rows.fails_then Is _ _ _ _ why c.loop-group.invariant.1
    (g.B.Rows.keeps_so _ Is _ _ _ (λ held write h wrote. run_write c.args.direction all i group held write within is wrote) c.in_err-take_group.ensures.kept) honest
    (g.B.Rows.fails_so _ _ _ _ why (λ held write wrote. run_write c.args.direction all i group held write within is wrote) by))
    (c.in_err-take_group.ensures.caused honest)

pub returns-in_err-take_group-clause-kept : goal.returns-in_err-take_group-clause-kept
returns-in_err-take_group-clause-kept g c =
    let Is = IsRunWrite (directed c.args.direction c.args.changeset.now) in
    let all = c.args.changeset.now in
    let groups = c.groups-group-items.ensures in
    let i = c.loop-group.group-index in
    let group = c.group-item.result in
    let within : i < length all = rw groups.same at c.loop-group-test.true in
    let is : group ≡ get_or all i group = c.group-item.is ∙ ap (λ (l : List GroupData). get_or l i group) groups.same in
    let p = err_from_is_err_and c.from_residual-in_err-take_group.result c.from_residual-in_err-take_group.ensures.1 in
    rw (p.1, p.2, not_own _ c.in_err-take_group.ensures.named) (g.B.Rows.keeps_then Is _ _ _ _ c.loop-group.invariant.1
    (g.B.Rows.keeps_so _ Is _ _ _ (λ held write h wrote. run_write c.args.direction all i group held write within is wrote) c.in_err-take_group.ensures.kept))

pub returns-clause-applied : goal.returns-clause-applied
returns-clause-applied g c = λ honest.
    let all = c.args.changeset.now in
    let groups = c.groups-group-items.ensures in
    let whole = take_all c.loop-group.group-index all (rw groups.same at c.loop-group-test.false) in
    let behind = rw whole at (c.loop-group.invariant.5 honest).1 in
    let outcome = rw c.loop-group.invariant.3.0 at (run_outcome (FnReturnsAt g.H.Fn c.args.handler.now) c.args.direction (file_bytes all) (directed c.args.direction all) _ c.loop-group.run _ (read_as c.args.direction (file_bytes all) all (groups.well_formed, refl)) behind
    _ c.in_ok-tally.ensures).0 in
    let report = c.into_report.ensures in
    told_reports (FnReturnsAt g.H.Fn c.args.handler.now) Reported (file_bytes all) c.args.direction _ c.in_ok-tally.tally _ c.into_report.result outcome report.conflicts report.skipped report.written report.ignored

pub returns-in_err-tally-clause-refused : goal.returns-in_err-tally-clause-refused
returns-in_err-tally-clause-refused g c = λ honest.
    let all = c.args.changeset.now in
    let groups = c.groups-group-items.ensures in
    let whole = take_all c.loop-group.group-index all (rw groups.same at c.loop-group-test.false) in
    let behind = rw whole at (c.loop-group.invariant.5 honest).1 in
    let refused = rw c.loop-group.invariant.3.0 at (run_outcome (FnReturnsAt g.H.Fn c.args.handler.now) c.args.direction (file_bytes all) (directed c.args.direction all) _ c.loop-group.run _ (read_as c.args.direction (file_bytes all) all (groups.well_formed, refl)) behind
    _ c.in_err-tally.ensures).1 in
    let p = err_from_is_err_and c.from_residual-in_err-tally.result c.from_residual-in_err-tally.ensures.1 in
    rw (p.1, p.2) refused

pub returns-in_err-take_group-clause-was_honest : goal.returns-in_err-take_group-clause-was_honest
returns-in_err-take_group-clause-was_honest g c honest = (c.loop-group.invariant.5 (c.take_group.ensures.was_honest honest)).0

pub returns-in_err-tally-clause-was_honest : goal.returns-in_err-tally-clause-was_honest
returns-in_err-tally-clause-was_honest g c honest = (c.loop-group.invariant.5 honest).0

pub returns-clause-was_honest : goal.returns-clause-was_honest
returns-clause-was_honest g c honest = (c.loop-group.invariant.5 honest).0

pub returns-clause-refused : goal.returns-clause-refused
returns-clause-refused g c honest = tt

pub returns-clause-caused : goal.returns-clause-caused
returns-clause-caused g c honest = tt

pub returns-clause-named : goal.returns-clause-named
returns-clause-named g c = tt

pub returns-clause-read : goal.returns-clause-read
returns-clause-read g c = tt

pub returns-clause-kept : goal.returns-clause-kept
returns-clause-kept g c = c.loop-group.invariant.1
