-- `entry::settle`: the clause `settles`.
use Rattle.std.proofs.Common.{◌≡◌, false, true≢false, Some, option_map, sym, ◌∙◌}
use Rattle.std.specs.Fn.{FnReturnsAt}
use Rattle.std.proofs.lemmas.Result.{IfOk-weaker}
use Rattle.cs_apply_conflict_kinds.specs.Conflicts.{conflict_kind, is_refused}
use Rattle.cs_apply_engine.specs.declared.entry.Settled.TheVariants.{Carried}
use Rattle.cs_apply_engine.specs.Steps.{placed_in_table}
use Rattle.cs_apply_engine.proofs.EntryLemmas.{settled_clean, settled_first, settled_second}
use Rattle.cs_apply_engine.proofs.entry.settle.Goals.{else-is_refused-via-then-is_refused+else-is_carried, else-is_refused-via-else-is_refused}
use Rattle.cs_apply_engine.proofs.entry.settle.Goals as goal

pub returns-in-None-clause-settles : goal.returns-in-None-clause-settles
returns-in-None-clause-settles g c =
    let p = placed_in_table c.args.table.now c.args.entry.now in
    settled_clean (FnReturnsAt g.H.Fn c.args.handler.now) (is_refused c.args.refuses.now p.flags p.entry.change) p (option_map (λ r. r.now) c.args.current) c.args.conflicts.now.items
    (sym c.conflict_kind.ensures ∙ c.in-None.is)

pub returns-then-is_carried-clause-settles : goal.returns-then-is_carried-clause-settles
returns-then-is_carried-clause-settles g c =
    let row = option_map (λ r. r.now) c.args.current in
    let p = placed_in_table c.args.table.now c.args.entry.now in
    let refused = is_refused c.args.refuses.now p.flags p.entry.change in
    let met : conflict_kind refused p.entry.change row ≡ Some c.in-Some.kind = sym c.conflict_kind.ensures ∙ c.in-Some.is in
    let carried : c.in_ok-settled.settled ≡ Carried = c.is_carried.ensures.0 c.if-is_carried.true in
    let first = rw carried at c.in_ok-settled.ensures in
    IfOk-weaker c.ask-then-is_carried.result _ _
    (λ settled h. settled_second (FnReturnsAt g.H.Fn c.args.handler.now) refused p row c.in-Some.kind met c.args.conflicts.now.items c.ask.new.conflicts.items first.0 first.1 first.2 (sym c.is_refused.ensures ∙ c.if-is_refused.true) c.ask-then-is_carried.new.conflicts.items settled h)
    c.ask-then-is_carried.ensures

pub returns-clause-settles : goal.returns-clause-settles
returns-clause-settles g c =
    let row = option_map (λ r. r.now) c.args.current in
    let p = placed_in_table c.args.table.now c.args.entry.now in
    let refused = is_refused c.args.refuses.now p.flags p.entry.change in
    let met : conflict_kind refused p.entry.change row ≡ Some c.in-Some.kind = sym c.conflict_kind.ensures ∙ c.in-Some.is in
    let kept : c.in_ok-settled.settled ≡ Carried → refused ≡ false =
    elim c.else-is_refused.branch [
      | else-is_refused-via-then-is_refused+else-is_carried w ↦ λ carried. absurd (true≢false (sym (w.is_carried.ensures.1 carried) ∙ w.if-is_carried.false))
      | else-is_refused-via-else-is_refused w ↦ λ carried. sym c.is_refused.ensures ∙ w.if-is_refused.false
    ] in
    settled_first (FnReturnsAt g.H.Fn c.args.handler.now) refused p row c.in-Some.kind met c.args.conflicts.now.items _ c.in_ok-settled.settled c.in_ok-settled.ensures kept
