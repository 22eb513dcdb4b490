-- `judging::leads`: the invariant of the loop at `column`, what it ensures.
use Rattle.std.proofs.Common.{◌≡◌, ◌+◌, ◌<◌, length, suc, sym, ◌∙◌, arith}
use Rattle.cs_apply_conflict_kinds.proofs.JudgingLemmas.{too_few, leads_all, leads_by}
use Rattle.cs_apply_conflict_kinds.proofs.judging.leads.Goals as goal

pub returns-then-table-flags : goal.returns-then-table-flags
returns-then-table-flags c = sym (too_few c.args.flags.now c.args.table.now c.if-table-flags.true)

pub returns-then-is_of_key : goal.returns-then-is_of_key
returns-then-is_of_key c =
    let wide : c.loop-column.column < length c.args.table.now = omega (arith, c.loop-column-test.true, c.if-table-flags.false) in
    sym (sym c.loop-column.invariant ∙ leads_by c.args.flags.now c.args.table.now c.loop-column.column _ _ _ c.loop-column-test.true wide c.is_of_key.ensures c.is_of_key-in-loop-column.ensures c.if-is_of_key.true)

pub loop-column-preserved : goal.loop-column-preserved
loop-column-preserved c =
    let wide : c.loop-column.column < length c.args.table.now = omega (arith, c.loop-column-test.true, c.if-table-flags.false) in
    let more : c.loop-column.column + 1 ≡ suc c.loop-column.column = omega arith in
    rw more (sym (sym c.loop-column.invariant ∙ leads_by c.args.flags.now c.args.table.now c.loop-column.column _ _ _ c.loop-column-test.true wide c.is_of_key.ensures c.is_of_key-in-loop-column.ensures c.if-is_of_key.false))

pub returns : goal.returns
returns c = sym (leads_all c.args.flags.now c.args.table.now c.loop-column.column c.loop-column-test.false) ∙ c.loop-column.invariant
