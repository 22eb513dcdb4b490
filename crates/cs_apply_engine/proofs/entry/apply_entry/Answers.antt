-- `entry::apply_entry`: the clauses `comes_to`, `caused` and `kept`.
use Rattle.std.proofs.Common.{◌≡◌, Bool, List, false, None, arith, ap, sym, ◌∙◌}
use Rattle.std.specs.Fn.{FnReturnsAt}
use Rattle.std.specs.Rc.{rc_str_bytes}
use Rattle.std.specs.FinMap.{get}
use Rattle.cs_value.proofs.StateLemmas.{table_of_schema}
use Rattle.cs_apply_conflict_kinds.specs.Conflicts.{conflict_kind, is_refused}
use Rattle.cs_apply_conflict_kinds.specs.Applying.{current, refused_at}
use Rattle.cs_apply_engine.specs.Steps.{header_in, placed_in_table}
use Rattle.cs_apply_engine.specs.Writes.{IsEntryWrite}
use Rattle.cs_apply_engine.proofs.CauseLemmas.{caused_so}
use Rattle.cs_apply_engine.proofs.CarryLemmas.{carries_written}
use Rattle.cs_apply_engine.proofs.EntryLemmas.{settled_clean}
use Rattle.cs_apply_engine.proofs.HeededLemmas.{heeded_clean, left_in}
use Rattle.cs_apply_engine.proofs.entry.apply_entry.Goals as goal

pub returns-then-branch-clause-comes_to : goal.returns-then-branch-clause-comes_to
returns-then-branch-clause-comes_to g c = λ honest.
    let state = g.B.Rows.state c.args.rows.now in
    let name = rc_str_bytes c.args.table.now in
    let p = placed_in_table name c.args.entry.now in
    let before = c.add_row.ensures.was_honest honest in
    let rule : is_refused c.args.refuses.now p.flags p.entry.change ≡ refused_at state p = ap (λ (rules : List Bool). is_refused rules p.flags p.entry.change) (c.requires.rules before) in
    let added = rw (c.if-branch.true, c.as_str.ensures.value, c.in_ok-key.ensures, rule) at c.in_ok-add_row.ensures.added honest in
    let is : None ≡ current state p = sym added.1 in
    let has = c.requires.table before in
    let table = table_of_schema (get state name) has.schema has.found in
    let settled = settled_clean (FnReturnsAt g.H.Fn c.args.handler.now) (refused_at state p) p None c.args.tally.now.conflicts.items added.0 in
    let heeded = left_in state p c.args.noop (rw (← is) (heeded_clean c.args.noop (refused_at state p) p.flags p.entry.change None added.0)) in
    (rw heeded.0 (carries_written (FnReturnsAt g.H.Fn c.args.handler.now) state p None _ _ is table.0 _ table.1 settled added.2 (rw c.in_ok-key.ensures at c.in_ok-note.ensures.reported)), rw heeded.1 (omega arith))

pub returns-clause-caused : goal.returns-clause-caused
returns-clause-caused g c = λ honest.
    let Is = IsEntryWrite (header_in (rc_str_bytes c.args.table.now) c.args.entry.now) c.args.entry.now.entry in
    caused_so c.apply_at_row.result _ _ (λ why by. g.B.Rows.fails_then Is _ _ _ _ why (rw c.as_str.ensures.value at c.in_ok-add_row.ensures.kept) c.apply_at_row.ensures.kept honest by) (c.apply_at_row.ensures.caused honest)

pub returns-clause-kept : goal.returns-clause-kept
returns-clause-kept g c =
    g.B.Rows.keeps_then _ _ _ _ _ (rw c.as_str.ensures.value at c.in_ok-add_row.ensures.kept) c.apply_at_row.ensures.kept
