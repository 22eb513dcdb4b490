-- `entry::apply_at_row`: the clauses `comes_to`, `caused` and `kept`.
use Rattle.std.proofs.Common.{◌≡◌, ℕ, Bool, List, refl, sym, ap, ◌∙◌, arith}
use Rattle.std.specs.Fn.{FnReturnsAt}
use Rattle.std.proofs.lemmas.Result.{err_from_is_err_and}
use Rattle.std.specs.Rc.{rc_str_bytes}
use Rattle.std.specs.FinMap.{get}
use Rattle.cs_value.specs.State.{State}
use Rattle.cs_value.proofs.StateLemmas.{table_of_schema}
use Rattle.cs_apply_conflict_kinds.specs.Conflicts.{is_refused, row_after}
use Rattle.cs_apply_conflict_kinds.specs.Applying.{current, refused_at}
use Rattle.cs_apply_engine.specs.Steps.{header_in, placed_in_table, with_result}
use Rattle.cs_apply_engine.specs.Writes.{IsEntryWrite}
use Rattle.cs_apply_engine.proofs.CauseLemmas.{caused_on, entry_write, rows_caused_on}
use Rattle.cs_apply_engine.proofs.CarryLemmas.{carries_written, carries_passed, carries_ignored, stops_here}
use Rattle.cs_apply_engine.proofs.EntryLemmas.{carried_out}
use Rattle.cs_apply_engine.proofs.HeededLemmas.{left_in, left_out}
use Rattle.cs_apply_engine.proofs.entry.apply_at_row.Goals as goal

pub returns-in-Ended-clause-comes_to : goal.returns-in-Ended-clause-comes_to
returns-in-Ended-clause-comes_to g c = λ honest.
    let state = g.B.Rows.state c.args.rows.now in
    let p = placed_in_table (rc_str_bytes c.args.table.now) c.args.entry.now in
    let rule : is_refused c.args.refuses.now p.flags p.entry.change ≡ refused_at state p = ap (λ (rules : List Bool). is_refused rules p.flags p.entry.change) (c.requires.rules (c.in_ok-current.ensures.was_honest honest)) in
    let found = rw c.as_str-name.ensures.value at c.in_ok-current.ensures.found honest in
    let is : c.in_ok-current.current ≡ current state p = rw c.requires.key at found in
    let stopped = rw (c.as_str-name.ensures.value, c.as_ref.ensures.value, c.in-Ended.is, rule) at c.in_ok-settle.ensures.settles in
    let heeded = left_in state p c.args.noop (sym (rw (c.as_ref.ensures.value, c.in-Ended.is, is, rule) at c.in_ok-settle.ensures.ignored)) in
    rw heeded.0 (stops_here (FnReturnsAt g.H.Fn c.args.handler.now) state p c.in_ok-current.current _ _ is _ stopped, c.in_ok-current.ensures.same honest)

pub returns-in-Passed-clause-comes_to : goal.returns-in-Passed-clause-comes_to
returns-in-Passed-clause-comes_to g c = λ honest.
    let state = g.B.Rows.state c.args.rows.now in
    let p = placed_in_table (rc_str_bytes c.args.table.now) c.args.entry.now in
    let rule : is_refused c.args.refuses.now p.flags p.entry.change ≡ refused_at state p = ap (λ (rules : List Bool). is_refused rules p.flags p.entry.change) (c.requires.rules (c.in_ok-current.ensures.was_honest honest)) in
    let found = rw c.as_str-name.ensures.value at c.in_ok-current.ensures.found honest in
    let is : c.in_ok-current.current ≡ current state p = rw c.requires.key at found in
    let settled = rw (c.as_str-name.ensures.value, c.as_ref.ensures.value, c.in-Passed.is, rule) at c.in_ok-settle.ensures.settles in
    let heeded = left_in state p c.args.noop (sym (rw (c.as_ref.ensures.value, c.in-Passed.is, is, rule) at c.in_ok-settle.ensures.ignored)) in
    (rw heeded.0 (carries_passed (FnReturnsAt g.H.Fn c.args.handler.now) state p c.in_ok-current.current _ _ is _ settled (c.in_ok-current.ensures.same honest) refl), rw heeded.1 (omega arith))

pub carry_out-requires-clause-found : goal.carry_out-requires-clause-found
carry_out-requires-clause-found g c =
    let p = placed_in_table (rc_str_bytes c.args.table.now) c.args.entry.now in
    let settled = rw (c.as_str-name.ensures.value, c.as_ref.ensures.value, c.in-Carried.is) at c.in_ok-settle.ensures.settles in
    (carried_out (FnReturnsAt g.H.Fn c.args.handler.now) (is_refused c.args.refuses.now p.flags p.entry.change) p c.in_ok-current.current _ _ settled).1

pub carry_out-requires-clause-obeys : goal.carry_out-requires-clause-obeys
carry_out-requires-clause-obeys g c = λ honest.
    let p = placed_in_table (rc_str_bytes c.args.table.now) c.args.entry.now in
    let settled = rw (c.as_str-name.ensures.value, c.as_ref.ensures.value, c.in-Carried.is) at c.in_ok-settle.ensures.settles in
    let kept = (carried_out (FnReturnsAt g.H.Fn c.args.handler.now) (is_refused c.args.refuses.now p.flags p.entry.change) p c.in_ok-current.current _ _ settled).0 in
    ap (λ (s : State). refused_at s p) (c.in_ok-current.ensures.same honest)
    ∙ ap (λ (rules : List Bool). is_refused rules p.flags p.entry.change) (sym (c.requires.rules (c.in_ok-current.ensures.was_honest honest)))
    ∙ kept

pub returns-in_ok-carry_out-in-Carried-clause-comes_to : goal.returns-in_ok-carry_out-in-Carried-clause-comes_to
returns-in_ok-carry_out-in-Carried-clause-comes_to g c = λ after.
    let honest = c.carry_out.ensures.was_honest after in
    let state = g.B.Rows.state c.args.rows.now in
    let p = placed_in_table (rc_str_bytes c.args.table.now) c.args.entry.now in
    let rule : is_refused c.args.refuses.now p.flags p.entry.change ≡ refused_at state p = ap (λ (rules : List Bool). is_refused rules p.flags p.entry.change) (c.requires.rules (c.in_ok-current.ensures.was_honest honest)) in
    let found = rw c.as_str-name.ensures.value at c.in_ok-current.ensures.found honest in
    let is : c.in_ok-current.current ≡ current state p = rw c.requires.key at found in
    let settled = rw (c.as_str-name.ensures.value, c.as_ref.ensures.value, c.in-Carried.is, rule) at c.in_ok-settle.ensures.settles in
    let heeded = left_in state p c.args.noop (sym (rw (c.as_ref.ensures.value, c.in-Carried.is, is, rule) at c.in_ok-settle.ensures.ignored)) in
    let has = c.requires.table (c.in_ok-current.ensures.was_honest honest) in
    let table = table_of_schema (get state (rc_str_bytes c.args.table.now)) has.schema has.found in
    let name = rc_str_bytes c.args.table.now in
    let left = row_after p.flags p.entry.change c.in_ok-current.current in
    let wrote = c.in_ok-carry_out-in-Carried.ensures.written after ∙ ap (λ (s : State). with_result s name c.args.key left) (c.in_ok-current.ensures.same honest) ∙ ap (λ (key : List ℕ). with_result state name key left) c.requires.key in
    (rw heeded.0 (carries_written (FnReturnsAt g.H.Fn c.args.handler.now) state p c.in_ok-current.current _ _ is table.0 _ table.1 settled wrote (rw c.requires.key at c.in_ok-carry_out-in-Carried.ensures.reported)), rw heeded.1 (omega arith))

pub returns-in-Ignored-clause-comes_to : goal.returns-in-Ignored-clause-comes_to
returns-in-Ignored-clause-comes_to g c = λ honest.
    let state = g.B.Rows.state c.args.rows.now in
    let p = placed_in_table (rc_str_bytes c.args.table.now) c.args.entry.now in
    let rule : is_refused c.args.refuses.now p.flags p.entry.change ≡ refused_at state p = ap (λ (rules : List Bool). is_refused rules p.flags p.entry.change) (c.requires.rules (c.in_ok-current.ensures.was_honest honest)) in
    let found = rw c.as_str-name.ensures.value at c.in_ok-current.ensures.found honest in
    let is : c.in_ok-current.current ≡ current state p = rw c.requires.key at found in
    let same = rw (c.as_str-name.ensures.value, c.as_ref.ensures.value, c.in-Ignored.is) at c.in_ok-settle.ensures.settles in
    let ignored = left_out state p c.args.noop (sym (rw (c.as_ref.ensures.value, c.in-Ignored.is, is, rule) at c.in_ok-settle.ensures.ignored)) in
    (rw ignored.0 (carries_ignored (FnReturnsAt g.H.Fn c.args.handler.now) state p c.in_ok-current.current _ _ is _ (c.in_ok-current.ensures.same honest) same refl), rw ignored.1 refl)

pub returns-in_err-current-clause-caused : goal.returns-in_err-current-clause-caused
returns-in_err-current-clause-caused g c = λ honest.
    rows_caused_on c.from_residual.result _ _ c.in_err-current.field-0.0 c.from_residual.ensures.1
    (λ why by. g.B.Rows.fails_so _ _ _ _ why (λ held write none. absurd none) by) (c.in_err-current.ensures.caused honest)

pub returns-in_err-current-clause-kept : goal.returns-in_err-current-clause-kept
returns-in_err-current-clause-kept g c =
    let p = err_from_is_err_and c.from_residual.result c.from_residual.ensures.1 in
    rw p.1 (g.B.Rows.keeps_so _ _ _ _ _ (λ held write h none. absurd none) c.in_err-current.ensures.kept)

pub returns-in_err-settle-clause-kept : goal.returns-in_err-settle-clause-kept
returns-in_err-settle-clause-kept g c =
    let Is = IsEntryWrite (header_in (rc_str_bytes c.args.table.now) c.args.entry.now) c.args.entry.now.entry in
    g.B.Rows.keeps_refused Is _ _ _ (g.B.Rows.keeps_so _ Is _ _ _ (λ held write h none. absurd none) c.in_ok-current.ensures.kept)

pub returns-in-Ended-clause-kept : goal.returns-in-Ended-clause-kept
returns-in-Ended-clause-kept g c =
    g.B.Rows.keeps_so _ _ _ _ _ (λ held write h none. absurd none) c.in_ok-current.ensures.kept

pub returns-in-Passed-clause-kept : goal.returns-in-Passed-clause-kept
returns-in-Passed-clause-kept g c =
    g.B.Rows.keeps_so _ _ _ _ _ (λ held write h none. absurd none) c.in_ok-current.ensures.kept

pub returns-in-Ignored-clause-kept : goal.returns-in-Ignored-clause-kept
returns-in-Ignored-clause-kept g c =
    g.B.Rows.keeps_so _ _ _ _ _ (λ held write h none. absurd none) c.in_ok-current.ensures.kept

pub returns-in_err-carry_out-in-Carried-clause-caused : goal.returns-in_err-carry_out-in-Carried-clause-caused
returns-in_err-carry_out-in-Carried-clause-caused g c = λ honest.
    let Is = IsEntryWrite (header_in (rc_str_bytes c.args.table.now) c.args.entry.now) c.args.entry.now.entry in
    let before = c.carry_out.ensures.was_honest honest in
    let header = header_in (rc_str_bytes c.args.table.now) c.args.entry.now in
    let found = rw c.as_str-name.ensures.value at c.in_ok-current.ensures.found before in
    caused_on c.from_residual-in_err-carry_out-in-Carried.result _ _ c.in_err-carry_out-in-Carried.field-0.0 c.from_residual-in_err-carry_out-in-Carried.ensures.1
    (λ why by. g.B.Rows.fails_then Is _ _ _ _ why (g.B.Rows.keeps_so _ Is _ _ _ (λ held write h none. absurd none) c.in_ok-current.ensures.kept)
    (g.B.Rows.keeps_so _ Is _ _ _ (λ held write h is. entry_write header c.args.entry.now.entry _ _ held write c.args.key c.in_ok-current.current (c.in_ok-current.ensures.same before) c.requires.key (sym found) is) c.in_err-carry_out-in-Carried.ensures.kept) honest
    (g.B.Rows.fails_so _ _ _ _ why (λ held write is. entry_write header c.args.entry.now.entry _ _ held write c.args.key c.in_ok-current.current (c.in_ok-current.ensures.same before) c.requires.key (sym found) is) by)) (c.in_err-carry_out-in-Carried.ensures.caused honest)

pub returns-in_err-carry_out-in-Carried-clause-kept : goal.returns-in_err-carry_out-in-Carried-clause-kept
returns-in_err-carry_out-in-Carried-clause-kept g c =
    let Is = IsEntryWrite (header_in (rc_str_bytes c.args.table.now) c.args.entry.now) c.args.entry.now.entry in
    let p = err_from_is_err_and c.from_residual-in_err-carry_out-in-Carried.result c.from_residual-in_err-carry_out-in-Carried.ensures.1 in
    rw p.1 (g.B.Rows.keeps_then Is _ _ _ _ (g.B.Rows.keeps_so _ Is _ _ _ (λ held write h none. absurd none) c.in_ok-current.ensures.kept) (g.B.Rows.keeps_so _ Is _ _ _ (λ held write honest is.
    let before = c.carry_out.ensures.was_honest honest in
    let header = header_in (rc_str_bytes c.args.table.now) c.args.entry.now in
    let found = rw c.as_str-name.ensures.value at c.in_ok-current.ensures.found before in
    entry_write header c.args.entry.now.entry _ _ held write c.args.key c.in_ok-current.current (c.in_ok-current.ensures.same before) c.requires.key (sym found) is) c.in_err-carry_out-in-Carried.ensures.kept))

pub returns-in_ok-carry_out-in-Carried-clause-kept : goal.returns-in_ok-carry_out-in-Carried-clause-kept
returns-in_ok-carry_out-in-Carried-clause-kept g c =
    let Is = IsEntryWrite (header_in (rc_str_bytes c.args.table.now) c.args.entry.now) c.args.entry.now.entry in
    g.B.Rows.keeps_then Is _ _ _ _ (g.B.Rows.keeps_so _ Is _ _ _ (λ held write h none. absurd none) c.in_ok-current.ensures.kept) (g.B.Rows.keeps_so _ Is _ _ _ (λ held write honest is.
    let before = c.carry_out.ensures.was_honest honest in
    let header = header_in (rc_str_bytes c.args.table.now) c.args.entry.now in
    let found = rw c.as_str-name.ensures.value at c.in_ok-current.ensures.found before in
    entry_write header c.args.entry.now.entry _ _ held write c.args.key c.in_ok-current.current (c.in_ok-current.ensures.same before) c.requires.key (sym found) is) c.in_ok-carry_out-in-Carried.ensures.kept)
