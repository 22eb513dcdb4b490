-- `calls::carry_out`: a read is answered or refused, an edit is refused before or after its answer is made, or a file is
-- applied.
use Rattle.std.proofs.lemmas.Result.{err_from_is_err_and}
use Rattle.sqlite.specs.Held.{state}
use Rattle.cs_calls_executor.proofs.CallLemmas.{edit_made_carries, edit_refused_carries, read_refused_carries, sent_carries, still_inside, unsent_carries, unstarted_carries}
use Rattle.cs_calls_executor.proofs.calls.carry_out.Goals as goal

pub returns-in_err-answer-in-Read : goal.returns-in_err-answer-in-Read
returns-in_err-answer-in-Read g c =
    let old = state g.S.Store c.args.transaction.now in
    let inside = still_inside old c.has_ended.result c.has_ended.ensures.value c.if-has_ended.false in
    let p = err_from_is_err_and c.from_residual.result c.from_residual.ensures.1 in
    rw (p.1, p.2, c.in-Read.is) (read_refused_carries old (state g.S.Store c.read.new.transaction) c.store_law.ensures.settled inside c.in-Read.call c.in_err-answer-in-Read.field-0.0 c.in_err-answer-in-Read.ensures)

pub returns-in_err-bytes-in-Read : goal.returns-in_err-bytes-in-Read
returns-in_err-bytes-in-Read g c =
    let old = state g.S.Store c.args.transaction.now in
    let inside = still_inside old c.has_ended.result c.has_ended.ensures.value c.if-has_ended.false in
    let p = err_from_is_err_and c.from_residual-in_err-bytes-in-Read.result c.from_residual-in_err-bytes-in-Read.ensures.1 in
    rw (p.1, p.2, c.in-Read.is) (unsent_carries old (state g.S.Store c.read.new.transaction) c.store_law.ensures.settled inside c.in-Read.call c.in_ok-answer-in-Read.answer c.in_ok-answer-in-Read.ensures c.in_err-bytes-in-Read.field-0.0 c.in_err-bytes-in-Read.ensures.err)

pub returns-in_ok-bytes-in-Read : goal.returns-in_ok-bytes-in-Read
returns-in_ok-bytes-in-Read g c =
    let old = state g.S.Store c.args.transaction.now in
    let inside = still_inside old c.has_ended.result c.has_ended.ensures.value c.if-has_ended.false in
    rw c.in-Read.is (sent_carries old (state g.S.Store c.read.new.transaction) c.store_law.ensures.settled inside c.in-Read.call c.in_ok-answer-in-Read.answer c.in_ok-answer-in-Read.ensures c.in_ok-bytes-in-Read.bytes c.new-written.result c.new-written.ensures.items c.in_ok-bytes-in-Read.ensures.ok)

pub returns-in_err-bytes-in-Edit : goal.returns-in_err-bytes-in-Edit
returns-in_err-bytes-in-Edit g c =
    let old = state g.S.Store c.args.transaction.now in
    let inside = still_inside old c.has_ended.result c.has_ended.ensures.value c.if-has_ended.false in
    let p = err_from_is_err_and c.from_residual-in_err-bytes-in-Edit.result c.from_residual-in_err-bytes-in-Edit.ensures.1 in
    rw (p.1, p.2) (unstarted_carries old c.args.call c.in_err-bytes-in-Edit.field-0.0 c.store_law.ensures.settled inside c.in_err-bytes-in-Edit.ensures.err)

pub returns-in_err-written-in-Edit : goal.returns-in_err-written-in-Edit
returns-in_err-written-in-Edit g c =
    let old = state g.S.Store c.args.transaction.now in
    let inside = still_inside old c.has_ended.result c.has_ended.ensures.value c.if-has_ended.false in
    let p = err_from_is_err_and c.from_residual-in_err-written-in-Edit.result c.from_residual-in_err-written-in-Edit.ensures.1 in
    rw (p.1, p.2, c.in-Edit.is) (edit_refused_carries old (state g.S.Store c.edit.new.transaction) c.store_law.ensures.settled inside c.in-Edit.call c.in_err-written-in-Edit.field-0.0 c.in_err-written-in-Edit.ensures)

pub returns-in_ok-written-in-Edit : goal.returns-in_ok-written-in-Edit
returns-in_ok-written-in-Edit g c =
    let old = state g.S.Store c.args.transaction.now in
    let inside = still_inside old c.has_ended.result c.has_ended.ensures.value c.if-has_ended.false in
    rw c.in-Edit.is (edit_made_carries old (state g.S.Store c.edit.new.transaction) c.store_law.ensures.settled inside c.in-Edit.call c.in_ok-written-in-Edit.written c.in_ok-bytes-in-Edit.bytes c.in_ok-bytes-in-Edit.ensures.ok c.in_ok-written-in-Edit.ensures)

pub returns-in-Apply : goal.returns-in-Apply
returns-in-Apply g c =
    let inside = still_inside (state g.S.Store c.args.transaction.now) c.has_ended.result c.has_ended.ensures.value c.if-has_ended.false in
    rw c.in-Apply.is (c.apply.ensures inside)
