-- `reader::record::pass_record`: the invariant of the loop, what is asked of calls, what it ensures.
use Rattle.std.proofs.lemmas.Result.{err_from_is_err_and}
use Rattle.cs_wire_entries.specs.Reading.{wants_in}
use Rattle.cs_wire_entries.proofs.FieldsLemmas.{has_next, FieldsSoFar-refused, Passed-none, Passed-wants, Passed-next, Passed-found, Passed-only, Passed-forward}
use Rattle.cs_wire_entries.proofs.ItemLemmas.{next_want, wants_in-none}
use Rattle.cs_wire_entries.proofs.reader.record.pass_record.Goals as goal

pub loop-flag-init : goal.loop-flag-init
loop-flag-init c = Passed-none (wants_in c.args.columns c.args.flags.now) c.args.file.now c.args.at c.requires

pub read_wanted-requires : goal.read_wanted-requires
read_wanted-requires c = c.loop-flag.invariant.so_far.stands.within

pub returns-in_err-behind-clause-only : goal.returns-in_err-behind-clause-only
returns-in_err-behind-clause-only c = λ all rest h met e.
    let next = Passed-wants c.loop-flag.invariant _ _ (next_want c.loop-flag.left c.args.flags.now c.loop-flag.flag-index _ _ c.loop-flag-test.true c.next-want.ensures) in
    let n = has_next c.loop-flag.invariant.so_far next all rest h met e in
    absurd (c.in_err-behind.ensures.only n.field n.rest n.is_field n.met n.spelled)

pub returns-in_err-behind-clause-fault : goal.returns-in_err-behind-clause-fault
returns-in_err-behind-clause-fault c =
    let p = err_from_is_err_and c.from_residual.result c.from_residual.ensures.1 in
    let next = Passed-wants c.loop-flag.invariant _ _ (next_want c.loop-flag.left c.args.flags.now c.loop-flag.flag-index _ _ c.loop-flag-test.true c.next-want.ensures) in
    rw (p.1, p.2) (FieldsSoFar-refused c.loop-flag.invariant.so_far next _ _ c.in_err-behind.ensures.fault)

pub loop-flag-preserved : goal.loop-flag-preserved
loop-flag-preserved c =
    Passed-next c.loop-flag.invariant _ _ (next_want c.loop-flag.left c.args.flags.now c.loop-flag.flag-index _ _ c.loop-flag-test.true c.next-want.ensures)
    _ c.in_ok-behind.behind c.in_ok-behind.ensures.found c.in_ok-behind.ensures.only

pub returns-clause-forward : goal.returns-clause-forward
returns-clause-forward c = Passed-forward c.loop-flag.invariant c.requires

pub returns-clause-found : goal.returns-clause-found
returns-clause-found c = Passed-found c.loop-flag.invariant (wants_in-none c.loop-flag.left c.args.flags.now c.loop-flag.flag-index c.loop-flag-test.false)

pub returns-clause-only : goal.returns-clause-only
returns-clause-only c = Passed-only c.loop-flag.invariant (wants_in-none c.loop-flag.left c.args.flags.now c.loop-flag.flag-index c.loop-flag-test.false)
