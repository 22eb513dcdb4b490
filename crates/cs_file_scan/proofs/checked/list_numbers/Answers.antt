-- `checked::list_numbers`: the loop, and what it ensures.
use Rattle.std.proofs.Common.{arith}
use Rattle.std.proofs.lemmas.Bool.{iff_false}
use Rattle.cs_file_scan.proofs.PassLemmas.{Lists-none, ListedSoFar-next, ListedSoFar-all, entry_there, one_left}
use Rattle.cs_file_scan.proofs.checked.list_numbers.Goals as goal

pub loop-init : goal.loop-init
loop-init c = Lists-none c.args.file.now c.args.at c.args.flags.now c.args.count c.args.keys.now.items

pub key_number-requires : goal.key_number-requires
key_number-requires c = rw c.in-Ok.ensures.flags c.requires.columns

pub returns-then-not-has_entry : goal.returns-then-not-has_entry
returns-then-not-has_entry c = λ numbers end so many.
    let lists = c.loop.invariant numbers end so many in
    absurd (iff_false c.has_entry.ensures c.if-not-has_entry.true (entry_there c.args.file.now c.args.flags.now numbers end c.args.keys.now.items c.loop.keys.items c.loop.counter c.loop.place lists (omega (arith, c.loop-test.true, many))))

pub returns-in_default : goal.returns-in_default
returns-in_default c = λ numbers end so many.
    let next = one_left c.args.file.now c.args.flags.now numbers end c.args.keys.now.items c.loop.keys.items c.loop.counter c.loop.place (c.loop.invariant numbers end so many) (omega (arith, c.loop-test.true, many)) in
    absurd (c.in_default.ensures.only next.0 _ next.3 next.4)

pub loop-preserved : goal.loop-preserved
loop-preserved c = λ numbers end so many.
    let read = c.in-Ok.ensures in
    ListedSoFar-next c.args.file.now c.args.flags.now numbers end c.args.keys.now.items c.loop.keys.items c.loop.counter c.loop.place (c.loop.invariant numbers end so many) (omega (arith, c.loop-test.true, many)) c.in-Ok.seen c.in_ok-key_number.field-0
    c.in-Ok.end c.push.new.self.items read.flags read.found read.only c.in_ok-key_number.ensures c.in_ok-push.ensures.items

pub returns : goal.returns
returns c = λ numbers end so many.
    ListedSoFar-all c.args.file.now c.args.flags.now numbers end c.args.keys.now.items c.loop.keys.items c.loop.counter c.loop.place (c.loop.invariant numbers end so many) (omega (arith, c.loop-test.false, many))
