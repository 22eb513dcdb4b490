-- `many::join_files`: the invariant of the loop, the file that is at fault.
use Rattle.std.proofs.Common.{List, ℕ, subst, arith}
use Rattle.cs_value.specs.Refusals.{Refuses}
use Rattle.cs_changegroup.specs.Adding.{AddFails, HasJoined}
use Rattle.cs_changegroup.proofs.FoldLemmas.{IsFolded-next, IsFolded-none, IsFolded-refused, no_groups}
use Rattle.cs_changegroup.proofs.many.join_files.Goals as goal

pub loop-index-init : goal.loop-index-init
loop-index-init c = IsFolded-none c.args.files.now c.args.lengths.now c.in-Ok.tables (no_groups c.args.files.now c.in-Ok.tables c.in-Ok.ensures.0 c.in-Ok.ensures.1)

pub returns-in-Err-add_file-clause-refused : goal.returns-in-Err-add_file-clause-refused
returns-in-Err-add_file-clause-refused c =
    let so = c.loop-index.invariant in
    let why = subst (λ (f : List ℕ). Refuses (AddFails so.groups f) c.in-Err-add_file.error) c.split_at.ensures.front (c.in-Err-add_file.ensures.refused so.groups so.has) in
    rw c.at_index-error.ensures (IsFolded-refused c.args.files.now c.args.lengths.now c.loop-index.index c.loop-index.base c.loop-index.tables c.loop-index.rest.now so c.loop-index-test.true c.in-Err-add_file.error why)

pub loop-index-preserved : goal.loop-index-preserved
loop-index-preserved c =
    let so = c.loop-index.invariant in
    let joined_is = subst (λ (f : List ℕ). HasJoined c.args.files.now so.groups f c.add_file.new.self) c.split_at.ensures.front (c.in_default.ensures.joined so.groups so.has) in
    rw c.split_at.ensures.back (IsFolded-next c.args.files.now c.args.lengths.now c.loop-index.index c.loop-index.base c.loop-index.tables c.loop-index.rest.now so c.loop-index-test.true c.add_file.new.self (omega (arith, c.if-length-rest.false)) joined_is)
