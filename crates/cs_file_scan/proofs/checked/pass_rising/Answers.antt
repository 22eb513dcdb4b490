-- `checked::pass_rising`: the loop, and what it ensures.
use Rattle.std.proofs.Common.{◌+◌, refl, arith}
use Rattle.cs_file_scan.proofs.PassLemmas.{PassesSoFar-none, PassesSoFar-next, PassesSoFar-passes, entry_moves}
use Rattle.cs_file_scan.proofs.checked.pass_rising.Goals as goal

pub entries-init : goal.entries-init
entries-init g c = PassesSoFar-none (g.V.Visit.entry_text c.args.flags.now) (g.V.Visit.written c.args.visitor.now) c.args.file.now c.args.at c.args.flags.now c.requires.within

pub entries-smaller : goal.entries-smaller
entries-smaller g c =
    let v = g.V.Visit in
    let here = c.has_entry.ensures.0 c.if-has_entry.true in
    omega (
      arith,
      here.within,
      entry_moves (v.entry_text c.args.flags.now) (v.written c.entries.visitor) (v.written c.pass_entry.new.visitor) c.args.file.now c.entries.passed.end c.args.flags.now c.in-Some.number c.in-Some.end
          (rw c.in-Some.is at c.in_ok-number.ensures) here.within,
    )

pub entries-preserved : goal.entries-preserved
entries-preserved g c =
    let v = g.V.Visit in
    PassesSoFar-next (v.entry_text c.args.flags.now) (v.written c.args.visitor.now) (v.written c.entries.visitor) c.args.file.now c.args.at c.args.flags.now c.entries.passed c.entries.last c.entries.invariant c.entries-test.true
    (c.has_entry.ensures.0 c.if-has_entry.true).within (v.written c.pass_entry.new.visitor) c.in-Some.number (record { count = c.entries.passed.count + 1; end = c.in-Some.end; rises = c.rises_to.result })
    (rw c.in-Some.is at c.in_ok-number.ensures) refl c.rises_to.ensures.0

pub returns-else-has_entry : goal.returns-else-has_entry
returns-else-has_entry g c = PassesSoFar-passes (g.V.Visit.entry_text c.args.flags.now) (g.V.Visit.written c.args.visitor.now) (g.V.Visit.written c.entries.visitor) c.args.file.now c.args.at c.args.flags.now c.entries.passed c.entries.last c.entries.invariant

pub returns-after-entries : goal.returns-after-entries
returns-after-entries g c = PassesSoFar-passes (g.V.Visit.entry_text c.args.flags.now) (g.V.Visit.written c.args.visitor.now) (g.V.Visit.written c.entries.visitor) c.args.file.now c.args.at c.args.flags.now c.entries.passed c.entries.last c.entries.invariant
