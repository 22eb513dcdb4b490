-- `selecting::write_entries`: the invariant of the loop, the clauses `written` and `left`.
use Rattle.std.proofs.Common.{refl, ◌∙◌, arith}
use Rattle.cs_wire.specs.Entry.{entry_bytes}
use Rattle.cs_files.proofs.PassLemmas.{WritesEntries-none, WritesEntries-next, WritesEntries-all}
use Rattle.cs_files.proofs.selecting.write_entries.Goals as goal

pub entries-init : goal.entries-init
entries-init c = (
  omega arith,
  refl,
  λ entries groups left. WritesEntries-none entry_bytes c.args.out.now.items c.args.tables.now entries groups left,
)

pub entries-preserved : goal.entries-preserved
entries-preserved c = (
  omega (arith, c.entries.invariant.0, c.in-Some.ensures.ahead),
  c.in-Some.ensures.file ∙ c.entries.invariant.1,
  λ entries groups left.
      let so = c.entries.invariant.2 entries groups left in
      WritesEntries-next entry_bytes c.args.tables.now.flags c.args.out.now.items c.entries.out.items c.entries.tables entries groups so c.write_to.new.out.items c.next_entry.new.self c.in-Some.entry
      (c.in-Some.ensures.next so.passed.others groups so.passed.are_left) c.in_ok-write_to.ensures.ok,
)

pub returns-clause-written : goal.returns-clause-written
returns-clause-written c = λ entries groups left.
    let so = c.entries.invariant.2 entries groups left in
    let none = c.in_default.ensures.next so.passed.others groups so.passed.are_left in
    WritesEntries-all entry_bytes c.args.tables.now.flags c.args.out.now.items c.entries.out.items c.entries.tables entries groups so none.0

pub returns-clause-left : goal.returns-clause-left
returns-clause-left c = λ entries groups left.
    let so = c.entries.invariant.2 entries groups left in
    (c.in_default.ensures.next so.passed.others groups so.passed.are_left).2
