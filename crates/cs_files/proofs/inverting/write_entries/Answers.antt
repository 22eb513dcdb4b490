-- `inverting::write_entries`: the invariant of the loop, what it ensures.
use Rattle.std.proofs.Common.{◌++◌, refl, sym, ap, ◌∙◌, arith}
use Rattle.std.proofs.lemmas.List.Folds.{flat_map-map}
use Rattle.cs_wire.specs.Entry.{entry_bytes}
use Rattle.cs_wire.specs.Views.{inverse_entry}
use Rattle.cs_files.proofs.InvertLemmas.{inverted_next}
use Rattle.cs_files.proofs.PassLemmas.{WritesEntries-none, WritesEntries-all}
use Rattle.cs_files.proofs.inverting.write_entries.Goals as goal

pub entries-init : goal.entries-init
entries-init c = (
  omega arith,
  refl,
  λ entries groups left. WritesEntries-none (λ e. entry_bytes (inverse_entry c.args.tables.now.flags e)) c.args.out.now.items c.args.tables.now entries groups left,
)

pub entries-preserved : goal.entries-preserved
entries-preserved c = (
  omega (arith, c.entries.invariant.0, c.in-Some.ensures.ahead),
  c.in-Some.ensures.file ∙ c.entries.invariant.1,
  λ entries groups left.
      let so = c.entries.invariant.2 entries groups left in
      let is = c.in-Some.ensures.next so.passed.others groups so.passed.are_left in
      let inverse = c.inverted.ensures in
      inverted_next c.args.tables.now.flags c.args.out.now.items c.entries.out.items c.write_to.new.out.items c.entries.tables c.next_entry.new.self entries groups so c.in-Some.entry c.inverted.result is inverse.flags inverse.well_formed
      inverse.inverse c.in_ok-write_to.ensures.ok,
)

pub returns-clause-written : goal.returns-clause-written
returns-clause-written c = λ entries groups left.
    let so = c.entries.invariant.2 entries groups left in
    let flags = c.args.tables.now.flags in
    let none = c.in_default.ensures.next so.passed.others groups so.passed.are_left in
    WritesEntries-all (λ e. entry_bytes (inverse_entry flags e)) flags c.args.out.now.items c.entries.out.items c.entries.tables entries groups so none.0
    ∙ ap (λ l. c.args.out.now.items ++ l) (sym (flat_map-map entry_bytes (inverse_entry flags) entries))

pub returns-clause-left : goal.returns-clause-left
returns-clause-left c = λ entries groups left.
    let so = c.entries.invariant.2 entries groups left in
    (c.in_default.ensures.next so.passed.others groups so.passed.are_left).2
