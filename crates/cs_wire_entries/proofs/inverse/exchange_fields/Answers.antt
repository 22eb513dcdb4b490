-- `inverse::exchange_fields`: the invariant of the loop at `column`, the clauses `old` and `new`.
use Rattle.std.proofs.Common.{set, sym, ap, ◌∙◌, arith}
use Rattle.std.proofs.Math.ListN.{length-set}
use Rattle.cs_wire_entries.proofs.InverseLemmas.{ExchangedSoFar-none, ExchangedSoFar-key, ExchangedSoFar-field, ExchangedSoFar-all}
use Rattle.cs_wire_entries.proofs.inverse.exchange_fields.Goals as goal
use Rattle.cs_wire_entries.proofs.inverse.exchange_fields.Goals.{then-flag-eq0, else-flag-eq0}

pub loop-column-init : goal.loop-column-init
loop-column-init c = record {
  old = ExchangedSoFar-none c.args.flags.now c.args.old.now c.args.new.now;
  new = ExchangedSoFar-none c.args.flags.now c.args.new.now c.args.old.now;
  old_width = c.requires.old;
  new_width = c.requires.new;
}

pub loop-column-preserved : goal.loop-column-preserved
loop-column-preserved c =
    let flags = c.args.flags.now in
    let i = c.loop-column.column in
    let so = c.loop-column.invariant in
    let lt = c.loop-column-test.true in
    elim c.if-flag-eq0.branch [
      | then-flag-eq0 w ↦
          let x = w.index-old-column.result in
          let y = w.index-new-column.result in
          let old_is = w.old-is ∙ ap (set c.loop-column.old i) (w.swap.ensures.x_after ∙ sym w.index-new-column.is) in
          let new_is = w.new-is ∙ ap (set c.loop-column.new i) (w.swap.ensures.y_after ∙ sym w.index-old-column.is) in
          rw (old_is, new_is) (record {
            old = ExchangedSoFar-field flags c.args.old.now c.args.new.now i c.loop-column.old c.loop-column.new y x so.old so.old_width so.new_width lt w.if-flag-eq0.true (sym w.index-new-column.is);
            new = ExchangedSoFar-field flags c.args.new.now c.args.old.now i c.loop-column.new c.loop-column.old x y so.new so.new_width so.old_width lt w.if-flag-eq0.true (sym w.index-old-column.is);
            old_width = so.old_width ∙ sym (length-set c.loop-column.old i y);
            new_width = so.new_width ∙ sym (length-set c.loop-column.new i x);
          })
      | else-flag-eq0 w ↦ rw (w.old-is, w.new-is) (record {
        old = ExchangedSoFar-key flags c.args.old.now c.args.new.now i c.loop-column.old c.loop-column.new so.old so.old_width so.new_width lt w.if-flag-eq0.false;
        new = ExchangedSoFar-key flags c.args.new.now c.args.old.now i c.loop-column.new c.loop-column.old so.new so.new_width so.old_width lt w.if-flag-eq0.false;
        old_width = so.old_width;
        new_width = so.new_width;
      })
    ]

pub returns-clause-old : goal.returns-clause-old
returns-clause-old c =
    let so = c.loop-column.invariant in
    ExchangedSoFar-all c.args.flags.now c.args.old.now c.args.new.now c.loop-column.column c.loop-column.old c.loop-column.new so.old c.loop-column-test.false (omega (arith, so.old_width))

pub returns-clause-new : goal.returns-clause-new
returns-clause-new c =
    let so = c.loop-column.invariant in
    ExchangedSoFar-all c.args.flags.now c.args.new.now c.args.old.now c.loop-column.column c.loop-column.new c.loop-column.old so.new c.loop-column-test.false (omega (arith, so.new_width))
