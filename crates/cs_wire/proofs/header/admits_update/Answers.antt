-- `header::admits_update`: what it ensures.
use Rattle.std.proofs.Common.{inl, inr, arith}
use Rattle.std.proofs.lemmas.List.{get_or_read}
use Rattle.cs_value.specs.declared.value.OwnedField.TheVariants.{Undefined}
use Rattle.cs_wire_entries.proofs.EntryLemmas.{length-IsKeyedUpdate}
use Rattle.cs_wire.proofs.AdmitLemmas.{update_of_columns, update_column}
use Rattle.cs_wire.proofs.header.admits_update.Goals as goal

pub returns-then-flags-old : goal.returns-then-flags-old
returns-then-flags-old c = (
  λ e. absurd cc,
  λ h.
      let same = length-IsKeyedUpdate c.args.flags.now c.args.old.now c.args.new.now h.2 in
      elim c.then-flags-old.either [ inl longer ↦ absurd (longer same.0) | inr longer ↦ absurd (longer.1 same.1) ],
)

pub returns-then-not-admits_fields : goal.returns-then-not-admits_fields
returns-then-not-admits_fields c =
    let old = c.args.old.now in
    let new = c.args.new.now in
    let before = get_or_read old _ _ (omega arith) c.index-old-column.is Undefined in
    let after = get_or_read new _ _ (omega arith) c.index-new-column.is Undefined in
    (λ e. absurd cc, λ h. c.if-not-admits_fields.ensures.admitted.1 (rw (before, after) (update_column c.args.flags.now old new c.loop-column.column h.2 c.loop-column-test.true)))

pub returns : goal.returns
returns c = (λ e. update_of_columns c.args.flags.now c.args.old.now c.args.new.now c.if-flags-old.false c.if-flags-new.false (λ k lt. c.loop-column.invariant k (omega arith)), λ h. cc)
