-- `entry_ref::EntryRef::write_inverse_to`: what `write_with_operation` requires, the clause `ok`.
use Rattle.std.proofs.Common.{inl, inr, refl, length, ap, arith}
use Rattle.std.proofs.lemmas.Result.{on_ok_weaker}
use Rattle.cs_wire_entries.proofs.EntryLemmas.{entry_bytes_some}
use Rattle.cs_wire_entries.proofs.ShownLemmas.{AppendsInverse-row}
use Rattle.cs_wire_entries.proofs.entry_ref.EntryRef.write_inverse_to.Goals as goal

pub write_with_operation-requires : goal.write_with_operation-requires
write_with_operation-requires c = omega (arith, ap length c.requires, entry_bytes_some c.args.self.now.entry)

pub write_with_operation-requires-in-Delete : goal.write_with_operation-requires-in-Delete
write_with_operation-requires-in-Delete c = omega (arith, ap length c.requires, entry_bytes_some c.args.self.now.entry)

pub returns-in-Insert-clause-ok : goal.returns-in-Insert-clause-ok
returns-in-Insert-clause-ok c =
    let i = c.self.inside in
    on_ok_weaker c.write_with_operation.result (λ grown. AppendsInverse-row i.flags.now i.operation i.exchanged i.indirect i.first i.second c.self.invariant (inl c.in-Insert.is) 0x09 (rw c.in-Insert.is refl) c.args.self.now c.self.view_is c.args.bytes.now c.args.out.now.items _ c.requires grown) c.write_with_operation.ensures.ok

pub returns-in-Delete-clause-ok : goal.returns-in-Delete-clause-ok
returns-in-Delete-clause-ok c =
    let i = c.self.inside in
    on_ok_weaker c.write_with_operation-in-Delete.result (λ grown. AppendsInverse-row i.flags.now i.operation i.exchanged i.indirect i.first i.second c.self.invariant (inr c.in-Delete.is) 0x12 (rw c.in-Delete.is refl) c.args.self.now c.self.view_is c.args.bytes.now c.args.out.now.items _ c.requires grown) c.write_with_operation-in-Delete.ensures.ok

pub returns-in-Update-clause-ok : goal.returns-in-Update-clause-ok
returns-in-Update-clause-ok c =
    let inverse = c.inverse.ensures in
    on_ok_weaker c.write_to.result (λ grown. record {
      inverse = c.inverse.result.entry;
      is_entry = rw inverse.flags at inverse.well_formed;
      undoes = inverse.inverse;
      written = grown;
    }) c.write_to.ensures.ok
