-- `spelled::front_field`: what it ensures.
use Rattle.std.proofs.Common.{ℕ, ap, sym, ◌∙◌, drop, arith}
use Rattle.std.proofs.lemmas.List.{take_all, length-drop}
use Rattle.cs_value.specs.declared.value.OwnedField.{OwnedField}
use Rattle.cs_value.proofs.ByteLists.{AreBytes-from_each}
use Rattle.cs_wire_entries.proofs.ItemLemmas.{front_is, front_none}
use Rattle.cs_wire_entries.proofs.spelled.front_field.Goals as goal

pub returns-in-Ok-clause-field : goal.returns-in-Ok-clause-field
returns-in-Ok-clause-field c =
    let found = c.in-Ok.ensures.found in
    sym (ap (λ (x : OwnedField × ℕ). x.0) (front_is c.args.bytes.now _ c.in-Ok.used found.0 found.1))

pub returns-in-Ok-clause-rest : goal.returns-in-Ok-clause-rest
returns-in-Ok-clause-rest c =
    let found = c.in-Ok.ensures.found in
    take_all _ (drop c.in-Ok.used c.args.bytes.now) (omega (arith, length-drop c.in-Ok.used c.args.bytes.now))
    ∙ sym (ap (λ (x : OwnedField × ℕ). drop x.1 c.args.bytes.now) (front_is c.args.bytes.now _ c.in-Ok.used found.0 found.1))

pub returns-in-Err-clause-field : goal.returns-in-Err-clause-field
returns-in-Err-clause-field c =
    sym (ap (λ (x : OwnedField × ℕ). x.0) (front_none c.args.bytes.now (AreBytes-from_each c.args.bytes.now (λ i. omega (arith, c.type_inv.bytes i))) c.in-Err.ensures.only))

pub returns-in-Err-clause-rest : goal.returns-in-Err-clause-rest
returns-in-Err-clause-rest c =
    sym (ap (λ (x : OwnedField × ℕ). drop x.1 c.args.bytes.now) (front_none c.args.bytes.now (AreBytes-from_each c.args.bytes.now (λ i. omega (arith, c.type_inv.bytes i))) c.in-Err.ensures.only))
