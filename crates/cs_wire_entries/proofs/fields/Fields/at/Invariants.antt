use Rattle.std.proofs.Common.{◌-◌, get_or}
use Rattle.cs_value.specs.declared.value.OwnedField.TheVariants.{Undefined}
use Rattle.cs_wire_entries.proofs.ShownLemmas.{AtColumn}
use Rattle.cs_wire_entries.proofs.fields.Fields.at.Given as goal

abbrev pub invariant-loop : goal.invariant-loop
invariant-loop l = AtColumn l.self (l.column - l.counter) (get_or l.fn.self l.column Undefined)
