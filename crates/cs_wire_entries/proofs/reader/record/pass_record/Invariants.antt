use Rattle.std.proofs.Common.{drop}
use Rattle.cs_wire_entries.specs.Reading.{wants_in}
use Rattle.cs_wire_entries.proofs.FieldsLemmas.{Passed}
use Rattle.cs_wire_entries.proofs.reader.record.pass_record.Given as goal

abbrev pub invariant-loop-flag : goal.invariant-loop-flag
invariant-loop-flag l = Passed (wants_in l.columns l.flags) l.file l.at l.flag-index (wants_in l.left (drop l.flag-index l.flags)) l.end
