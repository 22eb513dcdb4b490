-- Conflicts and reports as calls have them: with the values of the key columns.
use Rattle.std.specs.Prelude.{ℕ, List, [], ◌∷◌, length, map, None, Some, option_map, unwrap_or, string_bytes}
use Rattle.cs_value.specs.declared.value.OwnedField.{OwnedField}
use Rattle.cs_value.specs.declared.value.OwnedField.TheVariants.{Undefined, Defined}
use Rattle.cs_value.specs.declared.value.OwnedValue.{OwnedValue}
use Rattle.cs_value.specs.Key.{key_columns}
use Rattle.cs_value.specs.State.{State, schema_at}
use Rattle.cs_wire_entries.specs.declared.entry.Change.{Change}
use Rattle.cs_wire_entries.specs.declared.entry.Change.TheVariants.{Insert, Delete, Update}
use Rattle.cs_wire_entries.specs.ReadFaults as reading
use Rattle.cs_apply_conflict_kinds.specs.Conflicts.{kind_number}
use Rattle.cs_apply_engine.specs.declared.conflict.Conflict.{Conflict}
use Rattle.cs_apply_engine.specs.declared.conflict.Met.{Met}
use Rattle.cs_apply_engine.specs.declared.fault.ApplyFault.{ApplyFault}
use Rattle.cs_apply_engine.specs.declared.fault.ApplyFault.TheVariants as apply
use Rattle.cs_apply_engine.specs.declared.report.Report.{Report}
use Rattle.cs_calls_answers.specs.declared.answer.Refused.{Refused}
use Rattle.cs_calls_answers.specs.declared.answer.Reported.{Reported}
use Rattle.cs_calls_answers.specs.declared.conflicts.MetConflict.{MetConflict}
use Rattle.cs_calls_answers.specs.Refusals.{out_of_memory}
use Rattle.cs_calls_conversions.specs.Refusals.{of_error}

-- ---- keys

-- the values of fields, without those that are undefined
abbrev pub values_of : List OwnedField → List OwnedValue
values_of [] = []
values_of (Undefined ∷ fields) = values_of fields
values_of (Defined value ∷ fields) = value ∷ values_of fields

-- the values of the key columns of a change: an UPDATE has them in its old record
abbrev pub change_key : List ℕ → Change → List OwnedValue
change_key flags (Insert row) = key_columns flags row
change_key flags (Delete row) = key_columns flags row
change_key flags (Update old new) = values_of (key_columns flags old)

-- the flags of a table, and none if there is no such table
abbrev pub key_flags : State → List ℕ → List ℕ
key_flags tables table = unwrap_or (option_map (λ s. s.flags) (schema_at tables table)) []

-- the key of the row that has a conflict, by the key columns of its table
abbrev pub conflict_key : State → Conflict → List OwnedValue
conflict_key tables conflict = change_key (key_flags tables (string_bytes conflict.table)) conflict.entry.change

-- ---- reports

abbrev pub met_by : State → Met → MetConflict
met_by tables met = record {
  kind = met.conflict.kind;
  choice = met.choice;
  table = string_bytes met.conflict.table;
  key = conflict_key tables met.conflict;
}

abbrev pub reported_by : State → Report → Reported
reported_by tables report = record {
  written = length report.written.items;
  ignored = report.ignored;
  skipped = map string_bytes report.skipped.items;
  conflicts = map (met_by tables) report.conflicts.items;
}

-- ---- refusals

-- a refusal whose only part is a number
abbrev pub of_detail : ℕ → ℕ → Refused
of_detail code detail = record { code = code; table = None; column = None; key = None; detail = Some detail }

-- one that names a conflict: its table, its key and its kind
abbrev pub of_conflict : ℕ → State → Conflict → Refused
of_conflict code tables conflict = record {
  code = code;
  table = Some (string_bytes conflict.table);
  column = None;
  key = Some (conflict_key tables conflict);
  detail = Some (kind_number conflict.kind);
}

-- the refusal of an apply, by the fault
abbrev pub of_apply_fault : State → ApplyFault → Refused
of_apply_fault tables (apply.Read fault) = of_detail (reading.code_of fault.kind) fault.place
of_apply_fault tables (apply.Wider index) = of_detail 40 index
of_apply_fault tables (apply.Abort conflict) = of_conflict 41 tables conflict
of_apply_fault tables (apply.Misuse conflict) = of_conflict 42 tables conflict
of_apply_fault tables (apply.Store error) = of_error error
of_apply_fault tables apply.NoMemory = out_of_memory
