use Rattle.std.proofs.Common.{◌≡◌, ◌≤◌, ◌++◌, ℕ, List, drop, length}
use Rattle.cs_value.specs.declared.value.OwnedField.{OwnedField}
use Rattle.cs_value.specs.Spelling.{record_bytes}
use Rattle.cs_value.specs.Value.{IsRecord}
use Rattle.cs_file_iterator.proofs.value.skip_fields.Given as goal

abbrev pub invariant-loop : goal.invariant-loop
invariant-loop l = record {
  within : l.place ≤ length l.file;
  skipped : (fields : List OwnedField) (rest : List ℕ) → IsRecord fields → l.count ≤ length fields → drop l.start l.file ≡ record_bytes fields ++ rest → drop l.place l.file ≡ record_bytes (drop l.counter fields) ++ rest;
}
