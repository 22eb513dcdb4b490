use Rattle.std.proofs.Common.{◌≡◌, ◌≤◌, ◌++◌, ℕ, List, Some, drop, get_or, length}
use Rattle.cs_value.specs.declared.value.OwnedField.{OwnedField}
use Rattle.cs_value.specs.declared.value.OwnedField.TheVariants.{Undefined}
use Rattle.cs_value.specs.Spelling.{record_bytes}
use Rattle.cs_value.specs.Value.{IsRecord}
use Rattle.cs_file_iterator.specs.Values.{KeepsOthers, LieWithin, ShowsValues}
use Rattle.cs_file_iterator.proofs.value.read_values.Given as goal

abbrev pub invariant-loop-column : goal.invariant-loop-column
invariant-loop-column l = record {
  place : l.place ≤ length l.file;
  count : l.column ≤ l.count;
  kept : KeepsOthers l.column l.fn.spans l.spans;
  within : LieWithin l.file l.column l.spans;
  shown : (fields : List OwnedField) (rest : List ℕ) → IsRecord fields → l.count ≤ length fields → drop l.start l.file ≡ record_bytes fields ++ rest
      → (drop l.place l.file ≡ record_bytes (drop l.column fields) ++ rest) × ShowsValues l.file l.column (λ column. Some (get_or fields column Undefined)) l.spans;
}
