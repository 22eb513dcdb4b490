-- Why bytes do not begin with an image of so many columns.
use Rattle.std.specs.Prelude.{◌≡◌, ℕ, ◌+◌, ◌<◌, List, length, drop}
use Rattle.cs_value.specs.declared.fault.FieldFaultKind.{FieldFaultKind}
use Rattle.cs_value.specs.declared.value.OwnedField.{OwnedField}
use Rattle.cs_value.specs.Value.{IsRecord}
use Rattle.cs_value.specs.Spelling.{record_bytes, BeginsWith}
use Rattle.cs_value.specs.FieldFaults.{FieldFails}

-- whole fields, fewer than there are columns, and then no field
pub record RecordFails (bytes : List ℕ) (columns : ℕ) (kind : FieldFaultKind) (place : ℕ) : Type 0 where
  pub fields : List OwnedField
  pub at : ℕ
  pub behind : ℕ
  pub are_fields : IsRecord fields
  pub few : length fields < columns
  pub begins : BeginsWith bytes (record_bytes fields) at
  pub fails : FieldFails (drop at bytes) kind behind
  pub place_is : place ≡ at + behind
