-- What holds of all spellings.
use Rattle.std.specs.Prelude.{◌≡◌, ℕ, ◌≤◌, List, ◌++◌, length}
use Rattle.cs_value.specs.declared.TheConstants.{MAX_CONTENT_LEN}
use Rattle.cs_value.specs.declared.value.OwnedValue.{OwnedValue}
use Rattle.cs_value.specs.declared.value.OwnedField.{OwnedField}
use Rattle.cs_value.specs.Value.{IsField, IsRecord, IsRow}
use Rattle.cs_value.specs.Varint.{varint}
use Rattle.cs_value.specs.Spelling.{field_bytes, record_bytes, row_bytes}

-- bytes that begin with two varints begin with one
abbrev pub VarintSpellings : Type 0
VarintSpellings = (m n : ℕ) (x y : List ℕ) → m ≤ MAX_CONTENT_LEN → n ≤ MAX_CONTENT_LEN
    → varint m ++ x ≡ varint n ++ y → (m ≡ n) × (x ≡ y)

-- bytes that begin with two fields begin with one
abbrev pub FieldSpellings : Type 0
FieldSpellings = (f g : OwnedField) (x y : List ℕ) → IsField f → IsField g
    → field_bytes f ++ x ≡ field_bytes g ++ y → (f ≡ g) × (x ≡ y)

-- bytes that begin with two records of one width begin with one
abbrev pub RecordSpellings : Type 0
RecordSpellings = (r s : List OwnedField) (x y : List ℕ) → IsRecord r → IsRecord s → length r ≡ length s
    → record_bytes r ++ x ≡ record_bytes s ++ y → (r ≡ s) × (x ≡ y)

-- the values of two keys of one width that have equal bytes are equal
abbrev pub KeyBytes : Type 0
KeyBytes = (k l : List OwnedValue) → IsRow k → IsRow l → length k ≡ length l → row_bytes k ≡ row_bytes l → k ≡ l
