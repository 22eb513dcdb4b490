-- The bytes of values, fields and records: the format comment of SQLite's sqlite3session.c, under "record format".
use Rattle.std.specs.Prelude.{◌≡◌, ℕ, List, [], ◌∷◌, ◌++◌, length, drop}
use Rattle.std.specs.List.{flat_map}
use Rattle.std.specs.Int.{w64, to_be_bytes, cast_unsigned}
use Rattle.cs_value.specs.declared.value.OwnedValue.{OwnedValue}
use Rattle.cs_value.specs.declared.value.OwnedValue.TheVariants.{Int, Text, Blob, Null}
use Rattle.cs_value.specs.declared.value.OwnedField.{OwnedField}
use Rattle.cs_value.specs.declared.value.OwnedField.TheVariants.{Undefined, Defined}
use Rattle.cs_value.specs.Varint.{varint}

-- bytes after their count
unfoldable pub counted : List ℕ → List ℕ
counted bytes = varint (length bytes) ++ bytes

-- 0x01 and eight bytes, big-endian two's complement; 0x03 and a counted text; 0x04 and a counted blob; 0x05
unfoldable pub value_bytes : OwnedValue → List ℕ
value_bytes (Int z) = 1 ∷ to_be_bytes w64 (cast_unsigned w64 z)
value_bytes (Text t) = 3 ∷ counted t
value_bytes (Blob b) = 4 ∷ counted b
value_bytes Null = 5 ∷ []

-- 0x00 where it is undefined
unfoldable pub field_bytes : OwnedField → List ℕ
field_bytes Undefined = 0 ∷ []
field_bytes (Defined v) = value_bytes v

-- the fields in turn
abbrev pub record_bytes : List OwnedField → List ℕ
record_bytes fields = flat_map field_bytes fields

-- the values in turn
abbrev pub row_bytes : List OwnedValue → List ℕ
row_bytes values = flat_map value_bytes values

-- the bytes begin with this text, and it takes that many of them
pub record BeginsWith (bytes text : List ℕ) (used : ℕ) : Type 0 where
  pub whole : bytes ≡ text ++ drop used bytes
  pub count : used ≡ length text
