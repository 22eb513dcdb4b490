-- Worked examples of declarations.
use Rattle.std.proofs.Common.{◌≡◌, ◌∷◌, [], refl}
use Rattle.cs_value.specs.Varint.{leading_digits, varint}
use Rattle.cs_value.specs.Spelling.{counted}
use Rattle.cs_store_encoding.specs.Declaration.{declaration_bytes}
use Rattle.cs_rows.proofs.Examples.{two_columns, refusing_columns}

-- the count of the columns, and of each its byte and its counted name; the byte of b is 2 where it refuses NULL
columns_are_declared :
    (declaration_bytes two_columns ≡ 0x02 ∷ 0x01 ∷ 0x01 ∷ 0x61 ∷ 0x00 ∷ 0x01 ∷ 0x62 ∷ [])
    × (declaration_bytes refusing_columns ≡ 0x02 ∷ 0x01 ∷ 0x01 ∷ 0x61 ∷ 0x02 ∷ 0x01 ∷ 0x62 ∷ [])
unfolding leading_digits varint counted declaration_bytes
columns_are_declared = (refl, refl)
