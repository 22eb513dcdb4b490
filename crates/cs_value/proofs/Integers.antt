-- Integers of 64 bits as eight bytes, big-endian two's complement.
use Rattle.std.proofs.Common.{◌≡◌, ℕ, ◌^◌, ◌<◌, List, length, ap, ◌∙◌, arith}
use Rattle.std.specs.Prelude.{FitsSigned}
use Rattle.std.specs.Int.{w64, to_be_bytes, from_be_bytes, cast_signed, cast_unsigned}
use lib.IntN.{ℤ, pos, negsuc}
use Rattle.std.proofs.lemmas.Int.{ints, to_z-of_z, of_z-to_z}
use Rattle.std.proofs.lemmas.Nat.{be_bytes_8, from_be_bytes-to_be_bytes_8}
use Rattle.cs_value.specs.Value.{AreBytes}
use Rattle.cs_value.proofs.ByteLists.{each-from_AreBytes}

-- the eight bytes of an integer
abbrev pub integer_bytes : ℤ → List ℕ
integer_bytes z = to_be_bytes w64 (cast_unsigned w64 z)

-- the integer of eight bytes
abbrev pub integer_of : List ℕ → ℤ
integer_of bytes = cast_signed w64 (from_be_bytes w64 bytes)

-- the two's complement of an integer of 64 bits has 64 bits
unsigned_fits : (z : ℤ) → FitsSigned w64 z → cast_unsigned w64 z < 2 ^ 64
unsigned_fits (pos n) fits = omega (arith, fits.sfits)
unsigned_fits (negsuc n) fits = omega (arith, fits.sfits)

-- eight bytes have 64 bits
from_bytes_fits : (bytes : List ℕ) → AreBytes bytes → from_be_bytes w64 bytes < 2 ^ 64
from_bytes_fits bytes fits =
    let at = each-from_AreBytes bytes fits in
    omega (arith, at 0, at 1, at 2, at 3, at 4, at 5, at 6, at 7)

-- 64 bits are the two's complement of an integer of 64 bits
signed_fits : (n : ℕ) → n < 2 ^ 64 → FitsSigned w64 (cast_signed w64 n)
signed_fits n lt = omega (arith, ints)

-- eight bytes are an integer
pub integer_of-fits : (bytes : List ℕ) → AreBytes bytes → FitsSigned w64 (integer_of bytes)
integer_of-fits bytes fits = signed_fits (from_be_bytes w64 bytes) (from_bytes_fits bytes fits)

-- an integer that is read is spelled so
pub integer_bytes-integer_of : (bytes : List ℕ) → length bytes ≡ 8 → AreBytes bytes → integer_bytes (integer_of bytes) ≡ bytes
integer_bytes-integer_of bytes eight fits = be_bytes_8 bytes (cast_unsigned w64 (integer_of bytes)) eight (each-from_AreBytes bytes fits) (of_z-to_z w64 (from_be_bytes w64 bytes) (from_bytes_fits bytes fits))

-- an integer that is spelled is read
pub integer_of-integer_bytes : (z : ℤ) → FitsSigned w64 z → integer_of (integer_bytes z) ≡ z
integer_of-integer_bytes z fits = ap (cast_signed w64) (from_be_bytes-to_be_bytes_8 (cast_unsigned w64 z) (unsigned_fits z fits)) ∙ to_z-of_z w64 z fits
