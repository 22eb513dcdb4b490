-- Lists of bytes.
use Rattle.std.proofs.Common.{ℕ, zero, suc, ◌<◌, List, [], ◌∷◌, get_or, take, drop, arith}
use Rattle.cs_value.specs.Value.{AreBytes}

-- each element is a byte, if each index has one
pub AreBytes-from_each : (bytes : List ℕ) → ((i : ℕ) → get_or bytes i 0 < 256) → AreBytes bytes
AreBytes-from_each [] each = tt
AreBytes-from_each (b ∷ bytes) each = (each 0, AreBytes-from_each bytes (λ i. each (suc i)))

-- each index has a byte
pub each-from_AreBytes : (bytes : List ℕ) → AreBytes bytes → (i : ℕ) → get_or bytes i 0 < 256
each-from_AreBytes [] fits i = omega arith
each-from_AreBytes (b ∷ bytes) fits zero = fits.0
each-from_AreBytes (b ∷ bytes) fits (suc i) = each-from_AreBytes bytes fits.1 i

-- the parts of a list of bytes are lists of bytes
pub AreBytes-take : (n : ℕ) (bytes : List ℕ) → AreBytes bytes → AreBytes (take n bytes)
AreBytes-take zero bytes fits = tt
AreBytes-take (suc n) [] fits = tt
AreBytes-take (suc n) (b ∷ bytes) fits = (fits.0, AreBytes-take n bytes fits.1)

pub AreBytes-drop : (n : ℕ) (bytes : List ℕ) → AreBytes bytes → AreBytes (drop n bytes)
AreBytes-drop zero bytes fits = fits
AreBytes-drop (suc n) [] fits = tt
AreBytes-drop (suc n) (b ∷ bytes) fits = AreBytes-drop n bytes fits.1
