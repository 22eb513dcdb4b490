-- The numbers of key columns, on a few flags.
use Rattle.std.proofs.Common.{◌≡◌, [], ◌∷◌, refl}
use Rattle.cs_group.specs.Numbering.{numbered_behind, numbered_flags}

flags_are_numbered :
    (numbered_flags (0 ∷ 7 ∷ 0 ∷ 1 ∷ []) ≡ 0 ∷ 1 ∷ 0 ∷ 2 ∷ [])
    -- numbered already, in column order and in another one
    × (numbered_flags (1 ∷ 2 ∷ []) ≡ 1 ∷ 2 ∷ [])
    × (numbered_flags (2 ∷ 0 ∷ 1 ∷ []) ≡ 1 ∷ 0 ∷ 2 ∷ [])
flags_are_numbered = (refl, refl, refl)

-- the 255th column of the key and the later ones
last_numbers : numbered_behind 253 (1 ∷ 1 ∷ 0 ∷ 1 ∷ []) ≡ 254 ∷ 255 ∷ 0 ∷ 255 ∷ []
last_numbers = refl
