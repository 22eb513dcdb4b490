-- What names say of buffers.
use Rattle.std.proofs.Common.{◌≡◌, [], ◌∷◌, true, false, refl}
use Rattle.cs_files.specs.Selecting.{is_among, names_in}

-- a and b, and nothing after the last zero byte
two_names : names_in (97 ∷ 0 ∷ 98 ∷ 0 ∷ []) ≡ (97 ∷ []) ∷ (98 ∷ []) ∷ [] ∷ []
two_names = refl

b_alone_is_named :
    (is_among (97 ∷ 0 ∷ 98 ∷ []) (98 ∷ []) ≡ true)
    × (is_among (97 ∷ 0 ∷ 98 ∷ []) (99 ∷ []) ≡ false)
unfolding is_among
b_alone_is_named = (refl, refl)
