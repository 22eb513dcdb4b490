-- What lengths say of buffers.
use Rattle.std.proofs.Common.{◌≡◌, [], ◌∷◌, refl}
use Rattle.cs_changegroup.specs.Chaining.{files_in}

-- three bytes are a file of two bytes, one of none and one of one
three_files : files_in (7 ∷ 8 ∷ 9 ∷ []) (2 ∷ 0 ∷ 1 ∷ []) ≡ (7 ∷ 8 ∷ []) ∷ [] ∷ (9 ∷ []) ∷ []
three_files = refl
