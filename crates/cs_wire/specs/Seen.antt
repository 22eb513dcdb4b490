-- The words by which texts are mostly distinguished.
use Rattle.std.specs.Prelude.{ℕ, List, [], ◌∷◌, get_or}
use Rattle.std.specs.Int.{w64, from_be_bytes}

-- the eight bytes after the first, as a number that is written big end first, where a byte that is not there counts as
-- 0
unfoldable pub word_of : List ℕ → ℕ
word_of text =
    from_be_bytes w64 (get_or text 1 0 ∷ get_or text 2 0 ∷ get_or text 3 0 ∷ get_or text 4 0 ∷ get_or text 5 0 ∷ get_or text 6 0 ∷ get_or text 7 0 ∷ get_or text 8 0 ∷ [])
