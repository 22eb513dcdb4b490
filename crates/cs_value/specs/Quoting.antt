-- How texts and names are quoted, as in SQL: a quote inside is doubled.
use Rattle.std.specs.Prelude.{ℕ, ◌==◌, if◌then◌else◌, List, [], ◌∷◌, ◌++◌}

-- each of these bytes twice
unfoldable pub doubled : ℕ → List ℕ → List ℕ
doubled quote [] = []
doubled quote (b ∷ text) = if b == quote then quote ∷ quote ∷ doubled quote text else b ∷ doubled quote text

-- a text between two quotes, with each quote in it doubled
abbrev pub quoted : ℕ → List ℕ → List ℕ
quoted quote text = quote ∷ doubled quote text ++ quote ∷ []
