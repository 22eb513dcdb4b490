-- How the format of SQLite's changesets spells a count: the format comment of sqlite3session.c, where a varint is "as
-- described in the SQLite file format". This project accepts only the shortest spelling, of the numbers below 2^31.
use Rattle.std.specs.Prelude.{ℕ, zero, suc, ◌+◌, ◌/◌, ◌%◌, ◌==◌, if◌then◌else◌, List, [], ◌∷◌, ◌++◌}

-- the digits of n to base 128 without leading zeros, none for 0, the most significant first, each with 128 added; n
-- has at most as many digits as are named
unfoldable pub leading_digits : ℕ → ℕ → List ℕ
leading_digits zero n = []
leading_digits (suc digits) n = if n == 0 then [] else leading_digits digits (n / 128) ++ (n % 128 + 128) ∷ []

-- a number below 2^31: its digits to base 128, the most significant first, without leading zeros but one digit for 0,
-- with 128 added to all but the last
unfoldable pub varint : ℕ → List ℕ
varint n = leading_digits 4 (n / 128) ++ (n % 128) ∷ []
