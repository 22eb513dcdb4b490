-- Numbers by which texts are distinguished.
use Rattle.std.specs.Prelude.{ℕ, ◌+◌, ◌*◌, ◌%◌, ◌^◌, List, drop, get_or}
use Rattle.std.specs.List.{fold}
use Rattle.cs_wire.specs.Seen.{word_of}

-- a number and one more, in 64 bits: it is multiplied by 2 ^ 64 divided by the golden ratio
abbrev pub with_more : ℕ → ℕ → ℕ
with_more number more = ((number * 0x9E3779B97F4A7C15) % 2 ^ 64 + more) % 2 ^ 64

-- the first byte of a text, its word, and then each later byte
unfoldable pub number_of : List ℕ → ℕ
number_of text = fold with_more (with_more (get_or text 0 0) (word_of text)) (drop 9 text)
