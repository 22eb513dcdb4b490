-- Pages of the rows of a table, which are in the order of the bytes of their keys: at most so many, from the first one,
-- or from the one after a key.
use Rattle.std.specs.Prelude.{ℕ, Bool, true, nat_lt, List, length, take, filter, Option, Some, None}
use Rattle.std.specs.Ordering.{nat_cmp, is_gt}
use Rattle.std.specs.Cmp.Lexicographic.{slice_cmp}
use Rattle.cs_value.specs.declared.value.OwnedValue.{OwnedValue}
use Rattle.cs_value.specs.Key.{row_key}

-- the row has a key after this one
abbrev pub is_after : List ℕ → Option (List ℕ) → List OwnedValue → Bool
is_after flags None row = true
is_after flags (Some key) row = is_gt (slice_cmp nat_cmp (row_key flags row) key)

-- the rows with such a key
abbrev pub rows_after : List ℕ → Option (List ℕ) → List (List OwnedValue) → List (List OwnedValue)
rows_after flags after rows = filter (is_after flags after) rows

-- the first of them
abbrev pub page_rows : List ℕ → Option (List ℕ) → ℕ → List (List OwnedValue) → List (List OwnedValue)
page_rows flags after limit rows = take limit (rows_after flags after rows)

-- there are others
abbrev pub has_more : List ℕ → Option (List ℕ) → ℕ → List (List OwnedValue) → Bool
has_more flags after limit rows = nat_lt limit (length (rows_after flags after rows))
