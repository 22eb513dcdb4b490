-- Pages of the rows of a table, which are in the order of the bytes of their keys: at most so many, from the first one,
-- or from the one after a key.
use Rattle.std.specs.Prelude.{ℕ, Bool, true, List, map as map_list, take, filter, Option, Some, None}
use Rattle.std.specs.FinMap as map
use Rattle.cs_value.specs.declared.value.OwnedValue.{OwnedValue}
use Rattle.cs_value.specs.State.{RowMap}
use Rattle.cs_store_sql.specs.Records.{is_above}

-- the key is after that one, if there is one
abbrev pub is_after : Option (List ℕ) → List ℕ → Bool
is_after None key = true
is_after (Some last) key = is_above last key

-- the first rows with such a key
abbrev pub page_in : RowMap → Option (List ℕ) → ℕ → List (List OwnedValue)
page_in rows after limit = map_list (λ e. e.1) (take limit (filter (λ e. is_after after e.0) (map.entries rows)))
