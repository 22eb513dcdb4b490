-- Finite maps from lists of bytes: from the keys of rows, the names of tables and slots.
use Rattle.std.specs.Prelude.{ℕ, List}
use Rattle.std.specs.Ordering.{nat_cmp}
use Rattle.std.specs.Cmp.Lexicographic.{slice_cmp}
use Rattle.std.specs.FinMap.{FinMap}

abbrev pub ByBytes : Type 0 → Type 0
ByBytes X = FinMap {K = List ℕ} (slice_cmp nat_cmp) X
