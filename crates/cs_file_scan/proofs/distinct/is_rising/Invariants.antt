use Rattle.std.proofs.Common.{◌<◌, ◌+◌, ℕ, slice_index}
use Rattle.cs_file_scan.proofs.distinct.is_rising.Given as goal

abbrev pub invariant-numbers : goal.invariant-numbers
invariant-numbers l = (k : ℕ) → k + 1 < l.i → slice_index l.numbers k < slice_index l.numbers (k + 1)
