use Rattle.std.proofs.Common.{ℕ, List, None}
use Rattle.cs_file_iterator.specs.Values.{KeepsOthers, LieWithin, ShowsValues}
use Rattle.cs_file_iterator.proofs.value.clear_values.Given as goal

abbrev pub invariant-loop-column : goal.invariant-loop-column
invariant-loop-column l = record {
  shown : (file : List ℕ) → ShowsValues file l.column (λ column. None) l.spans;
  kept : KeepsOthers l.column l.fn.spans l.spans;
  within : (file : List ℕ) → LieWithin file l.column l.spans;
}
