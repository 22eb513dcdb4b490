-- `distinct::take_distinct`: the clause `distinct`.
use Rattle.std.proofs.Common.{List, ℕ, subst}
use Rattle.std.specs.List.Sorted.{IsStrictlyIncreasing}
use Rattle.cs_file_scan.proofs.DistinctLemmas.{distinct_from_rising}
use Rattle.cs_file_scan.proofs.distinct.take_distinct.Goals as goal

pub returns-clause-distinct : goal.returns-clause-distinct
returns-clause-distinct c = λ yes.
    distinct_from_rising c.args.numbers.now.items c.sort_unstable.new.self.items c.sort_unstable.ensures.permutation
    (subst (λ (numbers : List ℕ). IsStrictlyIncreasing numbers) c.deref.ensures.value (c.is_rising-rising.ensures yes))
