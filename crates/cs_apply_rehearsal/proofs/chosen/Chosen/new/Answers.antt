-- `chosen::Chosen::new`: the conflicts are sorted, and the order does not matter.
use Rattle.std.proofs.Common.{List, rules, is_lt, map, subst}
use Rattle.std.proofs.lemmas.List.MinMax.{ranks_by}
use Rattle.std.proofs.lemmas.List.Sorted.{IsPermutation-map, answers_always}
use Rattle.cs_apply_conflict_kinds.specs.Applying.{MetData}
use Rattle.cs_apply_engine.specs.declared.conflict.Met.{Met}
use Rattle.cs_apply_engine.specs.Report.{conflict_of, met_of}
use Rattle.cs_apply_rehearsal.specs.Choosing.{IsChoiceFor}
use Rattle.cs_apply_rehearsal.specs.Order.{conflict_cmp}
use Rattle.cs_apply_rehearsal.proofs.ChosenLemmas.{permuted}
use Rattle.cs_apply_rehearsal.proofs.SameLemmas.{conflict_total}
use Rattle.cs_apply_rehearsal.proofs.chosen.Chosen.new.Goals as goal

pub returns : goal.returns
returns c conflict choice is =
    let old = c.in_ok-decisions.decisions.items in
    let new = c.sort_unstable_by.new.self.items in
    subst (λ (l : List MetData). IsChoiceFor l conflict choice) c.in_ok-decisions.ensures
    (permuted (map met_of old) (map met_of new) conflict choice (IsPermutation-map met_of old new c.sort_unstable_by.ensures.permutation) is)

pub invariant_of-result : goal.invariant_of-result
invariant_of-result c =
    c.sort_unstable_by.ensures.sorted (λ (x y : Met). is_lt (conflict_cmp (conflict_of x.conflict) (conflict_of y.conflict)))
    (ranks_by conflict_total (λ (m : Met). conflict_of m.conflict)) (answers_always _ _ _ (λ f a r f' k. search rules))
