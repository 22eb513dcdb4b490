-- `chosen::Chosen::choose`: the search finds the conflict, or it is not listed.
use Rattle.std.proofs.Common.{List, rules, subst}
use Rattle.std.proofs.lemmas.Fn.{always_returns_same}
use Rattle.cs_apply_conflict_kinds.specs.declared.conflict.Choice.TheVariants.{Abort}
use Rattle.cs_apply_conflict_kinds.specs.Applying.{MetData}
use Rattle.cs_apply_engine.specs.declared.conflict.Met.{Met}
use Rattle.cs_apply_engine.specs.Report.{conflict_of}
use Rattle.cs_apply_rehearsal.specs.Choosing.{IsChoiceFor}
use Rattle.cs_apply_rehearsal.specs.Order.{conflict_cmp}
use Rattle.cs_apply_rehearsal.proofs.ChosenLemmas.{chosen_at, chosen_none}
use Rattle.cs_apply_rehearsal.proofs.chosen.Chosen.choose.Goals as goal

pub returns-in-Ok : goal.returns-in-Ok
returns-in-Ok c =
    let given = conflict_of c.args.conflict.now in
    let at = rw c.deref.ensures.value at (c.in-Ok.ensures.position (λ (m : Met). conflict_cmp (conflict_of m.conflict) given) (always_returns_same _ _ _ (λ a r f' k. search rules))) in
    subst (λ (l : List MetData). IsChoiceFor l given c.index.result.now.choice) c.self.view_is
    (chosen_at c.self.inside.decisions.items c.in-Ok.index given c.index.result.now (rw c.deref.ensures.value at c.in-Ok.ensures.bound) c.index.ensures at)

pub returns-in-Err : goal.returns-in-Err
returns-in-Err c =
    let given = conflict_of c.args.conflict.now in
    let none = rw c.deref.ensures.value at (c.in-Err.ensures.position (λ (m : Met). conflict_cmp (conflict_of m.conflict) given) (always_returns_same _ _ _ (λ a r f' k. search rules))) in
    subst (λ (l : List MetData). IsChoiceFor l given Abort) c.self.view_is
    (chosen_none c.self.inside.decisions.items c.in-Err.field-0 given c.self.invariant none)
