-- `chosen::decided`: one more conflict with its choice.
use Rattle.std.proofs.Common.{◌<◌, ◌++◌, ◌∷◌, [], List, length, length-append, append_assoc, sym, ap, ◌∙◌, arith}
use Rattle.std.specs.Vec.Iter.{into_iter_items}
use Rattle.cs_apply_conflict_kinds.specs.declared.conflict.Choice.TheVariants.{Omit}
use Rattle.cs_apply_rehearsal.specs.declared.found.Found.{Found}
use Rattle.cs_apply_rehearsal.proofs.ChosenLemmas.{listed_more}
use Rattle.cs_apply_rehearsal.proofs.chosen.decided.Goals as goal

pub loop-item-preserved : goal.loop-item-preserved
loop-item-preserved c =
    let done = c.loop-item.yielded in
    let step = c.in-Some.ensures.steps.0 in
    let left = into_iter_items c.loop-item.item-iterator in
    let within : c.loop-item.index < length c.args.choices.now =
    omega (arith, ap length c.loop-item.invariant.whole, ap length step, length-append done left, c.requires, c.loop-item.invariant.counted) in
    record {
      whole = append_assoc done (c.in-Some.item ∷ []) (into_iter_items c.next.new.self) ∙ ap (λ (l : List Found). done ++ l) (sym step) ∙ c.loop-item.invariant.whole;
      counted = omega (arith, c.loop-item.invariant.counted, length-append done (c.in-Some.item ∷ []));
      decided = listed_more done c.in-Some.item c.args.choices.now c.loop-item.index c.loop-item.list.items c.push.new.self.items Omit c.loop-item.invariant.counted within c.loop-item.invariant.decided c.in_ok-push.ensures.items;
    }
