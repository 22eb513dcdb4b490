-- `store::vollikash_store_save`: the store that is open is saved, or refused.
use Rattle.std.proofs.Common.{rules, w32, subst, ◌∙◌}
use Rattle.std.specs.Prelude.{Option}
use Rattle.std.proofs.lemmas.Int.{to_z-of_z}
use Rattle.vollikash.specs.Answers.{IsRefusal}
use Rattle.vollikash.specs.Stores.{LastsOf}
use Rattle.vollikash.specs.declared.held.OpenStore.{OpenStore}
use Rattle.vollikash.proofs.StoreLemmas.{was_open}
use Rattle.vollikash.proofs.store.vollikash_store_save.Goals as goal

pub returns-in-Some-clause-refused : goal.returns-in-Some-clause-refused
returns-in-Some-clause-refused c held lasts refusal =
    let code = to_z-of_z w32 c.save.result (search rules) in
    let was = was_open c.args.store.now c.is_null.new.self c.as_mut.result.now c.in-Some.open c.is_null.ensures.same c.as_mut.ensures.value c.in-Some.is in
    let why = c.save.ensures.refused held (subst (λ (o : Option OpenStore). LastsOf o held) was lasts) (subst IsRefusal code refusal) in
    record { was = c.in-Some.open; was_open = was; fault = why.0; why = why.1; told = code ∙ why.2 }

pub returns-in-Some-clause-none : goal.returns-in-Some-clause-none
returns-in-Some-clause-none c refusal = c.save.ensures.none (subst IsRefusal (to_z-of_z w32 c.save.result (search rules)) refusal)

pub returns-in-Some-clause-same : goal.returns-in-Some-clause-same
returns-in-Some-clause-same c not = c.save.ensures.same (λ ok. not (to_z-of_z w32 c.save.result (search rules) ∙ ok))
