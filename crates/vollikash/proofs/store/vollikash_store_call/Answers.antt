-- `store::vollikash_store_call`: the store that is open answers.
use Rattle.std.proofs.Common.{inl, inr, rules, w32, refl, sym, ◌∙◌}
use Rattle.std.proofs.lemmas.Int.{to_z-of_z}
use Rattle.vollikash.proofs.StoreLemmas.{was_open}
use Rattle.vollikash.proofs.store.vollikash_store_call.Goals as goal

pub returns-in-Some-clause-answered : goal.returns-in-Some-clause-answered
returns-in-Some-clause-answered c is = record {
  was = c.in-Some.open;
  was_open = was_open c.args.store.now c.is_null.new.self c.as_mut.result.now c.in-Some.open c.is_null.ensures.same c.as_mut.ensures.value c.in-Some.is;
  now = c.call.new.self;
  is_open = refl;
  answers = c.call.ensures.answered (sym (to_z-of_z w32 c.call.result (search rules)) ∙ is);
}

pub returns-in-Some-clause-refused : goal.returns-in-Some-clause-refused
returns-in-Some-clause-refused c is =
    let code = sym (to_z-of_z w32 c.call.result (search rules)) ∙ is in
    record {
      was = c.in-Some.open;
      was_open = was_open c.args.store.now c.is_null.new.self c.as_mut.result.now c.in-Some.open c.is_null.ensures.same c.as_mut.ensures.value c.in-Some.is;
      now = c.call.new.self;
      is_open = refl;
      answers = (c.call.ensures.refused (λ ok. let both = sym ok ∙ code in cc)).1;
    }

pub returns-in-Some-clause-codes : goal.returns-in-Some-clause-codes
returns-in-Some-clause-codes c =
    let code = to_z-of_z w32 c.call.result (search rules) in
    elim c.call.ensures.codes [
      | inl ok ↦ inl (code ∙ ok)
      | inr memory ↦ inr (inl (code ∙ memory))
    ]

pub returns-in-Some-clause-none : goal.returns-in-Some-clause-none
returns-in-Some-clause-none c not = c.call.ensures.none (λ ok. not (to_z-of_z w32 c.call.result (search rules) ∙ ok))
