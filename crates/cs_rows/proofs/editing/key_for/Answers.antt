-- `editing::key_for`: the clauses `refused` and `fits`.
use Rattle.std.proofs.Common.{inl, refl, true≢false, sym, ap, ◌∙◌, length, List, ℕ}
use Rattle.cs_value.specs.declared.value.OwnedValue.{OwnedValue}
use Rattle.cs_rows.proofs.EditingLemmas.{no_fault, refused_null, null_fault}
use Rattle.cs_rows.proofs.editing.key_for.Goals as goal

pub returns-then-not-is_keyed-clause-refused : goal.returns-then-not-is_keyed-clause-refused
returns-then-not-is_keyed-clause-refused c =
    let same = ap (λ (vs : List OwnedValue). length vs) (sym c.values.ensures.same) ∙ c.if-values-flags.false ∙ ap (λ (fs : List ℕ). length fs) c.flags.ensures.same in
    inl (null_fault c.args.schema.now c.args.row.now same (λ k. true≢false (sym (c.if-not-is_keyed.ensures.keyed.1 (rw c.flags-2.ensures.same k)))))

pub returns-then-not-is_obeyed_by-clause-refused : goal.returns-then-not-is_obeyed_by-clause-refused
returns-then-not-is_obeyed_by-clause-refused c =
    inl (refused_null c.args.schema.now c.args.row.now (rw (← c.flags-2.ensures.same) (c.if-not-is_keyed.ensures.keyed.0 refl)) (λ obeys. true≢false (sym (c.if-not-is_obeyed_by.ensures.1 obeys))))

pub returns-clause-fits : goal.returns-clause-fits
returns-clause-fits c =
    no_fault c.args.schema.now c.args.row.now (rw (← c.flags-2.ensures.same) (c.if-not-is_keyed.ensures.keyed.0 refl)) (c.if-not-is_obeyed_by.ensures.0 refl)
