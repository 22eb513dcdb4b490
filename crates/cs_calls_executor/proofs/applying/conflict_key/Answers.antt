-- `applying::conflict_key`: there is no memory for the key, no such table, or the schema is not read.
use Rattle.std.proofs.Common.{◌≡◌, [], List, Option, None, option_map, unwrap_or, Ok, Err, inl, inr, string_bytes, refl, sym, ap, ◌∙◌}
use Rattle.std.proofs.lemmas.Result.{err_from_is_err_and}
use Rattle.sqlite.specs.Held.{state}
use Rattle.cs_store.specs.Store.{tables_in}
use Rattle.cs_value.specs.declared.value.OwnedValue.{OwnedValue}
use Rattle.cs_value.specs.State.{SchemaData, schema_at}
use Rattle.cs_calls_answers.specs.Refusals.{out_of_memory}
use Rattle.cs_calls_conversions.specs.Conflicts.{change_key, conflict_key}
use Rattle.cs_calls_executor.proofs.ReadLemmas.{no_memory, reads_one, reads_unable}
use Rattle.cs_calls_executor.proofs.applying.conflict_key.Goals as goal

pub returns-in_err-change_key-in-Ok-Some : goal.returns-in_err-change_key-in-Ok-Some
returns-in_err-change_key-in-Ok-Some g c =
    let it = c.in-Ok-Some.ensures in
    let p = err_from_is_err_and c.from_residual.result c.from_residual.ensures.1 in
    rw (p.1, p.2) (reads_one (λ tables. Ok (conflict_key tables c.args.conflict.now)) (state g.S.Store c.args.transaction.now) (state g.S.Store c.schema.new.self) (Err out_of_memory) it.kept it.rests (λ clean. it.reads clean refl) (λ clean. inr no_memory))

pub returns-in_err-change_key-in-Ok-None : goal.returns-in_err-change_key-in-Ok-None
returns-in_err-change_key-in-Ok-None g c =
    let it = c.in-Ok-None.ensures in
    let p = err_from_is_err_and c.from_residual-in_err-change_key-in-Ok-None.result c.from_residual-in_err-change_key-in-Ok-None.ensures.1 in
    rw (p.1, p.2) (reads_one (λ tables. Ok (conflict_key tables c.args.conflict.now)) (state g.S.Store c.args.transaction.now) (state g.S.Store c.schema.new.self) (Err out_of_memory) it.kept it.rests (λ clean. it.reads clean refl) (λ clean. inr no_memory))

pub returns-in_ok-change_key-in-Ok-None : goal.returns-in_ok-change_key-in-Ok-None
returns-in_ok-change_key-in-Ok-None g c =
    let old = state g.S.Store c.args.transaction.now in
    let conflict = c.args.conflict.now in
    let it = c.in-Ok-None.ensures in
    reads_one (λ tables. Ok (conflict_key tables conflict)) old (state g.S.Store c.schema.new.self) (Ok c.in_ok-change_key-in-Ok-None.field-0) it.kept it.rests (λ clean. it.reads clean refl)
    (λ clean.
    let none : schema_at (tables_in old.now) (string_bytes conflict.table) ≡ None = sym (rw c.as_str.ensures.value at (it.found clean)) ∙ c.in-Ok-None.field-0-is in
    inl (ap (λ (key : List OwnedValue). Ok key) (c.in_ok-change_key-in-Ok-None.ensures ∙ sym (ap (λ (o : Option SchemaData). change_key (unwrap_or (option_map (λ s. s.flags) o) []) conflict.entry.change) none))))

pub returns-in-Err : goal.returns-in-Err
returns-in-Err g c =
    let it = c.in-Err.ensures in
    reads_unable (λ tables. Ok (conflict_key tables c.args.conflict.now)) (state g.S.Store c.args.transaction.now) (state g.S.Store c.schema.new.self) c.in-Err.error c.store_refusal.result it.kept it.rests it.refused c.store_refusal.ensures
