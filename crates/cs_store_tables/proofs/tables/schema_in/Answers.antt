-- `tables::schema_in`: the clause `found`.
use Rattle.std.proofs.Common.{◌≡◌, ℕ, ℤ, List, Some, None, ap, sym, ◌∙◌}
use Rattle.std.specs.Option.{option_map}
use Rattle.cs_value.specs.State.{SchemaData}
use Rattle.cs_store_encoding.specs.Declaration.{declaration_bytes}
use Rattle.cs_store_encoding.proofs.DeclarationLemmas.{declarations_apart}
use Rattle.cs_store_tables.proofs.tables.schema_in.Goals as goal

pub returns-in_ok-read_declaration-in-Some-clause-found : goal.returns-in_ok-read_declaration-in-Some-clause-found
returns-in_ok-read_declaration-in-Some-clause-found c None is same = absurd (let e = ap (option_map (λ (f : ℤ × List ℕ). f.1)) (sym c.in-Some.is) ∙ same in cc)
returns-in_ok-read_declaration-in-Some-clause-found c (Some s) is same =
    let read = c.in_ok-read_declaration-in-Some.ensures.found in
    let e : c.found.inside.value.items ≡ declaration_bytes s = let shown : c.found.inside.value.items ≡ c.in-Some.found.1 = ap (λ (f : ℤ × List ℕ). f.1) c.found.view_is in let k = ap (option_map (λ (f : ℤ × List ℕ). f.1)) (sym c.in-Some.is) ∙ same in cc in
    ap (λ (t : SchemaData). Some t) (declarations_apart c.in_ok-read_declaration-in-Some.field-0 s read.0 is (sym read.1 ∙ c.deref.ensures.value ∙ e))
