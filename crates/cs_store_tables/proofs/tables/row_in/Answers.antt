-- `tables::row_in`: the clause `found`.
use Rattle.std.proofs.Common.{◌≡◌, ℕ, ℤ, Some, None, List, ap, sym, ◌∙◌}
use Rattle.std.specs.Option.{option_map}
use Rattle.cs_value.specs.declared.value.OwnedValue.{OwnedValue}
use Rattle.cs_value.specs.Spelling.{row_bytes}
use Rattle.cs_value.proofs.KeyedRows.{length-IsKeyedRow}
use Rattle.cs_value.proofs.Spellings.{row_bytes_same}
use Rattle.cs_store_tables.proofs.tables.row_in.Goals as goal

pub returns-in_ok-read_row-in-Some-clause-found : goal.returns-in_ok-read_row-in-Some-clause-found
returns-in_ok-read_row-in-Some-clause-found c None is same = absurd (let e = ap (option_map (λ (f : ℤ × List ℕ). f.1)) (sym c.in-Some.is) ∙ same in cc)
returns-in_ok-read_row-in-Some-clause-found c (Some row) is same =
    let read = c.in_ok-read_row-in-Some.ensures.found in
    let e : c.found.inside.value.items ≡ row_bytes row = let shown : c.found.inside.value.items ≡ c.in-Some.found.1 = ap (λ (f : ℤ × List ℕ). f.1) c.found.view_is in let k = ap (option_map (λ (f : ℤ × List ℕ). f.1)) (sym c.in-Some.is) ∙ same in cc in
    let flags = c.args.schema.now.flags in
    let wide = sym (length-IsKeyedRow flags c.in_ok-read_row-in-Some.field-0 read.0.keyed) ∙ length-IsKeyedRow flags row is.keyed in
    ap (λ (r : List OwnedValue). Some r) (row_bytes_same c.in_ok-read_row-in-Some.field-0 row read.0.values is.values wide (sym read.1 ∙ c.deref.ensures.value ∙ e))
