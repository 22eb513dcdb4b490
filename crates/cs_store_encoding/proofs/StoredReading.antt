-- What is spelled of rows and schemas is read.
use Rattle.std.proofs.Common.{◌≡◌, ℕ, List, [], ◌∷◌, ◌++◌, length, drop, Some, Ok, refl, sym, ap, ◌∙◌, append_assoc, arith}
use Rattle.std.specs.Option.{option_map}
use Rattle.std.specs.List.{AllByRecursion}
use Rattle.std.proofs.Math.Seq.{drop-append_seam, take-append_seam}
use Rattle.cs_value.specs.declared.value.OwnedValue.{OwnedValue}
use Rattle.cs_value.specs.declared.value.OwnedField.TheVariants.{Defined}
use Rattle.cs_value.specs.Value.{IsValue, IsRow}
use Rattle.cs_value.specs.Varint.{varint}
use Rattle.cs_value.specs.Spelling.{counted, value_bytes, field_bytes, row_bytes}
use Rattle.cs_value.specs.Reading.{field_at}
use Rattle.cs_value.specs.State.{SchemaData, IsColumnName, IsSchema}
use Rattle.cs_value.proofs.VarintLemmas.{number_again}
use Rattle.cs_value.proofs.FieldAgain.{field_again}
use Rattle.cs_store_encoding.specs.Declaration.{column_codes, columns_bytes, declaration_bytes, schema_of_columns}
use Rattle.cs_store_encoding.specs.Stored.{value_before, values_at, columns_at, counted_columns, schema_in}
use Rattle.cs_store_encoding.proofs.CodeLemmas.{columns_length, made_again}

-- a value that is spelled is read
value_again : (v : OwnedValue) (rest : List ℕ) → IsValue v → field_at (value_bytes v ++ rest) ≡ Ok (Defined v, length (value_bytes v))
unfolding field_bytes
value_again v rest fits = field_again (Defined v) rest fits

-- a row that is spelled is read
pub values_again : (row : List OwnedValue) → IsRow row → values_at (length row) (row_bytes row) ≡ Some row
unfolding values_at
values_again [] fits = refl
values_again (v ∷ row) fits =
    ap (λ r. value_before r (λ used. values_at (length row) (drop used (value_bytes v ++ row_bytes row)))) (value_again v (row_bytes row) fits.0)
    ∙ ap (λ b. option_map (λ values. v ∷ values) (values_at (length row) b)) (drop-append_seam (value_bytes v) (row_bytes row))
    ∙ ap (option_map (λ values. v ∷ values)) (values_again row fits.1)

-- columns that are spelled are read
columns_again : (codes : List ℕ) (names : List (List ℕ)) → length names ≡ length codes → AllByRecursion IsColumnName names
    → columns_at (length names) (columns_bytes codes names) ≡ Some (record { names = names; bytes = codes })
unfolding columns_at counted
columns_again [] [] same named = refl
columns_again [] (name ∷ names) same named = absurd (omega arith)
columns_again (code ∷ codes) [] same named = absurd (omega arith)
columns_again (code ∷ codes) (name ∷ names) same named =
    let count = varint (length name) in
    let rest = columns_bytes codes names in
    rw (append_assoc count name rest, number_again (length name) (name ++ rest) named.0.short, drop-append_seam count (name ++ rest), take-append_seam name rest, drop-append_seam name rest, columns_again codes names (omega arith) named.1) refl

-- a declaration is read
pub schema_again : (schema : SchemaData) → IsSchema schema → schema_in (declaration_bytes schema) ≡ Some schema
unfolding declaration_bytes
schema_again schema is =
    let count = varint (length schema.columns) in
    let codes = column_codes schema.flags schema.refuses in
    let rest = columns_bytes codes schema.columns in
    ap (counted_columns (count ++ rest)) (number_again (length schema.columns) rest (omega (arith, is.as_many, is.flags.few)))
    ∙ ap (λ bytes. option_map schema_of_columns (columns_at (length schema.columns) bytes)) (drop-append_seam count rest)
    ∙ ap (option_map schema_of_columns) (columns_again codes schema.columns (sym (columns_length schema is)) is.named)
    ∙ ap Some (made_again schema is)

-- two schemas with one declaration are one
pub one_schema : (a b : SchemaData) → IsSchema a → IsSchema b → declaration_bytes a ≡ declaration_bytes b → a ≡ b
one_schema a b p q same = let e = sym (schema_again a p) ∙ ap schema_in same ∙ schema_again b q in cc
