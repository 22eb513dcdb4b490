-- The bytes of columns, and what they say of them.
use Rattle.std.proofs.Common.{◌≡◌, ℕ, zero, suc, ◌<◌, Bool, true, false, List, [], ◌∷◌, length, map, get_or, refl, sym, ap, ◌∙◌, arith}
use Rattle.std.specs.List.{AllByRecursion}
use Rattle.cs_value.specs.State.{SchemaData, AreRules, IsSchema, marks}
use Rattle.cs_store_encoding.specs.Declaration.{column_code, column_codes, ColumnsData, flag_of, schema_of_columns}
use Rattle.cs_rows.proofs.RuleLemmas.{rules_length}

-- there is a byte for each column
pub codes_length : (flags : List ℕ) (refuses : List Bool) → length flags ≡ length refuses → length (column_codes flags refuses) ≡ length flags
codes_length [] refuses same = refl
codes_length (flag ∷ flags) [] same = absurd (omega arith)
codes_length (flag ∷ flags) (mark ∷ refuses) same = ap suc (codes_length flags refuses (omega arith))

-- it is that of its flag and its mark
pub codes_at : (flags : List ℕ) (refuses : List Bool) (i : ℕ) → length flags ≡ length refuses → i < length flags → get_or (column_codes flags refuses) i 0 ≡ column_code (get_or flags i 0) (get_or refuses i false)
codes_at [] refuses i same within = absurd (omega arith)
codes_at (flag ∷ flags) [] i same within = absurd (omega arith)
codes_at (flag ∷ flags) (mark ∷ refuses) zero same within = refl
codes_at (flag ∷ flags) (mark ∷ refuses) (suc i) same within = codes_at flags refuses i (omega arith) (omega arith)

-- the flags are read of the bytes
flags_again : (flags : List ℕ) (refuses : List Bool) → AllByRecursion (λ flag. flag < 2) flags → AreRules flags refuses → map flag_of (column_codes flags refuses) ≡ flags
flags_again [] refuses bits rules = refl
flags_again (zero ∷ flags) [] bits rules = absurd rules
flags_again (suc flag ∷ flags) [] bits rules = absurd rules
flags_again (zero ∷ flags) (true ∷ refuses) bits rules = ap (λ (l : List ℕ). 0 ∷ l) (flags_again flags refuses bits.1 rules)
flags_again (zero ∷ flags) (false ∷ refuses) bits rules = ap (λ (l : List ℕ). 0 ∷ l) (flags_again flags refuses bits.1 rules)
flags_again (suc zero ∷ flags) (mark ∷ refuses) bits rules = ap (λ (l : List ℕ). 1 ∷ l) (flags_again flags refuses bits.1 rules.1)
flags_again (suc (suc flag) ∷ flags) (mark ∷ refuses) bits rules = absurd (omega (arith, bits.0))

-- and so are the marks
marks_again : (flags : List ℕ) (refuses : List Bool) → AreRules flags refuses → marks (column_codes flags refuses) ≡ refuses
marks_again [] [] rules = refl
marks_again [] (mark ∷ refuses) rules = absurd rules
marks_again (zero ∷ flags) [] rules = absurd rules
marks_again (suc flag ∷ flags) [] rules = absurd rules
marks_again (zero ∷ flags) (true ∷ refuses) rules = ap (λ (l : List Bool). true ∷ l) (marks_again flags refuses rules)
marks_again (zero ∷ flags) (false ∷ refuses) rules = ap (λ (l : List Bool). false ∷ l) (marks_again flags refuses rules)
marks_again (suc flag ∷ flags) (mark ∷ refuses) rules = ap (λ (l : List Bool). true ∷ l) (marks_again flags refuses rules.1) ∙ ap (λ b. b ∷ refuses) (sym rules.0)

-- bytes of columns of a schema are those of what is read of them
pub codes_again : (codes : List ℕ) → AllByRecursion (λ flag. flag < 2) (map flag_of codes) → column_codes (map flag_of codes) (marks codes) ≡ codes
codes_again [] bits = refl
codes_again (zero ∷ codes) bits = ap (λ (l : List ℕ). 0 ∷ l) (codes_again codes bits.1)
codes_again (suc zero ∷ codes) bits = ap (λ (l : List ℕ). 1 ∷ l) (codes_again codes bits.1)
codes_again (suc (suc zero) ∷ codes) bits = ap (λ (l : List ℕ). 2 ∷ l) (codes_again codes bits.1)
codes_again (suc (suc (suc code)) ∷ codes) bits = absurd (omega (arith, bits.0))

-- the names and the bytes of a schema's columns
abbrev pub columns_of : SchemaData → ColumnsData
columns_of schema = record { names = schema.columns; bytes = column_codes schema.flags schema.refuses }

-- there are as many of both
pub columns_length : (schema : SchemaData) → IsSchema schema → length (column_codes schema.flags schema.refuses) ≡ length schema.columns
columns_length schema is = codes_length schema.flags schema.refuses (rules_length schema.flags schema.refuses is.rules) ∙ sym is.as_many

-- they make the schema
pub made_again : (schema : SchemaData) → IsSchema schema → schema_of_columns (columns_of schema) ≡ schema
made_again schema is =
    let flags = flags_again schema.flags schema.refuses is.bits is.rules in
    let refuses = marks_again schema.flags schema.refuses is.rules in
    λ i. record { columns = schema.columns; flags = flags i; refuses = refuses i }
