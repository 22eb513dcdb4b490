-- The columns that refuse NULL, one column at a time.
use Rattle.std.proofs.Common.{◌≡◌, ℕ, zero, suc, ◌<◌, Bool, true, false, ◌||◌, List, [], ◌∷◌, length, map, get_or, refl, sym, ap, ◌∙◌, true≢false, arith}
use Rattle.std.proofs.lemmas.List.{ext_get_or, get_or-map, length-map}
use Rattle.cs_value.specs.declared.value.OwnedValue.{OwnedValue}
use Rattle.cs_value.specs.declared.value.OwnedValue.TheVariants.{Null, Int, Text, Blob}
use Rattle.cs_value.specs.declared.value.OwnedField.{OwnedField}
use Rattle.cs_value.specs.declared.value.OwnedField.TheVariants.{Defined}
use Rattle.cs_value.specs.State.{is_marked, marks, AreRules, has_null, Obeys}
use Rattle.cs_rows.specs.Editing.{either}

-- ---- marks of two lists

-- there are as many as in the second list
pub either_length : (keys refuses : List Bool) → length (either keys refuses) ≡ length refuses
either_length [] refuses = refl
either_length (key ∷ keys) [] = refl
either_length (key ∷ keys) (mark ∷ refuses) = ap suc (either_length keys refuses)

-- a column is marked where it is in either list
pub either_at : (keys refuses : List Bool) (i : ℕ) → i < length refuses → get_or (either keys refuses) i false ≡ (get_or keys i false || get_or refuses i false)
either_at [] refuses i within = refl
either_at (key ∷ keys) [] i within = absurd (omega arith)
either_at (key ∷ keys) (mark ∷ refuses) zero within = refl
either_at (key ∷ keys) (mark ∷ refuses) (suc i) within = either_at keys refuses i (omega arith)

-- ---- marks for flags

-- there is one for each flag
pub rules_length : (flags : List ℕ) (refuses : List Bool) → AreRules flags refuses → length flags ≡ length refuses
rules_length [] [] rules = refl
rules_length [] (mark ∷ refuses) rules = absurd rules
rules_length (zero ∷ flags) [] rules = absurd rules
rules_length (suc flag ∷ flags) [] rules = absurd rules
rules_length (zero ∷ flags) (mark ∷ refuses) rules = ap suc (rules_length flags refuses rules)
rules_length (suc flag ∷ flags) (mark ∷ refuses) rules = ap suc (rules_length flags refuses rules.1)

-- the mark of only this column is right
abbrev pub IsRule : List ℕ → List Bool → ℕ → Type 0
IsRule flags refuses column = AreRules (get_or flags column 0 ∷ []) (get_or refuses column false ∷ [])

rules_cons : (flag : ℕ) (mark : Bool) (flags : List ℕ) (refuses : List Bool) → AreRules (flag ∷ []) (mark ∷ []) → AreRules flags refuses → AreRules (flag ∷ flags) (mark ∷ refuses)
rules_cons zero mark flags refuses one others = others
rules_cons (suc flag) mark flags refuses one others = (one.0, others)

-- marks that are right column by column are right
pub rules_of_columns : (flags : List ℕ) (refuses : List Bool) → length flags ≡ length refuses → ((k : ℕ) → k < length flags → IsRule flags refuses k) → AreRules flags refuses
rules_of_columns [] [] same each = tt
rules_of_columns [] (mark ∷ refuses) same each = absurd (omega arith)
rules_of_columns (flag ∷ flags) [] same each = absurd (omega arith)
rules_of_columns (flag ∷ flags) (mark ∷ refuses) same each =
    rules_cons flag mark flags refuses (each 0 (omega arith)) (rules_of_columns flags refuses (omega arith) (λ k lt. each (suc k) (omega arith)))

-- and the other way round
pub rule_column : (flags : List ℕ) (refuses : List Bool) (k : ℕ) → AreRules flags refuses → k < length flags → IsRule flags refuses k
rule_column [] refuses k rules lt = absurd (omega arith)
rule_column (zero ∷ flags) [] k rules lt = absurd rules
rule_column (suc flag ∷ flags) [] k rules lt = absurd rules
rule_column (zero ∷ flags) (mark ∷ refuses) zero rules lt = tt
rule_column (suc flag ∷ flags) (mark ∷ refuses) zero rules lt = (rules.0, tt)
rule_column (zero ∷ flags) (mark ∷ refuses) (suc k) rules lt = rule_column flags refuses k rules (omega arith)
rule_column (suc flag ∷ flags) (mark ∷ refuses) (suc k) rules lt = rule_column flags refuses k rules.1 (omega arith)

-- the marks of only the columns of the key, one column at a time
pub former_at : (flags : List ℕ) (refuses : List Bool) (i : ℕ) → i < length flags → refuses ≡ marks flags → get_or refuses i false ≡ is_marked (get_or flags i 0)
former_at flags refuses i within is = ap (λ (l : List Bool). get_or l i false) is ∙ get_or-map is_marked flags i 0 false within

pub former_of_columns : (flags : List ℕ) (refuses : List Bool) → length flags ≡ length refuses → ((k : ℕ) → k < length flags → get_or refuses k false ≡ is_marked (get_or flags k 0)) → refuses ≡ marks flags
former_of_columns flags refuses same each =
    ext_get_or false refuses (marks flags) (sym same ∙ sym (length-map flags is_marked))
    (λ k lt. let within : k < length flags = omega (arith, same) in each k within ∙ sym (get_or-map is_marked flags k 0 false within))

-- ---- rows

-- NULL is refused in the first column or in another
has_null_first : (mark : Bool) (value : OwnedValue) (refuses : List Bool) (fields : List OwnedField) → has_null (mark ∷ refuses) (Defined value ∷ fields) ≡ (has_null (mark ∷ []) (Defined value ∷ []) || has_null refuses fields)
has_null_first true Null refuses fields = refl
has_null_first true (Int z) refuses fields = refl
has_null_first true (Text t) refuses fields = refl
has_null_first true (Blob b) refuses fields = refl
has_null_first false Null refuses fields = refl
has_null_first false (Int z) refuses fields = refl
has_null_first false (Text t) refuses fields = refl
has_null_first false (Blob b) refuses fields = refl

-- it is in none that is not marked
unmarked : (value : OwnedValue) → has_null (false ∷ []) (Defined value ∷ []) ≡ false
unmarked Null = refl
unmarked (Int z) = refl
unmarked (Text t) = refl
unmarked (Blob b) = refl

neither : (a b : Bool) → (a || b) ≡ false → (a ≡ false) × (b ≡ false)
neither true b none = absurd (true≢false none)
neither false b none = (refl, none)

-- the row of only this column obeys its mark
abbrev pub ObeysAt : List Bool → List OwnedValue → ℕ → Type 0
ObeysAt refuses row column = Obeys (get_or refuses column false ∷ []) (get_or row column Null ∷ [])

-- a row that obeys column by column obeys
pub obeys_of_columns : (refuses : List Bool) (row : List OwnedValue) → ((k : ℕ) → k < length row → ObeysAt refuses row k) → Obeys refuses row
obeys_of_columns [] row each = refl
obeys_of_columns (mark ∷ refuses) [] each = refl
obeys_of_columns (mark ∷ refuses) (value ∷ row) each =
    has_null_first mark value refuses (map Defined row) ∙ ap (λ b. b || has_null refuses (map Defined row)) (each 0 (omega arith)) ∙ obeys_of_columns refuses row (λ k lt. each (suc k) (omega arith))

-- and the other way round
pub obeys_column : (refuses : List Bool) (row : List OwnedValue) (k : ℕ) → Obeys refuses row → k < length row → ObeysAt refuses row k
obeys_column [] row k obeys lt = unmarked (get_or row k Null)
obeys_column (mark ∷ refuses) [] k obeys lt = absurd (omega arith)
obeys_column (mark ∷ refuses) (value ∷ row) zero obeys lt = (neither _ _ (sym (has_null_first mark value refuses (map Defined row)) ∙ obeys)).0
obeys_column (mark ∷ refuses) (value ∷ row) (suc k) obeys lt = obeys_column refuses row k (neither _ _ (sym (has_null_first mark value refuses (map Defined row)) ∙ obeys)).1 (omega arith)
