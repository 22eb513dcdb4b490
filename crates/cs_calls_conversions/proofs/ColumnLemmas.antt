-- The columns of a schema, one at a time.
use Rattle.std.proofs.Common.{◌≡◌, ◌<◌, ℕ, ◌+◌, Bool, false, ◌||◌, if◌then◌else◌, List, [], ◌∷◌, ◌++◌, length, get_or, take, map, string_bytes, String, Global, refl, ap, ◌∙◌, arith}
use Rattle.std.proofs.lemmas.List.{take_more, length-take-le}
use Rattle.cs_value.specs.State.{SchemaData, is_marked}
use Rattle.cs_rows.specs.Editing.{either, schema_of}
use Rattle.cs_calls_parts.specs.declared.lists.Column.{Column}
use Rattle.cs_calls_conversions.specs.Columns.{columns_with, declared_schema}

-- a column
abbrev pub made : List ℕ → Bool → Bool → Column
made name is_key refuses_null = record { name = name; is_key = is_key; refuses_null = refuses_null }

columns_push : (names : List (List ℕ)) (flags : List ℕ) (refuses : List Bool) (name : List ℕ) → length names < length flags → length names < length refuses → columns_with (names ++ name ∷ []) flags refuses ≡ columns_with names flags refuses ++ record { name = name; is_key = is_marked (get_or flags (length names) 0); refuses_null = get_or refuses (length names) false } ∷ []
columns_push [] [] refuses name in_flags in_refuses = absurd (omega arith)
columns_push [] (flag ∷ flags) [] name in_flags in_refuses = absurd (omega arith)
columns_push [] (flag ∷ flags) (mark ∷ refuses) name in_flags in_refuses = refl
columns_push (first ∷ names) [] refuses name in_flags in_refuses = absurd (omega arith)
columns_push (first ∷ names) (flag ∷ flags) [] name in_flags in_refuses = absurd (omega arith)
columns_push (first ∷ names) (flag ∷ flags) (mark ∷ refuses) name in_flags in_refuses =
    ap (λ (l : List Column). record { name = first; is_key = is_marked flag; refuses_null = mark } ∷ l) (columns_push names flags refuses name (omega arith) (omega arith))

-- one column more
pub column_more : (names : List (List ℕ)) (flags : List ℕ) (refuses : List Bool) (i : ℕ) (name : List ℕ) → i < length names → i < length flags → i < length refuses → name ≡ get_or names i name → columns_with (take (i + 1) names) flags refuses ≡ columns_with (take i names) flags refuses ++ record { name = name; is_key = is_marked (get_or flags i 0); refuses_null = get_or refuses i false } ∷ []
column_more names flags refuses i name within in_flags in_refuses here =
    let as_long : length (take i names) ≡ i = length-take-le i names (omega arith) in
    rw (take_more names i name within, ← here) (
    columns_push (take i names) flags refuses name (omega arith) (omega arith)
    ∙ ap (λ (n : ℕ). columns_with (take i names) flags refuses ++ record { name = name; is_key = is_marked (get_or flags n 0); refuses_null = get_or refuses n false } ∷ []) as_long)

-- the marks of either kind
either_marked : (columns : List Column) → either (map (λ c. c.is_key) columns) (map (λ c. c.refuses_null) columns) ≡ map (λ c. c.is_key || c.refuses_null) columns
either_marked [] = refl
either_marked (c ∷ columns) = ap (λ (l : List Bool). (c.is_key || c.refuses_null) ∷ l) (either_marked columns)

flags_marked : (columns : List Column) → map {B = ℕ} (λ k. if k then 1 else 0) (map (λ c. c.is_key) columns) ≡ map (λ c. if c.is_key then 1 else 0) columns
flags_marked [] = refl
flags_marked (c ∷ columns) = ap (λ (l : List ℕ). (if c.is_key then 1 else 0) ∷ l) (flags_marked columns)

schema_with : List (List ℕ) → List ℕ → List Bool → SchemaData
schema_with columns flags refuses = record { columns = columns; flags = flags; refuses = refuses }

-- lists that are those of the columns declare what the columns do
pub declares : (names : List (String Global)) (keys refuses : List Bool) (columns : List Column) → map string_bytes names ≡ map (λ c. c.name) columns → keys ≡ map (λ c. c.is_key) columns → refuses ≡ map (λ c. c.refuses_null) columns → schema_of names keys refuses ≡ declared_schema columns
unfolding schema_with
declares names keys refuses columns names_are keys_are refuses_are =
    ap (λ (ns : List (List ℕ)). schema_with ns (map (λ k. if k then 1 else 0) keys) (either keys refuses)) names_are
    ∙ ap (λ (ks : List Bool). schema_with (map (λ c. c.name) columns) (map (λ k. if k then 1 else 0) ks) (either ks refuses)) keys_are
    ∙ ap (λ (rs : List Bool). schema_with (map (λ c. c.name) columns) (map (λ k. if k then 1 else 0) (map (λ c. c.is_key) columns)) (either (map (λ c. c.is_key) columns) rs)) refuses_are
    ∙ ap (λ (fs : List ℕ). schema_with (map (λ c. c.name) columns) fs (either (map (λ c. c.is_key) columns) (map (λ c. c.refuses_null) columns))) (flags_marked columns)
    ∙ ap (λ (rs : List Bool). schema_with (map (λ c. c.name) columns) (map (λ c. if c.is_key then 1 else 0) columns) rs) (either_marked columns)
