-- The columns of tables, as calls have them and as schemas do.
use Rattle.std.specs.Prelude.{ℕ, Bool, ◌||◌, if◌then◌else◌, List, [], ◌∷◌, map}
use Rattle.cs_value.specs.State.{SchemaData, is_marked}
use Rattle.cs_calls_parts.specs.declared.lists.Column.{Column}

-- the schema that columns declare: those of the key refuse NULL too
abbrev pub declared_schema : List Column → SchemaData
declared_schema columns = record {
  columns = map (λ c. c.name) columns;
  flags = map (λ c. if c.is_key then 1 else 0) columns;
  refuses = map (λ c. c.is_key || c.refuses_null) columns;
}

-- columns with these names, flags and marks
abbrev pub columns_with : List (List ℕ) → List ℕ → List Bool → List Column
columns_with (name ∷ names) (flag ∷ flags) (mark ∷ marks) =
    record { name = name; is_key = is_marked flag; refuses_null = mark } ∷ columns_with names flags marks
columns_with names flags marks = []

-- the columns of a table
abbrev pub schema_columns : SchemaData → List Column
schema_columns schema = columns_with schema.columns schema.flags schema.refuses
