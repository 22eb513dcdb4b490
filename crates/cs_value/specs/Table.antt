-- What a table has: a name, columns, some of them its primary key, rows. After the format comment of SQLite's
-- sqlite3session.c, under "changeset format".
use Rattle.std.specs.Prelude.{◌≢◌, ℕ, zero, suc, ◌<◌, ◌≤◌, List, [], ◌∷◌, length, Any, IsUtf8}
use Rattle.std.specs.List.{AllByRecursion}
use Rattle.cs_value.specs.declared.TheConstants.{MAX_COLUMNS}
use Rattle.cs_value.specs.declared.value.OwnedValue.{OwnedValue}
use Rattle.cs_value.specs.declared.value.OwnedValue.TheVariants.{Null}
use Rattle.cs_value.specs.Value.{AreBytes}

-- a table's name has a byte and is UTF-8 without a zero byte
pub record IsName (name : List ℕ) : Type 0 where
  pub some : 0 < length name
  pub text : IsUtf8 name
  pub no_zero : AllByRecursion (λ b. b ≢ 0) name

-- the flags of a table: a byte for each of its columns, of which there are not too many; those other than 0, of which
-- there are some, mark the columns of the primary key
pub record IsFlags (flags : List ℕ) : Type 0 where
  pub bytes : AreBytes flags
  pub few : length flags ≤ MAX_COLUMNS
  pub some_key : Any (λ flag. 0 < flag) flags

-- a row with a value for each flag, and none of them NULL in a key column
abbrev pub IsKeyedRow : List ℕ → List OwnedValue → Type 0
IsKeyedRow [] [] = Unit {0}
IsKeyedRow (zero ∷ flags) (value ∷ values) = IsKeyedRow flags values
IsKeyedRow (suc flag ∷ flags) (value ∷ values) = (value ≢ Null) × IsKeyedRow flags values
IsKeyedRow [] (value ∷ values) = ⊥
IsKeyedRow (flag ∷ flags) [] = ⊥
