-- The bytes of calls: `docs/CALLS.md` has them in words. Values are spelled as in a changeset file.
use Rattle.std.specs.Prelude.{◌≤◌, ◌<◌, ◌^◌, ℕ, List, [], ◌∷◌, ◌++◌, length, Bool, true, false, Option, None, Some, IfSome, IsUtf8}
use Rattle.std.specs.List.{flat_map, AllByRecursion}
use Rattle.cs_value.specs.declared.TheConstants.{MAX_CONTENT_LEN}
use Rattle.cs_value.specs.declared.value.OwnedValue.{OwnedValue}
use Rattle.cs_value.specs.Value.{AreBytes, IsValue}
use Rattle.cs_value.specs.Varint.{varint}
use Rattle.cs_value.specs.Spelling.{counted, value_bytes}
use Rattle.cs_apply_conflict_kinds.specs.declared.conflict.Choice.{Choice}
use Rattle.cs_apply_conflict_kinds.specs.declared.conflict.Noop.{Noop}
use Rattle.cs_apply_conflict_kinds.specs.declared.conflict.Noop.TheVariants.{Report, Ignore}
use Rattle.cs_apply_conflict_kinds.specs.declared.conflict.Kind.{Kind}
use Rattle.cs_apply_conflict_kinds.specs.Conflicts.{choice_number, kind_number}
use Rattle.std.specs.Int.{w64, to_be_bytes}
use Rattle.cs_apply_engine.specs.declared.policy.Policy.{Policy}
use Rattle.cs_calls_parts.specs.declared.conflicts.ChosenConflict.{ChosenConflict}
use Rattle.cs_calls_parts.specs.declared.conflicts.FoundConflict.{FoundConflict}
use Rattle.cs_calls_parts.specs.declared.lists.Column.{Column}

-- a name: UTF-8, at most 2147483647 bytes
abbrev pub IsText : List ℕ → Type 0
IsText text = IsUtf8 text × (length text ≤ MAX_CONTENT_LEN)

-- a file: bytes, at most 2147483647
abbrev pub IsFile : List ℕ → Type 0
IsFile file = AreBytes file × (length file ≤ MAX_CONTENT_LEN)

-- parts after their count
unfoldable pub list_bytes : {X : Type 0} → (X → List ℕ) → List X → List ℕ
list_bytes part_bytes parts = varint (length parts) ++ flat_map part_bytes parts

-- parts that have a count
pub record IsList {X : Type 0} (IsPart : X → Type 0) (parts : List X) : Type 0 where
  pub few : length parts ≤ MAX_CONTENT_LEN
  pub are_parts : AllByRecursion IsPart parts

-- the values of a row, or of a key
abbrev pub row_bytes : List OwnedValue → List ℕ
row_bytes values = list_bytes value_bytes values

-- 0 for none, 1 before a part
unfoldable pub option_bytes : {X : Type 0} → (X → List ℕ) → Option X → List ℕ
option_bytes part_bytes None = 0 ∷ []
option_bytes part_bytes (Some part) = 1 ∷ part_bytes part

-- a number of 64 bits: eight bytes, big-endian
abbrev pub wide_bytes : ℕ → List ℕ
wide_bytes number = to_be_bytes w64 number

-- 1 for yes, 0 for no
unfoldable pub flag_bytes : Bool → List ℕ
flag_bytes false = 0 ∷ []
flag_bytes true = 1 ∷ []

-- SQLite's number of the kind of a conflict: 1 DATA, 2 NOTFOUND, 3 CONFLICT, 4 CONSTRAINT
unfoldable pub kind_bytes : Kind → List ℕ
kind_bytes kind = kind_number kind ∷ []

-- 1 for a column of the key, and 2 more for one that refuses NULL
unfoldable pub mark_of : Bool → Bool → ℕ
mark_of false false = 0
mark_of true false = 1
mark_of false true = 2
mark_of true true = 3

-- the name of a column, and its mark
unfoldable pub column_bytes : Column → List ℕ
column_bytes column = counted column.name ++ mark_of column.is_key column.refuses_null ∷ []

abbrev pub IsColumn : Column → Type 0
IsColumn column = IsText column.name

-- SQLite's number of a choice: 0 to omit, 1 to replace, 2 to abort
unfoldable pub choice_bytes : Choice → List ℕ
choice_bytes choice = choice_number choice ∷ []

-- 0 where an entry that changes nothing is reported, 1 where it is ignored
unfoldable pub noop_bytes : Noop → List ℕ
noop_bytes Report = 0 ∷ []
noop_bytes Ignore = 1 ∷ []

-- a choice for each kind of conflict: DATA, NOTFOUND, CONFLICT, CONSTRAINT
unfoldable pub policy_bytes : Policy → List ℕ
policy_bytes policy =
    choice_bytes policy.on_data ++ choice_bytes policy.on_notfound ++ choice_bytes policy.on_conflict
    ++ choice_bytes policy.on_constraint

-- ---- conflicts

abbrev pub IsWide : ℕ → Type 0
IsWide number = number < 2 ^ 64

abbrev pub IsRowList : List OwnedValue → Type 0
IsRowList values = IsList IsValue values

unfoldable pub found_bytes : FoundConflict → List ℕ
found_bytes found =
    wide_bytes found.index ++ kind_bytes found.kind ++ counted found.table ++ row_bytes found.key
    ++ option_bytes row_bytes found.current

pub record IsFound (found : FoundConflict) : Type 0 where
  pub index : IsWide found.index
  pub table : IsText found.table
  pub key : IsRowList found.key
  pub current : IfSome found.current IsRowList

pub record FoundCounts (found : FoundConflict) : Type 0 where
  pub key : length found.key ≤ MAX_CONTENT_LEN
  pub current : IfSome found.current (λ row. length row ≤ MAX_CONTENT_LEN)

-- a conflict, and the choice for it
unfoldable pub chosen_bytes : ChosenConflict → List ℕ
chosen_bytes chosen = found_bytes chosen.conflict ++ choice_bytes chosen.choice

abbrev pub IsChosen : ChosenConflict → Type 0
IsChosen chosen = IsFound chosen.conflict

abbrev pub ChosenCounts : ChosenConflict → Type 0
ChosenCounts chosen = FoundCounts chosen.conflict
