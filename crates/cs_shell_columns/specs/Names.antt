-- Names that are looked up: the names of a list, a set of names, and values by names.
use Rattle.std.specs.Prelude.{bytes_eq, ◌≡◌, ℕ, List, Bool, map, not, ◌&&◌, option_map}
use Rattle.std.specs.Borrow.{Bor}
use Rattle.std.specs.List.{list_any}
use Rattle.std.specs.Ordering.{nat_cmp}
use Rattle.std.specs.Cmp.Lexicographic.{slice_cmp}
use Rattle.std.specs.BTreeSet.{BTreeSet, contains_by}
use Rattle.std.specs.BTreeMap.{BTreeMap, get_by}
use Rattle.cs_value.specs.declared.value.OwnedValue.{OwnedValue}
use Rattle.cs_shell_grammar.specs.Commands.{AssignmentData}
use Rattle.cs_shell_columns.specs.Rows.{assigned}

-- the bytes of borrowed names
abbrev pub texts_of : List (Bor (List ℕ)) → List (List ℕ)
texts_of = map (λ text. text.now)

-- whether the set has the name
abbrev pub has_name : BTreeSet (Bor (List ℕ)) → List ℕ → Bool
has_name set name = contains_by (λ text. slice_cmp nat_cmp name text.now) set

-- the set has the columns that are none of the names
pub record HasOthers (columns names : List (List ℕ)) (set : BTreeSet (Bor (List ℕ))) : Type 0 where
  pub each : (name : List ℕ)
      → has_name set name ≡ (list_any (bytes_eq name) columns && not (list_any (bytes_eq name) names))

-- the map has at each column the value that it is assigned
pub record HasAssigned (assignments : List AssignmentData) (values : BTreeMap (Bor (List ℕ)) (Bor OwnedValue)) : Type 0
  where
    pub each : (column : List ℕ)
        → option_map (λ value. value.now) (get_by (λ text. slice_cmp nat_cmp column text.now) values)
        ≡ assigned assignments column
