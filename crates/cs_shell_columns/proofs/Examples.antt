-- The definitions of statements, on a table of two columns, `a` and `b`, of which the first is the key, and the second
-- refuses NULL.
use Rattle.std.proofs.Common.{bytes_eq, ◌≡◌, zero, suc, true, false, List, [], ◌∷◌, Some, None, true≢false, codes, refl, ap, ◌∙◌, arith, pos}
use Rattle.std.specs.List.{Any}
use Rattle.std.proofs.lemmas.List.Elements.{All-from_recursion}
use Rattle.cs_value.specs.declared.value.OwnedValue.{OwnedValue}
use Rattle.cs_value.specs.declared.value.OwnedValue.TheVariants.{Int, Text, Null}
use Rattle.cs_value.specs.Key.{row_key}
use Rattle.cs_value.specs.State.{SchemaData}
use Rattle.cs_rows.specs.declared.fault.StoreError.TheVariants.{NullInKey, NotNull}
use Rattle.cs_rows.specs.Editing.{row_fault}
use Rattle.cs_shell_grammar.specs.Commands.{AssignmentData}
use Rattle.cs_shell_columns.specs.Columns.{AreColumns, NamesKey, marks_of, columns_of, key_names}
use Rattle.cs_shell_columns.specs.Rows.{named_key, with_assigned}

abbrev table : SchemaData
table = record { columns = codes "a" ∷ codes "b" ∷ []; flags = 1 ∷ 0 ∷ []; refuses = true ∷ true ∷ [] }

-- a=.. and b=..
abbrev a_is : OwnedValue → AssignmentData
a_is value = record { column = codes "a"; value = value }

abbrev b_is : OwnedValue → AssignmentData
b_is value = record { column = codes "b"; value = value }

abbrev y : OwnedValue
y = Text (codes "y")

abbrev row : List OwnedValue
row = Int (pos 1) ∷ Text (codes "x") ∷ []

-- columns

-- PRIMARY KEY(a) marks the first column
key_is_marked : marks_of (codes "a" ∷ codes "b" ∷ []) (codes "a" ∷ []) ≡ true ∷ false ∷ []
key_is_marked = refl

other_name : codes "b" ≡ codes "a" → ⊥
other_name same = true≢false (ap (bytes_eq (codes "b")) same)

-- a column that is assigned once is one of the table's
one_assigned : AreColumns table.columns (columns_of (b_is y ∷ []))
one_assigned = record {
  known =
      All-from_recursion (λ name. Any (λ column. column ≡ name) table.columns) (columns_of (b_is y ∷ []))
      ((1, codes "b", omega arith, refl, refl), tt);
  once = λ i j d below within. absurd (omega arith);
}

-- SET b=1, b='y' is refused: a column is there twice
twice_assigned : AreColumns table.columns (columns_of (b_is (Int (pos 1)) ∷ b_is y ∷ [])) → ⊥
twice_assigned fit = fit.once 0 1 (codes "b") (omega arith) (omega arith) refl

-- SET c='y' is refused: there is no such column
unknown_assigned : AreColumns table.columns (codes "c" ∷ []) → ⊥
unknown_assigned fit = at (fit.known 0 (codes "c") (omega arith))
  where
    at : Any (λ column. column ≡ codes "c") table.columns → ⊥
    at (zero, column, within, is, same) = true≢false (ap (bytes_eq (codes "a")) (is ∙ same))
    at (suc zero, column, within, is, same) = true≢false (ap (bytes_eq (codes "b")) (is ∙ same))
    at (suc (suc k), column, within, is, same) = absurd (omega arith)

-- WHERE a=1 names a row
key_names_row : NamesKey table (a_is (Int (pos 1)) ∷ [])
key_names_row = record {
  columns = record {
    known =
        All-from_recursion (λ name. Any (λ column. column ≡ name) (key_names table))
        (columns_of (a_is (Int (pos 1)) ∷ [])) ((0, codes "a", omega arith, refl, refl), tt);
    once = λ i j d below within. absurd (omega arith);
  };
  each =
      All-from_recursion (λ name. Any (λ a. a.column ≡ name) (a_is (Int (pos 1)) ∷ [])) (key_names table)
      ((0, a_is (Int (pos 1)), omega arith, refl, refl), tt);
}

-- WHERE b=1 names none
other_names_no_row : NamesKey table (b_is (Int (pos 1)) ∷ []) → ⊥
other_names_no_row names = at (names.columns.known 0 (codes "b") (omega arith))
  where
    at : Any (λ column. column ≡ codes "b") (key_names table) → ⊥
    at (zero, column, within, is, same) = true≢false (ap (bytes_eq (codes "a")) (is ∙ same))
    at (suc k, column, within, is, same) = absurd (omega arith)

-- rows

-- a=1 names the key of the row (1, 'x'), and a=NULL names none
keys_are_named :
    (named_key table (a_is (Int (pos 1)) ∷ []) ≡ Some (row_key table.flags row))
    × (named_key table (a_is Null ∷ []) ≡ None)
keys_are_named = (refl, refl)

-- SET b='y' makes (1, 'y') of (1, 'x'), which may be in the table; with NULL in b it may not, and NULL in the key is
-- reported first
rows_are_assigned :
    (with_assigned (b_is y ∷ []) table.columns row ≡ Int (pos 1) ∷ y ∷ [])
    × (row_fault table (with_assigned (b_is y ∷ []) table.columns row) ≡ None)
    × (row_fault table (with_assigned (b_is Null ∷ []) table.columns row) ≡ Some NotNull)
    × (row_fault table (with_assigned (b_is Null ∷ a_is Null ∷ []) table.columns row) ≡ Some NullInKey)
rows_are_assigned = (refl, refl, refl, refl)
