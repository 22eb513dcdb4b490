-- New tables and edits of rows, worked as examples: in a state of a table t, which holds the row (1, 'x'), and an
-- empty table u.
use Rattle.std.proofs.Common.{bytes_eq, ◌≡◌, ℕ, ◌<◌, zero, suc, pos, Bool, true, false, cond, List, [], ◌∷◌, Option, Some, None, is_some, String, Global, Result, Ok, Err, codes, refl, sym, ap, ◌∙◌, arith}
use Rattle.std.specs.Char.{encode_utf8}
use Rattle.std.specs.Str.{chars, is_utf8}
use Rattle.std.specs.List.{Any}
use Rattle.std.specs.String.{string_bytes}
use Rattle.std.specs.Ordering.{nat_cmp}
use Rattle.std.specs.Cmp.Lexicographic.{slice_cmp}
use Rattle.std.specs.FinMap.{get, insert, remove, empty, get-empty}
use Rattle.std.proofs.lemmas.Str.{IsUtf8-from_is_utf8}
use Rattle.cs_value.specs.declared.value.OwnedValue.{OwnedValue}
use Rattle.cs_value.specs.declared.value.OwnedValue.TheVariants.{Int, Text, Null}
use Rattle.cs_value.specs.Spelling.{value_bytes}
use Rattle.cs_value.specs.Table.{IsName}
use Rattle.cs_value.specs.Maps.{ByBytes}
use Rattle.cs_value.specs.State.{IsColumnName, TableData, RowMap, State, WrittenData, row_at, with_rows, with_row, without_row}
use Rattle.cs_value.proofs.ByteMaps.{same_maps}
use Rattle.cs_rows.specs.declared.edit.Edit.TheVariants.{Insert, Update, Delete}
use Rattle.cs_rows.specs.declared.fault.StoreError.{StoreError}
use Rattle.cs_rows.specs.declared.fault.StoreError.TheVariants.{TableExists, NoTable, BadSchema, KeyTaken, NoRow, RowWidth, NullInKey, NotNull}
use Rattle.cs_rows.specs.Editing.{Declares, Edited, inserted_in, updated_in, deleted_in, found_table, in_table, edited}
use Rattle.cs_rows.proofs.MemoryLemmas.{with_rows_found, rows_at_found, row_at_found}
use Rattle.cs_rows.proofs.MapLemmas.{get_put, get_taken}
use Rattle.cs_rows.proofs.Examples.{two_columns, refusing_columns, columns_are_schema, one_column, one_column_is_schema, table_t, tables, row, key, held, state, t_is_name, tables_at}

-- ---- declaring

d_is_name : IsColumnName (codes "d")
unfolding encode_utf8 chars is_utf8
d_is_name = record { some = omega arith; text = IsUtf8-from_is_utf8 (codes "d") refl; short = omega arith }

v_is_name : IsName (codes "v")
unfolding encode_utf8 chars is_utf8
v_is_name = record { some = omega arith; text = IsUtf8-from_is_utf8 (codes "v") refl; no_zero = (λ same. absurd (omega (arith, same)), tt) }

-- a table v of column d is new: it is there, without rows
new_table_is_declared : Declares state (codes "v") (one_column (codes "d")) (Ok (insert state (codes "v") (record { schema = one_column (codes "d"); rows = empty })))
new_table_is_declared = ((v_is_name, one_column_is_schema (codes "d") d_is_name), tables_at held (codes "v"), refl)

-- the name t is refused, since a table has it
taken_name_is_refused : Declares state (codes "t") two_columns (Err TableExists)
taken_name_is_refused = ((t_is_name, columns_are_schema false), ap is_some (tables_at held (codes "t")))

-- a table without a column in its key is refused
no_key_is_refused : Declares state (codes "v") (record { columns = codes "d" ∷ []; flags = 0 ∷ []; refuses = false ∷ [] }) (Err BadSchema)
no_key_is_refused declarable = no_key declarable.1.flags.some_key
  where
    no_key : Any (λ flag. 0 < flag) (0 ∷ []) → ⊥
    no_key (zero, flag, below, is, some) = absurd (omega (arith, is, some))
    no_key (suc k, flag, below, is, some) = absurd (omega (arith, below))

-- and so is one with fewer marks than columns
fewer_marks_are_refused : Declares state (codes "v") (record { columns = codes "d" ∷ []; flags = 1 ∷ []; refuses = [] }) (Err BadSchema)
fewer_marks_are_refused declarable = declarable.1.rules

-- and one of the empty name
no_name_is_refused : Declares state [] (one_column (codes "d")) (Err BadSchema)
no_name_is_refused declarable = absurd (omega (arith, declarable.0.some))

-- ---- editing

abbrev second_key : List ℕ
second_key = 0x01 ∷ 0 ∷ 0 ∷ 0 ∷ 0 ∷ 0 ∷ 0 ∷ 0 ∷ 2 ∷ []

abbrev one_y : List OwnedValue
one_y = Int (pos 1) ∷ Text (codes "y") ∷ []

abbrev two_y : List OwnedValue
two_y = Int (pos 2) ∷ Text (codes "y") ∷ []

-- (1, 'x') and (2, 'y')
abbrev two_rows : RowMap
two_rows = insert held second_key two_y

-- t has these rows, and these of its keys were written
abbrev changed_to : RowMap → List WrittenData → Result Edited StoreError
changed_to rows written = Ok (record { state = tables rows; written = written })

abbrev wrote : List ℕ → Option (List OwnedValue) → WrittenData
wrote key former = record { table = codes "t"; key = key; former = former }

-- what is put twice under a key is what was put last
put_again : {X : Type 0} (m : ByBytes X) (k : List ℕ) (x y : X) → insert (insert m k x) k y ≡ insert m k y
put_again {X = X} m k x y = same_maps _ _ (λ q.
    get_put (insert m k x) k y q ∙ ap (cond (bytes_eq q k) (Some y)) (get_put m k x q) ∙ at (bytes_eq q k) (get m q) ∙ sym (get_put m k y q))
  where
    at : (b : Bool) (o : Option X) → cond b (Some y) (cond b (Some x) o) ≡ cond b (Some y) o
    at true o = refl
    at false o = refl

-- the one row of a map is taken away
taken_away : remove held key ≡ empty
taken_away = same_maps _ _ (λ q. get_taken held key q ∙ ap (cond (bytes_eq q key) None) (get_put empty key row q) ∙ at (bytes_eq q key) q)
  where
    at : (b : Bool) (q : List ℕ) → cond b None (cond b (Some row) (get (empty {K = List ℕ} {X = List OwnedValue} {R = slice_cmp nat_cmp}) q)) ≡ get (empty {K = List ℕ} {X = List OwnedValue} {R = slice_cmp nat_cmp}) q
    at true q = sym (get-empty (slice_cmp nat_cmp) q)
    at false q = refl

-- the rows of t
row_of_t : (m : RowMap) (k : List ℕ) → row_at (tables m) (codes "t") k ≡ get m k
row_of_t m k = row_at_found (tables m) (codes "t") k (table_t m) (tables_at m (codes "t"))

-- and what becomes of it once its rows change, one is put and one is taken away
with_rows_of_t : (m next : RowMap) → with_rows (tables m) (codes "t") next ≡ tables next
with_rows_of_t m next = with_rows_found (tables m) (codes "t") (table_t m) next (tables_at m (codes "t")) ∙ put_again _ (codes "t") (table_t m) (table_t next)

with_row_of_t : (m : RowMap) (k : List ℕ) (r : List OwnedValue) → with_row (tables m) (codes "t") k r ≡ tables (insert m k r)
with_row_of_t m k r = with_rows_of_t m _ ∙ ap (λ (n : RowMap). tables (insert n k r)) (rows_at_found (tables m) (codes "t") (table_t m) (tables_at m (codes "t")))

without_row_of_t : (m : RowMap) (k : List ℕ) → without_row (tables m) (codes "t") k ≡ tables (remove m k)
without_row_of_t m k = with_rows_of_t m _ ∙ ap (λ (n : RowMap). tables (remove n k)) (rows_at_found (tables m) (codes "t") (table_t m) (tables_at m (codes "t")))

-- a row has key 1, and none has key 2
first_stands : row_at state (codes "t") key ≡ Some row
first_stands = row_of_t held key ∙ get_put empty key row key

no_second : row_at state (codes "t") second_key ≡ None
no_second = row_of_t held second_key ∙ get_put empty key row second_key ∙ get-empty (slice_cmp nat_cmp) second_key

module _ (table : String Global) (is_t : string_bytes table ≡ codes "t") where
  -- an edit of t meets its table
  in_t : (m : RowMap) (next : List ℕ → TableData → Result Edited StoreError) → in_table (tables m) (string_bytes table) (next (string_bytes table)) ≡ next (codes "t") (table_t m)
  in_t m next = ap (λ name. in_table (tables m) name (next name)) is_t ∙ ap (λ o. found_table o (next (codes "t"))) (tables_at m (codes "t"))

  -- (2, 'y') is inserted: its key is written, which no row had
  row_is_inserted : edited state (Insert table two_y) ≡ changed_to two_rows (wrote second_key None ∷ [])
  unfolding value_bytes
  row_is_inserted =
      in_t held (λ name t. inserted_in state name t two_y) ∙ rw (no_second, with_row_of_t held second_key two_y)

  -- (1, 'z') is not: there is a row with key 1
  taken_key_is_refused : edited state (Insert table (Int (pos 1) ∷ Text (codes "z") ∷ [])) ≡ Err KeyTaken
  unfolding value_bytes
  taken_key_is_refused =
      in_t held (λ name t. inserted_in state name t (Int (pos 1) ∷ Text (codes "z") ∷ [])) ∙ rw first_stands

  -- nor is (1), which has one value for two columns
  short_row_is_refused : edited state (Insert table (Int (pos 1) ∷ [])) ≡ Err RowWidth
  short_row_is_refused = in_t held (λ name t. inserted_in state name t (Int (pos 1) ∷ []))

  -- nor is (NULL, 'z'), which has NULL in its key
  null_key_is_refused : edited state (Insert table (Null ∷ Text (codes "z") ∷ [])) ≡ Err NullInKey
  null_key_is_refused = in_t held (λ name t. inserted_in state name t (Null ∷ Text (codes "z") ∷ []))

  -- the row with key 1 becomes (1, 'y'): its key is written
  row_is_updated : edited state (Update table key one_y) ≡ changed_to (insert empty key one_y) (wrote key (Some row) ∷ [])
  unfolding value_bytes
  row_is_updated =
      in_t held (λ name t. updated_in state name t key one_y)
      ∙ rw (first_stands, with_row_of_t held key one_y, put_again empty key row one_y)

  -- and (2, 'y'): both keys are written, and no row has the first
  row_is_moved : edited state (Update table key two_y) ≡ changed_to (insert empty second_key two_y) (wrote key (Some row) ∷ wrote second_key None ∷ [])
  unfolding value_bytes
  row_is_moved =
      in_t held (λ name t. updated_in state name t key two_y)
      ∙ rw (first_stands, no_second, without_row_of_t held key, taken_away, with_row_of_t empty second_key two_y)

  -- a row does not become one whose key another row has
  taken_key_is_not_updated : edited (tables two_rows) (Update table key two_y) ≡ Err KeyTaken
  unfolding value_bytes
  taken_key_is_not_updated =
      let first : row_at (tables two_rows) (codes "t") key ≡ Some row =
      row_of_t two_rows key ∙ get_put held second_key two_y key ∙ get_put empty key row key in
      let second : row_at (tables two_rows) (codes "t") second_key ≡ Some two_y =
      row_of_t two_rows second_key ∙ get_put held second_key two_y second_key in
      in_t two_rows (λ name t. updated_in (tables two_rows) name t key two_y) ∙ rw (first, second)

  -- no row with key 2 is updated
  absent_row_is_not_updated : edited state (Update table second_key two_y) ≡ Err NoRow
  unfolding value_bytes
  absent_row_is_not_updated = in_t held (λ name t. updated_in state name t second_key two_y) ∙ rw no_second

  -- what is wrong with the new row is reported before the missing row
  wrong_row_is_told_first : edited state (Update table second_key (Null ∷ Text (codes "z") ∷ [])) ≡ Err NullInKey
  wrong_row_is_told_first = in_t held (λ name t. updated_in state name t second_key (Null ∷ Text (codes "z") ∷ []))

  -- the row with key 1 is deleted: its key is written, and t is empty
  row_is_deleted : edited state (Delete table key) ≡ changed_to empty (wrote key (Some row) ∷ [])
  row_is_deleted =
      in_t held (λ name t. deleted_in state name key) ∙ rw (first_stands, without_row_of_t held key, taken_away)

  -- no row with key 2 is deleted
  absent_row_is_not_deleted : edited state (Delete table second_key) ≡ Err NoRow
  absent_row_is_not_deleted = in_t held (λ name t. deleted_in state name second_key) ∙ rw no_second

-- a table w is not there
no_table_is_refused : (table : String Global) (next : List ℕ → TableData → Result Edited StoreError) → string_bytes table ≡ codes "w" → in_table state (string_bytes table) (next (string_bytes table)) ≡ Err NoTable
no_table_is_refused table next is_w = ap (λ name. in_table state name (next name)) is_w ∙ ap (λ o. found_table o (next (codes "w"))) (tables_at held (codes "w"))

-- so no row is inserted into it
no_table_to_insert : (table : String Global) (r : List OwnedValue) → string_bytes table ≡ codes "w" → edited state (Insert table r) ≡ Err NoTable
no_table_to_insert table r = no_table_is_refused table (λ name t. inserted_in state name t r)

-- nor updated in it
no_table_to_update : (table : String Global) (k : List ℕ) (r : List OwnedValue) → string_bytes table ≡ codes "w" → edited state (Update table k r) ≡ Err NoTable
no_table_to_update table k r = no_table_is_refused table (λ name t. updated_in state name t k r)

-- nor deleted
no_table_to_delete : (table : String Global) (k : List ℕ) → string_bytes table ≡ codes "w" → edited state (Delete table k) ≡ Err NoTable
no_table_to_delete table k = no_table_is_refused table (λ name t. deleted_in state name k)

-- ---- a column that refuses NULL

-- the table n, whose column b refuses NULL, without rows
abbrev table_n : TableData
table_n = record { schema = refusing_columns; rows = empty }

abbrev state_n : State
state_n = insert empty (codes "n") table_n

module _ (table : String Global) (is_n : string_bytes table ≡ codes "n") where
  -- an edit of n meets its table
  in_n : (next : List ℕ → TableData → Result Edited StoreError) → in_table state_n (string_bytes table) (next (string_bytes table)) ≡ next (codes "n") table_n
  in_n next = ap (λ name. in_table state_n name (next name)) is_n ∙ ap (λ o. found_table o (next (codes "n"))) (get_put empty (codes "n") table_n (codes "n"))

  -- (1, NULL) is not inserted
  refused_null_is_not_inserted : edited state_n (Insert table (Int (pos 1) ∷ Null ∷ [])) ≡ Err NotNull
  refused_null_is_not_inserted = in_n (λ name t. inserted_in state_n name t (Int (pos 1) ∷ Null ∷ []))

  -- that NULL is reported before the missing row, and after NULL in the key
  refused_null_is_told_first : edited state_n (Update table second_key (Int (pos 1) ∷ Null ∷ [])) ≡ Err NotNull
  refused_null_is_told_first = in_n (λ name t. updated_in state_n name t second_key (Int (pos 1) ∷ Null ∷ []))

  null_key_is_told_before : edited state_n (Insert table (Null ∷ Null ∷ [])) ≡ Err NullInKey
  null_key_is_told_before = in_n (λ name t. inserted_in state_n name t (Null ∷ Null ∷ []))
