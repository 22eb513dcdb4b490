-- Tables in memory, when one of them is changed in its place.
use Rattle.std.proofs.Common.{◌≡◌, ℕ, List, [], map, Some, None, String, Global, Result, Ok, Err, OnOk, OnErr, Bool, true, false, cond, IsTrue, is_some, refl, sym, ap, ◌∙◌, subst}
use Rattle.std.specs.Option.{option_map}
use Rattle.std.specs.String.{string_bytes}
use Rattle.std.specs.Ordering.{nat_cmp, is_eq}
use Rattle.std.specs.declared.cmp.Ordering.{Ordering}
use Rattle.std.specs.Cmp.Lexicographic.{slice_cmp, nat_list_cmp_total}
use Rattle.std.specs.FinMap.{get, insert, values, empty, get-insert, get-empty}
use Rattle.std.specs.List.Sorted.{IsStrictlySortedBy}
use Rattle.std.specs.Map.{lookup, set_value}
use Rattle.std.specs.BTreeMap.{is_at}
use Rattle.cs_value.specs.declared.value.OwnedValue.{OwnedValue}
use Rattle.cs_rows.specs.Rows.{Fits}
use Rattle.cs_value.specs.State.{TableData, RowMap, IsRowAt, IsTable, State, IsState, rows_at, row_at, with_rows}
use Rattle.cs_value.proofs.ByteMaps.{is_key, seen_map, get_seen, seen_set, seen_entries, same_maps, tied_bytes}
use Rattle.cs_value.proofs.StateLemmas.{state_insert}

-- the tables by name, as entries of a map
abbrev pub Tables : Type 0
Tables = List (String Global × TableData)

abbrev pub seen_tables : Tables → State
seen_tables es = seen_map string_bytes (λ t. t) es

-- whether a name is the one that is looked for
abbrev pub is_name : List ℕ → String Global → Ordering
is_name name = is_key string_bytes (λ (t : TableData). t) name

-- putting a table under its name again changes nothing
pub insert_same : (state : State) (name : List ℕ) (table : TableData) → get state name ≡ Some table → insert state name table ≡ state
insert_same state name table found = same_maps _ _ (λ q. get-insert nat_list_cmp_total state name table q ∙ at q (is_eq (slice_cmp nat_cmp q name)) refl)
  where
    at : (q : List ℕ) (b : Bool) → is_eq (slice_cmp nat_cmp q name) ≡ b → cond b (Some table) (get state q) ≡ get state q
    at q true is = sym found ∙ ap (get state) (sym (tied_bytes q name is))
    at q false is = refl

-- the rows of a table that is there
pub with_rows_found : (state : State) (name : List ℕ) (table : TableData) (rows : RowMap) → get state name ≡ Some table → with_rows state name rows ≡ insert state name (record table { rows = rows })
with_rows_found state name table rows found = rw found refl

pub rows_at_found : (state : State) (name : List ℕ) (table : TableData) → get state name ≡ Some table → rows_at state name ≡ table.rows
rows_at_found state name table found = rw found refl

-- the row under a key of a table that is there, and of none
pub row_at_found : (state : State) (name key : List ℕ) (table : TableData) → get state name ≡ Some table → row_at state name key ≡ get table.rows key
row_at_found state name key table found = ap (λ rows. get rows key) (rows_at_found state name table found)

pub rows_at_absent : (state : State) (name : List ℕ) → get state name ≡ None → rows_at state name ≡ empty
rows_at_absent state name none = rw none refl

-- an empty map has no values
pub no_values : values (empty {K = List ℕ} {X = List OwnedValue} {R = slice_cmp nat_cmp}) ≡ []
unfolding IsStrictlySortedBy
no_values = ap (map (λ e. e.1)) (seen_entries {K = List ℕ} {V = List OwnedValue} (λ k. k) (λ v. v) [] tt)

pub row_at_absent : (state : State) (name key : List ℕ) → get state name ≡ None → row_at state name key ≡ None
row_at_absent state name key none = ap (λ rows. get rows key) (rows_at_absent state name none) ∙ get-empty (slice_cmp nat_cmp) key

-- a row that fits the table of the name fits the table that is found there
pub fits_there : (state : State) (name key : List ℕ) (row : List OwnedValue) (table : TableData) → Fits state name key row → get state name ≡ Some table → IsRowAt table.schema key row
fits_there state name key row table fits found = let same : fits.table ≡ table = let e = sym fits.found ∙ found in cc in subst (λ (t : TableData). IsRowAt t.schema key row) same fits.fit

-- the entry that a look-up finds is in the state
pub stands : (es : Tables) (state : State) (name : List ℕ) (table : TableData) → seen_tables es ≡ state → Some table ≡ lookup (is_at (is_name name)) es → get state name ≡ Some table
stands es state name table is found = ap (λ s. get s name) (sym is) ∙ sym (get_seen string_bytes (λ t. t) es name) ∙ ap (option_map (λ t. t)) (sym found)

-- where there is no table of the name nothing changes
pub with_rows_absent : (es : Tables) (state : State) (name : List ℕ) (rows : RowMap) → seen_tables es ≡ state → None ≡ lookup (is_at (is_name name)) es → with_rows state name rows ≡ state
with_rows_absent es state name rows is none =
    let absent : get state name ≡ None = ap (λ s. get s name) (sym is) ∙ sym (get_seen string_bytes (λ t. t) es name) ∙ ap (option_map (λ t. t)) (sym none) in rw absent refl

module _ (es fs : Tables) (state : State) (name : List ℕ) (table new : TableData) (is : seen_tables es ≡ state) (found : Some table ≡ lookup (is_at (is_name name)) es)
    (set : fs ≡ set_value (is_at (is_name name)) es new) where
  there : get state name ≡ Some table
  there = stands es state name table is found

  -- and the new one in its place once it is written back
  pub replaced : seen_tables fs ≡ insert state name new
  replaced = seen_set string_bytes (λ t. t) es fs name new (subst (λ o. IsTrue (is_some o)) found refl) set ∙ ap (λ s. insert s name new) is

  -- it leaves a state, if it is a table
  pub replaced_is_state : IsState state → IsTable new → IsState (seen_tables fs)
  replaced_is_state states fit = rw replaced (state_insert state name new states (states name table there).named fit)

  -- a change of only the rows
  pub rows_replaced : (rows : RowMap → RowMap) → new ≡ record table { rows = rows table.rows } → seen_tables fs ≡ with_rows state name (rows (rows_at state name))
  rows_replaced rows e =
      replaced ∙ ap (insert state name) e
      ∙ ap (λ r. let t : TableData = record table { rows = rows r } in insert state name t) (sym (rows_at_found state name table there))
      ∙ sym (with_rows_found state name table (rows (rows_at state name)) there)

  -- no change
  pub kept : new ≡ table → seen_tables fs ≡ state
  kept e = replaced ∙ ap (insert state name) e ∙ insert_same state name table there

  -- a change, or a refusal that changes nothing
  module _ {X E : Type 0} (result : Result X E) (rows : RowMap → RowMap) where
    pub on_ok : OnOk result (new ≡ record table { rows = rows table.rows }) → OnOk result (seen_tables fs ≡ with_rows state name (rows (rows_at state name)))
    on_ok h = elim result as (λ r. OnOk r (new ≡ record table { rows = rows table.rows }) → OnOk r (seen_tables fs ≡ with_rows state name (rows (rows_at state name)))) [ Ok x ↦ λ e. rows_replaced rows e | Err e ↦ λ k. tt ] h

    pub on_err : OnErr result (new ≡ table) → OnErr result (seen_tables fs ≡ state)
    on_err h = elim result as (λ r. OnErr r (new ≡ table) → OnErr r (seen_tables fs ≡ state)) [ Ok x ↦ λ k. tt | Err e ↦ λ e. kept e ] h

    pub still_table : IsTable table → IsTable (record table { rows = rows table.rows }) → OnOk result (new ≡ record table { rows = rows table.rows }) → OnErr result (new ≡ table) → IsTable new
    still_table was next ok err =
        elim result as (λ r. OnOk r (new ≡ record table { rows = rows table.rows }) → OnErr r (new ≡ table) → IsTable new) [
          | Ok x ↦ λ e k. subst IsTable (sym e) next
          | Err e ↦ λ k e. subst IsTable (sym e) was
        ] ok err
