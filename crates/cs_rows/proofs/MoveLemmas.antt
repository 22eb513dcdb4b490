-- A row that is put under another key before the one whose place it takes is taken away.
use Rattle.std.proofs.Common.{bytes_eq, ◌≡◌, ℕ, Bool, true, false, cond, List, Option, Some, None, refl, sym, ap, subst, ◌∙◌}
use Rattle.std.specs.Option.{IsSome}
use Rattle.std.specs.Cmp.Lexicographic.{same_text}
use Rattle.std.proofs.lemmas.Cmp.{nat_list_eq_equiv}
use Rattle.std.specs.FinMap.{get, insert, remove}
use Rattle.cs_value.specs.declared.value.OwnedValue.{OwnedValue}
use Rattle.cs_value.specs.State.{TableData, RowMap, State, rows_at, with_row, without_row, with_rows}
use Rattle.cs_value.specs.Maps.{ByBytes}
use Rattle.cs_value.proofs.ByteMaps.{same_maps}
use Rattle.cs_rows.specs.Rows.{Fits, IsDeclared}
use Rattle.cs_rows.proofs.MemoryLemmas.{with_rows_found, rows_at_found}
use Rattle.cs_rows.proofs.MapLemmas.{get_put, get_taken}

-- ---- maps

-- the second of two entries that are put under a key is there
put_twice : {X : Type 0} (m : ByBytes X) (key : List ℕ) (a b : X) → insert (insert m key a) key b ≡ insert m key b
put_twice {X} m key a b = same_maps _ _ (λ q.
    get_put (insert m key a) key b q ∙ ap (cond (bytes_eq q key) (Some b)) (get_put m key a q)
    ∙ once (bytes_eq q key) (get m q) ∙ sym (get_put m key b q))
  where
    once : (c : Bool) (o : Option X) → cond c (Some b) (cond c (Some a) o) ≡ cond c (Some b) o
    once true o = refl
    once false o = refl

-- one entry is put and another taken away in either order
put_then_taken : {X : Type 0} (m : ByBytes X) (key next : List ℕ) (x : X) → ¬ (key ≡ next) → remove (insert m next x) key ≡ insert (remove m key) next x
put_then_taken {X} m key next x apart = same_maps _ _ (λ q.
    get_taken (insert m next x) key q ∙ ap (cond (bytes_eq q key) None) (get_put m next x q)
    ∙ either q (bytes_eq q key) (bytes_eq q next) refl refl (get m q)
    ∙ sym (ap (cond (bytes_eq q next) (Some x)) (get_taken m key q)) ∙ sym (get_put (remove m key) next x q))
  where
    either : (q : List ℕ) (a b : Bool) → bytes_eq q key ≡ a → bytes_eq q next ≡ b → (o : Option X) → cond a None (cond b (Some x) o) ≡ cond b (Some x) (cond a None o)
    either q true true is_key is_next o = absurd (apart (sym (same_text q key (sym is_key)) ∙ same_text q next (sym is_next)))
    either q true false is_key is_next o = refl
    either q false b is_key is_next o = refl

-- ---- tables

module _ (state : State) (name : List ℕ) (table : TableData) (found : get state name ≡ Some table) where
  rows_put : (rows : RowMap) → get (with_rows state name rows) name ≡ Some (record table { rows = rows })
  rows_put rows =
      let with : TableData = record table { rows = rows } in
      ap (λ (s : State). get s name) (with_rows_found state name table rows found) ∙ get_put state name with name
      ∙ ap (λ b. cond b (Some with) (get state name)) (nat_list_eq_equiv.refl name)

  -- the rows of a table that are put last are there
  rows_twice : (rows more : RowMap) → with_rows (with_rows state name rows) name more ≡ with_rows state name more
  rows_twice rows more =
      let with : TableData = record table { rows = rows } in
      let last : TableData = record table { rows = more } in
      with_rows_found (with_rows state name rows) name with more (rows_put rows)
      ∙ ap (λ (s : State). insert s name last) (with_rows_found state name table rows found)
      ∙ put_twice state name with last ∙ sym (with_rows_found state name table more found)

  moves : (key next : List ℕ) (row : List OwnedValue) → ¬ (key ≡ next) → without_row (with_row state name next row) name key ≡ with_row (without_row state name key) name next row
  moves key next row apart =
      let put = insert (rows_at state name) next row in
      let taken = remove (rows_at state name) key in
      ap (λ (r : RowMap). with_rows (with_rows state name put) name (remove r key)) (rows_at_found (with_rows state name put) name _ (rows_put put))
      ∙ rows_twice put (remove put key)
      ∙ ap (with_rows state name) (put_then_taken (rows_at state name) key next row apart)
      ∙ sym (rows_twice taken (insert taken next row))
      ∙ ap (λ (r : RowMap). with_rows (with_rows state name taken) name (insert r next row)) (sym (rows_at_found (with_rows state name taken) name _ (rows_put taken)))

-- the result is as if it had been put after it
pub moved_either_way : (state : State) (name key next : List ℕ) (row : List OwnedValue) → Fits state name next row → ¬ (key ≡ next)
    → without_row (with_row state name next row) name key ≡ with_row (without_row state name key) name next row
moved_either_way state name key next row fits apart = moves state name fits.table fits.found key next row apart

-- the table is declared still
pub declared_with : (state : State) (name next : List ℕ) (row : List OwnedValue) → Fits state name next row → IsDeclared (with_row state name next row) name
declared_with state name next row fits = subst (λ (o : Option TableData). IsSome o) (sym (rows_put state name fits.table fits.found (insert (rows_at state name) next row))) refl
