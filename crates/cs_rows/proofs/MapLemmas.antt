-- What maps by bytes have once an entry is put or taken away.
use Rattle.std.proofs.Common.{bytes_eq, ◌≡◌, ℕ, List, Some, None, true, false, cond, refl, sym, ap, ◌∙◌, unwrap_or}
use Rattle.std.specs.Option.{option_map}
use Rattle.std.specs.Cmp.Lexicographic.{nat_list_cmp_total, texts_ties}
use Rattle.std.specs.FinMap.{get, insert, remove, empty, get-insert, get-remove}
use Rattle.cs_value.specs.Maps.{ByBytes}
use Rattle.cs_value.specs.State.{TableData, State, rows_at}

-- what a map has once an entry is put, and once one is taken away
pub get_put : {X : Type 0} (m : ByBytes X) (k : List ℕ) (v : X) (q : List ℕ) → get (insert m k v) q ≡ cond (bytes_eq q k) (Some v) (get m q)
get_put m k v q = get-insert nat_list_cmp_total m k v q ∙ ap (λ b. cond b (Some v) (get m q)) (sym (texts_ties q k))

pub get_taken : {X : Type 0} (m : ByBytes X) (k q : List ℕ) → get (remove m k) q ≡ cond (bytes_eq q k) None (get m q)
get_taken m k q = get-remove nat_list_cmp_total m k q ∙ ap (λ b. cond b None (get m q)) (sym (texts_ties q k))

-- the rows under a name once a table is put
pub rows_at_put : (state : State) (name : List ℕ) (table : TableData) (q : List ℕ) → rows_at (insert state name table) q ≡ cond (bytes_eq q name) table.rows (rows_at state q)
rows_at_put state name table q =
    ap (λ o. unwrap_or (option_map (λ (t : TableData). t.rows) o) empty) (get_put state name table q)
    ∙ elim (bytes_eq q name) as (λ b. unwrap_or (option_map (λ (t : TableData). t.rows) (cond b (Some table) (get state q))) empty ≡ cond b table.rows (rows_at state q)) [ true ↦ refl | false ↦ refl ]
