-- What edits of the rows of a table leave of it, and of the other tables.
use Rattle.std.proofs.Common.{bytes_eq, ◌≡◌, ℕ, Bool, true, false, cond, not, if◌then◌else◌, List, [], ◌∷◌, Option, Some, None, Result, Ok, refl, sym, ap, subst, ◌∙◌}
use Rattle.std.specs.Ordering.{nat_cmp, is_eq}
use Rattle.std.specs.Cmp.Lexicographic.{slice_cmp, nat_list_cmp_total}
use Rattle.std.specs.FinMap.{get, insert, remove, get-insert, get-remove}
use Rattle.cs_value.specs.declared.value.OwnedValue.{OwnedValue}
use Rattle.cs_value.specs.Key.{row_key}
use Rattle.cs_value.specs.State.{TableData, RowMap, State, WrittenData, schema_at, rows_at, with_rows, with_row, written_at}
use Rattle.cs_value.proofs.ByteMaps.{same_maps, self_tied}
use Rattle.cs_rows.specs.declared.fault.StoreError.{StoreError}
use Rattle.cs_rows.specs.declared.fault.StoreError.TheVariants.{NoRow, KeyTaken}
use Rattle.cs_rows.specs.Editing.{Edited, row_fault, unless, when, has_row, inserted_in, updated_in, deleted_in, moved, found_table, inserted, updated, deleted}
use Rattle.cs_rows.proofs.MemoryLemmas.{with_rows_found}
use Rattle.cs_rows.proofs.WrittenRows.{rows_here, same_schemas}
use Rattle.cs_history.specs.Actions.{others}

-- a table has these rows, and all else is as it was
pub record Puts (name : List ℕ) (rows : RowMap) (old new : State) : Type 0 where
  pub held : rows_at new name ≡ rows
  pub schema : schema_at new name ≡ schema_at old name
  pub others : others new name ≡ others old name

passed : (o : Option StoreError) (r : Result Edited StoreError) (done : Edited) → unless o r ≡ Ok done → r ≡ Ok done
passed None r done is = is
passed (Some e) r done is = absurd cc

done_state : (a b : Edited) → ◌≡◌ {A = Result Edited StoreError} (Ok a) (Ok b) → b.state ≡ a.state
done_state a b is = let same : b ≡ a = cc in ap (λ (d : Edited). d.state) same

others_put : (s : State) (name : List ℕ) (table : TableData) → others (insert s name table) name ≡ others s name
others_put s name table = same_maps (others (insert s name table) name) (others s name) (λ q.
    get-remove nat_list_cmp_total (insert s name table) name q
    ∙ ap (cond (is_eq (slice_cmp nat_cmp q name)) None) (get-insert nat_list_cmp_total s name table q)
    ∙ at (is_eq (slice_cmp nat_cmp q name)) (get s q)
    ∙ sym (get-remove nat_list_cmp_total s name q))
  where
    at : (b : Bool) (o : Option TableData) → cond b None (cond b (Some table) o) ≡ cond b None o
    at true o = refl
    at false o = refl

puts : (s : State) (name : List ℕ) (table : TableData) → get s name ≡ Some table → (rows : RowMap) → Puts name rows s (with_rows s name rows)
puts s name table found rows = record {
  held = rows_here s name table rows found;
  schema = same_schemas s name table rows found name;
  others = ap (λ (t : State). others t name) (with_rows_found s name table rows found) ∙ others_put s name (record table { rows = rows });
}

module _ (s : State) (name : List ℕ) (table : TableData) (found : get s name ≡ Some table) where
  here_now : (rows : RowMap) → get (with_rows s name rows) name ≡ Some (record table { rows = rows })
  here_now rows =
      let next : TableData = record table { rows = rows } in
      ap (λ (t : State). get t name) (with_rows_found s name table rows found) ∙ get-insert nat_list_cmp_total s name next name
      ∙ ap (λ (b : Bool). cond b (Some next) (get s name)) (self_tied name)

  -- a row is removed
  pub delete_puts : (key : List ℕ) (new : State) (written : List WrittenData) → deleted s name key ≡ Ok (record { state = new; written = written }) → Puts name (remove (rows_at s name) key) s new
  delete_puts key new written is =
      let there = sym (ap (λ (o : Option TableData). found_table o (λ table. deleted_in s name key)) found) ∙ is in
      let done = passed (when (not (has_row s name key)) NoRow) _ _ there in
      subst (Puts name (remove (rows_at s name) key) s) (sym (done_state _ (record { state = new; written = written }) done)) (puts s name table found (remove (rows_at s name) key))

  -- one is added
  pub insert_puts : (row : List OwnedValue) (new : State) (written : List WrittenData) → inserted s name row ≡ Ok (record { state = new; written = written })
      → Puts name (insert (rows_at s name) (row_key table.schema.flags row) row) s new
  insert_puts row new written is =
      let key = row_key table.schema.flags row in
      let there = sym (ap (λ (o : Option TableData). found_table o (λ table. inserted_in s name table row)) found) ∙ is in
      let done = passed (when (has_row s name key) KeyTaken) _ _ (passed (row_fault table.schema row) _ _ there) in
      subst (Puts name (insert (rows_at s name) key row) s) (sym (done_state _ (record { state = new; written = written }) done)) (puts s name table found (insert (rows_at s name) key row))

  -- one gets another key
  pub update_puts : (key : List ℕ) (row : List OwnedValue) (new : State) (written : List WrittenData) → bytes_eq key (row_key table.schema.flags row) ≡ false
      → updated s name key row ≡ Ok (record { state = new; written = written }) → Puts name (insert (remove (rows_at s name) key) (row_key table.schema.flags row) row) s new
  update_puts key row new written apart is =
      let next = row_key table.schema.flags row in
      let there = sym (ap (λ (o : Option TableData). found_table o (λ table. updated_in s name table key row)) found) ∙ is in
      let either = passed (when (not (has_row s name key)) NoRow) _ _ (passed (row_fault table.schema row) _ _ there) in
      let other : moved s name key next row ≡ Ok (record { state = new; written = written }) =
      subst (λ (b : Bool). (if b then Ok (record { state = with_row s name key row; written = written_at s name key ∷ [] }) else moved s name key next row) ≡ Ok (record { state = new; written = written })) apart either in
      let done = passed (when (has_row s name next) KeyTaken) _ _ other in
      let taken = remove (rows_at s name) key in
      let mid = with_rows s name taken in
      let first = puts s name table found taken in
      let second = puts mid name (record table { rows = taken }) (here_now taken) (insert (rows_at mid name) next row) in
      subst (Puts name (insert taken next row) s) (sym (done_state _ (record { state = new; written = written }) done)) (record {
        held = second.held ∙ ap (λ (r : RowMap). insert r next row) first.held;
        schema = second.schema ∙ first.schema;
        others = second.others ∙ first.others;
      })

  -- other tables and the columns stay, whatever key it gets
  pub update_keeps : (key : List ℕ) (row : List OwnedValue) (new : State) (written : List WrittenData) → updated s name key row ≡ Ok (record { state = new; written = written })
      → (others new name ≡ others s name) × (schema_at new name ≡ schema_at s name)
  update_keeps key row new written is = at (bytes_eq key (row_key table.schema.flags row)) refl
    where
      at : (b : Bool) → bytes_eq key (row_key table.schema.flags row) ≡ b → (others new name ≡ others s name) × (schema_at new name ≡ schema_at s name)
      at false apart = let put = update_puts key row new written apart is in (put.others, put.schema)
      at true here =
          let next = row_key table.schema.flags row in
          let there = sym (ap (λ (o : Option TableData). found_table o (λ table. updated_in s name table key row)) found) ∙ is in
          let either = passed (when (not (has_row s name key)) NoRow) _ _ (passed (row_fault table.schema row) _ _ there) in
          let same : Ok (record { state = with_row s name key row; written = written_at s name key ∷ [] }) ≡ Ok (record { state = new; written = written }) =
          subst (λ (b : Bool). (if b then Ok (record { state = with_row s name key row; written = written_at s name key ∷ [] }) else moved s name key next row) ≡ Ok (record { state = new; written = written })) here either in
          let now = done_state _ (record { state = new; written = written }) same in
          let put = puts s name table found (insert (rows_at s name) key row) in
          (ap (λ (t : State). others t name) now ∙ put.others, ap (λ (t : State). schema_at t name) now ∙ put.schema)
