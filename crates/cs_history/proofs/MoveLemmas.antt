-- Rows that are moved from one side of a history to the other, removed and added.
use Rattle.std.proofs.Common.{bytes_eq, ◌≡◌, ℕ, Bool, true, false, not, List, [], ◌∷◌, Some, refl, sym, ap, subst, ◌∙◌}
use Rattle.std.specs.Ordering.{nat_cmp}
use Rattle.std.specs.Cmp.Lexicographic.{slice_cmp, same_text}
use Rattle.std.specs.FinMap.{get, insert, remove}
use Rattle.cs_value.specs.declared.value.OwnedValue.{OwnedValue}
use Rattle.cs_value.specs.State.{SchemaData, TableData, State, WrittenData, IsState, rows_at}
use Rattle.cs_value.specs.Key.{row_key}
use Rattle.cs_value.proofs.StateLemmas.{table_of_schema}
use Rattle.cs_rows.specs.Editing.{inserted, updated, deleted}
use Rattle.std.specs.Prelude.{Ok}
use Rattle.cs_history.specs.Stored.{ActionData, IsHistory, action_of, history_schema, is_of, rows_of}
use Rattle.cs_history.specs.Moving.{AddsRow, IsInFront, MovesRow, RemovesRow, first_in, first_of, key_of}
use Rattle.cs_history.proofs.SideLemmas.{IsBefore, passing, first_there, inserted_first, inserted_other, removed_first, removed_other}
use Rattle.cs_history.proofs.EditLemmas.{delete_puts, insert_puts, update_keeps, update_puts}
use Rattle.cs_history.proofs.FirstLemmas.{first_entry, other_side, own_key}

abbrev Rows : Type 0
Rows = List (List ℕ × List OwnedValue)

other_key : (done : Bool) (key next : List ℕ) → is_of done key ≡ true → is_of done next ≡ false → bytes_eq key next ≡ false
other_key done key next passes fails = at (bytes_eq key next) refl
  where
    at : (b : Bool) → bytes_eq key next ≡ b → b ≡ false
    at true is = let same : true ≡ false = sym passes ∙ ap (is_of done) (same_text key next (sym is)) ∙ fails in same
    at false is = refl

not_of : (done : Bool) (key : List ℕ) → is_of (not done) key ≡ true → is_of done key ≡ false
not_of done key is = at (is_of done key) refl
  where
    at : (b : Bool) → is_of done key ≡ b → b ≡ false
    at true here = sym is ∙ other_side done key ∙ ap not here
    at false here = refl

is_other : (done : Bool) (key : List ℕ) → is_of done key ≡ true → is_of (not done) key ≡ false
is_other done key is = other_side done key ∙ ap not is

module _ (s : State) (name : List ℕ) (is : IsState s) (history : IsHistory s name) where
  table : (t : TableData) × (get s name ≡ Some t) × (t.schema ≡ history_schema)
  table = table_of_schema (get s name) history_schema history

  -- a key that is before the first row is before the first key
  in_front : (done : Bool) (key : List ℕ) → IsInFront key (first_of done (rows_at s name)) → IsBefore key (passing (is_of done) (rows_at s name))
  in_front done key front = at (rows_of done (rows_at s name)) refl front
    where
      at : (es : Rows) → rows_of done (rows_at s name) ≡ es → IsInFront key (first_in es) → IsBefore key es
      at [] those front = tt
      at (e ∷ es) those front =
          let there = first_there (is_of done) (rows_at s name) e.0 e.1 es those in
          ap (slice_cmp nat_cmp key) (own_key s name is history e.0 e.1 there.0) ∙ front

  pub moves_row : (done : Bool) (row next : List OwnedValue) (new : State) (written : List WrittenData) → updated s name (key_of row) next ≡ Ok (record { state = new; written = written })
      → is_of (not done) (key_of next) ≡ true → IsInFront (key_of next) (first_of (not done) (rows_at s name)) → action_of next ≡ action_of row → MovesRow done name row s new
  moves_row done row next new written edited placed front same = let keeps = update_keeps s name table.0 table.1 (key_of row) next new written edited in record {
    same = keeps.0;
    schema = keeps.1;
    moved = λ rest first.
        let passes = (first_there (is_of done) (rows_at s name) (key_of row) row rest first).1 in
        let fails = not_of done (key_of next) placed in
        let flags : row_key table.0.schema.flags next ≡ key_of next = ap (λ (t : SchemaData). row_key t.flags next) table.2 in
        let apart : bytes_eq (key_of row) (row_key table.0.schema.flags next) ≡ false = ap (bytes_eq (key_of row)) flags ∙ other_key done (key_of row) (key_of next) passes fails in
        let put = update_puts s name table.0 table.1 (key_of row) next new written apart edited in
        let taken = remove (rows_at s name) (key_of row) in
        let now : rows_at new name ≡ insert taken (key_of next) next = put.held ∙ ap (λ (k : List ℕ). insert taken k next) flags in
        let stay = removed_other (is_of (not done)) (rows_at s name) (key_of row) (is_other done (key_of row) passes) in (
          ap (rows_of done) now ∙ inserted_other (is_of done) taken (key_of next) next fails ∙ removed_first (is_of done) (rows_at s name) (key_of row) row rest first,
          key_of next,
          next,
          same,
          ap (rows_of (not done)) now
              ∙ inserted_first (is_of (not done)) taken (key_of next) next placed (subst (IsBefore (key_of next)) (sym stay) (in_front (not done) (key_of next) front))
              ∙ ap (λ (es : Rows). (key_of next, next) ∷ es) stay,
        );
  }

  pub removes_row : (row : List OwnedValue) (new : State) (written : List WrittenData) → deleted s name (key_of row) ≡ Ok (record { state = new; written = written }) → RemovesRow name row s new
  removes_row row new written edited =
      let put = delete_puts s name table.0 table.1 (key_of row) new written edited in
      record {
        history = put.schema ∙ history;
        same = put.others;
        held = put.held;
        done = λ first.
            let entry = first_entry s name is history false row (rows_of false (rows_at s name)) refl first in
            let passes = (first_there (is_of false) (rows_at s name) (key_of row) row entry.0 entry.1).1 in
            ap (rows_of true) put.held ∙ removed_other (is_of true) (rows_at s name) (key_of row) (is_other false (key_of row) passes);
      }

  pub adds_row : (action : ActionData) (row : List OwnedValue) (new : State) (written : List WrittenData) → inserted s name row ≡ Ok (record { state = new; written = written })
      → is_of true (key_of row) ≡ true → IsInFront (key_of row) (first_of true (rows_at s name)) → action_of row ≡ action → AddsRow name action s new
  adds_row action row new written edited placed front same =
      let flags : row_key table.0.schema.flags row ≡ key_of row = ap (λ (t : SchemaData). row_key t.flags row) table.2 in
      let put = insert_puts s name table.0 table.1 row new written edited in
      let now : rows_at new name ≡ insert (rows_at s name) (key_of row) row = put.held ∙ ap (λ (k : List ℕ). insert (rows_at s name) k row) flags in
      record {
        schema = put.schema;
        same = put.others;
        undone = ap (rows_of false) now ∙ inserted_other (is_of false) (rows_at s name) (key_of row) row (is_other true (key_of row) placed);
        added = (
          key_of row,
          row,
          same,
          ap (rows_of true) now ∙ inserted_first (is_of true) (rows_at s name) (key_of row) row placed (in_front true (key_of row) front),
        );
      }
