-- The first rows of a history.
use Rattle.std.proofs.Common.{◌≡◌, ℕ, Bool, true, false, cond, not, if◌then◌else◌, List, [], ◌∷◌, ◌++◌, Some, None, T, refl, sym, ap, subst, ◌∙◌}
use Rattle.std.specs.Prelude.{filter, map, take}
use Rattle.std.specs.declared.cmp.Ordering.{Ordering}
use Rattle.std.specs.declared.cmp.Ordering.TheVariants.{Less, Equal, Greater}
use Rattle.std.specs.Ordering.{nat_cmp, is_lt, is_gt, ordering_reverse}
use Rattle.std.specs.Cmp.Lexicographic.{slice_cmp, nat_list_cmp_total}
use Rattle.std.specs.FinMap.{entries, entries_sorted, get, get-entries}
use Rattle.std.specs.FinMap.Entries.{find, is_sorted, below_all}
use Rattle.std.proofs.lemmas.Option.{none-some}
use Rattle.cs_value.specs.declared.value.OwnedValue.{OwnedValue}
use Rattle.cs_value.specs.Key.{row_key}
use Rattle.cs_value.specs.State.{SchemaData, RowMap, State, IsState, rows_at}
use Rattle.cs_value.proofs.ByteMaps.{self_tied}
use Rattle.cs_value.proofs.StateLemmas.{table_of_schema}
use Rattle.cs_rows.proofs.MemoryLemmas.{rows_at_found}
use Rattle.cs_store_sql.specs.Records.{is_above}
use Rattle.cs_store_tables.specs.Pages.{page_in}
use Rattle.cs_history.specs.Stored.{IsHistory, history_schema, is_of, last_undone, rows_of}
use Rattle.cs_history.specs.Moving.{first_in, first_of, key_of, start_of}
use Rattle.cs_history.proofs.SideLemmas.{left_of, right_of, passing, first_there}

abbrev Rows : Type 0
Rows = List (List ℕ × List OwnedValue)

-- ---- keys

-- each row has its own key
pub own_key : (s : State) (name : List ℕ) → IsState s → IsHistory s name → (key : List ℕ) (row : List OwnedValue) → get (rows_at s name) key ≡ Some row → key ≡ key_of row
own_key s name is history key row there =
    let found = table_of_schema (get s name) history_schema history in
    let fit = (is name found.0 found.1).is_table.rows key row (ap (λ (r : RowMap). get r key) (sym (rows_at_found s name found.0 found.1)) ∙ there) in
    fit.own ∙ ap (λ (t : SchemaData). row_key t.flags row) found.2

-- one that is not of one side is of the other
pub other_side : (done : Bool) (key : List ℕ) → is_of (not done) key ≡ not (is_of done key)
other_side true key = refl
other_side false key = at (is_above last_undone key)
  where
    at : (b : Bool) → b ≡ not (not b)
    at true = refl
    at false = refl

-- ---- the first row of a page

pub after_less : (last x y : List ℕ) → is_above last x ≡ true → slice_cmp nat_cmp x y ≡ Less → is_above last y ≡ true
after_less last x y above less = at (slice_cmp nat_cmp x last) refl above
  where
    at : (o : Ordering) → slice_cmp nat_cmp x last ≡ o → is_gt o ≡ true → is_above last y ≡ true
    at Less is above = absurd cc
    at Equal is above = absurd cc
    at Greater is above =
        let before : slice_cmp nat_cmp last x ≡ Less = nat_list_cmp_total.antisymm last x ∙ ap ordering_reverse is in
        let behind : slice_cmp nat_cmp last y ≡ Less = nat_list_cmp_total.trans last x y before less in
        ap is_gt (nat_list_cmp_total.antisymm y last ∙ ap ordering_reverse behind)

pub less_of : (o : Ordering) → T (is_lt o) → o ≡ Less
less_of Less h = refl
less_of Equal h = absurd h
less_of Greater h = absurd h

-- after a key of an action that is done come only such keys
none_after : (key : List ℕ) → is_above last_undone key ≡ true → (es : Rows) → T (below_all (slice_cmp nat_cmp) key es) → filter (λ e. is_of false e.0) es ≡ []
none_after key above [] below = refl
none_after key above (e ∷ es) below =
    let less = less_of (slice_cmp nat_cmp key e.0) (left_of (is_lt (slice_cmp nat_cmp key e.0)) (below_all (slice_cmp nat_cmp) key es) below) in
    rw (after_less last_undone key e.0 above less) (none_after key above es (right_of (is_lt (slice_cmp nat_cmp key e.0)) (below_all (slice_cmp nat_cmp) key es) below))

all_kept : (es : Rows) → filter (λ e. true) es ≡ es
all_kept [] = refl
all_kept (e ∷ es) = ap (λ (l : Rows). e ∷ l) (all_kept es)

abbrev first_row_of : Rows → List (List OwnedValue)
first_row_of es = map (λ e. e.1) (take 1 es)

-- the row of a page, where it is one of this side, is the first one there
abbrev pub IsFirst : Bool → RowMap → List (List OwnedValue) → Type 0
IsFirst done rows [] = first_of done rows ≡ None
IsFirst done rows (row ∷ others) = (others ≡ []) × (first_of done rows ≡ (if is_of done (key_of row) then Some row else None))

first_done : (rows : RowMap) → ((key : List ℕ) (row : List OwnedValue) → get rows key ≡ Some row → key ≡ key_of row) → (es : Rows) → rows_of true rows ≡ es → IsFirst true rows (first_row_of es)
first_done rows own [] is = ap first_in is
first_done rows own (e ∷ es) is =
    let there = first_there (is_of true) rows e.0 e.1 es is in
    let passes : is_of true (key_of e.1) ≡ true = ap (is_of true) (sym (own e.0 e.1 there.0)) ∙ there.1 in
    (refl, ap first_in is ∙ rw passes refl)

first_undone : (rows : RowMap) → ((key : List ℕ) (row : List OwnedValue) → get rows key ≡ Some row → key ≡ key_of row) → (es : Rows) → entries rows ≡ es → IsFirst false rows (first_row_of es)
first_undone rows own [] is = ap (λ (es : Rows). first_in (filter (λ e. is_of false e.0) es)) is
first_undone rows own (e ∷ es) is =
    let there : get rows e.0 ≡ Some e.1 = get-entries rows e.0 ∙ ap (find (slice_cmp nat_cmp) e.0) is ∙ ap (λ (b : Bool). cond b (Some e.1) (find (slice_cmp nat_cmp) e.0 es)) (self_tied e.0) in
    let rising : T (is_sorted (slice_cmp nat_cmp) (e ∷ es)) = subst (λ (es : Rows). T (is_sorted (slice_cmp nat_cmp) es)) is (entries_sorted rows) in
    let key = own e.0 e.1 there in (
      refl,
      ap (λ (es : Rows). first_in (filter (λ e. is_of false e.0) es)) is ∙ at (left_of (below_all (slice_cmp nat_cmp) e.0 es) (is_sorted (slice_cmp nat_cmp) es) rising) (is_above last_undone e.0) refl
          ∙ ap (λ (k : List ℕ). if is_of false k then Some e.1 else None) key,
    )
  where
    at : T (below_all (slice_cmp nat_cmp) e.0 es) → (b : Bool) → is_above last_undone e.0 ≡ b
        → first_in (filter (λ e. is_of false e.0) (e ∷ es)) ≡ (if is_of false e.0 then Some e.1 else None)
    at below true above = rw (above, none_after e.0 above es below) refl
    at below false above = rw above refl

pub page_first : (s : State) (name : List ℕ) → IsState s → IsHistory s name → (done : Bool) → IsFirst done (rows_at s name) (page_in (rows_at s name) (start_of done) 1)
page_first s name is history true = first_done (rows_at s name) (own_key s name is history) (rows_of true (rows_at s name)) refl
page_first s name is history false =
    subst (λ (es : Rows). IsFirst false (rows_at s name) (first_row_of es)) (sym (all_kept (entries (rows_at s name))))
    (first_undone (rows_at s name) (own_key s name is history) (entries (rows_at s name)) refl)

pub take_none : {X : Type 0} (xs : List X) → take 0 xs ≡ []
take_none [] = refl
take_none (x ∷ xs) = refl

-- what is popped of a page
pub popped_none : (done : Bool) (rows : RowMap) (page : List (List OwnedValue)) → IsFirst done rows page → page ≡ [] → first_of done rows ≡ None
popped_none done rows [] it is = it
popped_none done rows (row ∷ page) it is = absurd cc

pub popped_some : (done : Bool) (rows : RowMap) (page : List (List OwnedValue)) → IsFirst done rows page → (left : List (List OwnedValue)) (row : List OwnedValue) → page ≡ left ++ row ∷ []
    → first_of done rows ≡ (if is_of done (key_of row) then Some row else None)
popped_some done rows [] it [] row is = absurd cc
popped_some done rows [] it (x ∷ left) row is = absurd cc
popped_some done rows (first ∷ page) it [] row is = let same : first ≡ row = cc in subst (λ (r : List OwnedValue). first_of done rows ≡ (if is_of done (key_of r) then Some r else None)) same it.1
popped_some done rows (first ∷ page) it (x ∷ left) row is = let rest : page ≡ left ++ row ∷ [] = cc in absurd (never left (sym rest ∙ it.0))
  where
    never : (left : List (List OwnedValue)) → left ++ row ∷ [] ≡ [] → ⊥
    never [] e = cc
    never (y ∷ left) e = cc

-- where there is none, the list is empty
pub none_first : (es : Rows) → None ≡ first_in es → es ≡ []
none_first [] is = refl
none_first (e ∷ es) is = absurd (none-some e.1 is)

-- the first row of those whose keys pass is that of the first entry
pub entry_first : (s : State) (name : List ℕ) → IsState s → IsHistory s name → (p : List ℕ → Bool) (row : List OwnedValue) (es : Rows) → passing p (rows_at s name) ≡ es → Some row ≡ first_in es
    → (rest : Rows) × (es ≡ (key_of row, row) ∷ rest)
entry_first s name is history p row [] those is_first = absurd (none-some row (sym is_first))
entry_first s name is history p row (e ∷ es) those is_first =
    let same : e.1 ≡ row = cc in
    let key : e.0 ≡ key_of row = own_key s name is history e.0 e.1 (first_there p (rows_at s name) e.0 e.1 es those).0 ∙ ap key_of same in
    (es, λ i. (key i, same i) ∷ es)

pub first_entry : (s : State) (name : List ℕ) → IsState s → IsHistory s name → (done : Bool) (row : List OwnedValue) (es : Rows) → rows_of done (rows_at s name) ≡ es → Some row ≡ first_in es
    → (rest : Rows) × (es ≡ (key_of row, row) ∷ rest)
first_entry s name is history done = entry_first s name is history (is_of done)
