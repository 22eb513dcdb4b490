-- The rows on both sides of a key, and the newest actions that are done.
use Rattle.std.proofs.Common.{◌≡◌, ◌≤◌, ◌<◌, ◌-◌, ℕ, zero, suc, Bool, true, false, true≢false, not, List, [], ◌∷◌, ◌++◌, T, length, refl, sym, ap, subst, ◌∙◌, arith}
use Rattle.std.specs.Prelude.{filter, map, take, leb, Option, None, Some, SomeIff}
use Rattle.std.proofs.lemmas.Bool.{leb-true, le-leb}
use Rattle.std.specs.Option.{option_to_list}
use Rattle.std.specs.declared.cmp.Ordering.{Ordering}
use Rattle.std.specs.declared.cmp.Ordering.TheVariants.{Less, Equal, Greater}
use Rattle.std.specs.Ordering.{nat_cmp, is_eq, is_gt, is_lt, ordering_reverse}
use Rattle.std.specs.Cmp.Lexicographic.{slice_cmp, nat_list_cmp_total}
use Rattle.std.specs.FinMap.{entries}
use Rattle.std.specs.FinMap.Entries.{is_sorted, below_all}
use Rattle.cs_value.specs.declared.value.OwnedValue.{OwnedValue}
use Rattle.cs_value.specs.State.{RowMap, State, IsState, rows_at}
use Rattle.cs_value.proofs.ByteMaps.{self_tied}
use Rattle.cs_store_sql.specs.Records.{is_above}
use Rattle.cs_store_tables.specs.Pages.{page_in}
use Rattle.cs_history.specs.Stored.{ActionData, IsHistory, action_of, actions_of, is_of, last_undone, rows_of}
use Rattle.cs_history.specs.Actions.{Forgets, newest}
use Rattle.cs_history.specs.Moving.{Divides, DropsAfter, IsNextAfter, Keeps, RemovesRow, key_of, rows_after, rows_up_to}
use Rattle.cs_history.proofs.FirstLemmas.{after_less, entry_first, less_of}
use Rattle.cs_history.proofs.SideLemmas.{left_of, right_of, sorted, first_there, kept_row, removed_other}

abbrev order : List ℕ → List ℕ → Ordering
order = slice_cmp nat_cmp

abbrev Rows : Type 0
Rows = List (List ℕ × List OwnedValue)

abbrev actions : Rows → List ActionData
actions = map (λ e. action_of e.1)

-- ---- filters

module _ (p q : List ℕ → Bool) where
  pub filter_twice : ((k : List ℕ) → p k ≡ true → q k ≡ true) → (es : Rows) → filter (λ e. p e.0) (filter (λ e. q e.0) es) ≡ filter (λ e. p e.0) es
  filter_twice so [] = refl
  filter_twice so (e ∷ es) = at (p e.0) (q e.0) refl refl (filter_twice so es)
    where
      at : (a b : Bool) → p e.0 ≡ a → q e.0 ≡ b → filter (λ e. p e.0) (filter (λ e. q e.0) es) ≡ filter (λ e. p e.0) es → filter (λ e. p e.0) (filter (λ e. q e.0) (e ∷ es)) ≡ filter (λ e. p e.0) (e ∷ es)
      at true true one two rest = rw two (rw one (ap (λ (l : Rows). e ∷ l) rest))
      at true false one two rest = absurd (true≢false (sym (so e.0 one) ∙ two))
      at false true one two rest = rw two (rw one rest)
      at false false one two rest = rw two (rw one rest)

  pub filter_swap : (es : Rows) → filter (λ e. p e.0) (filter (λ e. q e.0) es) ≡ filter (λ e. q e.0) (filter (λ e. p e.0) es)
  filter_swap [] = refl
  filter_swap (e ∷ es) = at (p e.0) (q e.0) refl refl (filter_swap es)
    where
      at : (a b : Bool) → p e.0 ≡ a → q e.0 ≡ b → filter (λ e. p e.0) (filter (λ e. q e.0) es) ≡ filter (λ e. q e.0) (filter (λ e. p e.0) es)
          → filter (λ e. p e.0) (filter (λ e. q e.0) (e ∷ es)) ≡ filter (λ e. q e.0) (filter (λ e. p e.0) (e ∷ es))
      at true true one two rest = rw two (rw one (rw two (ap (λ (l : Rows). e ∷ l) rest)))
      at true false one two rest = rw two (rw one (rw two rest))
      at false true one two rest = rw two (rw one rest)
      at false false one two rest = rw two (rw one rest)

module _ (p : List ℕ → Bool) where
  -- where none passes, all fail
  none_pass : (es : Rows) → filter (λ e. p e.0) es ≡ [] → filter (λ e. not (p e.0)) es ≡ es
  none_pass [] none = refl
  none_pass (e ∷ es) none = at (p e.0) refl none (none_pass es)
    where
      at : (b : Bool) → p e.0 ≡ b → filter (λ e. p e.0) (e ∷ es) ≡ [] → (filter (λ e. p e.0) es ≡ [] → filter (λ e. not (p e.0)) es ≡ es) → filter (λ e. not (p e.0)) (e ∷ es) ≡ e ∷ es
      at true is none rest = let some : e ∷ filter (λ e. p e.0) es ≡ [] = rw is at none in absurd cc
      at false is none rest = let left : filter (λ e. p e.0) es ≡ [] = rw is at none in rw is (ap (λ (l : Rows). e ∷ l) (rest left))

  -- none of those that pass fails
  none_fails : (es : Rows) → filter (λ e. not (p e.0)) (filter (λ e. p e.0) es) ≡ []
  none_fails [] = refl
  none_fails (e ∷ es) = at (p e.0) refl (none_fails es)
    where
      at : (b : Bool) → p e.0 ≡ b → filter (λ e. not (p e.0)) (filter (λ e. p e.0) es) ≡ [] → filter (λ e. not (p e.0)) (filter (λ e. p e.0) (e ∷ es)) ≡ []
      at true is rest = rw is (rw is rest)
      at false is rest = rw is rest

-- ---- rows in order, on both sides of one of them

above_less : (k x : List ℕ) → order k x ≡ Less → is_above k x ≡ true
above_less k x less = ap is_gt (nat_list_cmp_total.antisymm x k ∙ ap ordering_reverse less)

less_above : (k x : List ℕ) → is_above k x ≡ true → order k x ≡ Less
less_above k x above = at (order x k) refl above
  where
    at : (o : Ordering) → order x k ≡ o → is_gt o ≡ true → order k x ≡ Less
    at Less is above = absurd cc
    at Equal is above = absurd cc
    at Greater is above = nat_list_cmp_total.antisymm k x ∙ ap ordering_reverse is

not_itself : (k : List ℕ) → is_above k k ≡ false
not_itself k = at (order k k) (self_tied k)
  where
    at : (o : Ordering) → is_eq o ≡ true → is_gt o ≡ false
    at Less is = refl
    at Equal is = refl
    at Greater is = absurd cc

all_behind : (k : List ℕ) (es : Rows) → T (below_all order k es) → (filter (λ e. is_above k e.0) es ≡ es) × (filter (λ e. not (is_above k e.0)) es ≡ [])
all_behind k [] below = (refl, refl)
all_behind k (e ∷ es) below =
    let above = above_less k e.0 (less_of (order k e.0) (left_of (is_lt (order k e.0)) (below_all order k es) below)) in
    let rest = all_behind k es (right_of (is_lt (order k e.0)) (below_all order k es) below) in
    (rw above (ap (λ (l : Rows). e ∷ l) rest.0), rw above rest.1)

below_it : (a k : List ℕ) (v : List OwnedValue) (xs ys : Rows) → T (below_all order a (xs ++ (k, v) ∷ ys)) → T (is_lt (order a k))
below_it a k v [] ys below = left_of (is_lt (order a k)) (below_all order a ys) below
below_it a k v (e ∷ xs) ys below = below_it a k v xs ys (right_of (is_lt (order a e.0)) (below_all order a (xs ++ (k, v) ∷ ys)) below)

both_sides : (k : List ℕ) (v : List OwnedValue) (xs ys : Rows) → T (is_sorted order (xs ++ (k, v) ∷ ys))
    → (filter (λ e. is_above k e.0) (xs ++ (k, v) ∷ ys) ≡ ys) × (filter (λ e. not (is_above k e.0)) (xs ++ (k, v) ∷ ys) ≡ xs ++ (k, v) ∷ [])
both_sides k v [] ys rising =
    let rest = all_behind k ys (left_of (below_all order k ys) (is_sorted order ys) rising) in
    (rw (not_itself k) rest.0, rw (not_itself k) (ap (λ (l : Rows). (k, v) ∷ l) rest.1))
both_sides k v (e ∷ xs) ys rising =
    let more = xs ++ (k, v) ∷ ys in
    let less = less_of (order e.0 k) (below_it e.0 k v xs ys (left_of (below_all order e.0 more) (is_sorted order more) rising)) in
    let fails : is_above k e.0 ≡ false = ap is_gt less in
    let rest = both_sides k v xs ys (right_of (below_all order e.0 more) (is_sorted order more) rising) in
    (rw fails rest.0, rw fails (ap (λ (l : Rows). e ∷ l) rest.1))

append_one : {X : Type 0} (xs ys : List X) (x : X) → xs ++ x ∷ ys ≡ (xs ++ x ∷ []) ++ ys
append_one [] ys x = refl
append_one (y ∷ xs) ys x = ap (λ l. y ∷ l) (append_one xs ys x)

append_none : {X : Type 0} (xs : List X) → xs ++ [] ≡ xs
append_none [] = refl
append_none (x ∷ xs) = ap (λ l. x ∷ l) (append_none xs)

actions_end : (xs : Rows) (k : List ℕ) (row : List OwnedValue) (more : List ActionData) → actions (xs ++ (k, row) ∷ []) ++ more ≡ actions xs ++ action_of row ∷ more
actions_end [] k row more = refl
actions_end (e ∷ xs) k row more = ap (λ l. action_of e.1 ∷ l) (actions_end xs k row more)

module _ (rows : RowMap) where
  first_divides : Divides last_undone [] rows
  first_divides = record { reach = λ other is. is; before = none_fails (is_above last_undone) (entries rows); all = refl }

  next_divides : (key : List ℕ) (front : Rows) (k : List ℕ) (row : List OwnedValue) (rest : Rows) → Divides key front rows → rows_after key rows ≡ (k, row) ∷ rest
      → Divides k (front ++ (k, row) ∷ []) rows × (rows_after k rows ≡ rest)
  next_divides key front k row rest it is =
      let there : rows_of true rows ≡ front ++ (k, row) ∷ rest = it.all ∙ ap (λ (l : Rows). front ++ l) is in
      let sides = both_sides k row front rest (subst (λ (l : Rows). T (is_sorted order l)) there (sorted (is_of true) rows)) in
      let past = it.reach k (first_there (is_above key) rows k row rest is).1 in
      let reach : (other : List ℕ) → is_above k other ≡ true → is_above last_undone other ≡ true = λ other above. after_less last_undone k other past (less_above k other above) in
      let left : rows_after k rows ≡ rest = sym (filter_twice (is_above k) (is_above last_undone) reach (entries rows)) ∙ ap (filter (λ e. is_above k e.0)) there ∙ sides.0 in
      (record { reach = reach; before = ap (filter (λ e. not (is_above k e.0))) there ∙ sides.1; all = there ∙ append_one front rest (k, row) ∙ ap (λ (l : Rows). (front ++ (k, row) ∷ []) ++ l) (sym left) }, left)

-- ---- the first row after a key

module _ (s : State) (name : List ℕ) (is : IsState s) (history : IsHistory s name) (key : List ℕ) where
  -- what is popped of a page
  pub next_after : (page : List (List OwnedValue)) → page ≡ page_in (rows_at s name) (Some key) 1 → (o : Option (List OwnedValue)) (left : List (List OwnedValue)) → page ≡ left ++ option_to_list o → (o ≡ None → left ≡ [])
      → IsNextAfter key o (rows_at s name)
  next_after page is_page o left items none = at (rows_after key (rows_at s name)) refl o left (sym is_page ∙ items) none
    where
      at : (es : Rows) → rows_after key (rows_at s name) ≡ es → (o : Option (List OwnedValue)) (left : List (List OwnedValue)) → map (λ e. e.1) (take 1 (rows_after key (rows_at s name))) ≡ left ++ option_to_list o → (o ≡ None → left ≡ [])
          → IsNextAfter key o (rows_at s name)
      at [] those None left popped none = those
      at [] those (Some row) left popped none = absurd (never left (sym popped ∙ ap (λ (es : Rows). map (λ e. e.1) (take 1 es)) those))
        where
          never : (left : List (List OwnedValue)) → left ++ row ∷ [] ≡ [] → ⊥
          never [] e = cc
          never (x ∷ left) e = cc
      at (e ∷ es) those None left popped none =
          let first : e.1 ∷ [] ≡ left ++ [] = sym (ap (λ (es : Rows). map (λ e. e.1) (take 1 es)) those) ∙ popped in
          let some : e.1 ∷ [] ≡ [] = first ∙ ap (λ (l : List (List OwnedValue)). l ++ []) (none refl) in
          absurd cc
      at (e ∷ es) those (Some row) [] popped none =
          let first : e.1 ∷ [] ≡ row ∷ [] = sym (ap (λ (es : Rows). map (λ e. e.1) (take 1 es)) those) ∙ popped in
          let same : e.1 ≡ row = cc in
          let entry = entry_first s name is history (is_above key) row (e ∷ es) those (ap Some (sym same)) in
          (entry.0, those ∙ entry.1)
      at (e ∷ es) those (Some row) (x ∷ left) popped none =
          let first : e.1 ∷ [] ≡ x ∷ left ++ row ∷ [] = sym (ap (λ (es : Rows). map (λ e. e.1) (take 1 es)) those) ∙ popped in
          let rest : [] ≡ left ++ row ∷ [] = cc in
          absurd (none_there left rest)
        where
          none_there : (left : List (List OwnedValue)) → [] ≡ left ++ row ∷ [] → ⊥
          none_there [] e = cc
          none_there (y ∷ left) e = cc

-- ---- the newest actions

newest_none : (room : ℕ) (l : List ActionData) → newest 0 room l ≡ []
newest_none room [] = refl
newest_none room (a ∷ l) = refl

newest_full : (count room : ℕ) (a : ActionData) (l : List ActionData) → leb (length a.changeset) room ≡ false → newest count room (a ∷ l) ≡ []
newest_full zero room a l full = refl
newest_full (suc count) room a l full = rw full refl

newest_fits : (count room : ℕ) (a : ActionData) (l : List ActionData) → 0 < count → leb (length a.changeset) room ≡ true → newest count room (a ∷ l) ≡ a ∷ newest (count - 1) (room - length a.changeset) l
newest_fits zero room a l some fits = absurd (omega (arith, some))
newest_fits (suc count) room a l some fits =
    let less : count ≡ suc count - 1 = omega arith in
    rw fits (ap (λ (n : ℕ). a ∷ newest n (room - length a.changeset) l) less)

-- what a subtraction tells of the room
pub has_no_room : (o : Option ℕ) (size room : ℕ) → SomeIff o (size ≤ room) (room - size) → o ≡ None → leb size room ≡ false
has_no_room None size room none is = at (leb size room) refl
  where
    at : (b : Bool) → leb size room ≡ b → b ≡ false
    at true fits = absurd (none (leb-true size room fits))
    at false fits = refl
has_no_room (Some rest) size room told is = absurd cc

pub has_room : (o : Option ℕ) (size room rest : ℕ) → SomeIff o (size ≤ room) (room - size) → o ≡ Some rest → (leb size room ≡ true) × (rest ≡ room - size)
has_room None size room rest told is = absurd cc
has_room (Some left) size room rest told is = let same : rest ≡ left = cc in (le-leb size room told.0, same ∙ told.1)

-- so far the rows up to a key are kept, and so many more can be, with so many bytes
abbrev pub KeepsSoFar : (keep bytes count room : ℕ) → List ℕ → RowMap → Type 0
KeepsSoFar keep bytes count room key rows = (front : Rows) × Divides key front rows × (newest keep bytes (actions_of true rows) ≡ actions front ++ newest count room (actions (rows_after key rows)))

module _ (keep bytes : ℕ) (rows : RowMap) where
  pub first_kept : KeepsSoFar keep bytes keep bytes last_undone rows
  first_kept = ([], first_divides rows, refl)

  ends : (count room : ℕ) (key : List ℕ) → KeepsSoFar keep bytes count room key rows → newest count room (actions (rows_after key rows)) ≡ [] → Keeps keep bytes key rows
  ends count room key it none = (it.0, it.1, it.2 ∙ ap (λ (l : List ActionData). actions it.0 ++ l) none ∙ append_none (actions it.0))

  pub none_kept : (count room : ℕ) (key : List ℕ) → KeepsSoFar keep bytes count room key rows → IsNextAfter key None rows → Keeps keep bytes key rows
  none_kept count room key it none = ends count room key it (ap (λ (l : Rows). newest count room (actions l)) none)

  pub last_one : (room : ℕ) (key : List ℕ) → KeepsSoFar keep bytes 0 room key rows → Keeps keep bytes key rows
  last_one room key it = ends 0 room key it (newest_none room (actions (rows_after key rows)))

  pub full_kept : (count room : ℕ) (key : List ℕ) (row : List OwnedValue) → KeepsSoFar keep bytes count room key rows → IsNextAfter key (Some row) rows → leb (length (action_of row).changeset) room ≡ false
      → Keeps keep bytes key rows
  full_kept count room key row it next full =
      ends count room key it (ap (λ (l : Rows). newest count room (actions l)) next.1 ∙ newest_full count room (action_of row) (actions next.0) full)

  pub next_kept : (count room : ℕ) (key : List ℕ) (row : List OwnedValue) → 0 < count → KeepsSoFar keep bytes count room key rows → IsNextAfter key (Some row) rows → leb (length (action_of row).changeset) room ≡ true
      → KeepsSoFar keep bytes (count - 1) (room - length (action_of row).changeset) (key_of row) rows
  next_kept count room key row some it next fits =
      let divides = next_divides rows key it.0 (key_of row) row next.0 it.1 next.1 in
      let rest = room - length (action_of row).changeset in (
        it.0 ++ (key_of row, row) ∷ [],
        divides.0,
        it.2
            ∙ ap (λ (l : Rows). actions it.0 ++ newest count room (actions l)) next.1
            ∙ ap (λ (l : List ActionData). actions it.0 ++ l) (newest_fits count room (action_of row) (actions next.0) some fits)
            ∙ sym (actions_end it.0 (key_of row) row (newest (count - 1) rest (actions next.0)))
            ∙ ap (λ (l : Rows). actions (it.0 ++ (key_of row, row) ∷ []) ++ newest (count - 1) rest (actions l)) (sym divides.1),
      )

-- ---- rows that are dropped

module _ (key name : List ℕ) where
  pub drops_one : (old mid new : State) (row : List OwnedValue) → DropsAfter key name old mid → IsNextAfter key (Some row) (rows_at mid name) → RemovesRow name row mid new → DropsAfter key name old new
  drops_one old mid new row it next gone =
      let above = (first_there (is_above key) (rows_at mid name) (key_of row) row next.0 next.1).1 in
      record {
        history = gone.history;
        same = gone.same ∙ it.same;
        stay = ap (rows_up_to key) gone.held ∙ removed_other (λ k. not (is_above key k)) (rows_at mid name) (key_of row) (ap not above) ∙ it.stay;
      }

  pub forgets : (keep bytes : ℕ) (old new : State) → IsHistory old name → DropsAfter key name old new → rows_after key (rows_at new name) ≡ [] → Keeps keep bytes key (rows_at old name) → Forgets keep bytes name old new
  forgets keep bytes old new history it none keeps =
      let left : entries (rows_at new name) ≡ rows_up_to key (rows_at old name) = sym (none_pass (is_above key) (entries (rows_at new name)) none) ∙ it.stay in
      record {
        history = history;
        schema = it.history ∙ sym history;
        same = it.same;
        stay = kept_row (λ k. not (is_above key k)) (rows_at old name) (rows_at new name) left;
        done = ap actions (ap (filter (λ e. is_of true e.0)) left ∙ filter_swap (is_of true) (λ k. not (is_above key k)) (entries (rows_at old name)) ∙ keeps.1.before) ∙ sym keeps.2;
        undone = ap actions (ap (filter (λ e. is_of false e.0)) left ∙ filter_twice (is_of false) (λ k. not (is_above key k)) up_to (entries (rows_at old name)));
      }
    where
      up_to : (k : List ℕ) → is_of false k ≡ true → not (is_above key k) ≡ true
      up_to k undone = at (is_above key k) refl
        where
          at : (b : Bool) → is_above key k ≡ b → not b ≡ true
          at true above = sym (ap not (keeps.1.reach k above)) ∙ undone
          at false above = refl
