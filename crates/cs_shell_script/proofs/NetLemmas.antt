-- The touched keys, and the net changes of whole maps of rows.
use Rattle.std.proofs.Common.{bytes_eq, ◌≡◌, ◌≢◌, ℕ, zero, suc, ◌<◌, ◌||◌, Bool, true, false, true≢false, cond, List, [], ◌∷◌, ◌++◌, length, get_or, map, filter, filter_map, AllPairs, Contains, Option, Some, None, option_map, refl, sym, ap, ◌∙◌, arith}
use Rattle.std.specs.Prelude.{is_some}
use Rattle.std.specs.List.{AllByRecursion, AllZip, list_any, cons_option}
use Rattle.std.specs.FinMap.{get}
use Rattle.std.specs.Cmp.Lexicographic.{pointwise, same_text, other_text}
use Rattle.std.proofs.lemmas.Bool.{and_parts}
use Rattle.std.proofs.lemmas.List.Elements.{All-from_recursion, All-contains, filter_passes}
use Rattle.std.proofs.lemmas.List.Kept.{AllPairs-filter}
use Rattle.std.proofs.lemmas.List.Quantifiers.{all_pairs_push}
use Rattle.cs_value.specs.declared.value.OwnedValue.{OwnedValue}
use Rattle.cs_value.specs.declared.value.OwnedField.{OwnedField}
use Rattle.cs_value.specs.declared.value.OwnedField.TheVariants.{Defined}
use Rattle.cs_value.specs.State.{SchemaData, RowMap, State, WrittenData, schema_at, rows_at, row_at}
use Rattle.cs_value.proofs.ListLemmas.{AllByRecursion-append_left, AllByRecursion-append_right}
use Rattle.cs_wire_entries.specs.declared.entry.Entry.{Entry}
use Rattle.cs_wire_entries.specs.declared.entry.Change.{Change}
use Rattle.cs_wire_entries.specs.declared.entry.Change.TheVariants.{Update}
use Rattle.cs_group.specs.Net.{is_same, old_record, new_record}
use Rattle.cs_group.specs.Net.{net_entry}
use Rattle.cs_group.proofs.ImageLemmas.{same_values, same_itself}
use Rattle.cs_session_notes.specs.FirstImages.{writes_of}
use Rattle.cs_shell_executor.specs.ShellState.{SessionTable, with_keys, touch}
use Rattle.cs_shell_script.specs.Net.{IsTracked}

-- ---- the net change of a row

images_same : (image : List OwnedField) → pointwise is_same image image ≡ true
images_same [] = refl
images_same (f ∷ image) = rw (same_itself f) (images_same image)

-- a row that stays has none
net_same : (flags : List ℕ) (row : Option (List OwnedValue)) → net_entry flags row row ≡ None
net_same flags None = refl
net_same flags (Some row) = rw (images_same (map Defined row)) refl

same_rows : (before after : List OwnedValue) → pointwise is_same (map Defined before) (map Defined after) ≡ true → before ≡ after
same_rows [] [] e = refl
same_rows [] (w ∷ after) e = absurd (true≢false (sym e))
same_rows (v ∷ before) [] e = absurd (true≢false (sym e))
same_rows (v ∷ before) (w ∷ after) e =
    let both = and_parts (is_same (Defined v) (Defined w)) (pointwise is_same (map Defined before) (map Defined after)) e in
    let first = same_values v w both.0 in
    let rest = same_rows before after both.1 in
    cc (first, rest)

-- a row that has none stays
net_none : (flags : List ℕ) (before after : Option (List OwnedValue)) → net_entry flags before after ≡ None → before ≡ after
net_none flags None None e = refl
net_none flags None (Some after) e = absurd (cc)
net_none flags (Some before) None e = absurd (cc)
net_none flags (Some before) (Some after) e = at (pointwise is_same (map Defined before) (map Defined after)) refl e
  where
    change : Change
    change = Update (old_record flags (map Defined before) (map Defined after)) (new_record flags (map Defined before) (map Defined after))

    at : (s : Bool) → pointwise is_same (map Defined before) (map Defined after) ≡ s
        → option_map (λ change. let e : Entry = record { indirect = false; change = change } in e) (cond s None (Some change)) ≡ None → Some before ≡ Some after
    at true same e = ap Some (same_rows before after same)
    at false same e = absurd (cc)

-- ---- keys

-- no key of the list is this one
abbrev pub Lacks : List ℕ → List (List ℕ) → Type 0
Lacks key = AllByRecursion (λ k. k ≢ key)

lacks_key : (key : List ℕ) (keys : List (List ℕ)) → ¬ Contains keys key → Lacks key keys
lacks_key key [] none = tt
lacks_key key (k ∷ keys) none = (
  λ same. none (zero, (omega arith), same),
  lacks_key key keys (λ has. none (suc has.0, (omega (arith, has.1)), has.2)),
)

-- a key that is found among some which lack another is not that
found_apart : (q key : List ℕ) (keys : List (List ℕ)) → list_any (λ k. bytes_eq k key) keys ≡ true → Lacks q keys → key ≢ q
found_apart q key [] any lacks = absurd (true≢false (sym any))
found_apart q key (k ∷ keys) any lacks = at (bytes_eq k key) refl any (found_apart q key keys)
  where
    at : (b : Bool) → bytes_eq k key ≡ b → (b || list_any (λ k. bytes_eq k key) keys) ≡ true → (list_any (λ k. bytes_eq k key) keys ≡ true → Lacks q keys → key ≢ q) → key ≢ q
    at true same any rest = λ is. lacks.0 (same_text k key (sym same) ∙ is)
    at false same any rest = rest any lacks.1

-- one that is not found they lack
not_found : (key : List ℕ) (keys : List (List ℕ)) → list_any (λ k. bytes_eq k key) keys ≡ false → Lacks key keys
not_found key [] none = tt
not_found key (k ∷ keys) none = at (bytes_eq k key) refl none (not_found key keys)
  where
    at : (b : Bool) → bytes_eq k key ≡ b → (b || list_any (λ k. bytes_eq k key) keys) ≡ false → (list_any (λ k. bytes_eq k key) keys ≡ false → Lacks key keys) → Lacks key (k ∷ keys)
    at true same none rest = absurd (true≢false none)
    at false same none rest = (other_text k key (sym same), rest none)

found_key : (key : List ℕ) (keys : List (List ℕ)) → list_any (λ k. bytes_eq k key) keys ≡ true → Contains keys key
found_key key [] any = absurd (true≢false (sym any))
found_key key (k ∷ keys) any = at (bytes_eq k key) refl any (found_key key keys)
  where
    at : (b : Bool) → bytes_eq k key ≡ b → (b || list_any (λ k. bytes_eq k key) keys) ≡ true → (list_any (λ k. bytes_eq k key) keys ≡ true → Contains keys key) → Contains (k ∷ keys) key
    at true same any rest = (zero, (omega arith), same_text k key (sym same))
    at false same any rest = let has = rest any in (suc has.0, (omega (arith, has.1)), has.2)

-- what the touched keys lack with more they lacked before, and it is none of the others
lacks_before : (q : List ℕ) (keys more : List (List ℕ)) → Lacks q (with_keys keys more) → Lacks q keys × Lacks q more
lacks_before q keys [] lacks = (lacks, tt)
lacks_before q keys (key ∷ more) lacks = at (list_any (λ k. bytes_eq k key) keys) refl lacks (lacks_before q keys more) (lacks_before q (keys ++ key ∷ []) more)
  where
    at : (b : Bool) → list_any (λ k. bytes_eq k key) keys ≡ b → Lacks q (cond b (with_keys keys more) (with_keys (keys ++ key ∷ []) more))
        → (Lacks q (with_keys keys more) → Lacks q keys × Lacks q more)
        → (Lacks q (with_keys (keys ++ key ∷ []) more) → Lacks q (keys ++ key ∷ []) × Lacks q more)
        → Lacks q keys × Lacks q (key ∷ more)
    at true any lacks here there = let rest = here lacks in (rest.0, (found_apart q key keys any rest.0, rest.1))
    at false any lacks here there =
        let rest = there lacks in
        let last = AllByRecursion-append_right (λ (k : List ℕ). k ≢ q) keys (key ∷ []) rest.0 in
        (AllByRecursion-append_left (λ (k : List ℕ). k ≢ q) keys (key ∷ []) rest.0, (last.0, rest.1))

-- they stay apart
with_keys_once : (keys more : List (List ℕ)) → AllPairs ◌≢◌ keys → AllPairs ◌≢◌ (with_keys keys more)
with_keys_once keys [] once = once
with_keys_once keys (key ∷ more) once = at (list_any (λ k. bytes_eq k key) keys) refl (with_keys_once keys more once) (with_keys_once (keys ++ key ∷ []) more)
  where
    at : (b : Bool) → list_any (λ k. bytes_eq k key) keys ≡ b → AllPairs ◌≢◌ (with_keys keys more)
        → (AllPairs ◌≢◌ (keys ++ key ∷ []) → AllPairs ◌≢◌ (with_keys (keys ++ key ∷ []) more))
        → AllPairs ◌≢◌ (cond b (with_keys keys more) (with_keys (keys ++ key ∷ []) more))
    at true any here there = here
    at false any here there = there (all_pairs_push ◌≢◌ keys key once (All-from_recursion (λ (k : List ℕ). k ≢ key) keys (not_found key keys any)))

-- ---- keys that pass

contains_filter : (p : List ℕ → Bool) (keys : List (List ℕ)) (key : List ℕ) → Contains keys key → p key ≡ true → Contains (filter p keys) key
contains_filter p [] key has passes = absurd (omega (arith, has.1))
contains_filter p (k ∷ keys) key has passes = by_index has.0 has.1 has.2 (λ rest. contains_filter p keys key rest passes)
  where
    more : (b : Bool) → Contains (filter p keys) key → Contains (cond b (k ∷ filter p keys) (filter p keys)) key
    more true rest = (suc rest.0, (omega (arith, rest.1)), rest.2)
    more false rest = rest

    here : k ≡ key → (b : Bool) → p k ≡ b → Contains (cond b (k ∷ filter p keys) (filter p keys)) key
    here same true is = (zero, (omega arith), same)
    here same false is = absurd (true≢false (sym passes ∙ ap p (sym same) ∙ is))

    by_index : (i : ℕ) → i < length (k ∷ keys) → get_or (k ∷ keys) i key ≡ key → (Contains keys key → Contains (filter p keys) key) → Contains (filter p (k ∷ keys)) key
    by_index zero lt same rest = here same (p k) refl
    by_index (suc i) lt same rest = more (p k) (rest (i, (omega arith), same))

zipped : (net : List ℕ → Option Entry) (keys : List (List ℕ)) → AllZip (λ key entry. net key ≡ Some entry) (filter (λ key. is_some (net key)) keys) (filter_map net keys)
zipped net [] = tt
zipped net (key ∷ keys) = at (net key) refl (zipped net keys)
  where
    at : (o : Option Entry) → net key ≡ o → AllZip (λ key entry. net key ≡ Some entry) (filter (λ key. is_some (net key)) keys) (filter_map net keys)
        → AllZip (λ key entry. net key ≡ Some entry) (cond (is_some o) (key ∷ filter (λ key. is_some (net key)) keys) (filter (λ key. is_some (net key)) keys)) (cons_option o (filter_map net keys))
    at None is others = others
    at (Some entry) is others = (is, others)

-- ---- a table that is tracked

module _ (tables : State) (table : SessionTable) (once : AllPairs ◌≢◌ table.touched)
    (untouched : (key : List ℕ) → ¬ Contains table.touched key → get table.saved key ≡ row_at tables table.name key) where
  abbrev net : List ℕ → Option Entry
  net key = net_entry table.schema.flags (get table.saved key) (row_at tables table.name key)

  abbrev has_net : List ℕ → Bool
  has_net key = is_some (net key)

  none_same : (key : List ℕ) → get table.saved key ≡ row_at tables table.name key → net key ≡ None
  none_same key same = ap (λ (row : Option (List OwnedValue)). net_entry table.schema.flags row (row_at tables table.name key)) same ∙ net_same table.schema.flags (row_at tables table.name key)

  -- a key with a net change has another row
  changes : (key : List ℕ) → Contains (filter has_net table.touched) key → get table.saved key ≢ row_at tables table.name key
  changes key has same =
      true≢false (sym (All-contains (λ k. has_net k ≡ true) (filter has_net table.touched) key (filter_passes has_net table.touched) has) ∙ ap (λ (o : Option Entry). is_some o) (none_same key same))

  -- and one with another row has one
  changed : (key : List ℕ) → get table.saved key ≢ row_at tables table.name key → Contains (filter has_net table.touched) key
  changed key differ = by_key (list_any (λ k. bytes_eq k key) table.touched) refl
    where
      by_net : (o : Option Entry) → net key ≡ o → is_some o ≡ true
      by_net None is = absurd (differ (net_none table.schema.flags (get table.saved key) (row_at tables table.name key) is))
      by_net (Some entry) is = refl

      by_key : (b : Bool) → list_any (λ k. bytes_eq k key) table.touched ≡ b → Contains (filter has_net table.touched) key
      by_key true any = contains_filter has_net table.touched key (found_key key table.touched any) (by_net (net key) refl)
      by_key false any = absurd (differ (untouched key (λ has. All-contains (λ (k : List ℕ). k ≢ key) table.touched key (All-from_recursion (λ (k : List ℕ). k ≢ key) table.touched (not_found key table.touched any)) has refl)))

  pub tracked : schema_at tables table.name ≡ Some table.schema → IsTracked tables table
  tracked there = record {
    found = there;
    once = once;
    untouched = untouched;
    net = record {
      differ = λ key. (changes key, changed key);
      once = AllPairs-filter ◌≢◌ has_net table.touched once;
      each = zipped net table.touched;
    };
  }

-- ---- writes

-- no write is of this key of the table
abbrev pub Apart : List ℕ → List ℕ → List WrittenData → Type 0
Apart name q = AllByRecursion (λ w. ¬ ((w.table ≡ name) × (w.key ≡ q)))

-- a key that none of a table's writes has, no write has there
apart_of : (name q : List ℕ) (written : List WrittenData) → Lacks q (map (λ (w : WrittenData). w.key) (writes_of name written)) → Apart name q written
apart_of name q [] lacks = tt
apart_of name q (w ∷ written) lacks = at (bytes_eq w.table name) refl lacks (apart_of name q written)
  where
    at : (b : Bool) → bytes_eq w.table name ≡ b → Lacks q (map (λ (w : WrittenData). w.key) (cond b (w ∷ writes_of name written) (writes_of name written)))
        → (Lacks q (map (λ (w : WrittenData). w.key) (writes_of name written)) → Apart name q written) → Apart name q (w ∷ written)
    at true same lacks rest = ((λ here. lacks.0 here.1), rest lacks.1)
    at false other lacks rest = ((λ here. other_text w.table name (sym other) here.0), rest lacks)

-- the tables stay, and the rows that were not written
pub record OnlyWrites (old new : State) (written : List WrittenData) : Type 0 where
  pub schemas : (table : List ℕ) → schema_at new table ≡ schema_at old table
  pub others : (table key : List ℕ) → Apart table key written → row_at new table key ≡ row_at old table key

-- writes that are noted leave a table tracked
pub touched_tracked : (old new : State) (written : List WrittenData) → OnlyWrites old new written → (table : SessionTable) → IsTracked old table → IsTracked new (touch written table)
touched_tracked old new written only table is =
    let more = map (λ (w : WrittenData). w.key) (writes_of table.name written) in
    tracked new (touch written table) (with_keys_once table.touched more is.once)
    (λ key none.
    let lacks = lacks_before key table.touched more (lacks_key key (with_keys table.touched more) none) in
    is.untouched key (λ has. All-contains (λ (k : List ℕ). k ≢ key) table.touched key (All-from_recursion (λ (k : List ℕ). k ≢ key) table.touched lacks.0) has refl)
    ∙ sym (only.others table.name key (apart_of table.name key written lacks.1)))
    (only.schemas table.name ∙ is.found)

-- a table stays tracked where its rows and its schema stay
pub same_tracked : (old new : State) (table : SessionTable) → schema_at new table.name ≡ schema_at old table.name → rows_at new table.name ≡ rows_at old table.name → IsTracked old table → IsTracked new table
same_tracked old new table schemas rows is =
    tracked new table is.once (λ key none. is.untouched key none ∙ sym (ap (λ (m : RowMap). get m key) rows)) (schemas ∙ is.found)

-- a table whose rows are put back is tracked
pub back_tracked : (old new : State) (table : SessionTable) → schema_at new table.name ≡ schema_at old table.name → rows_at new table.name ≡ table.saved → IsTracked old table → IsTracked new table
back_tracked old new table schemas rows is = tracked new table is.once (λ key none. sym (ap (λ (m : RowMap). get m key) rows)) (schemas ∙ is.found)

-- a table that is attached is tracked
pub new_tracked : (state : State) (name : List ℕ) (schema : SchemaData) → schema_at state name ≡ Some schema
    → IsTracked state (record { name = name; schema = schema; saved = rows_at state name; touched = [] })
new_tracked state name schema there =
    tracked state (record { name = name; schema = schema; saved = rows_at state name; touched = [] }) (λ i j d lt within. absurd (omega arith)) (λ key none. refl) there
