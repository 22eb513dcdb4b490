-- The tables of a session by their indices, and what is noted in them, one write after another.
use Rattle.std.proofs.Common.{bytes_eq, ◌≡◌, ◌≢◌, ◌⊎◌, ◌<◌, ℕ, zero, suc, Bool, true, false, cond, List, [], ◌∷◌, ◌++◌, length, get_or, set, take, drop, ◌+◌, map, refl, sym, ap, ◌∙◌, subst, arith}
use Rattle.std.specs.Prelude.{IfSome, is_some, Option, Result, Ok, Err, OnOk, IfErr, All}
use Rattle.std.specs.List.{AllByRecursion}
use Rattle.std.specs.Prelude.{string_bytes}
use Rattle.std.specs.Cmp.Lexicographic.{bytes_decides, same_text}
use Rattle.std.proofs.lemmas.List.{append-nil, append_assoc, drop_more, get_or_default, length-map, map-append, map-set}
use Rattle.std.proofs.Math.Seq.{map-set_same}
use Rattle.std.proofs.lemmas.List.Elements.{filter-append, All-from_recursion, recursion_from_All}
use Rattle.cs_value.specs.declared.value.OwnedValue.{OwnedValue}
use Rattle.cs_value.specs.State.{SchemaData, WrittenData, IsRowAt}
use Rattle.cs_value.proofs.ListLemmas.{AllByRecursion-at, AllByRecursion-append, AllByRecursion-append_left, AllByRecursion-append_right, AllByRecursion-map, AllByRecursion-weaker, AllPairs-map_before, PairsByRecursion, recursion_from_AllPairs, AllPairs-from_recursion, get_or_map_at, map_more_at}
use Rattle.cs_session_notes.specs.declared.attached.Attached.{Attached}
use Rattle.cs_session_notes.specs.declared.fault.SessionFault.{SessionFault}
use Rattle.cs_session_notes.specs.declared.fault.SessionFault.TheVariants.{NoMemory as OutOfMemory}
use Rattle.cs_session_notes.specs.Attaching.{IsNewTable}
use Rattle.cs_session_notes.specs.FirstImages.{FirstImage, AttachedTable, Notes, first_at, noted, writes_of, noted_in, recorded}
use Rattle.cs_session_notes.specs.Merging.{unwritten}
use Rattle.cs_session_notes.specs.Noting.{HasFormers, AreFormers, AreApart, Fits, IsDamage, with_write}
use Rattle.cs_session_notes.specs.Views.{attached_of, kept_of, name_in, IsNewAt, IsIndexOf}
use Rattle.cs_session_notes.proofs.NotesLemmas.{names_stay}
use Rattle.cs_session_notes.proofs.NotingLemmas.{still_fails}

abbrev Apart : AttachedTable → AttachedTable → Type 0
Apart s t = s.name ≢ t.name

-- ---- one write

other_bytes : (name other : List ℕ) → other ≢ name → bytes_eq name other ≡ false
other_bytes name other apart = at (bytes_eq name other) refl
  where
    at : (b : Bool) → bytes_eq name other ≡ b → b ≡ false
    at true same = absurd (apart (sym (same_text name other (sym same))))
    at false same = refl

module _ (w : WrittenData) where
  abbrev one : List WrittenData
  one = w ∷ []

  -- a table of another name stays
  other_noted : (t : AttachedTable) → t.name ≢ w.table → noted_in one t ≡ t
  other_noted t apart = rw (other_bytes w.table t.name apart) refl

  other_formers : (t : AttachedTable) → t.name ≢ w.table → HasFormers one t
  other_formers t apart = rw (other_bytes w.table t.name apart) tt

  -- where no table has the name, all stay
  pub none_noted : (notes : Notes) → AllByRecursion (λ t. t.name ≢ w.table) notes → recorded notes one ≡ notes
  none_noted [] apart = refl
  none_noted (t ∷ notes) apart = let here = other_noted t apart.0 in let others = none_noted notes apart.1 in cc (here, others)

  pub none_formers : (notes : Notes) → AllByRecursion (λ t. t.name ≢ w.table) notes → AreFormers notes one
  none_formers [] apart = tt
  none_formers (t ∷ notes) apart = (other_formers t apart.0, none_formers notes apart.1)

  -- the table of the name has one key more
  same_name : (t : AttachedTable) → t.name ≡ w.table → bytes_eq w.table t.name ≡ true
  same_name t same = (bytes_decides w.table t.name).1 (sym same)

  here_noted : (t : AttachedTable) → t.name ≡ w.table → noted_in one t ≡ with_write t w.key w.former
  here_noted t same = rw (same_name t same) refl

  here_formers : (t : AttachedTable) → t.name ≡ w.table → Fits t w.key w.former → HasFormers one t
  here_formers t same fits = rw (same_name t same) (fits, tt)

  here_fits : (t : AttachedTable) → t.name ≡ w.table → HasFormers one t → Fits t w.key w.former
  here_fits t same formers = (rw (same_name t same) at formers).0

  -- none of those that are apart from it has the name
  apart_here : (s : AttachedTable) (notes : Notes) → s.name ≡ w.table → AllByRecursion (Apart s) notes → AllByRecursion (λ t. t.name ≢ w.table) notes
  apart_here s notes same apart = AllByRecursion-weaker (Apart s) (λ t. t.name ≢ w.table) (λ t other is. other (same ∙ sym is)) notes apart

  apart_before : (s t : AttachedTable) → t.name ≡ w.table → Apart s t → s.name ≢ w.table
  apart_before s t same apart is = apart (is ∙ sym same)

  pub noted_at : (notes : Notes) (i : ℕ) (t : AttachedTable) → PairsByRecursion Apart notes → i < length notes → t ≡ get_or notes i t → t.name ≡ w.table
      → set notes i (with_write t w.key w.former) ≡ recorded notes one
  noted_at [] i t apart lt is same = absurd (omega arith)
  noted_at (s ∷ notes) zero t apart lt is same =
      let named : s.name ≡ w.table = ap (λ (u : AttachedTable). u.name) (sym is) ∙ same in
      let here : with_write t w.key w.former ≡ noted_in one s = ap (λ (u : AttachedTable). with_write u w.key w.former) is ∙ sym (here_noted s named) in
      let others = sym (none_noted notes (apart_here s notes named apart.0)) in
      cc (here, others)
  noted_at (s ∷ notes) (suc i) t apart lt is same =
      let here = sym (other_noted s (apart_before s t same (AllByRecursion-at (Apart s) notes i t (omega arith) is apart.0))) in
      let others = noted_at notes i t apart.1 (omega arith) is same in
      cc (here, others)

  pub formers_at : (notes : Notes) (i : ℕ) (t : AttachedTable) → PairsByRecursion Apart notes → i < length notes → t ≡ get_or notes i t → t.name ≡ w.table
      → Fits t w.key w.former → AreFormers notes one
  formers_at [] i t apart lt is same fits = absurd (omega arith)
  formers_at (s ∷ notes) zero t apart lt is same fits =
      let named : s.name ≡ w.table = ap (λ (u : AttachedTable). u.name) (sym is) ∙ same in
      (subst (HasFormers one) is (here_formers t same fits), none_formers notes (apart_here s notes named apart.0))
  formers_at (s ∷ notes) (suc i) t apart lt is same fits =
      (other_formers s (apart_before s t same (AllByRecursion-at (Apart s) notes i t (omega arith) is apart.0)), formers_at notes i t apart.1 (omega arith) is same fits)

  pub fits_at : (notes : Notes) (i : ℕ) (t : AttachedTable) → i < length notes → t ≡ get_or notes i t → t.name ≡ w.table → AreFormers notes one → Fits t w.key w.former
  fits_at notes i t lt is same formers = here_fits t same (AllByRecursion-at (HasFormers one) notes i t lt is formers)

-- ---- one write after others

-- noting goes on
noted_then : (firsts : List FirstImage) (xs ys : List WrittenData) → noted (noted firsts xs) ys ≡ noted firsts (xs ++ ys)
noted_then firsts [] ys = refl
noted_then firsts (w ∷ xs) ys = at (is_some (first_at firsts w.key)) (noted_then firsts xs ys) (noted_then (firsts ++ record { key = w.key; row = w.former } ∷ []) xs ys)
  where
    at : (b : Bool) → noted (noted firsts xs) ys ≡ noted firsts (xs ++ ys)
        → noted (noted (firsts ++ record { key = w.key; row = w.former } ∷ []) xs) ys ≡ noted (firsts ++ record { key = w.key; row = w.former } ∷ []) (xs ++ ys)
        → noted (cond b (noted firsts xs) (noted (firsts ++ record { key = w.key; row = w.former } ∷ []) xs)) ys
        ≡ cond b (noted firsts (xs ++ ys)) (noted (firsts ++ record { key = w.key; row = w.former } ∷ []) (xs ++ ys))
    at true here there = here
    at false here there = there

module _ (xs ys : List WrittenData) where
  writes_then : (name : List ℕ) → writes_of name (xs ++ ys) ≡ writes_of name xs ++ writes_of name ys
  writes_then name = filter-append (λ (v : WrittenData). bytes_eq v.table name) xs ys

  in_then : (t : AttachedTable) → noted_in ys (noted_in xs t) ≡ noted_in (xs ++ ys) t
  in_then t = ap (λ (fs : List FirstImage). let b : AttachedTable = record t { firsts = fs } in b)
      (noted_then t.firsts (writes_of t.name xs) (writes_of t.name ys) ∙ ap (noted t.firsts) (sym (writes_then t.name)))

  recorded_then : (notes : Notes) → recorded (recorded notes xs) ys ≡ recorded notes (xs ++ ys)
  recorded_then [] = refl
  recorded_then (t ∷ notes) = let here = in_then t in let others = recorded_then notes in cc (here, others)

  abbrev FitsIn : AttachedTable → WrittenData → Type 0
  FitsIn t v = IfSome v.former (IsRowAt t.schema v.key)

  formers_then : (notes : Notes) → AreFormers notes xs → AreFormers (recorded notes xs) ys → AreFormers notes (xs ++ ys)
  formers_then [] first then = tt
  formers_then (t ∷ notes) first then =
      (rw (writes_then t.name) (AllByRecursion-append (FitsIn t) (writes_of t.name xs) (writes_of t.name ys) first.0 then.0), formers_then notes first.1 then.1)

  formers_after : (notes : Notes) → AreFormers notes (xs ++ ys) → AreFormers (recorded notes xs) ys
  formers_after [] all = tt
  formers_after (t ∷ notes) all =
      (AllByRecursion-append_right (FitsIn t) (writes_of t.name xs) (writes_of t.name ys) (rw (writes_then t.name) at all.0), formers_after notes all.1)

  formers_before : (notes : Notes) → AreFormers notes (xs ++ ys) → AreFormers notes xs
  formers_before [] all = tt
  formers_before (t ∷ notes) all =
      (AllByRecursion-append_left (FitsIn t) (writes_of t.name xs) (writes_of t.name ys) (rw (writes_then t.name) at all.0), formers_before notes all.1)

-- of the writes some are noted, and these are left
pub record AreNoted (notes kept : Notes) (all left : List WrittenData) (tables : List Attached) : Type 0 where
  pub done : List WrittenData
  pub all_are : done ++ left ≡ all
  pub noted : map attached_of tables ≡ recorded notes done
  pub kept_are : map kept_of tables ≡ kept
  pub formers : AreFormers notes done

-- none is noted yet
none_yet : (notes : Notes) → recorded notes [] ≡ notes
none_yet [] = refl
none_yet (t ∷ notes) = let others = none_yet notes in cc (others)

no_formers : (notes : Notes) → AreFormers notes []
no_formers [] = tt
no_formers (t ∷ notes) = (tt, no_formers notes)

pub start_noted : (tables : List Attached) (all left : List WrittenData) → left ≡ all → AreNoted (map attached_of tables) (map kept_of tables) all left tables
start_noted tables all left is = record { done = []; all_are = is; noted = sym (none_yet (map attached_of tables)); kept_are = refl; formers = no_formers (map attached_of tables) }

-- the writes that are left, where a loop reads one
pub drop_map_at : {X Y : Type 0} (f : X → Y) (xs : List X) (i : ℕ) (x : X) → i < length xs → x ≡ get_or xs i x → drop i (map f xs) ≡ f x ∷ drop (i + 1) (map f xs)
drop_map_at f xs i x lt is =
    let within : i < length (map f xs) = rw (length-map xs f) lt in
    drop_more (map f xs) i (f x) within ∙ ap (λ (y : _). y ∷ drop (i + 1) (map f xs)) (get_or_map_at xs i x lt is f)

module _ (notes kept : Notes) (all : List WrittenData) where
  pub still_apart : (left : List WrittenData) (tables : List Attached) → AreApart notes → AreNoted notes kept all left tables → AreApart (map attached_of tables)
  still_apart left tables apart so = rw so.noted (AllPairs-from_recursion Apart (recorded notes so.done) (names_stay so.done notes (recursion_from_AllPairs Apart notes apart)))

  -- one is noted
  pub one_noted : (left rest : List WrittenData) (w : WrittenData) (tables new : List Attached) → left ≡ w ∷ rest → AreNoted notes kept all left tables
      → map attached_of new ≡ recorded (map attached_of tables) (w ∷ []) → AreFormers (map attached_of tables) (w ∷ []) → map kept_of new ≡ map kept_of tables
      → AreNoted notes kept all rest new
  one_noted left rest w tables new next so noted formers same = record {
    done = so.done ++ w ∷ [];
    all_are = append_assoc so.done (w ∷ []) rest ∙ ap (λ (l : List WrittenData). so.done ++ l) (sym next) ∙ so.all_are;
    noted = noted ∙ ap (λ (ns : Notes). recorded ns (w ∷ [])) so.noted ∙ recorded_then so.done (w ∷ []) notes;
    kept_are = same ∙ so.kept_are;
    formers = formers_then so.done (w ∷ []) notes so.formers (subst (λ (ns : Notes). AreFormers ns (w ∷ [])) so.noted formers);
  }

  -- one that is refused could not be noted
  pub one_refused : (left rest : List WrittenData) (w : WrittenData) (tables : List Attached) → left ≡ w ∷ rest → AreNoted notes kept all left tables
      → (e : SessionFault) → (e ≡ OutOfMemory) ⊎ (IsDamage e × ¬ AreFormers (map attached_of tables) (w ∷ []))
      → (e ≡ OutOfMemory) ⊎ (IsDamage e × ¬ AreFormers notes all)
  one_refused left rest w tables next so e refused =
      still_fails (λ (formers : AreFormers notes all).
      let is = sym so.all_are ∙ ap (λ (l : List WrittenData). so.done ++ l) next in
      let after = formers_after so.done (w ∷ rest) notes (subst (AreFormers notes) is formers) in
      subst (λ (ns : Notes). AreFormers ns (w ∷ [])) (sym so.noted) (formers_before (w ∷ []) rest (recorded notes so.done) after)) refused

  -- none is left
  pub all_noted : (left : List WrittenData) (tables : List Attached) → left ≡ [] → AreNoted notes kept all left tables → (map attached_of tables ≡ recorded notes all) × AreFormers notes all
  all_noted left tables none so =
      let is = sym (append-nil so.done) ∙ ap (λ (l : List WrittenData). so.done ++ l) (sym none) ∙ so.all_are in
      (so.noted ∙ ap (recorded notes) is, subst (AreFormers notes) is so.formers)

-- ---- a table by its index

module _ (tables : List Attached) (name : List ℕ) (index : ℕ) (found : IsIndexOf tables name index) (item : Attached) (is : item ≡ get_or tables index item) where
  abbrev notes_of : Notes
  notes_of = map attached_of tables

  stands : attached_of item ≡ get_or notes_of index (attached_of item)
  stands = sym (get_or_map_at tables index item found.0 is attached_of)

  within_notes : index < length notes_of
  within_notes = rw (length-map tables attached_of) found.0

  pub item_named : string_bytes item.name ≡ name
  item_named = ap name_in is ∙ found.1 item

  -- what is written over keeps the names, and what was kept
  pub names_stand : {K : Type 0} (text : K → List ℕ) (keys : List K) (new : Attached) → map text keys ≡ map name_in tables → kept_of new ≡ kept_of item → map text keys ≡ map name_in (set tables index new)
  names_stand text keys new named kept = named ∙ sym (map-set_same name_in tables index new item (ap (λ (t : AttachedTable). t.name) kept ∙ ap name_in is))

  pub kept_stands : (new : Attached) → kept_of new ≡ kept_of item → map kept_of (set tables index new) ≡ map kept_of tables
  kept_stands new kept = map-set_same kept_of tables index new item (kept ∙ ap kept_of is)

  -- a key that was not written in it is new there
  pub new_at : (key : List ℕ) → is_some (first_at (attached_of item).firsts key) ≡ false → IsNewAt tables key index
  new_at key absent t at_place =
      subst (λ (u : Attached). is_some (first_at (attached_of u).firsts key) ≡ false) (is ∙ get_or_default tables index item t found.0 ∙ sym at_place) absent

  module _ (apart : AreApart notes_of) (key : List ℕ) (former : Option (List OwnedValue)) where
    abbrev write : WrittenData
    write = record { table = name; key = key; former = former }

    pub index_noted : {X E : Type 0} (r : Result X E) (new : Attached) → OnOk r (attached_of new ≡ with_write (attached_of item) key former)
        → OnOk r (map attached_of (set tables index new) ≡ recorded notes_of (write ∷ []))
    index_noted (Ok x) new noted = map-set attached_of tables index new ∙ ap (set notes_of index) noted
        ∙ noted_at write notes_of index (attached_of item) (recursion_from_AllPairs Apart notes_of apart) within_notes stands item_named
    index_noted (Err e) new noted = tt

    -- nothing more is noted where the key is there
    pub index_there : is_some (first_at (attached_of item).firsts key) ≡ true → notes_of ≡ recorded notes_of (write ∷ [])
    index_there there =
        let same : with_write (attached_of item) key former ≡ attached_of item = rw there refl in
        sym (map-set_same attached_of tables index item item (ap attached_of is)) ∙ map-set attached_of tables index item ∙ ap (set notes_of index) (sym same)
        ∙ noted_at write notes_of index (attached_of item) (recursion_from_AllPairs Apart notes_of apart) within_notes stands item_named

    pub index_formers : {X E : Type 0} (r : Result X E) → OnOk r (Fits (attached_of item) key former) → OnOk r (AreFormers notes_of (write ∷ []))
    index_formers (Ok x) fits = formers_at write notes_of index (attached_of item) (recursion_from_AllPairs Apart notes_of apart) within_notes stands item_named fits
    index_formers (Err e) fits = tt

    pub index_refused : {X : Type 0} (r : Result X SessionFault) → IfErr r (λ e. (e ≡ OutOfMemory) ⊎ (IsDamage e × ¬ Fits (attached_of item) key former))
        → IfErr r (λ e. (e ≡ OutOfMemory) ⊎ (IsDamage e × ¬ AreFormers notes_of (write ∷ [])))
    index_refused (Ok x) refused = tt
    index_refused (Err e) refused = still_fails (fits_at write notes_of index (attached_of item) within_notes stands item_named) refused

  -- what holds of it holds of each of the name
  pub has_named : (P : AttachedTable → Type 0) → AreApart notes_of → P (attached_of item) → All (λ t. t.name ≡ name → P t) notes_of
  has_named P apart has = All-from_recursion (λ (t : AttachedTable). t.name ≡ name → P t) notes_of (at notes_of index (recursion_from_AllPairs Apart notes_of apart) within_notes stands)
    where
      none : (s : AttachedTable) → s.name ≡ name → (notes : Notes) → AllByRecursion (Apart s) notes → AllByRecursion (λ t. t.name ≡ name → P t) notes
      none s same notes apart = AllByRecursion-weaker (Apart s) (λ t. t.name ≡ name → P t) (λ t other named. absurd (other (same ∙ sym named))) notes apart

      at : (notes : Notes) (i : ℕ) → PairsByRecursion Apart notes → i < length notes → attached_of item ≡ get_or notes i (attached_of item) → AllByRecursion (λ t. t.name ≡ name → P t) notes
      at [] i apart lt is = absurd (omega arith)
      at (s ∷ notes) zero apart lt is = ((λ named. subst P is has), none s (ap (λ (t : AttachedTable). t.name) (sym is) ∙ item_named) notes apart.0)
      at (s ∷ notes) (suc i) apart lt is =
          ((λ named. absurd (AllByRecursion-at (Apart s) notes i (attached_of item) (omega arith) is apart.0 (named ∙ sym item_named))), at notes i apart.1 (omega arith) is)

  pub ok_named : {X E : Type 0} (r : Result X E) (P : AttachedTable → Type 0) → AreApart notes_of → OnOk r (P (attached_of item)) → OnOk r (All (λ t. t.name ≡ name → P t) notes_of)
  ok_named (Ok x) P apart has = has_named P apart has
  ok_named (Err e) P apart has = tt

-- ---- the same tables, to which nothing was written

module _ (tables : List Attached) (i : ℕ) (x : Attached) (lt : i < length tables) (is : x ≡ get_or tables i x) where
  abbrev Copied : List Attached → ℕ → Type 0
  Copied copy count = map attached_of copy ≡ map unwritten (map attached_of (take count tables))

  -- none of those so far has the name of the next one
  pub fresh_unwritten : AreApart (map attached_of tables) → (copy : List Attached) → Copied copy i → IsNewTable (map attached_of copy) (string_bytes x.name)
  fresh_unwritten apart copy so =
      let before = AllPairs-map_before tables i x lt is attached_of Apart apart in
      let Other : AttachedTable → Type 0 = λ t. t.name ≢ string_bytes x.name in
      let notes = map attached_of (take i tables) in
      subst (All Other) (sym so) (All-from_recursion Other (map unwritten notes) (AllByRecursion-map Other unwritten notes (recursion_from_All Other notes before)))

  -- one more
  pub unwritten_more : (copy new : List Attached) (name : List ℕ) (schema : SchemaData) → name ≡ string_bytes x.name → schema ≡ x.schema → Copied copy i
      → map attached_of new ≡ map attached_of copy ++ record { name = name; schema = schema; firsts = [] } ∷ [] → Copied new (i + 1)
  unwritten_more copy new name schema named same so pushed =
      rw (pushed, so, named, same, map_more_at tables i x lt is attached_of, map-append unwritten (map attached_of (take i tables)) (attached_of x ∷ [])) refl
