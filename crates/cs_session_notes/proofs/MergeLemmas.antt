-- Notes that are merged: they are those of the writes themselves, and restore the same rows.
use Rattle.std.proofs.Common.{bytes_eq, ◌≡◌, ◌≢◌, inl, inr, ℕ, zero, Bool, true, false, cond, List, [], ◌∷◌, ◌++◌, get_or, map, Option, Some, None, refl, sym, subst, ap, ◌∙◌, arith}
use Rattle.std.specs.Prelude.{is_some, unwrap_or}
use Rattle.std.specs.FinMap.{get}
use Rattle.std.specs.List.{AllByRecursion}
use Rattle.std.specs.Cmp.Lexicographic.{same_text, other_text}
use Rattle.std.proofs.lemmas.List.{append-nil, map-append}
use Rattle.std.proofs.lemmas.List.Elements.{filter-append, All-from_recursion, recursion_from_All}
use Rattle.cs_value.specs.declared.value.OwnedValue.{OwnedValue}
use Rattle.cs_value.specs.State.{RowMap, State, WrittenData, rows_at}
use Rattle.cs_value.proofs.ByteMaps.{same_maps}
use Rattle.cs_value.proofs.ListLemmas.{AllByRecursion-map, AllByRecursion-weaker, PairsByRecursion, recursion_from_AllPairs, AllPairs-from_recursion}
use Rattle.cs_session_notes.specs.FirstImages.{FirstImage, AttachedTable, IsAttachedTable, IsNotes, Notes, first_at, noted, writes_of, noted_in, put_all_back, recorded, rewound, rewound_rows}
use Rattle.cs_session_notes.specs.Merging.{IsAttached, MergeNotes, MergeRestores, all_noted, noted_writes, unwritten}
use Rattle.cs_session_notes.proofs.FirstLemmas.{append_new, noted_kept, put_all_at}

abbrev first : WrittenData → FirstImage
first w = record { key = w.key; row = w.former }

same_self : (bytes : List ℕ) → bytes_eq bytes bytes ≡ true
same_self bytes = at (bytes_eq bytes bytes) refl
  where
    at : (b : Bool) → bytes_eq bytes bytes ≡ b → b ≡ true
    at true same = refl
    at false same = absurd (other_text bytes bytes (sym same) refl)

-- ---- the keys of one table

-- one write after another
noted_then : (firsts : List FirstImage) (one two : List WrittenData) → noted firsts (one ++ two) ≡ noted (noted firsts one) two
noted_then firsts [] two = refl
noted_then firsts (w ∷ one) two = at (is_some (first_at firsts w.key)) (noted_then firsts one two) (noted_then (firsts ++ first w ∷ []) one two)
  where
    at : (b : Bool) → noted firsts (one ++ two) ≡ noted (noted firsts one) two → noted (firsts ++ first w ∷ []) (one ++ two) ≡ noted (noted (firsts ++ first w ∷ []) one) two
        → cond b (noted firsts (one ++ two)) (noted (firsts ++ first w ∷ []) (one ++ two)) ≡ noted (cond b (noted firsts one) (noted (firsts ++ first w ∷ []) one)) two
    at true here there = here
    at false here there = there

-- a key that was there stays
stays : (firsts : List FirstImage) (written : List WrittenData) (q : List ℕ) → is_some (first_at firsts q) ≡ true → is_some (first_at (noted firsts written) q) ≡ true
stays firsts written q is = at (first_at firsts q) refl is
  where
    at : (o : Option (Option (List OwnedValue))) → first_at firsts q ≡ o → is_some o ≡ true → is_some (first_at (noted firsts written) q) ≡ true
    at None e is = absurd (let apart : false ≡ true = is in cc)
    at (Some row) e is = rw (noted_kept firsts written q row e) refl

-- a key that was written is there
written_is : (firsts : List FirstImage) (w : WrittenData) → is_some (first_at (noted firsts (w ∷ [])) w.key) ≡ true
written_is firsts w = at (first_at firsts w.key) refl
  where
    at : (o : Option (Option (List OwnedValue))) → first_at firsts w.key ≡ o → is_some (first_at (cond (is_some (first_at firsts w.key)) firsts (firsts ++ first w ∷ [])) w.key) ≡ true
    at None e = rw (e, append_new firsts (first w) w.key e, same_self w.key) refl
    at (Some row) e = rw (e, e) refl

module _ (name : List ℕ) where
  abbrev write : FirstImage → WrittenData
  write f = record { table = name; key = f.key; former = f.row }

  taken : (firsts noted_before : List FirstImage) (q : List ℕ) → is_some (first_at noted_before q) ≡ true → is_some (first_at (noted firsts (map write noted_before)) q) ≡ true
  taken firsts [] q is = absurd (let apart : false ≡ true = is in cc)
  taken firsts (f ∷ before) q is = at (bytes_eq f.key q) refl is (taken (noted firsts (write f ∷ [])) before q)
    where
      more : noted firsts (map write (f ∷ before)) ≡ noted (noted firsts (write f ∷ [])) (map write before)
      more = noted_then firsts (write f ∷ []) (map write before)

      at : (b : Bool) → bytes_eq f.key q ≡ b → is_some (cond b (Some f.row) (first_at before q)) ≡ true
          → (is_some (first_at before q) ≡ true → is_some (first_at (noted (noted firsts (write f ∷ [])) (map write before)) q) ≡ true)
          → is_some (first_at (noted firsts (map write (f ∷ before))) q) ≡ true
      at true same is next =
          let key : f.key ≡ q = same_text f.key q (sym same) in
          rw more (stays (noted firsts (write f ∷ [])) (map write before) q (rw (← key) (written_is firsts (write f))))
      at false same is next = rw more (next is)

  -- to note what was noted of writes is to note the writes
  noted_once : (firsts before : List FirstImage) (written : List WrittenData) → noted firsts (map write (noted before written)) ≡ noted (noted firsts (map write before)) written
  noted_once firsts before [] = refl
  noted_once firsts before (w ∷ written) = at (is_some (first_at before w.key)) refl (noted_once firsts before written) (noted_once firsts (before ++ first w ∷ []) written)
    where
      so : List FirstImage
      so = noted firsts (map write before)

      last : noted firsts (map write (before ++ first w ∷ [])) ≡ noted so (w ∷ [])
      last = ap (noted firsts) (map-append write before (first w ∷ [])) ∙ noted_then firsts (map write before) (write (first w) ∷ [])

      at : (b : Bool) → is_some (first_at before w.key) ≡ b → noted firsts (map write (noted before written)) ≡ noted so written
          → noted firsts (map write (noted (before ++ first w ∷ []) written)) ≡ noted (noted firsts (map write (before ++ first w ∷ []))) written
          → noted firsts (map write (cond b (noted before written) (noted (before ++ first w ∷ []) written))) ≡ noted so (w ∷ written)
      at true is here there = rw (taken firsts before w.key is) here
      at false is here there = there ∙ ap (λ (l : List FirstImage). noted l written) last ∙ sym (noted_then so (w ∷ []) written)

  -- the writes of the table are those that it notes
  own_writes : (firsts : List FirstImage) → writes_of name (map write firsts) ≡ map write firsts
  own_writes [] = refl
  own_writes (f ∷ firsts) = rw (same_self name) (ap (λ (l : List WrittenData). write f ∷ l) (own_writes firsts))

-- ---- all tables

-- another table notes none of them
other_writes : (name : List ℕ) (table : AttachedTable) → bytes_eq table.name name ≡ false → (firsts : List FirstImage) → writes_of name (map (write table.name) firsts) ≡ []
other_writes name table apart [] = refl
other_writes name table apart (f ∷ firsts) = rw apart (other_writes name table apart firsts)

no_writes : (name : List ℕ) (notes : Notes) → AllByRecursion (λ t. name ≢ t.name) notes → writes_of name (all_noted notes) ≡ []
no_writes name [] apart = refl
no_writes name (table ∷ notes) apart =
    filter-append (λ (w : WrittenData). bytes_eq w.table name) (noted_writes table) (all_noted notes)
    ∙ ap (λ (l : List WrittenData). l ++ writes_of name (all_noted notes)) (other_writes name table (at (bytes_eq table.name name) refl) table.firsts) ∙ no_writes name notes apart.1
  where
    at : (b : Bool) → bytes_eq table.name name ≡ b → b ≡ false
    at true same = absurd (apart.0 (sym (same_text table.name name (sym same))))
    at false same = refl

module _ (written : List WrittenData) (name : List ℕ) (firsts : List FirstImage) where
  -- one of the tables has the name
  of_table : (during : Notes) → PairsByRecursion (λ s t. s.name ≢ t.name) during → IsAttached name during
      → noted firsts (writes_of name (all_noted (recorded during written))) ≡ noted (noted firsts (writes_of name (all_noted during))) (writes_of name written)
  of_table [] apart none = absurd none
  of_table (table ∷ during) apart has = at (bytes_eq table.name name) refl has (of_table during apart.1)
    where
      parts : (t : AttachedTable) (rest : Notes) → writes_of name (all_noted (t ∷ rest)) ≡ writes_of name (noted_writes t) ++ writes_of name (all_noted rest)
      parts t rest = filter-append (λ (w : WrittenData). bytes_eq w.table name) (noted_writes t) (all_noted rest)

      at : (b : Bool) → bytes_eq table.name name ≡ b → IsAttached name (table ∷ during)
          → (IsAttached name during → noted firsts (writes_of name (all_noted (recorded during written))) ≡ noted (noted firsts (writes_of name (all_noted during))) (writes_of name written))
          → noted firsts (writes_of name (all_noted (recorded (table ∷ during) written))) ≡ noted (noted firsts (writes_of name (all_noted (table ∷ during)))) (writes_of name written)
      at true same has next =
          let is : table.name ≡ name = same_text table.name name (sym same) in
          rw (← is)
          (rw (
            filter-append (λ (w : WrittenData). bytes_eq w.table table.name) (noted_writes (noted_in written table)) (all_noted (recorded during written)),
            filter-append (λ (w : WrittenData). bytes_eq w.table table.name) (noted_writes table) (all_noted during),
            own_writes table.name (noted table.firsts (writes_of table.name written)),
            own_writes table.name table.firsts,
            no_writes table.name during apart.0,
            no_writes table.name (recorded during written) (names_apart during apart.0),
            append-nil (map (write table.name) (noted table.firsts (writes_of table.name written))),
            append-nil (map (write table.name) table.firsts),
          )
          (noted_once table.name firsts table.firsts (writes_of table.name written)))
        where
          names_apart : (notes : Notes) → AllByRecursion (λ t. table.name ≢ t.name) notes → AllByRecursion (λ t. table.name ≢ t.name) (recorded notes written)
          names_apart [] all = tt
          names_apart (t ∷ notes) all = (all.0, names_apart notes all.1)
      at false same (inl is) next = absurd (other_text table.name name (sym same) is)
      at false same (inr has) next =
          rw (parts table during, parts (noted_in written table) (recorded during written), other_writes name table same table.firsts, other_writes name table same (noted table.firsts (writes_of table.name written)))
          (next has)

module _ (written : List WrittenData) (during : Notes) (apart : PairsByRecursion (λ s t. s.name ≢ t.name) during) where
  merged : (notes : Notes) → AllByRecursion (λ t. IsAttached t.name during) notes
      → recorded notes (all_noted (recorded during written)) ≡ recorded (recorded notes (all_noted during)) written
  merged [] covers = refl
  merged (table ∷ notes) covers =
      let here : noted_in (all_noted (recorded during written)) table ≡ noted_in written (noted_in (all_noted during) table) =
      ap (λ (firsts : List FirstImage). record table { firsts = firsts }) (of_table written table.name table.firsts during apart covers.0) in
      cc (here, merged notes covers.1)

abbrev Apart : AttachedTable → AttachedTable → Type 0
Apart s t = s.name ≢ t.name

-- ---- tables to which nothing was written

none_noted : (notes : Notes) → all_noted (map unwritten notes) ≡ []
none_noted [] = refl
none_noted (table ∷ notes) = none_noted notes

none_recorded : (notes : Notes) → recorded notes [] ≡ notes
none_recorded [] = refl
none_recorded (table ∷ notes) = ap (λ (ts : Notes). table ∷ ts) (none_recorded notes)

unwritten_apart : (notes : Notes) → PairsByRecursion Apart notes → PairsByRecursion Apart (map unwritten notes)
unwritten_apart [] apart = tt
unwritten_apart (table ∷ notes) apart = (AllByRecursion-map (Apart (unwritten table)) unwritten notes apart.0, unwritten_apart notes apart.1)

pub unwritten_are : (notes : Notes) → IsNotes notes → IsNotes (map unwritten notes)
unwritten_are notes is = record {
  each = All-from_recursion IsAttachedTable (map unwritten notes) (AllByRecursion-map IsAttachedTable unwritten notes
      (AllByRecursion-weaker IsAttachedTable (λ t. IsAttachedTable (unwritten t)) (λ t table. record {
        named = table.named;
        schema = table.schema;
        rows = λ k d lt. absurd (omega arith);
        once = λ i j d lt within. absurd (omega arith);
      }) notes (recursion_from_All IsAttachedTable notes is.each)));
  once = AllPairs-from_recursion Apart (map unwritten notes) (unwritten_apart notes (recursion_from_AllPairs Apart notes is.once));
}

-- each table is there
pub each_there : (notes : Notes) → AllByRecursion (λ t. IsAttached t.name (map unwritten notes)) notes
each_there [] = tt
each_there (table ∷ notes) = (
  inl refl,
  AllByRecursion-weaker (λ t. IsAttached t.name (map unwritten notes)) (λ t. IsAttached t.name (map unwritten (table ∷ notes))) (λ t there. inr there) notes (each_there notes),
)

pub merge_notes : MergeNotes
merge_notes notes written apart =
    let during = map unwritten notes in
    merged written during (unwritten_apart notes (recursion_from_AllPairs Apart notes apart)) notes (each_there notes)
    ∙ ap (λ (writes : List WrittenData). recorded (recorded notes writes) written) (none_noted notes)
    ∙ ap (λ (ts : Notes). recorded ts written) (none_recorded notes)

-- ---- the rows from before

-- the first image of a key that is not noted is that of the other notes
noted_from : (name q : List ℕ) (firsts taken : List FirstImage) → first_at firsts q ≡ None → first_at (noted firsts (map (write name) taken)) q ≡ first_at taken q
noted_from name q firsts [] none = none
noted_from name q firsts (f ∷ taken) none =
    at (bytes_eq f.key q) (is_some (first_at firsts f.key)) refl refl (noted_from name q firsts taken none) (λ still. noted_from name q (firsts ++ f ∷ []) taken still)
  where
    rest : List WrittenData
    rest = map (write name) taken

    there : (b : Bool) → bytes_eq f.key q ≡ b → first_at (firsts ++ f ∷ []) q ≡ cond b (Some f.row) None
    there b same = append_new firsts f q none ∙ ap (λ (b : Bool). cond b (Some f.row) None) same

    at : (b c : Bool) → bytes_eq f.key q ≡ b → is_some (first_at firsts f.key) ≡ c → first_at (noted firsts rest) q ≡ first_at taken q
        → (first_at (firsts ++ f ∷ []) q ≡ None → first_at (noted (firsts ++ f ∷ []) rest) q ≡ first_at taken q)
        → first_at (cond c (noted firsts rest) (noted (firsts ++ f ∷ []) rest)) q ≡ cond b (Some f.row) (first_at taken q)
    at true true same is here grown =
        let key : f.key ≡ q = same_text f.key q (sym same) in
        let none_is : is_some (first_at firsts f.key) ≡ false = rw key (ap (λ (o : Option (Option (List OwnedValue))). is_some o) none) in
        absurd (let apart : true ≡ false = sym is ∙ none_is in cc)
    at true false same is here grown = noted_kept (firsts ++ f ∷ []) rest q f.row (there true same)
    at false true same is here grown = here
    at false false same is here grown = grown (there false same)

-- they restore the rows that the tables have
pub unwritten_rewound : (state : State) (notes : Notes) → rewound (map unwritten notes) state ≡ map (λ t. rows_at state t.name) (map unwritten notes)
unwritten_rewound state [] = refl
unwritten_rewound state (table ∷ notes) = ap (λ (l : List RowMap). rows_at state table.name ∷ l) (unwritten_rewound state notes)

-- ---- one call after another

-- the tables stay
pub same_names : (notes : Notes) (written : List WrittenData) → map (λ t. t.name) (recorded notes written) ≡ map (λ t. t.name) notes
same_names [] written = refl
same_names (table ∷ notes) written = ap (λ (l : List (List ℕ)). table.name ∷ l) (same_names notes written)

-- the writes of one call and of another are noted in turn
pub recorded_then : (notes : Notes) (one two : List WrittenData) → recorded notes (one ++ two) ≡ recorded (recorded notes one) two
recorded_then [] one two = refl
recorded_then (table ∷ notes) one two =
    let here : noted_in (one ++ two) table ≡ noted_in two (noted_in one table) =
    ap (λ (firsts : List FirstImage). record table { firsts = firsts })
    (ap (noted table.firsts) (filter-append (λ (w : WrittenData). bytes_eq w.table table.name) one two) ∙ noted_then table.firsts (writes_of table.name one) (writes_of table.name two)) in
    cc (here, recorded_then notes one two)

-- ---- what is restored

module _ (before now : State) where
  -- an attached table restores the rows from before by the notes of both
  restores_same : (name : List ℕ) (firsts taken : List FirstImage) → put_all_back taken (rows_at now name) ≡ rows_at before name
      → put_all_back (noted firsts (map (write name) taken)) (rows_at now name) ≡ put_all_back firsts (rows_at before name)
  restores_same name firsts taken back = same_maps _ _ (λ q. put_all_at (noted firsts (map (write name) taken)) (rows_at now name) q
      ∙ at q (first_at firsts q) refl ∙ sym (put_all_at firsts (rows_at before name) q))
    where
      held : (q : List ℕ) → get (rows_at before name) q ≡ unwrap_or (first_at taken q) (get (rows_at now name) q)
      held q = ap (λ (rows : RowMap). get rows q) (sym back) ∙ put_all_at taken (rows_at now name) q

      at : (q : List ℕ) (o : Option (Option (List OwnedValue))) → first_at firsts q ≡ o
          → unwrap_or (first_at (noted firsts (map (write name) taken)) q) (get (rows_at now name) q) ≡ unwrap_or (first_at firsts q) (get (rows_at before name) q)
      at q None e = rw (e, noted_from name q firsts taken e) (sym (held q))
      at q (Some row) e = rw (e, noted_kept firsts (map (write name) taken) q row e) refl

  -- what is noted of the table of a name, and that it restores the rows from before
  record Taken (name : List ℕ) (during : Notes) : Type 0 where
    firsts : List FirstImage
    writes : writes_of name (all_noted during) ≡ map (write name) firsts
    back : put_all_back firsts (rows_at now name) ≡ rows_at before name

  taken_of : (name : List ℕ) (during : Notes) → PairsByRecursion Apart during → AllByRecursion (λ t. rewound_rows now t ≡ rows_at before t.name) during → IsAttached name during → Taken name during
  taken_of name [] apart back none = absurd none
  taken_of name (table ∷ during) apart back has = at (bytes_eq table.name name) refl has (taken_of name during apart.1 back.1)
    where
      parts : writes_of name (all_noted (table ∷ during)) ≡ writes_of name (noted_writes table) ++ writes_of name (all_noted during)
      parts = filter-append (λ (w : WrittenData). bytes_eq w.table name) (noted_writes table) (all_noted during)

      here : table.name ≡ name → Taken name (table ∷ during)
      here is = subst (λ (n : List ℕ). Taken n (table ∷ during)) is (record {
        firsts = table.firsts;
        writes = rw (
          filter-append (λ (w : WrittenData). bytes_eq w.table table.name) (noted_writes table) (all_noted during),
          own_writes table.name table.firsts,
          no_writes table.name during apart.0,
          append-nil (map (write table.name) table.firsts),
        ) refl;
        back = back.0;
      })

      at : (b : Bool) → bytes_eq table.name name ≡ b → IsAttached name (table ∷ during) → (IsAttached name during → Taken name during) → Taken name (table ∷ during)
      at true same has next = here (same_text table.name name (sym same))
      at false same (inl is) next = absurd (other_text table.name name (sym same) is)
      at false same (inr has) next =
          let taken = next has in
          record {
            firsts = taken.firsts;
            writes = parts ∙ ap (λ (l : List WrittenData). l ++ writes_of name (all_noted during)) (other_writes name table same table.firsts) ∙ taken.writes;
            back = taken.back;
          }

  -- two lists of rows that are the same are so one by one
  one_by_one : (during : Notes) → map (rewound_rows now) during ≡ map (λ t. rows_at before t.name) during → AllByRecursion (λ t. rewound_rows now t ≡ rows_at before t.name) during
  one_by_one [] same = tt
  one_by_one (table ∷ during) same = (ap (λ (l : List RowMap). get_or l zero (rewound_rows now table)) same, one_by_one during (ap behind same))
    where
      behind : List RowMap → List RowMap
      behind [] = []
      behind (rows ∷ others) = others

  all_restored : (during notes : Notes) → PairsByRecursion Apart during → AllByRecursion (λ t. rewound_rows now t ≡ rows_at before t.name) during
      → AllByRecursion (λ t. IsAttached t.name during) notes → rewound (recorded notes (all_noted during)) now ≡ rewound notes before
  all_restored during [] apart back covers = refl
  all_restored during (table ∷ notes) apart back covers =
      let taken = taken_of table.name during apart back covers.0 in
      let first : put_all_back (noted table.firsts (writes_of table.name (all_noted during))) (rows_at now table.name) ≡ rewound_rows before table =
      rw taken.writes (restores_same table.name table.firsts taken.firsts taken.back) in
      let rest = all_restored during notes apart back covers.1 in cc (first, rest)

pub merge_restores : MergeRestores
merge_restores before now during notes apart covers same =
    all_restored before now during notes (recursion_from_AllPairs Apart during apart) (one_by_one before now during same)
    (recursion_from_All (λ (t : AttachedTable). IsAttached t.name during) notes covers)
