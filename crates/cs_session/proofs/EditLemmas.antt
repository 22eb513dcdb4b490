-- What an edit reports of the rows that it wrote.
use Rattle.std.proofs.Common.{bytes_eq, ◌≡◌, ℕ, Bool, true, false, cond, not, List, [], ◌∷◌, Option, Some, None, option_map, Result, Ok, Err, ◌⊎◌, inl, inr, refl, sym, ap, ◌∙◌, subst}
use Rattle.std.specs.Prelude.{string_bytes, OnOk}
use Rattle.std.specs.List.{AllByRecursion}
use Rattle.std.specs.FinMap.{get}
use Rattle.std.specs.Cmp.Lexicographic.{same_text}
use Rattle.std.proofs.lemmas.List.Elements.{recursion_from_All, All-from_recursion}
use Rattle.cs_value.specs.declared.value.OwnedValue.{OwnedValue}
use Rattle.cs_value.specs.Key.{row_key}
use Rattle.cs_value.specs.State.{TableData, State, WrittenData, IsState, schema_at, row_at, written_at, with_row, without_row}
use Rattle.cs_value.proofs.StateLemmas.{table_of_schema}
use Rattle.cs_rows.specs.declared.edit.Edit.{Edit}
use Rattle.cs_rows.specs.declared.edit.Edit.TheVariants.{Insert, Update, Delete}
use Rattle.cs_rows.specs.declared.fault.StoreError.{StoreError}
use Rattle.cs_rows.specs.declared.fault.StoreError.TheVariants.{KeyTaken, NoRow}
use Rattle.cs_rows.specs.declared.fault.StoreError.TheVariants as store
use Rattle.cs_store.specs.Faults.{IsResource, refused_for}
use Rattle.cs_store.specs.Editing.{Edited, row_fault, unless, has_row, when, inserted_in, moved, updated_in, deleted_in, found_table, edited}
use Rattle.cs_apply_conflict_kinds.specs.Laws.{TellsFormer}
use Rattle.cs_apply_engine.specs.Steps.{with_result}
use Rattle.cs_apply_engine.proofs.WriteLemmas.{result_schemas, result_elsewhere}
use Rattle.cs_session_notes.specs.declared.fault.SessionFault.{SessionFault}
use Rattle.cs_session_notes.specs.declared.fault.SessionFault.TheVariants.{NoMemory as OutOfMemory}
use Rattle.cs_session_notes.specs.Faults.{fault_of}
use Rattle.cs_session_notes.specs.FirstImages.{AttachedTable, Notes, IsNotes, HasAttached, writes_of, recorded, rewound}
use Rattle.cs_session_notes.specs.Noting.{AreFormers, IsDamage}
use Rattle.cs_session_notes.specs.Changes.{HasNamed}
use Rattle.cs_session.specs.Recording.{Records, RefusesEdit, table_of}
use Rattle.cs_session_notes.proofs.NotesLemmas.{only_writes, tells_formers, recorded_are}
use Rattle.cs_session_notes.proofs.FirstLemmas.{rewound_recorded}

-- the tables stay, and the reported writes, all of one table, have the previous rows
pub record Tells (old : State) (name : List ℕ) (done : Edited) : Type 0 where
  pub of_table : AllByRecursion (λ w. w.table ≡ name) done.written
  pub schemas : (table : List ℕ) → schema_at done.state table ≡ schema_at old table
  pub tells : TellsFormer old done.state done.written

abbrev pub IfDone : State → List ℕ → Result Edited StoreError → Type 0
IfDone old name (Ok done) = Tells old name done
IfDone old name (Err e) = Unit {0}

if_unless : (old : State) (name : List ℕ) (refusal : Option StoreError) (next : Result Edited StoreError) → IfDone old name next → IfDone old name (unless refusal next)
if_unless old name None next h = h
if_unless old name (Some e) next h = tt

module _ (state : State) (name : List ℕ) (found : TableData) (is : get state name ≡ Some found) where
  -- one write
  one : (key : List ℕ) (row : Option (List OwnedValue)) → Tells state name (record { state = with_result state name key row; written = written_at state name key ∷ [] })
  one key row = record {
    of_table = (refl, tt);
    schemas = result_schemas state name found key row is;
    tells = record {
      told = All-from_recursion (λ (w : WrittenData). row_at state w.table w.key ≡ w.former) (written_at state name key ∷ []) (refl, tt);
      others = λ table q apart. result_elsewhere state name found key row is table q
          (recursion_from_All (λ (w : WrittenData). ¬ ((w.table ≡ table) × (w.key ≡ q))) (written_at state name key ∷ []) apart).0;
    };
  }

  -- a row that gets another key
  two : (key next : List ℕ) (row : List OwnedValue)
      → Tells state name (record { state = with_row (without_row state name key) name next row; written = written_at state name key ∷ written_at state name next ∷ [] })
  two key next row =
      let mid = without_row state name key in
      let mid_found = table_of_schema (get mid name) found.schema (result_schemas state name found key None is name ∙ ap (option_map (λ (t : TableData). t.schema)) is) in
      record {
        of_table = (refl, (refl, tt));
        schemas = λ table. result_schemas mid name mid_found.0 next (Some row) mid_found.1 table ∙ result_schemas state name found key None is table;
        tells = record {
          told = All-from_recursion (λ (w : WrittenData). row_at state w.table w.key ≡ w.former) (written_at state name key ∷ written_at state name next ∷ []) (refl, (refl, tt));
          others = λ table q apart.
              let both = recursion_from_All (λ (w : WrittenData). ¬ ((w.table ≡ table) × (w.key ≡ q))) (written_at state name key ∷ written_at state name next ∷ []) apart in
              result_elsewhere mid name mid_found.0 next (Some row) mid_found.1 table q both.1.0 ∙ result_elsewhere state name found key None is table q both.0;
        };
      }

  inserts : (row : List OwnedValue) → IfDone state name (inserted_in state name found row)
  inserts row =
      let key = row_key found.schema.flags row in
      let done = Ok (record { state = with_row state name key row; written = written_at state name key ∷ [] }) in
      if_unless state name (row_fault found.schema row) (unless (when (has_row state name key) KeyTaken) done)
      (if_unless state name (when (has_row state name key) KeyTaken) done (one key (Some row)))

  deletes : (key : List ℕ) → IfDone state name (deleted_in state name key)
  deletes key = if_unless state name (when (not (has_row state name key)) NoRow) (Ok (record { state = without_row state name key; written = written_at state name key ∷ [] })) (one key None)

  moves : (key next : List ℕ) (row : List OwnedValue) → IfDone state name (moved state name key next row)
  moves key next row =
      if_unless state name (when (has_row state name next) KeyTaken)
      (Ok (record { state = with_row (without_row state name key) name next row; written = written_at state name key ∷ written_at state name next ∷ [] })) (two key next row)

  stays_or_moves : (b : Bool) (key next : List ℕ) (row : List OwnedValue)
      → IfDone state name (cond b (Ok (record { state = with_row state name key row; written = written_at state name key ∷ [] })) (moved state name key next row))
  stays_or_moves true key next row = one key (Some row)
  stays_or_moves false key next row = moves key next row

  updates : (key : List ℕ) (row : List OwnedValue) → IfDone state name (updated_in state name found key row)
  updates key row =
      let next = row_key found.schema.flags row in
      let done = cond (bytes_eq key next) (Ok (record { state = with_row state name key row; written = written_at state name key ∷ [] })) (moved state name key next row) in
      if_unless state name (row_fault found.schema row) (unless (when (not (has_row state name key)) NoRow) done)
      (if_unless state name (when (not (has_row state name key)) NoRow) done (stays_or_moves (bytes_eq key next) key next row))

in_found : (state : State) (name : List ℕ) (o : Option TableData) (next : TableData → Result Edited StoreError) → ((found : TableData) → o ≡ Some found → IfDone state name (next found))
    → IfDone state name (found_table o next)
in_found state name None next h = tt
in_found state name (Some found) next h = h found refl

-- an edit reports the previous rows of what it wrote
pub edited_tells : (state : State) (edit : Edit) → IfDone state (table_of edit) (edited state edit)
edited_tells state (Insert name row) = in_found state (string_bytes name) (get state (string_bytes name)) _ (λ found is. inserts state (string_bytes name) found is row)
edited_tells state (Update name key row) = in_found state (string_bytes name) (get state (string_bytes name)) _ (λ found is. updates state (string_bytes name) found is key row)
edited_tells state (Delete name key) = in_found state (string_bytes name) (get state (string_bytes name)) _ (λ found is. deletes state (string_bytes name) found is key)

-- so the previous rows may be in the tables, if the edited table is there as it was attached
pub edited_formers : (state : State) (edit : Edit) (done : Edited) → edited state edit ≡ Ok done → IsState state → (notes : Notes) → HasNamed state (table_of edit) notes → AreFormers notes done.written
edited_formers state edit done is is_state notes has =
    let tells : Tells state (table_of edit) done = subst (IfDone state (table_of edit)) is (edited_tells state edit) in
    tells_formers state is_state done.state done.written tells.tells notes (each tells notes (recursion_from_All (λ (t : AttachedTable). t.name ≡ table_of edit → HasAttached state t) notes has))
  where
    at : Tells state (table_of edit) done → (table : AttachedTable) → (table.name ≡ table_of edit → HasAttached state table) → (b : Bool) → bytes_eq (table_of edit) table.name ≡ b
        → HasAttached state table ⊎ (writes_of table.name done.written ≡ [])
    at tells table has true same = inl (has (sym (same_text (table_of edit) table.name (sym same))))
    at tells table has false other = inr (only_writes (table_of edit) table.name done.written tells.of_table other)

    each : Tells state (table_of edit) done → (ts : Notes) → AllByRecursion (λ t. t.name ≡ table_of edit → HasAttached state t) ts
        → AllByRecursion (λ t. HasAttached state t ⊎ (writes_of t.name done.written ≡ [])) ts
    each tells [] has = tt
    each tells (table ∷ ts) has = (at tells table has.0 (bytes_eq (table_of edit) table.name) refl, each tells ts has.1)

-- ---- what is answered

-- an edit that the store refuses for a reason of its own
refused_there : (state : State) (edit : Edit) (notes : Notes) → HasNamed state (table_of edit) notes → (e : StoreError) → edited state edit ≡ Err e → RefusesEdit state edit notes (fault_of e)
refused_there state edit notes has store.TableExists is = inl (has, is)
refused_there state edit notes has store.NoTable is = inl (has, is)
refused_there state edit notes has store.BadSchema is = inl (has, is)
refused_there state edit notes has store.KeyTaken is = inl (has, is)
refused_there state edit notes has store.NoRow is = inl (has, is)
refused_there state edit notes has store.RowWidth is = inl (has, is)
refused_there state edit notes has store.NullInKey is = inl (has, is)
refused_there state edit notes has store.NotNull is = inl (has, is)
refused_there state edit notes has store.DamagedStore is = inl (has, is)
refused_there state edit notes has (store.StoreFault cause) is = inl (has, is)
refused_there state edit notes has store.NoMemory is = tt

-- or because memory ran out, or the database refused
pub refuses_edit : (state : State) (edit : Edit) (notes : Notes) → HasNamed state (table_of edit) notes → (e : StoreError) → (edited state edit ≡ Err e) ⊎ IsResource e
    → RefusesEdit state edit notes (fault_of e)
refuses_edit state edit notes has e (inl is) = refused_there state edit notes has e is
refuses_edit state edit notes has e (inr (inl none)) = subst (λ (x : StoreError). RefusesEdit state edit notes (fault_of x)) (sym none) tt
refuses_edit state edit notes has e (inr (inr (refused_for cause))) = inr (refused_for cause)

pub refuses_noting : (state : State) (edit : Edit) (notes : Notes) (written : List WrittenData) (e : SessionFault) → AreFormers notes written → (e ≡ OutOfMemory) ⊎ (IsDamage e × ¬ AreFormers notes written)
    → RefusesEdit state edit notes e
refuses_noting state edit notes written e formers (inl is) = subst (RefusesEdit state edit notes) (sym is) tt
refuses_noting state edit notes written e formers (inr fails) = absurd (fails.1 formers)

pub noted_are : {X E : Type 0} (r : Result X E) (old new : Notes) (written : List WrittenData) → IsNotes old → OnOk r (new ≡ recorded old written) → OnOk r (AreFormers old written) → OnOk r (IsNotes new)
noted_are (Ok x) old new written are is formers = rw is (recorded_are written old are formers)
noted_are (Err e) old new written are is formers = tt

-- an edit that is carried out and noted leaves the rows from before
pub records_rewound : {X E : Type 0} (r : Result X E) (state : State) (edit : Edit) (notes : Notes) (new : State) (after : Notes) → OnOk r (Records state edit notes new after)
    → OnOk r (rewound after new ≡ rewound notes state)
records_rewound (Ok x) state edit notes new after records =
    let done : Edited = record { state = new; written = records.written } in
    let tells : Tells state (table_of edit) done = subst (IfDone state (table_of edit)) records.edited (edited_tells state edit) in
    ap (λ (ns : Notes). rewound ns new) records.noted ∙ rewound_recorded state new records.written tells.tells notes
records_rewound (Err e) state edit notes new after records = tt
