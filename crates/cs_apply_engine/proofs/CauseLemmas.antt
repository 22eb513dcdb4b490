-- For which causes a run fails, and which writes those are.
use Rattle.std.proofs.Common.{◌≡◌, inl, inr, Bool, false, ℕ, ◌<◌, List, [], ◌∷◌, ◌++◌, length, length-append, get_or, map, Option, Some, None, Result, Ok, Err, IfErr, IsErrAnd, refl, sym, ap, subst, ◌∙◌, arith}
use Rattle.std.specs.Prelude.{Any, unwrap_or}
use Rattle.std.proofs.lemmas.List.{length-map}
use Rattle.std.proofs.Math.Seq.{get_or-append_seam}
use Rattle.cs_value.specs.declared.value.OwnedValue.{OwnedValue}
use Rattle.cs_value.specs.State.{State, row_at}
use Rattle.cs_value.proofs.ListLemmas.{get_or_map_at}
use Rattle.cs_value.specs.declared.value.OwnedField.TheVariants.{Defined}
use Rattle.cs_wire_entries.specs.declared.entry.Change.{Change}
use Rattle.cs_wire_entries.specs.declared.entry.Change.TheVariants.{Insert, Delete, Update}
use Rattle.cs_wire_entries.specs.declared.entry.Entry.{Entry}
use Rattle.cs_wire.specs.Entry.{key_of}
use Rattle.cs_wire.specs.Changeset.{GroupData, HeaderData, IsFileOf}
use Rattle.cs_wire.specs.Views.{inverse_entry}
use Rattle.cs_rows.specs.declared.fault.Cause.{Cause}
use Rattle.cs_rows.specs.declared.fault.StoreError.{StoreError}
use Rattle.cs_rows.specs.declared.fault.StoreError.TheVariants as store
use Rattle.cs_rows.specs.Faults as stores
use Rattle.cs_rows.specs.Rows.{Write, puts_row}
use Rattle.cs_rows.proofs.CauseLemmas as rows
use Rattle.cs_apply_conflict_kinds.specs.Conflicts.{conflict_kind, filled, row_after}
use Rattle.cs_group.specs.Inverse.{inverse_group}
use Rattle.cs_apply_engine.specs.declared.fault.ApplyFault.{ApplyFault}
use Rattle.cs_apply_engine.specs.declared.fault.ApplyFault.TheVariants.{Store, NoMemory}
use Rattle.cs_apply_engine.specs.declared.running.Direction.{Direction}
use Rattle.cs_apply_engine.specs.declared.running.Direction.TheVariants.{Forward, Inverse}
use Rattle.cs_apply_engine.specs.Faults.{fault_of}
use Rattle.cs_apply_engine.specs.Running.{IsCaused, directed, is_own}
use Rattle.cs_apply_engine.specs.Run.{directed_entry, directed_group}
use Rattle.cs_apply_engine.specs.Steps.{IsResultWrite, IsStoreRefusal, write_of}
use Rattle.cs_apply_engine.specs.Writes.{IsEntryWrite, IsFileWrite, IsGroupWrite, IsRunWrite}
use Rattle.cs_apply_engine.proofs.DirectedLemmas.{read_as}

-- ---- causes

-- what fails for one cause fails for another
pub so_caused : (One Other : Cause → Type 0) (fault : ApplyFault) → ((cause : Cause) → One cause → Other cause) → IsCaused One fault → IsCaused Other fault
so_caused One Other (Store e) so h = rows.so_caused One Other e so h
so_caused One Other fault so h = tt

-- and so of an answer
pub caused_so : {X : Type 0} (r : Result X ApplyFault) (One Other : Cause → Type 0) → ((cause : Cause) → One cause → Other cause) → IfErr r (IsCaused One) → IfErr r (IsCaused Other)
caused_so (Ok x) One Other so h = tt
caused_so (Err fault) One Other so h = so_caused One Other fault so h

-- and so of one that passes on a refusal
pub caused_on : {X : Type 0} (r : Result X ApplyFault) (One Other : Cause → Type 0) (e : ApplyFault) → IsErrAnd r (λ f. f ≡ e) → ((cause : Cause) → One cause → Other cause) → IsCaused One e → IfErr r (IsCaused Other)
caused_on (Ok x) One Other e is so h = tt
caused_on (Err f) One Other e is so h = subst (IsCaused Other) (sym is) (so_caused One Other e so h)

-- and of one that passes on a refusal of the rows
of_rows : (Fails : Cause → Type 0) (e : StoreError) → stores.IsCaused Fails e → IsCaused Fails (fault_of e)
of_rows Fails store.NoMemory h = tt
of_rows Fails e h = h

pub rows_caused_on : {X : Type 0} (r : Result X ApplyFault) (One Other : Cause → Type 0) (e : StoreError) → IsErrAnd r (λ f. f ≡ fault_of e) → ((cause : Cause) → One cause → Other cause) → stores.IsCaused One e → IfErr r (IsCaused Other)
rows_caused_on r One Other e is so h = caused_on r One Other (fault_of e) is so (of_rows One e h)

-- ---- faults of the rows

-- a refusal of the rows is not the run's own
pub not_own : (fault : ApplyFault) → IsStoreRefusal fault → is_own fault ≡ false
not_own fault (inl (inl memory)) = subst (λ (f : ApplyFault). is_own f ≡ false) (sym memory) refl
not_own (Store e) (inl (inr h)) = refl
not_own NoMemory refused = refl
not_own fault (inl (inr h)) = absurd h
not_own fault (inr damaged) = subst (λ (f : ApplyFault). is_own f ≡ false) (sym damaged) refl

-- ---- writes

-- what an entry leaves of the row that was read is what it leaves of the row there
pub entry_write : (header : HeaderData) (entry : Entry) (old now held : State) (write : Write) (key : List ℕ) (current : Option (List OwnedValue)) → now ≡ old → key ≡ key_of header.flags entry.change → row_at old header.name key ≡ current
    → IsResultWrite now header.name key (row_after header.flags entry.change current) held write → IsEntryWrite header entry held write
entry_write header entry old now held write key current same own is_current is = at (row_after header.flags entry.change current) refl is.1
  where
    left : row_after header.flags entry.change (row_at held header.name key) ≡ row_after header.flags entry.change current
    left = ap (row_after header.flags entry.change) (ap (λ (s : State). row_at s header.name key) (is.0 ∙ same) ∙ is_current)

    at : (o : Option (List OwnedValue)) → row_after header.flags entry.change current ≡ o → write ≡ write_of header.name key o → IsEntryWrite header entry held write
    at None none wrote = subst (IsEntryWrite header entry held) (sym wrote) (refl, own, left ∙ none)
    at (Some row) some wrote = subst (IsEntryWrite header entry held) (sym wrote) (refl, own, left ∙ some)

-- a whole row takes nothing from the row there
filled_whole : (row stood : List OwnedValue) → filled (map Defined row) stood ≡ filled (map Defined row) []
filled_whole [] stood = refl
filled_whole (v ∷ row) [] = refl
filled_whole (v ∷ row) (w ∷ stood) = ap (λ (l : List OwnedValue). v ∷ l) (filled_whole row stood)

-- so what has no conflict without a row leaves the same, whatever row is there
added_row : (flags : List ℕ) (refused : Bool) (change : Change) (stood : Option (List OwnedValue)) → conflict_kind refused change None ≡ None → row_after flags change stood ≡ row_after flags change None
added_row flags refused (Insert row) stood none = ap (λ (l : List OwnedValue). Some l) (filled_whole row (unwrap_or stood []))
added_row flags refused (Delete row) stood none = absurd cc
added_row flags refused (Update old new) stood none = absurd cc

pub added_write : (header : HeaderData) (entry : Entry) (old held : State) (write : Write) (key : List ℕ) (row : List OwnedValue) (refused : Bool) → key ≡ key_of header.flags entry.change
    → conflict_kind refused entry.change None ≡ None → row_after header.flags entry.change None ≡ Some row → (held ≡ old) × (write ≡ puts_row header.name key row) → IsEntryWrite header entry held write
added_write header entry old held write key row refused own none left is =
    subst (IsEntryWrite header entry held) (sym is.1) (refl, own, added_row header.flags refused entry.change (row_at held header.name key) none ∙ left)

-- what holds of an element of a list, or of what is made of one
any_at : {X : Type 0} (P : X → Type 0) (xs : List X) (i : ℕ) (x : X) → i < length xs → x ≡ get_or xs i x → P x → Any P xs
any_at P xs i x lt is holds = (i, x, lt, sym is, holds)

any_map : {X Y : Type 0} (P : Y → Type 0) (f : X → Y) (xs : List X) (i : ℕ) (x : X) → i < length xs → x ≡ get_or xs i x → P (f x) → Any P (map f xs)
any_map P f xs i x lt is holds = (i, f x, rw length-map lt, get_or_map_at xs i x lt is f, holds)

pub group_write : (d : Direction) (group : GroupData) (i : ℕ) (entry : Entry) (held : State) (write : Write) → i < length group.entries → entry ≡ get_or group.entries i entry
    → IsEntryWrite group.header (directed_entry d group.header.flags entry) held write → IsGroupWrite (directed_group d group) held write
group_write Forward group i entry held write lt is wrote = any_at (λ e. IsEntryWrite group.header e held write) group.entries i entry lt is wrote
group_write Inverse group i entry held write lt is wrote = any_map (λ e. IsEntryWrite group.header e held write) (inverse_entry group.header.flags) group.entries i entry lt is wrote

pub run_write : (d : Direction) (groups : List GroupData) (i : ℕ) (group : GroupData) (held : State) (write : Write) → i < length groups → group ≡ get_or groups i group → IsGroupWrite (directed_group d group) held write
    → IsRunWrite (directed d groups) held write
run_write Forward groups i group held write lt is wrote = any_at (λ g. IsGroupWrite g held write) groups i group lt is wrote
run_write Inverse groups i group held write lt is wrote = any_map (λ g. IsGroupWrite g held write) inverse_group groups i group lt is wrote

-- the same, where what was carried out and what is left are apart
seam : {X : Type 0} (xs done others : List X) (x : X) → xs ≡ done ++ x ∷ others → (length done < length xs) × (x ≡ get_or xs (length done) x)
seam xs done others x is = rw is (omega (arith, length-append done (x ∷ others)), sym (get_or-append_seam done x others x))

pub next_entry_write : (d : Direction) (group : GroupData) (done others : List Entry) (entry : Entry) (held : State) (write : Write) → group.entries ≡ done ++ entry ∷ others
    → IsEntryWrite group.header (directed_entry d group.header.flags entry) held write → IsGroupWrite (directed_group d group) held write
next_entry_write d group done others entry held write is wrote =
    let here = seam group.entries done others entry is in
    group_write d group (length done) entry held write here.0 here.1 wrote

pub next_table_write : (d : Direction) (file : List ℕ) (groups closed others : List GroupData) (group : GroupData) (held : State) (write : Write) → IsFileOf file groups → groups ≡ closed ++ group ∷ others
    → IsGroupWrite (directed_group d group) held write → IsFileWrite d file held write
next_table_write d file groups closed others group held write is_file is wrote =
    let here = seam groups closed others group is in
    (directed d groups, read_as d file groups is_file, run_write d groups (length closed) group held write here.0 here.1 wrote)

-- an entry as another names it
pub entry_write_as : (one other : HeaderData) (entry shown : Entry) (held : State) (write : Write) → one ≡ other → entry ≡ shown → IsEntryWrite one entry held write → IsEntryWrite other shown held write
entry_write_as one other entry shown held write same is wrote = subst (λ (h : HeaderData). IsEntryWrite h shown held write) same (subst (λ (e : Entry). IsEntryWrite one e held write) is wrote)
