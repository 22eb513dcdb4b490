-- Entries as they are shown, and their fields one after another.
use Rattle.std.proofs.Common.{◌≡◌, ℕ, zero, suc, ◌+◌, ◌<◌, ◌≤◌, Bool, true, false, not, cond, ap₂, List, [], ◌∷◌, ◌++◌, length, map, drop, get_or, Option, Some, None, refl, sym, ap, ◌∙◌, append_assoc, arith, inl, inr, subst}
use Rattle.std.specs.Borrow.{Bor}
use Rattle.std.proofs.lemmas.List.{append-nil, drop_all, drop_more, append_cancel_left, length-map}
use Rattle.std.proofs.lemmas.List.Concat.{flat_map-append}
use Rattle.std.specs.List.{flat_map}
use Rattle.cs_value.specs.declared.value.Field.{Field}
use Rattle.cs_value.specs.declared.value.OwnedField.{OwnedField}
use Rattle.cs_value.specs.declared.value.OwnedField.TheVariants.{Undefined, Defined}
use Rattle.cs_value.specs.Value.{field_of}
use Rattle.cs_value.specs.Key.{image_key}
use Rattle.cs_value.specs.Spelling.{field_bytes, record_bytes}
use Rattle.cs_value.specs.declared.value.OwnedValue.{OwnedValue}
use Rattle.cs_value.specs.Value.{IsRow}
use Rattle.cs_value.specs.Table.{IsKeyedRow}
use Rattle.cs_value.proofs.RowImages.{IsRecord-map}
use Rattle.cs_value.proofs.KeyedRows.{length-IsKeyedRow}
use Rattle.cs_wire_entries.specs.declared.entry.Change.{Change}
use Rattle.cs_wire_entries.specs.declared.entry.Change.TheVariants as change
use Rattle.cs_wire_entries.specs.declared.entry.Operation.{Operation}
use Rattle.cs_wire_entries.specs.declared.entry.Operation.TheVariants.{Insert, Delete, Update}
use Rattle.cs_wire_entries.specs.declared.record_ref.RecordRef.{RecordRef}
use Rattle.cs_wire_entries.specs.declared.record_ref.RecordRef.TheVariants.{Spelled, Values, Fields as FieldsOf}
use Rattle.cs_wire_entries.specs.Entry.{IsChange, IsEntry, entry_bytes, key_of, operation, with_key}
use Rattle.cs_wire_entries.specs.Inverse.{AppendsInverse, IsInverseEntry}
use Rattle.cs_wire_entries.specs.Views.{byte_of, inverse_operation, inverse_change}
use Rattle.cs_wire_entries.specs.Items.{FlaggedEntry, IsNextField, IsSpelled, change_of, entry_in, entry_of, fields_in, first_record, shown, shown_entry, shown_record, value_in}
use Rattle.cs_wire_entries.specs.Records.{IsRowOperation, IsShown, IsWhole, fields_at, row_change}
use Rattle.cs_wire_entries.proofs.EntryLemmas.{length-IsKeyedUpdate}
use Rattle.cs_wire_entries.proofs.InverseLemmas.{inverse_entry_is, IsChange-inverse, key_of-inverse, with_key_twice}
use Rattle.cs_wire_entries.proofs.ItemLemmas.{length-fields_in}
use Rattle.cs_wire_entries.proofs.RecordLemmas.{IsOfRow, image_key-map, update_is_none, values_of}

-- ---- fields that are handed out one after another

-- the field of a column, of those that are left
pub record AtColumn (left : List OwnedField) (column : ℕ) (f : OwnedField) : Type 0 where
  pub within : column < length left
  pub is : get_or left column Undefined ≡ f

pub AtColumn-next : (left after : List OwnedField) (next : Option Field) (column : ℕ) (f : OwnedField) → AtColumn left (suc column) f → IsNextField left next after → AtColumn after column f
AtColumn-next left after None column f so none = absurd (omega (arith, so.within, ap length none.0))
AtColumn-next left after (Some field) column f so step = record {
  within = omega (arith, so.within, ap length step.0);
  is = ap (λ (fs : List OwnedField). get_or fs (suc column) Undefined) (sym step.0) ∙ so.is;
}

pub AtColumn-here : (left after : List OwnedField) (field : Field) (f : OwnedField) → AtColumn left 0 f → IsNextField left (Some field) after → field_of field ≡ f
AtColumn-here left after field f so step = ap (λ (fs : List OwnedField). get_or fs 0 Undefined) (sym step.0) ∙ so.is

-- what was made of those that were handed out
pub made-next : {X : Type 0} (of : OwnedField → List X) (made grown all : List X) (left after : List OwnedField) (f : OwnedField) → left ≡ f ∷ after → grown ≡ made ++ of f
    → made ++ flat_map of left ≡ all → grown ++ flat_map of after ≡ all
made-next of made grown all left after f is more so = rw more (append_assoc made (of f) (flat_map of after)) ∙ rw is at so

pub cells-next : {X : Type 0} (of : OwnedField → X) (cells grown all : List X) (left after : List OwnedField) (f : OwnedField) (cell : X) → left ≡ f ∷ after → cell ≡ of f → grown ≡ cells ++ cell ∷ []
    → cells ++ map of left ≡ all → grown ++ map of after ≡ all
cells-next of cells grown all left after f cell is cell_is more so = rw (more, cell_is) (append_assoc cells (of f ∷ []) (map of after)) ∙ rw is at so

-- the key of those that were handed out, and what is left
pub record KeyLeft (flags : List ℕ) (i : ℕ) (key : List ℕ) (left : List OwnedField) (all : List ℕ) : Type 0 where
  pub width : length flags ≡ i + length left
  pub is : key ++ image_key (drop i flags) left ≡ all

pub KeyLeft-next : (flags : List ℕ) (i : ℕ) (key grown : List ℕ) (left after : List OwnedField) (f : OwnedField) (all : List ℕ) → KeyLeft flags i key left all → i < length flags → left ≡ f ∷ after
    → (0 < get_or flags i 0 → grown ≡ key ++ field_bytes f) → (get_or flags i 0 ≡ 0 → grown ≡ key) → KeyLeft flags (i + 1) grown after all
KeyLeft-next flags i key grown left after f all so lt is in_key other = record {
  width = so.width ∙ ap (λ (fs : List OwnedField). i + length fs) is ∙ omega arith;
  is = by_flag (get_or flags i 0) refl;
}
  where
    here : key ++ image_key (get_or flags i 0 ∷ drop (i + 1) flags) (f ∷ after) ≡ all
    here = rw (drop_more flags i 0 lt, is) at so.is

    by_flag : (flag : ℕ) → get_or flags i 0 ≡ flag → grown ++ image_key (drop (i + 1) flags) after ≡ all
    by_flag zero e = rw (other e) (rw e at here)
    by_flag (suc flag) e = rw (in_key (rw e (omega arith))) (append_assoc key (field_bytes f) (image_key (drop (i + 1) flags) after)) ∙ rw e at here

pub KeyLeft-end : (flags : List ℕ) (i : ℕ) (key : List ℕ) (left : List OwnedField) (all : List ℕ) → KeyLeft flags i key left all → length flags ≤ i → key ≡ all
KeyLeft-end flags i key left all so le = sym (append-nil key) ∙ rw (drop_all i flags le) at so.is

-- ---- as it lies

pub shown-as_is : (flags : List ℕ) (c : Change) → shown false flags c ≡ c
shown-as_is flags (change.Insert row) = refl
shown-as_is flags (change.Delete row) = refl
shown-as_is flags (change.Update old new) = refl

-- an entry that is shown as it lies
IsShown-as_is : (flags : List ℕ) (what : Operation) (indirect : Bool) (first second : RecordRef)
    → let seen = entry_of flags what indirect (fields_at (length flags) first) (fields_at (length flags) second) in
    IsEntry flags seen.entry → key_of flags seen.entry.change ≡ image_key flags (fields_at (length flags) first) → IsWhole (length flags) first → fields_at (length flags) first ≡ first_record seen.entry.change
    → (what ≡ Update → IsWhole (length flags) second) → IsShown false seen what first second
IsShown-as_is flags what indirect first second is key first_is fields second_is =
    let same = shown-as_is flags (change_of what (fields_at (length flags) first) (fields_at (length flags) second)) in record {
      is_entry = is;
      is_shown = rw same is;
      key = ap (key_of flags) same ∙ key;
      first_is = first_is;
      fields = fields;
      second_is = second_is;
    }

-- its records are spelled in a file
second_in : (flags : List ℕ) (what : Operation) (indirect : Bool) (first second : Bor (List ℕ)) → what ≡ Update → IsSpelled (entry_in flags what indirect first.now second.now) first.now second.now
    → IsWhole (length flags) (Spelled second)
second_in flags Insert indirect first second e is = absurd (update_is_none (inl (sym e)))
second_in flags Delete indirect first second e is = absurd (update_is_none (inr (sym e)))
second_in flags Update indirect first second e is =
    let old = fields_in (length flags) first.now in
    let new = fields_in (length flags) second.now in record {
      width = length-fields_in (length flags) second.now;
      is_record = is.is_entry.1;
      spelled = append_cancel_left first.now second.now (record_bytes new)
          (is.spelled ∙ flat_map-append field_bytes old new ∙ ap (λ (x : List ℕ). x ++ record_bytes new) (sym is.has_first.spelled));
    }

pub IsShown-spelled : (flags : List ℕ) (what : Operation) (indirect : Bool) (first second : Bor (List ℕ)) → IsSpelled (entry_in flags what indirect first.now second.now) first.now second.now
    → IsShown false (entry_in flags what indirect first.now second.now) what (Spelled first) (Spelled second)
IsShown-spelled flags what indirect first second is =
    let f = is.has_first in
    IsShown-as_is flags what indirect (Spelled first) (Spelled second) is.is_entry f.key (record { width = length-fields_in (length flags) first.now; is_record = f.is_record; spelled = f.spelled }) f.fields
    (λ e. second_in flags what indirect first second e is)

-- it is of a row that is owned
pub IsShown-row : (flags : List ℕ) (what : Operation) (indirect : Bool) (values : Bor (List OwnedValue)) → IsRowOperation what → IsRow values.now → IsKeyedRow flags values.now
    → IsShown false (entry_of flags what indirect (map Defined values.now) (map Defined values.now)) what (Values values) (Values values)
IsShown-row flags Insert indirect values of_row is keyed =
    let same = values_of values.now in
    IsShown-as_is flags Insert indirect (Values values) (Values values) (rw same (is, keyed)) (rw same (sym (image_key-map flags values.now)))
    (record { width = length-map values.now _ ∙ sym (length-IsKeyedRow flags values.now keyed); is_record = IsRecord-map values.now is; spelled = tt }) (ap (map Defined) (sym same)) (λ e. absurd (update_is_none (inl (sym e))))
IsShown-row flags Delete indirect values of_row is keyed =
    let same = values_of values.now in
    IsShown-as_is flags Delete indirect (Values values) (Values values) (rw same (is, keyed)) (rw same (sym (image_key-map flags values.now)))
    (record { width = length-map values.now _ ∙ sym (length-IsKeyedRow flags values.now keyed); is_record = IsRecord-map values.now is; spelled = tt }) (ap (map Defined) (sym same)) (λ e. absurd (update_is_none (inr (sym e))))
IsShown-row flags Update indirect values of_row is keyed = absurd of_row

pub row_is_shown : (flags : List ℕ) (what : Operation) (indirect : Bool) (row : List OwnedValue) → IsRowOperation what → shown_entry false (entry_of flags what indirect (map Defined row) (map Defined row)) ≡ record { flags = flags; entry = record { indirect = indirect; change = row_change what row } }
row_is_shown flags Insert indirect row of_row = rw (values_of row) refl
row_is_shown flags Delete indirect row of_row = rw (values_of row) refl
row_is_shown flags Update indirect row of_row = absurd of_row

-- it is an update that is owned
pub IsShown-images : (flags : List ℕ) (indirect : Bool) (old new : Bor (List OwnedField)) → IsChange flags (change.Update old.now new.now) → IsShown false (entry_of flags Update indirect old.now new.now) Update (FieldsOf old) (FieldsOf new)
IsShown-images flags indirect old new is =
    let width = length-IsKeyedUpdate flags old.now new.now is.2 in
    IsShown-as_is flags Update indirect (FieldsOf old) (FieldsOf new) is refl (record { width = sym width.0; is_record = is.0; spelled = tt }) refl (λ e. record { width = sym width.1; is_record = is.1; spelled = tt })

-- ---- what undoes it

pub shown-inverse : (flags : List ℕ) (what : Operation) (exchanged : Bool) (first second : List OwnedField) → length flags ≡ length first → (what ≡ Update → length flags ≡ length second)
    → shown (not exchanged) flags (change_of (inverse_operation what) first second) ≡ inverse_change flags (shown exchanged flags (change_of what first second))
shown-inverse flags Insert exchanged first second p q = refl
shown-inverse flags Delete exchanged first second p q = refl
shown-inverse flags Update false first second p q = refl
shown-inverse flags Update true first second p q =
    let one = with_key_twice flags first second p (q refl) in
    let two = with_key_twice flags second first (q refl) p in
    cc (one, two)

-- the key of an update's old record as it is shown, and its new one elsewhere
pub with_key-shown : (exchanged : Bool) (flags : List ℕ) (first second : List OwnedField) → length flags ≡ length first → length flags ≡ length second
    → with_key flags (shown_record exchanged flags first second) (shown_record exchanged flags second first) ≡ shown_record (not exchanged) flags first second
with_key-shown false flags first second p q = refl
with_key-shown true flags first second p q = with_key_twice flags first second p q

-- the operation that undoes an entry's has the same records
inverse_plain : (flags : List ℕ) (what : Operation) (first second : List OwnedField) → IsChange flags (change_of what first second) → IsChange flags (change_of (inverse_operation what) first second)
inverse_plain flags Insert first second is = is
inverse_plain flags Delete first second is = is
inverse_plain flags Update first second is = is

inverse_first : (what : Operation) (first second : List OwnedField) → first ≡ first_record (change_of what first second) → first ≡ first_record (change_of (inverse_operation what) first second)
inverse_first Insert first second is = is
inverse_first Delete first second is = is
inverse_first Update first second is = is

inverse_update : (what : Operation) → inverse_operation what ≡ Update → what ≡ Update
inverse_update Insert e = absurd (update_is_none (inr (sym e)))
inverse_update Delete e = absurd (update_is_none (inl (sym e)))
inverse_update Update e = refl

module _ (flags : List ℕ) (what : Operation) (exchanged indirect : Bool) (first second : RecordRef)
    (is : IsShown exchanged (entry_of flags what indirect (fields_at (length flags) first) (fields_at (length flags) second)) what first second) where
  same_change : shown (not exchanged) flags (change_of (inverse_operation what) (fields_at (length flags) first) (fields_at (length flags) second))
      ≡ inverse_change flags (shown exchanged flags (change_of what (fields_at (length flags) first) (fields_at (length flags) second)))
  same_change = shown-inverse flags what exchanged (fields_at (length flags) first) (fields_at (length flags) second) (sym is.first_is.width) (λ e. sym (is.second_is e).width)

  pub IsShown-inverse : IsShown (not exchanged) (entry_of flags (inverse_operation what) indirect (fields_at (length flags) first) (fields_at (length flags) second)) (inverse_operation what) first second
  IsShown-inverse =
      let change = shown exchanged flags (change_of what (fields_at (length flags) first) (fields_at (length flags) second)) in record {
        is_entry = inverse_plain flags what (fields_at (length flags) first) (fields_at (length flags) second) is.is_entry;
        is_shown = rw same_change (IsChange-inverse flags change is.is_shown);
        key = ap (key_of flags) same_change ∙ key_of-inverse flags change is.is_shown ∙ is.key;
        first_is = is.first_is;
        fields = inverse_first what (fields_at (length flags) first) (fields_at (length flags) second) is.fields;
        second_is = λ e. is.second_is (inverse_update what e);
      }

  pub shown_inverse_entry : IsInverseEntry flags (shown_entry exchanged (entry_of flags what indirect (fields_at (length flags) first) (fields_at (length flags) second))).entry
      (shown_entry (not exchanged) (entry_of flags (inverse_operation what) indirect (fields_at (length flags) first) (fields_at (length flags) second))).entry
  shown_inverse_entry =
      rw same_change (inverse_entry_is flags (shown_entry exchanged (entry_of flags what indirect (fields_at (length flags) first) (fields_at (length flags) second))).entry is.is_shown)

-- ---- the bytes of an entry

-- an insert, or a delete: the operation, the indirect flag, the row
pub entry_bytes-row : (flags : List ℕ) (what : Operation) (exchanged indirect : Bool) (first second : List OwnedField) → IsOfRow what → first ≡ first_record (change_of what first second)
    → (byte : ℕ) → byte ≡ operation (shown exchanged flags (change_of what first second))
    → byte ∷ cond indirect 1 0 ∷ record_bytes first ≡ entry_bytes (shown_entry exchanged (entry_of flags what indirect first second)).entry
unfolding entry_bytes
entry_bytes-row flags Insert exchanged indirect first second so is byte same = ap₂ (λ (b : ℕ) (fs : List OwnedField). b ∷ cond indirect 1 0 ∷ record_bytes fs) same is
entry_bytes-row flags Delete exchanged indirect first second so is byte same = ap₂ (λ (b : ℕ) (fs : List OwnedField). b ∷ cond indirect 1 0 ∷ record_bytes fs) same is
entry_bytes-row flags Update exchanged indirect first second so is byte same = absurd (update_is_none so)

-- an update: the operation, the indirect flag, the two records
pub entry_bytes-update : (flags : List ℕ) (what : Operation) (exchanged indirect : Bool) (first second : List OwnedField) (byte : ℕ) → what ≡ Update → byte ≡ operation (shown exchanged flags (change_of what first second))
    → byte ∷ cond indirect 1 0 ∷ (record_bytes (shown_record exchanged flags first second) ++ record_bytes (shown_record exchanged flags second first))
    ≡ entry_bytes (shown_entry exchanged (entry_of flags what indirect first second)).entry
unfolding entry_bytes
entry_bytes-update flags what exchanged indirect first second byte e same =
    rw (same, e) (ap (λ (x : List ℕ). 0x17 ∷ cond indirect 1 0 ∷ x) (sym (flat_map-append field_bytes (shown_record exchanged flags first second) (shown_record exchanged flags second first))))

-- a row with the other operation: the bytes of the inverse
inverse_bytes : (flags : List ℕ) (what : Operation) (exchanged indirect : Bool) (first second : List OwnedField) → IsOfRow what → (byte : ℕ) → byte ≡ byte_of (inverse_operation what)
    → byte ∷ drop 1 (entry_bytes (shown_entry exchanged (entry_of flags what indirect first second)).entry) ≡ entry_bytes (shown_entry (not exchanged) (entry_of flags (inverse_operation what) indirect first second)).entry
unfolding entry_bytes
inverse_bytes flags Insert exchanged indirect first second so byte same = ap (λ (b : ℕ). b ∷ cond indirect 1 0 ∷ record_bytes (map Defined (map value_in first))) same
inverse_bytes flags Delete exchanged indirect first second so byte same = ap (λ (b : ℕ). b ∷ cond indirect 1 0 ∷ record_bytes (map Defined (map value_in first))) same
inverse_bytes flags Update exchanged indirect first second so byte same = absurd (update_is_none so)

pub AppendsInverse-row : (flags : List ℕ) (what : Operation) (exchanged indirect : Bool) (first second : RecordRef) → IsShown exchanged (entry_of flags what indirect (fields_at (length flags) first) (fields_at (length flags) second)) what first second
    → IsOfRow what → (byte : ℕ) → byte ≡ byte_of (inverse_operation what) → (seen : FlaggedEntry) → shown_entry exchanged (entry_of flags what indirect (fields_at (length flags) first) (fields_at (length flags) second)) ≡ seen
    → (bytes old new : List ℕ) → bytes ≡ entry_bytes seen.entry → new ≡ old ++ byte ∷ drop 1 bytes → AppendsInverse seen.flags seen.entry old new
AppendsInverse-row flags what exchanged indirect first second is so byte same seen view bytes old new spelled grown =
    let one = fields_at (length flags) first in
    let two = fields_at (length flags) second in
    let from : bytes ≡ entry_bytes (shown_entry exchanged (entry_of flags what indirect one two)).entry = spelled ∙ ap (λ (s : FlaggedEntry). entry_bytes s.entry) (sym view) in
    subst (λ (s : FlaggedEntry). AppendsInverse s.flags s.entry old new) view (record {
      inverse = (shown_entry (not exchanged) (entry_of flags (inverse_operation what) indirect one two)).entry;
      is_entry = (IsShown-inverse flags what exchanged indirect first second is).is_shown;
      undoes = shown_inverse_entry flags what exchanged indirect first second is;
      written = grown ∙ ap (λ (b : List ℕ). old ++ byte ∷ drop 1 b) from ∙ ap (λ (b : List ℕ). old ++ b) (inverse_bytes flags what exchanged indirect one two so byte same);
    })

-- a record has as many fields as it is shown
pub length-shown_record : (exchanged : Bool) (flags : List ℕ) (own other : List OwnedField) → length own ≡ length flags → (exchanged ≡ true → length other ≡ length flags) → length (shown_record exchanged flags own other) ≡ length flags
length-shown_record false flags own other p q = p
length-shown_record true flags own other p q = length-with_key flags own other p (q refl)
  where
    length-with_key : (flags : List ℕ) (a b : List OwnedField) → length a ≡ length flags → length b ≡ length flags → length (with_key flags a b) ≡ length flags
    length-with_key [] a b p q = refl
    length-with_key (flag ∷ flags) [] b p q = absurd (omega arith)
    length-with_key (flag ∷ flags) (x ∷ a) [] p q = absurd (omega arith)
    length-with_key (zero ∷ flags) (x ∷ a) (y ∷ b) p q = ap suc (length-with_key flags a b (omega arith) (omega arith))
    length-with_key (suc flag ∷ flags) (x ∷ a) (y ∷ b) p q = ap suc (length-with_key flags a b (omega arith) (omega arith))
