-- The values of a change where they lie.
use Rattle.std.proofs.Common.{◌≡◌, ◌≢◌, inl, inr, ℕ, zero, suc, pos, ◌+◌, ◌-◌, ◌<◌, ◌≤◌, ◌==◌, true, true≢false, List, [], ◌∷◌, ◌++◌, length, length-append, length-set, map, drop, get_or, get_or-set_other, get_or-set_same, slice_set, Option, Some, None, refl, sym, ap, subst, ◌∙◌, append_assoc, append-nil, arith}
use Rattle.std.specs.Prelude.{option_map}
use Rattle.std.proofs.lemmas.Bool.{cases_Bool, eqb-true}
use Rattle.std.specs.Cmp.{nat_eq_equiv}
use Rattle.std.proofs.lemmas.List.{drop_more, length-map}
use Rattle.std.proofs.lemmas.List.Concat.{flat_map-append}
use Rattle.cs_value.specs.declared.value.OwnedValue.{OwnedValue}
use Rattle.cs_value.specs.declared.value.OwnedValue.TheVariants.{Int, Text, Blob, Null}
use Rattle.cs_value.specs.declared.value.OwnedField.{OwnedField}
use Rattle.cs_value.specs.declared.value.OwnedField.TheVariants.{Undefined, Defined}
use Rattle.cs_value.specs.Value.{IsField, IsRecord, IsRow}
use Rattle.cs_value.specs.Table.{IsKeyedRow}
use Rattle.cs_value.specs.Varint.{varint}
use Rattle.cs_value.specs.Spelling.{counted, field_bytes, record_bytes, value_bytes}
use Rattle.cs_value.proofs.KeyedRows.{length-IsKeyedRow}
use Rattle.cs_value.proofs.RowImages.{IsRecord-map}
use Rattle.cs_wire_entries.specs.declared.entry.Change.{Change}
use Rattle.cs_wire_entries.specs.declared.entry.Change.TheVariants.{Insert, Delete, Update}
use Rattle.cs_wire_entries.specs.Entry.{IsChange, before_image, fields_of, operation}
use Rattle.cs_wire_entries.specs.Items.{new_record}
use Rattle.cs_wire_entries.specs.Changeset.{HeaderData}
use Rattle.cs_wire_entries.specs.ReadFaults.{Stands}
use Rattle.cs_wire_entries.proofs.EntryLemmas.{length-IsKeyedUpdate}
use Rattle.cs_file_iterator.specs.declared.change.ChangeSpan.{ChangeSpan}
use Rattle.cs_file_iterator.specs.declared.value.Side.{Side}
use Rattle.cs_file_iterator.specs.declared.value.Side.TheVariants.{Old, New}
use Rattle.cs_file_iterator.specs.Changes.{Shows, ShowsTable, TableChange}
use Rattle.cs_file_iterator.specs.declared.value.ValueSpan.{ValueSpan}
use Rattle.cs_file_iterator.specs.Values.{KeepsOthers, LieWithin, ShowsField, ShowsValue, ShowsValues, field_on, plain_span, value_at}
use Rattle.cs_file_iterator.specs.Steps.{BeginsRecord, HasRecord, record_on, span_at}
use Rattle.cs_file_iterator.proofs.PartLemmas.{Stands-length, Stands-part}

-- a field of a record
pub IsField-at : (fields : List OwnedField) (i : ℕ) → IsRecord fields → i < length fields → IsField (get_or fields i Undefined)
IsField-at [] i are lt = absurd (omega arith)
IsField-at (f ∷ fields) zero are lt = are.0
IsField-at (f ∷ fields) (suc i) are lt = IsField-at fields i are.1 (omega arith)

-- the next field of a record
pub next_field : (fields : List OwnedField) (i : ℕ) (rest : List ℕ) → i < length fields
    → record_bytes (drop i fields) ++ rest ≡ field_bytes (get_or fields i Undefined) ++ (record_bytes (drop (i + 1) fields) ++ rest)
next_field fields i rest lt =
    ap (λ (fs : List OwnedField). record_bytes fs ++ rest) (drop_more fields i Undefined lt)
    ∙ append_assoc (field_bytes (get_or fields i Undefined)) (record_bytes (drop (i + 1) fields)) rest

-- a text or a blob, after its type and its count
content_stands : (file : List ℕ) (place end kind : ℕ) (content : List ℕ) → Stands file place (kind ∷ counted content) end → place ≤ length file
    → Stands file (end - length content) content (end - length content + length content)
unfolding counted
content_stands file place end kind content stands le =
    let front = kind ∷ varint (length content) in
    let ends = Stands-length file place end _ stands le in
    Stands-part file place end front content [] (subst (λ (x : List ℕ). Stands file place (front ++ x) end) (sym (append-nil content)) stands) le (end - length content) (end - length content + length content)
    (omega (arith, ends, length-append (varint (length content)) content)) refl

-- the span of a field shows it
pub span_shows : (file : List ℕ) (place end : ℕ) (field : OwnedField) → Stands file place (field_bytes field) end → place ≤ length file → ShowsField file (span_at field end) field
unfolding field_bytes value_bytes
span_shows file place end Undefined stands le = refl
span_shows file place end (Defined (Int z)) stands le = refl
span_shows file place end (Defined (Text t)) stands le = record { kind_is = refl; no_integer = refl; content = content_stands file place end 3 t stands le }
span_shows file place end (Defined (Blob b)) stands le = record { kind_is = refl; no_integer = refl; content = content_stands file place end 4 b stands le }
span_shows file place end (Defined Null) stands le = refl

-- the span lies inside the file
pub span_within : (file : List ℕ) (place end : ℕ) (field : OwnedField) → Stands file place (field_bytes field) end → place ≤ length file → (span_at field end).offset + (span_at field end).length ≤ length file
unfolding field_bytes value_bytes
span_within file place end Undefined stands le = omega arith
span_within file place end (Defined (Int z)) stands le = omega arith
span_within file place end (Defined (Text t)) stands le = (content_stands file place end 3 t stands le).within
span_within file place end (Defined (Blob b)) stands le = (content_stands file place end 4 b stands le).within
span_within file place end (Defined Null) stands le = omega arith

-- ---- the records of a change

-- there is a column for each flag
pub columns_are : (file : List ℕ) (span : ChangeSpan) (header : HeaderData) → ShowsTable file span header → span.columns ≡ length header.flags
columns_are file span header table =
    let within = table.flags.within in
    omega (arith, Stands-length file span.flags (span.flags + span.columns) header.flags table.flags (omega arith))

-- the records of a change of the file
module _ (file : List ℕ) (span : ChangeSpan) where
  pub Shows-within : (shown : TableChange) → Shows file span shown → span.records ≤ length file
  Shows-within shown shows = omega (arith, shows.records.within)

  -- one row
  row_begins : (flags : List ℕ) (row : List OwnedValue) (end : ℕ) → IsRow row × IsKeyedRow flags row → Stands file span.records (record_bytes (map Defined row)) end → BeginsRecord file (length flags) (map Defined row) span.records
  row_begins flags row end is stands = record {
    is_record = IsRecord-map row is.0;
    width = length-map row Defined ∙ sym (length-IsKeyedRow flags row is.1);
    rest = drop end file;
    spelled = stands.spelled;
  }

  -- two records
  pub update_spelled : (old new : List OwnedField) (end : ℕ) → Stands file span.records (record_bytes (old ++ new)) end → drop span.records file ≡ record_bytes old ++ (record_bytes new ++ drop end file)
  update_spelled old new end stands =
      stands.spelled ∙ ap (λ (x : List ℕ). x ++ drop end file) (flat_map-append field_bytes old new) ∙ append_assoc (record_bytes old) (record_bytes new) (drop end file)

  -- the record before the change, which an insert has not
  pub old_found : (flags : List ℕ) (change : Change) (end : ℕ) (found : Option ℕ) → IsChange flags change → span.operation ≡ pos (operation change)
      → (span.operation ≡ pos 18 → found ≡ None) → (span.operation ≢ pos 18 → found ≡ Some span.records) → Stands file span.records (record_bytes (fields_of change)) end
      → HasRecord file (length flags) (before_image change) found
  old_found flags (Insert row) end found is does insert other stands = subst (HasRecord file (length flags) None) (sym (insert does)) tt
  old_found flags (Delete row) end found is does insert other stands =
      subst (HasRecord file (length flags) (Some (map Defined row))) (sym (other (λ e. no_delete (sym does ∙ e)))) (row_begins flags row end is stands)
    where
      no_delete : pos 9 ≡ pos 18 → ⊥
      no_delete e = cc
  old_found flags (Update old new) end found is does insert other stands =
      subst (HasRecord file (length flags) (Some old)) (sym (other (λ e. no_update (sym does ∙ e))))
      (record {
        is_record = is.0;
        width = sym (length-IsKeyedUpdate flags old new is.2).0;
        rest = record_bytes new ++ drop end file;
        spelled = update_spelled old new end stands;
      })
    where
      no_update : pos 23 ≡ pos 18 → ⊥
      no_update e = cc

  -- the new record, of an insert
  pub new_begins : (flags : List ℕ) (change : Change) (end : ℕ) → IsChange flags change → span.operation ≡ pos (operation change) → span.operation ≡ pos 18 → Stands file span.records (record_bytes (fields_of change)) end
      → HasRecord file (length flags) (new_record change) (Some span.records)
  new_begins flags (Insert row) end is does insert stands = row_begins flags row end is stands
  new_begins flags (Delete row) end is does insert stands = absurd (no_delete (sym does ∙ insert))
    where
      no_delete : pos 9 ≡ pos 18 → ⊥
      no_delete e = cc
  new_begins flags (Update old new) end is does insert stands = absurd (no_update (sym does ∙ insert))
    where
      no_update : pos 23 ≡ pos 18 → ⊥
      no_update e = cc

  -- the records of an update
  pub record IsUpdate (flags : List ℕ) (change : Change) (end : ℕ) : Type 0 where
    pub old : List OwnedField
    pub new : List OwnedField
    pub change_is : change ≡ Update old new
    pub old_is : IsRecord old
    pub new_is : IsRecord new
    pub old_width : length old ≡ length flags
    pub new_width : length new ≡ length flags
    pub spelled : drop span.records file ≡ record_bytes old ++ (record_bytes new ++ drop end file)

  pub update_is : (flags : List ℕ) (change : Change) (end : ℕ) → IsChange flags change → span.operation ≡ pos (operation change) → (span.operation ≢ pos 18) → (span.operation ≢ pos 9)
      → Stands file span.records (record_bytes (fields_of change)) end → IsUpdate flags change end
  update_is flags (Insert row) end is does no_insert no_delete stands = absurd (no_insert does)
  update_is flags (Delete row) end is does no_insert no_delete stands = absurd (no_delete does)
  update_is flags (Update old new) end is does no_insert no_delete stands =
      let widths = length-IsKeyedUpdate flags old new is.2 in
      record { old = old; new = new; change_is = refl; old_is = is.0; new_is = is.1; old_width = sym widths.0; new_width = sym widths.1; spelled = update_spelled old new end stands }

-- ---- the field of a column

pub HasRecord-some : (file : List ℕ) (columns : ℕ) (fields : Option (List OwnedField)) (found : Option ℕ) (place : ℕ) → HasRecord file columns fields found → found ≡ Some place
    → (all : List OwnedField) × (fields ≡ Some all) × BeginsRecord file columns all place
HasRecord-some file columns (Some all) (Some at) place has is = (all, refl, subst (BeginsRecord file columns all) (same is) has)
  where
    same : Some at ≡ Some place → at ≡ place
    same e = cc
HasRecord-some file columns (Some all) None place has is = absurd has
HasRecord-some file columns None (Some at) place has is = absurd has
HasRecord-some file columns None None place has is = cc

pub HasRecord-none : (file : List ℕ) (columns : ℕ) (fields : Option (List OwnedField)) (found : Option ℕ) → HasRecord file columns fields found → found ≡ None → fields ≡ None
HasRecord-none file columns (Some all) (Some at) has is = cc
HasRecord-none file columns (Some all) None has is = absurd has
HasRecord-none file columns None found has is = refl

pub field_on-record : (side : Side) (change : Change) (column : ℕ) (fields : List OwnedField) → record_on side change ≡ Some fields → field_on side change column ≡ Some (get_or fields column Undefined)
field_on-record Old (Insert row) column fields is = cc
field_on-record Old (Delete row) column fields is = ap (option_map (λ (fs : List OwnedField). get_or fs column Undefined)) is
field_on-record Old (Update old new) column fields is = ap (option_map (λ (fs : List OwnedField). get_or fs column Undefined)) is
field_on-record New (Insert row) column fields is = ap (option_map (λ (fs : List OwnedField). get_or fs column Undefined)) is
field_on-record New (Delete row) column fields is = cc
field_on-record New (Update old new) column fields is = ap (option_map (λ (fs : List OwnedField). get_or fs column Undefined)) is

pub field_on-none : (side : Side) (change : Change) (column : ℕ) → record_on side change ≡ None → field_on side change column ≡ None
field_on-none Old (Insert row) column is = refl
field_on-none Old (Delete row) column is = cc
field_on-none Old (Update old new) column is = cc
field_on-none New (Insert row) column is = cc
field_on-none New (Delete row) column is = refl
field_on-none New (Update old new) column is = cc

-- ---- the values of several columns

-- without a change all are as they were
pub keeps_same : (count : ℕ) (spans : List ValueSpan) → KeepsOthers count spans spans
keeps_same count spans = record { size = refl; each = λ at le. refl }

-- what is after more spans is after fewer, too
pub keeps_less : (few count : ℕ) (old new : List ValueSpan) → few ≤ count → KeepsOthers few old new → KeepsOthers count old new
keeps_less few count old new le kept = record { size = kept.size; each = λ at behind. kept.each at (omega (arith, le, behind)) }

-- the value that was put, and the others
module _ (spans : List ValueSpan) (column : ℕ) (value : ValueSpan) (lt : column < length spans) where
  put_here : value_at (slice_set spans column value) column ≡ value
  put_here = get_or-set_same spans column value (plain_span (pos 0) (pos 0)) lt

  put_elsewhere : (at : ℕ) → at ≢ column → value_at (slice_set spans column value) at ≡ value_at spans at
  put_elsewhere at other = get_or-set_other spans column at value (plain_span (pos 0) (pos 0)) other

  -- what holds of those before it, and of it, holds of one more
  one_more : (P : ℕ → ValueSpan → Type 0) → ((at : ℕ) → at < column → P at (value_at spans at)) → P column value → (at : ℕ) → at < column + 1 → P at (value_at (slice_set spans column value) at)
  one_more P before here at below = elim (cases_Bool (at == column)) [
    | inl is ↦ let same : at ≡ column = eqb-true at column is in subst (λ (i : ℕ). P i (value_at (slice_set spans column value) i)) (sym same) (subst (P column) (sym put_here) here)
    | inr isnt ↦
        let other : at ≢ column = λ same. true≢false (sym (subst (λ (i : ℕ). (at == i) ≡ true) same (nat_eq_equiv.refl at)) ∙ isnt) in
        subst (P at) (sym (put_elsewhere at other)) (before at (omega (arith, other, below)))
  ]

  pub shows_more : (file : List ℕ) (field : ℕ → Option OwnedField) → ShowsValues file column field spans → ShowsValue file value (field column)
      → ShowsValues file (column + 1) field (slice_set spans column value)
  shows_more file field shown here = one_more (λ at v. ShowsValue file v (field at)) shown here

  pub keeps_more : (old : List ValueSpan) → KeepsOthers column old spans → KeepsOthers (column + 1) old (slice_set spans column value)
  keeps_more old kept = record {
    size = length-set spans column value ∙ kept.size;
    each = λ at le. put_elsewhere at (λ same. absurd (omega (arith, same, le))) ∙ kept.each at (omega (arith, le));
  }

  pub within_more : (file : List ℕ) → LieWithin file column spans → value.offset + value.length ≤ length file → LieWithin file (column + 1) (slice_set spans column value)
  within_more file before here = one_more (λ at v. v.offset + v.length ≤ length file) before here

-- the fields of a record are what it says of its columns
pub shows_record : (file : List ℕ) (count : ℕ) (side : Side) (change : Change) (fields : List OwnedField) (spans : List ValueSpan) → record_on side change ≡ Some fields
    → ShowsValues file count (λ column. Some (get_or fields column Undefined)) spans → ShowsValues file count (field_on side change) spans
shows_record file count side change fields spans is shown = λ column lt. subst (ShowsValue file (value_at spans column)) (sym (field_on-record side change column fields is)) (shown column lt)

-- and without a record it says nothing
pub shows_nothing : (file : List ℕ) (count : ℕ) (side : Side) (change : Change) (spans : List ValueSpan) → record_on side change ≡ None
    → ShowsValues file count (λ column. None) spans → ShowsValues file count (field_on side change) spans
shows_nothing file count side change spans is shown = λ column lt. subst (ShowsValue file (value_at spans column)) (sym (field_on-none side change column is)) (shown column lt)
