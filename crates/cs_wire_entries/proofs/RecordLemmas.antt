-- The records of a change in a file.
use Rattle.std.proofs.Common.{◌≡◌, ℕ, zero, suc, List, [], ◌∷◌, ◌++◌, length, map, drop, refl, sym, ap, subst, ◌∙◌, inl, inr}
use Rattle.std.specs.Prelude.{◌⊎◌}
use Rattle.std.proofs.lemmas.List.{append-nil}
use Rattle.cs_value.specs.declared.value.OwnedValue.{OwnedValue}
use Rattle.cs_value.specs.declared.value.OwnedField.{OwnedField}
use Rattle.cs_value.specs.declared.value.OwnedField.TheVariants.{Defined}
use Rattle.cs_value.specs.Value.{IsRecord}
use Rattle.cs_value.specs.Key.{row_key, image_key}
use Rattle.cs_value.specs.Spelling.{field_bytes, value_bytes, record_bytes}
use Rattle.cs_value.proofs.RowImages.{IsRecord-map, IsRow-map}
use Rattle.cs_wire_entries.specs.declared.entry.Change.{Change}
use Rattle.cs_wire_entries.specs.declared.entry.Change.TheVariants as change
use Rattle.cs_wire_entries.specs.declared.entry.Operation.{Operation}
use Rattle.cs_wire_entries.specs.declared.entry.Operation.TheVariants.{Insert, Delete, Update}
use Rattle.cs_wire_entries.specs.declared.fault.ReadFaultKind.{ReadFaultKind}
use Rattle.cs_wire_entries.specs.Entry.{IsChange, operation, fields_of}
use Rattle.cs_wire_entries.specs.Views.{byte_of}
use Rattle.cs_wire_entries.specs.Items.{IsFirst, fields_in, value_in, values_in, change_in}
use Rattle.cs_wire_entries.specs.ReadFaults.{Stands}
use Rattle.cs_wire_entries.specs.Reading.{row_wants, Meets, IsRecordAt, RecordRefused, ChangeRefused}
use Rattle.cs_wire_entries.proofs.ChangeLemmas.{row_met, row_values, keyed_row, row_refused, inserted, deleted}

-- the bytes are where their text is
pub Stands-bytes : (file : List ℕ) (at : ℕ) (bytes text : List ℕ) (end : ℕ) → bytes ≡ text → Stands file at text end → Stands file at bytes end
Stands-bytes file at bytes text end same h = subst (λ (x : List ℕ). Stands file at x end) (sym same) h

-- ---- rows

-- an insert or a delete
abbrev pub IsOfRow : Operation → Type 0
IsOfRow what = (what ≡ Insert) ⊎ (what ≡ Delete)

pub update_is_none : IsOfRow Update → ⊥
update_is_none (inl e) = cc
update_is_none (inr e) = cc

pub values_of : (row : List OwnedValue) → map value_in (map Defined row) ≡ row
values_of [] = refl
values_of (v ∷ row) = ap (λ (vs : List OwnedValue). v ∷ vs) (values_of row)

-- the key of a row is that of the image that it is
pub image_key-map : (flags : List ℕ) (row : List OwnedValue) → image_key flags (map Defined row) ≡ row_key flags row
unfolding field_bytes
image_key-map [] row = refl
image_key-map (flag ∷ flags) [] = refl
image_key-map (zero ∷ flags) (v ∷ row) = image_key-map flags row
image_key-map (suc flag ∷ flags) (v ∷ row) = ap (λ (x : List ℕ). value_bytes v ++ x) (image_key-map flags row)

module _ (flags file : List ℕ) (at end : ℕ) (row : List ℕ) where
  values : List OwnedValue
  values = values_in (length flags) row

  pub row_found : (what : Operation) → IsOfRow what → IsRecordAt (row_wants flags) file at (fields_in (length flags) row) end → row ≡ record_bytes (fields_in (length flags) row)
      → IsChange flags (change_in (length flags) what row []) × (row ++ [] ≡ record_bytes (fields_of (change_in (length flags) what row []))) × Stands file at (row ++ []) end × IsFirst flags (change_in (length flags) what row []) row
  unfolding values
  row_found what is found spelled = by what is
    where
      same : map Defined values ≡ fields_in (length flags) row
      same = row_values flags (fields_in (length flags) row) found.wanted

      bytes : row ++ [] ≡ record_bytes (map Defined values)
      bytes = append-nil row ∙ spelled ∙ sym (ap record_bytes same)

      stands : Stands file at (row ++ []) end
      stands = Stands-bytes file at (row ++ []) _ end (append-nil row ∙ spelled) found.stands

      key : row_key flags values ≡ image_key flags (fields_in (length flags) row)
      key = sym (image_key-map flags values) ∙ ap (image_key flags) same

      by : (what : Operation) → IsOfRow what → IsChange flags (change_in (length flags) what row []) × (row ++ [] ≡ record_bytes (fields_of (change_in (length flags) what row []))) × Stands file at (row ++ []) end × IsFirst flags (change_in (length flags) what row []) row
      by Insert is = ((IsRow-map values (rw same found.is_record), keyed_row flags values (rw same found.wanted)), bytes, stands, record { is_record = found.is_record; spelled = spelled; fields = sym same; key = key })
      by Delete is = ((IsRow-map values (rw same found.is_record), keyed_row flags values (rw same found.wanted)), bytes, stands, record { is_record = found.is_record; spelled = spelled; fields = sym same; key = key })
      by Update is = absurd (update_is_none is)

  -- a change of a row, and its row
  pub record HasRow (what : Operation) (other : Change) (rest : List ℕ) : Type 0 where
    pub fields : List OwnedField
    pub is_record : IsRecord fields
    pub met : Meets (row_wants flags) fields
    pub spelled : drop at file ≡ record_bytes fields ++ rest
    pub same : (second : List ℕ) → fields_in (length flags) row ≡ fields → change_in (length flags) what row second ≡ other

  pub has_row : (what : Operation) → IsOfRow what → (other : Change) (rest : List ℕ) → IsChange flags other → operation other ≡ byte_of what → drop at file ≡ record_bytes (fields_of other) ++ rest → HasRow what other rest
  has_row Insert is other rest h does e =
      let r = inserted other does in
      let whole = rw r.1 at h in record {
        fields = map Defined r.0;
        is_record = IsRecord-map r.0 whole.0;
        met = row_met flags r.0 whole.1;
        spelled = rw r.1 at e;
        same = λ second read. ap change.Insert (ap (map value_in) read ∙ values_of r.0) ∙ sym r.1;
      }
  has_row Delete is other rest h does e =
      let r = deleted other does in
      let whole = rw r.1 at h in record {
        fields = map Defined r.0;
        is_record = IsRecord-map r.0 whole.0;
        met = row_met flags r.0 whole.1;
        spelled = rw r.1 at e;
        same = λ second read. ap change.Delete (ap (map value_in) read ∙ values_of r.0) ∙ sym r.1;
      }
  has_row Update is other rest h does e = absurd (update_is_none is)

-- a row that is refused refuses its change
pub row_refuses : (flags file : List ℕ) (at : ℕ) (what : Operation) → IsOfRow what → (kind : ReadFaultKind) (place : ℕ) → RecordRefused (row_wants flags) file at kind place → ChangeRefused (byte_of what) flags file at kind place
row_refuses flags file at Insert is kind place r = row_refused flags file at kind place r change.Insert (λ row. refl) (λ row. refl) (λ row h k. (h, k)) 0x12 (λ row. refl)
row_refuses flags file at Delete is kind place r = row_refused flags file at kind place r change.Delete (λ row. refl) (λ row. refl) (λ row h k. (h, k)) 0x09 (λ row. refl)
row_refuses flags file at Update is kind place r = absurd (update_is_none is)

-- ---- entries

pub operation_in : (columns : ℕ) (what : Operation) (first second : List ℕ) → operation (change_in columns what first second) ≡ byte_of what
operation_in columns Insert first second = refl
operation_in columns Delete first second = refl
operation_in columns Update first second = refl
