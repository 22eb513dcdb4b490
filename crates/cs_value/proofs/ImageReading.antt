-- Images that are read field by field.
use Rattle.std.proofs.Common.{◌≡◌, ℕ, ◌+◌, ◌<◌, ◌≤◌, List, [], ◌∷◌, ◌++◌, length, drop, refl, sym, ap, ◌∙◌, append_assoc, arith, length-append}
use Rattle.std.proofs.lemmas.List.{append-nil, drop-drop}
use Rattle.std.proofs.lemmas.List.Concat.{flat_map-append}
use Rattle.cs_value.specs.declared.fault.FieldFault.{FieldFault}
use Rattle.cs_value.specs.declared.refusal.OrNoMemory.{OrNoMemory}
use Rattle.cs_value.specs.declared.refusal.OrNoMemory.TheVariants.{Fault, NoMemory}
use Rattle.cs_value.specs.declared.value.OwnedField.{OwnedField}
use Rattle.cs_value.specs.Value.{IsField, IsRecord}
use Rattle.cs_value.specs.Spelling.{field_bytes, record_bytes, BeginsWith}
use Rattle.cs_value.specs.ImageFaults.{RecordFails}
use Rattle.cs_value.specs.Reading.{NoFieldAt}
use Rattle.cs_value.specs.Refusals.{Refuses}
use Rattle.cs_value.proofs.ListLemmas.{AllByRecursion-push}
use Rattle.cs_value.proofs.Spellings.{field_spellings, record_spellings}

-- the fields that were read, and where they end
pub record FieldsSoFar (bytes : List ℕ) (i : ℕ) (fields : List OwnedField) (end : ℕ) : Type 0 where
  pub count : length fields ≡ i
  pub are_fields : IsRecord fields
  pub begins : BeginsWith bytes (record_bytes fields) end
  pub within : end ≤ length bytes

-- nothing is read yet
pub FieldsSoFar-none : (bytes : List ℕ) → FieldsSoFar bytes 0 [] 0
FieldsSoFar-none bytes = record { count = refl; are_fields = tt; begins = record { whole = refl; count = refl }; within = omega arith }

-- the bytes of a record and of one more field
record_bytes-push : (fields : List OwnedField) (field : OwnedField) → record_bytes (fields ++ field ∷ []) ≡ record_bytes fields ++ field_bytes field
record_bytes-push fields field = flat_map-append field_bytes fields (field ∷ []) ∙ ap (λ (x : List ℕ). record_bytes fields ++ x) (append-nil (field_bytes field))

-- one more field is read
pub FieldsSoFar-push : (bytes : List ℕ) (i : ℕ) (fields : List OwnedField) (end : ℕ) (field : OwnedField) (used : ℕ) → FieldsSoFar bytes i fields end
    → IsField field → BeginsWith (drop end bytes) (field_bytes field) used → end + used ≤ length bytes → FieldsSoFar bytes (i + 1) (fields ++ field ∷ []) (end + used)
FieldsSoFar-push bytes i fields end field used so is begins within = record {
  count = omega (arith, length-append fields (field ∷ []), so.count);
  are_fields = AllByRecursion-push IsField fields field so.are_fields is;
  begins = rw (record_bytes-push fields field) (record {
    whole =
        so.begins.whole ∙ ap (λ (x : List ℕ). record_bytes fields ++ x) (begins.whole ∙ ap (λ (x : List ℕ). field_bytes field ++ x) (drop-drop used end bytes))
        ∙ sym (append_assoc (record_bytes fields) (field_bytes field) (drop (end + used) bytes));
    count = omega (arith, length-append (record_bytes fields) (field_bytes field), so.begins.count, begins.count);
  });
  within = within;
}

-- there is no field where one is left to be read
pub no_field : (bytes : List ℕ) (columns i : ℕ) (fields : List OwnedField) (end : ℕ) (refusal : OrNoMemory FieldFault)
    → FieldsSoFar bytes i fields end → i < columns → Refuses (NoFieldAt bytes end) refusal → Refuses (λ f. RecordFails bytes columns f.kind f.place) refusal
no_field bytes columns i fields end (Fault f) so lt none = record {
  fields = fields;
  at = end;
  behind = none.0;
  are_fields = so.are_fields;
  few = omega (arith, so.count);
  begins = so.begins;
  fails = none.1;
  place_is = none.2;
}
no_field bytes columns i fields end NoMemory so lt none = tt

-- bytes that begin with a field
pub record HasField (bytes : List ℕ) : Type 0 where
  pub field : OwnedField
  pub rest : List ℕ
  pub is_field : IsField field
  pub spelled : bytes ≡ field_bytes field ++ rest

-- after fewer fields than a record has, its next one begins
next_field : (fields all : List OwnedField) (left rest : List ℕ) → IsRecord fields → IsRecord all → length fields < length all → record_bytes fields ++ left ≡ record_bytes all ++ rest → HasField left
next_field fields [] left rest are is lt e = absurd (omega arith)
next_field [] (f ∷ all) left rest are is lt e = record { field = f; rest = record_bytes all ++ rest; is_field = is.0; spelled = e ∙ append_assoc (field_bytes f) (record_bytes all) rest }
next_field (g ∷ fields) (f ∷ all) left rest are is lt e =
    let first = field_spellings g f (record_bytes fields ++ left) (record_bytes all ++ rest) are.0 is.0 (sym (append_assoc (field_bytes g) (record_bytes fields) left) ∙ e ∙ append_assoc (field_bytes f) (record_bytes all) rest) in
    next_field fields all left rest are.1 is.1 (omega arith) first.1

-- while a column is left, a record has a field for it
pub has_field : (bytes : List ℕ) (columns i : ℕ) (fields : List OwnedField) (end : ℕ) → FieldsSoFar bytes i fields end → i < columns
    → (all : List OwnedField) (rest : List ℕ) → IsRecord all → length all ≡ columns → bytes ≡ record_bytes all ++ rest → HasField (drop end bytes)
has_field bytes columns i fields end so lt all rest is len e = next_field fields all (drop end bytes) rest so.are_fields is (omega (arith, so.count)) (sym so.begins.whole ∙ e)

-- all of the record is read
pub all_fields : (bytes : List ℕ) (columns i : ℕ) (fields : List OwnedField) (end : ℕ) → FieldsSoFar bytes i fields end → i ≡ columns
    → (all : List OwnedField) (rest : List ℕ) → IsRecord all → length all ≡ columns → bytes ≡ record_bytes all ++ rest → (fields ≡ all) × (end ≡ length (record_bytes all))
all_fields bytes columns i fields end so done all rest is len e =
    let same = record_spellings fields all (drop end bytes) rest so.are_fields is (omega (arith, so.count)) (sym so.begins.whole ∙ e) in
    (same.0, so.begins.count ∙ ap (λ (x : List OwnedField). length (record_bytes x)) same.0)
