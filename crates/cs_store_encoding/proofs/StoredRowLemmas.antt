-- Rows as images without an undefined field.
use Rattle.std.proofs.Common.{◌≡◌, ◌≢◌, ℕ, List, [], ◌∷◌, ◌++◌, length, drop, map, Err, sym, ap, ◌∙◌, arith}
use Rattle.std.proofs.lemmas.List.{append-nil, length-map, length-drop, nil_from_length}
use Rattle.cs_value.specs.declared.refusal.OrNoMemory.{OrNoMemory}
use Rattle.cs_value.specs.declared.refusal.OrNoMemory.TheVariants.{Fault, NoMemory}
use Rattle.cs_value.specs.Refusals.{Answers}
use Rattle.cs_value.specs.declared.value.OwnedValue.{OwnedValue}
use Rattle.cs_value.specs.declared.value.OwnedField.{OwnedField}
use Rattle.cs_value.specs.declared.value.OwnedField.TheVariants.{Undefined, Defined}
use Rattle.cs_value.specs.Value.{IsRecord}
use Rattle.cs_value.specs.Spelling.{record_bytes, row_bytes, BeginsWith}
use Rattle.cs_value.specs.State.{SchemaData}
use Rattle.cs_rows.specs.Rows.{IsRowIn}
use Rattle.cs_value.proofs.KeyedRows.{length-IsKeyedRow}
use Rattle.cs_value.proofs.RowImages.{record_bytes-map, IsRecord-map}

-- an image with an undefined field is that of no row
pub no_row_image : (r : List OwnedValue) (fields : List OwnedField) (row : List OwnedValue) → map Defined r ++ Undefined ∷ fields ≢ map Defined row
no_row_image [] fields [] e = absurd cc
no_row_image [] fields (w ∷ row) e = absurd cc
no_row_image (v ∷ r) fields [] e = absurd cc
no_row_image (v ∷ r) fields (w ∷ row) e =
    let tail : map Defined r ++ Undefined ∷ fields ≡ map Defined row = cc in
    no_row_image r fields row tail

-- bytes that are a row's begin with its image
pub record RowImage (flags bytes : List ℕ) (row : List OwnedValue) : Type 0 where
  pub fields : IsRecord (map Defined row)
  pub as_many : length (map Defined row) ≡ length flags
  pub whole : bytes ≡ record_bytes (map Defined row)
  pub begins : bytes ≡ record_bytes (map Defined row) ++ []

pub row_image : (schema : SchemaData) (flags bytes : List ℕ) (row : List OwnedValue) → flags ≡ schema.flags → IsRowIn schema row → bytes ≡ row_bytes row → RowImage flags bytes row
row_image schema flags bytes row same is e =
    let whole = e ∙ sym (record_bytes-map row) in
    record {
      fields = IsRecord-map row is.values;
      as_many = length-map row Defined ∙ sym (length-IsKeyedRow schema.flags row is.keyed) ∙ ap (λ (fs : List ℕ). length fs) (sym same);
      whole = whole;
      begins = whole ∙ sym (append-nil (record_bytes (map Defined row)));
    }

-- bytes that end with the image of a row are the row's
pub row_whole : (bytes : List ℕ) (fields : List OwnedField) (used : ℕ) (row : List OwnedValue) → BeginsWith bytes (record_bytes fields) used → used ≡ length bytes → fields ≡ map Defined row → bytes ≡ row_bytes row
row_whole bytes fields used row begins all is =
    let none : drop used bytes ≡ [] = nil_from_length _ (omega (arith, length-drop used bytes)) in
    begins.whole ∙ ap (λ (l : List ℕ). record_bytes fields ++ l) none ∙ append-nil (record_bytes fields) ∙ ap (λ (l : List OwnedField). record_bytes l) is ∙ record_bytes-map row

-- where something is wanted no fault is answered
pub no_fault_answered : {X F : Type 0} (e : OrNoMemory F) (f : F) (P : X → Type 0) → e ≡ Fault f → Answers (Err e) P → ⊥
no_fault_answered (Fault g) f P is h = h
no_fault_answered NoMemory f P is h = absurd cc
