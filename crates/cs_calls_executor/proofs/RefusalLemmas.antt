-- Why edits are refused, where it is not for what they ask.
use Rattle.std.proofs.Common.{◌≡◌, inl, inr, ℕ, List, refl, sym, subst}
use Rattle.cs_value.specs.declared.value.OwnedValue.{OwnedValue}
use Rattle.cs_value.specs.State.{SchemaData}
use Rattle.cs_rows.specs.declared.fault.Cause.{Cause}
use Rattle.cs_rows.specs.declared.fault.StoreError.{StoreError}
use Rattle.cs_rows.specs.declared.fault.StoreError.TheVariants.{DamagedStore, StoreFault, NoMemory}
use Rattle.cs_rows.specs.declared.edit.Edit.{Edit}
use Rattle.cs_rows.specs.declared.edit.Edit.TheVariants.{Insert, Update, Delete}
use Rattle.cs_rows.specs.Faults.{IsReadRefusal, refused_for}
use Rattle.cs_calls_conversions.specs.Refusals.{of_error, of_edit_error}

module _ (table : List ℕ) (schema : SchemaData) (key : List OwnedValue) where
  damaged : (edit : Edit) → of_edit_error table schema key edit DamagedStore ≡ of_error DamagedStore
  damaged (Insert name row) = refl
  damaged (Update name at row) = refl
  damaged (Delete name at) = refl

  no_memory : (edit : Edit) → of_edit_error table schema key edit NoMemory ≡ of_error NoMemory
  no_memory (Insert name row) = refl
  no_memory (Update name at row) = refl
  no_memory (Delete name at) = refl

  faulty : (edit : Edit) (cause : Cause) → of_edit_error table schema key edit (StoreFault cause) ≡ of_error (StoreFault cause)
  faulty (Insert name row) cause = refl
  faulty (Update name at row) cause = refl
  faulty (Delete name at) cause = refl

  -- then the edit plays no part
  pub edit_error_is : (edit : Edit) (error : StoreError) → IsReadRefusal error → of_edit_error table schema key edit error ≡ of_error error
  edit_error_is edit error (inl is) = subst (λ (e : StoreError). of_edit_error table schema key edit e ≡ of_error e) (sym is) (damaged edit)
  edit_error_is edit error (inr (inl is)) = subst (λ (e : StoreError). of_edit_error table schema key edit e ≡ of_error e) (sym is) (no_memory edit)
  edit_error_is edit error (inr (inr (refused_for cause))) = faulty edit cause
