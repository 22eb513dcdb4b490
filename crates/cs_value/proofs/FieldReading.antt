-- What a function answers that reads a field.
use Rattle.std.proofs.Common.{◌≡◌, ℕ, ◌-◌, List, ◌++◌, length, Result, Ok, Err, refl, sym, ap, ◌∙◌}
use Rattle.std.specs.Prelude.{IfOk, IfErr, IsOkAnd, IsUtf8}
use Rattle.std.specs.Str.{is_utf8}
use Rattle.std.proofs.lemmas.Bool.{false_from_ne_true}
use Rattle.std.proofs.lemmas.Str.{is_utf8-from_IsUtf8, IsUtf8-from_is_utf8}
use Rattle.cs_value.specs.declared.fault.FieldFault.{FieldFault}
use Rattle.cs_value.specs.declared.fault.FieldFaultKind.TheVariants.{BadText}
use Rattle.cs_value.specs.declared.value.OwnedValue.TheVariants.{Text}
use Rattle.cs_value.specs.declared.value.OwnedField.TheVariants.{Defined}
use Rattle.cs_value.specs.declared.value.Field.{Field}
use Rattle.cs_value.specs.declared.value.OwnedField.{OwnedField}
use Rattle.cs_value.specs.Value.{AreBytes, IsField, field_of}
use Rattle.cs_value.specs.Spelling.{field_bytes, BeginsWith}
use Rattle.cs_value.specs.FieldFaults.{FieldFails}
use Rattle.cs_value.specs.Reading.{Reads, fault, counted_at, text_at, field_at}
use Rattle.cs_value.proofs.Steps.{ok_is, not_both}
use Rattle.cs_value.proofs.FieldTakes.{field_takes}
use Rattle.cs_value.proofs.FieldAgain.{field_again}
use Rattle.cs_value.proofs.FieldFails.{field_faults}

-- the field that is shown, and where it ends
abbrev pub shown : Field × ℕ → OwnedField × ℕ
shown x = (field_of x.0, x.1)

-- what it finds is a field, and is spelled so
pub is_found : (bytes : List ℕ) (r : Result (Field × ℕ) FieldFault) → AreBytes bytes → Reads shown r (field_at bytes) → IfOk r (λ x. IsField (field_of x.0) × BeginsWith bytes (field_bytes (field_of x.0)) x.1)
is_found bytes (Ok x) fits e = field_takes bytes (shown x) fits e
is_found bytes (Err d) fits e = tt

-- it finds what is spelled so
pub is_only : (bytes : List ℕ) (r : Result (Field × ℕ) FieldFault) (f : OwnedField) (rest : List ℕ) → Reads shown r (field_at bytes) → IsField f → bytes ≡ field_bytes f ++ rest → IsOkAnd r (λ x. (field_of x.0 ≡ f) × (x.1 ≡ length (field_bytes f)))
is_only bytes (Ok x) f rest e fits spelled =
    let is : shown x ≡ (f, length (field_bytes f)) = ok_is (shown x) (f, length (field_bytes f)) (sym e ∙ ap field_at spelled ∙ field_again f rest fits) in
    (ap (λ (p : OwnedField × ℕ). p.0) is, ap (λ (p : OwnedField × ℕ). p.1) is)
is_only bytes (Err d) f rest e fits spelled = not_both (f, length (field_bytes f)) d (sym (field_again f rest fits) ∙ sym (ap field_at spelled) ∙ e)

-- its fault is one of the bytes
pub is_faulty : (bytes : List ℕ) (r : Result (Field × ℕ) FieldFault) → AreBytes bytes → Reads shown r (field_at bytes) → IfErr r (λ d. FieldFails bytes d.kind d.place)
is_faulty bytes (Ok x) fits e = tt
is_faulty bytes (Err d) fits e = field_faults bytes d fits e

-- ---- a text

-- a counted text that is UTF-8
pub text_at-good : (content text seen : List ℕ) (end : ℕ) → counted_at content ≡ Ok (text, end) → seen ≡ text → IsUtf8 text → text_at content ≡ Ok (Defined (Text seen), end)
unfolding text_at
text_at-good content text seen end read same good = rw (read, is_utf8-from_IsUtf8 text good, same) refl

-- a counted text that is not
pub text_at-bad : (content text : List ℕ) (end : ℕ) → counted_at content ≡ Ok (text, end) → (IsUtf8 text → ⊥) → text_at content ≡ Err (fault BadText (end - length text))
unfolding text_at
text_at-bad content text end read bad = rw (read, false_from_ne_true (is_utf8 text) (λ e. bad (IsUtf8-from_is_utf8 text e))) refl
