-- What the readers of numbers and fields answer is what is read.
use Rattle.std.proofs.Common.{◌≡◌, ℕ, ◌+◌, ◌≤◌, List, ◌++◌, length, drop, Result, Ok, Err, refl, sym, ap, ◌∙◌}
use Rattle.std.specs.Prelude.{IfOk, IfErr, IsOkAnd, IsUtf8}
use Rattle.std.specs.Str.{is_utf8}
use Rattle.std.proofs.lemmas.Bool.{false_from_ne_true}
use Rattle.std.proofs.lemmas.Str.{is_utf8-from_IsUtf8, IsUtf8-from_is_utf8}
use Rattle.cs_value.specs.declared.fault.FieldFaultKind.TheVariants.{BadText}
use Rattle.cs_value.specs.declared.TheConstants.{MAX_CONTENT_LEN}
use Rattle.cs_value.specs.declared.fault.FieldFault.{FieldFault}
use Rattle.cs_value.specs.declared.value.Field.{Field}
use Rattle.cs_value.specs.declared.value.OwnedValue.{OwnedValue}
use Rattle.cs_value.specs.declared.value.OwnedField.{OwnedField}
use Rattle.cs_value.specs.declared.value.OwnedField.TheVariants.{Undefined, Defined}
use Rattle.cs_calls_parts.specs.declared.fault.CallFaultKind.TheVariants.{Field as OfField, UndefinedField as UndefinedValue}
use Rattle.cs_calls_parts.specs.Reading.{misread, field_misread, number_after, number_of, value_from, value_after, value_of, counted_of, text_of}
use Rattle.cs_value.specs.Value.{AreBytes, IsField, field_of}
use Rattle.cs_value.specs.Varint.{varint}
use Rattle.cs_value.specs.Spelling.{field_bytes, BeginsWith}
use Rattle.cs_value.specs.FieldFaults.{VarintFails, FieldFails}
use Rattle.cs_value.specs.Reading.{number_at, field_at}
use Rattle.cs_value.proofs.VarintLemmas.{number_takes, number_again, number_faults}
use Rattle.cs_value.proofs.FieldTakes.{field_takes}
use Rattle.cs_value.proofs.FieldAgain.{field_again}
use Rattle.cs_value.proofs.FieldFails.{field_faults}
use Rattle.cs_wire_laws.proofs.VarintFaults.{varint_fails_once}
use Rattle.cs_wire_laws.proofs.FieldFaults.{field_fails_once}

abbrev answered : {A : Type 0} → A → Result A FieldFault
answered x = Ok x

abbrev refused : {A : Type 0} → FieldFault → Result A FieldFault
refused f = Err f

-- a value is no fault
no_fault : {A : Type 0} (x : A) (f : FieldFault) → answered x ≡ Err f → ⊥
no_fault x f p = cc

-- a fault of the same kind at the same place is the same
same_fault : (e f : FieldFault) → (e.kind ≡ f.kind) × (e.place ≡ f.place) → e ≡ f
same_fault e f same =
    let kinds : e ≡ record { kind = f.kind; place = e.place } = ap (λ k. record { kind = k; place = e.place }) same.0 in
    kinds ∙ ap (λ p. record { kind = f.kind; place = p }) same.1

-- ---- numbers

-- the number that is answered is the one that is read
number_found : (bytes : List ℕ) (x : ℕ × ℕ) → (x.0 ≤ MAX_CONTENT_LEN) × BeginsWith bytes (varint x.0) x.1 → number_at bytes ≡ Ok x
number_found bytes x found =
    ap number_at found.1.whole ∙ number_again x.0 (drop x.1 bytes) found.0 ∙ ap (λ (used : ℕ). Ok (x.0, used)) (sym found.1.count)

-- the fault that is answered is the one that is read
number_refused : (bytes : List ℕ) (f : FieldFault) (read : Result (ℕ × ℕ) FieldFault) → AreBytes bytes
    → ((n : ℕ) (rest : List ℕ) → n ≤ MAX_CONTENT_LEN → bytes ≡ varint n ++ rest → refused {A = ℕ × ℕ} f ≡ answered (n, length (varint n)))
    → VarintFails bytes f.kind f.place → number_at bytes ≡ read → read ≡ Err f
number_refused bytes f (Ok x) fits only fails e =
    let t = number_takes bytes x.0 x.1 fits e in
    absurd (no_fault (x.0, length (varint x.0)) f (sym (only x.0 (drop x.1 bytes) t.0 t.1.whole)))
number_refused bytes f (Err d) fits only fails e =
    ap (λ (g : FieldFault). Err g) (same_fault d f (varint_fails_once bytes d.kind f.kind d.place f.place (number_faults bytes d e) fails))

pub number_exact : (bytes : List ℕ) (r : Result (ℕ × ℕ) FieldFault) → AreBytes bytes
    → IfOk r (λ x. (x.0 ≤ MAX_CONTENT_LEN) × BeginsWith bytes (varint x.0) x.1)
    → ((n : ℕ) (rest : List ℕ) → n ≤ MAX_CONTENT_LEN → bytes ≡ varint n ++ rest → r ≡ Ok (n, length (varint n)))
    → IfErr r (λ f. VarintFails bytes f.kind f.place) → number_at bytes ≡ r
number_exact bytes (Ok x) fits found only fails = number_found bytes x found
number_exact bytes (Err f) fits found only fails = number_refused bytes f (number_at bytes) fits only fails refl

-- ---- fields

-- the field that is shown, and where it ends
abbrev pub shown : Field × ℕ → OwnedField × ℕ
shown x = (field_of x.0, x.1)

-- a field that is answered, seen as the one that is read
abbrev pub seen : Result (Field × ℕ) FieldFault → Result (OwnedField × ℕ) FieldFault
seen (Ok x) = Ok (shown x)
seen (Err f) = Err f

field_found : (bytes : List ℕ) (x : Field × ℕ) → IsField (field_of x.0) × BeginsWith bytes (field_bytes (field_of x.0)) x.1 → field_at bytes ≡ Ok (shown x)
field_found bytes x found =
    ap field_at found.1.whole ∙ field_again (field_of x.0) (drop x.1 bytes) found.0
    ∙ ap (λ (used : ℕ). Ok (field_of x.0, used)) (sym found.1.count)

field_refused : (bytes : List ℕ) (f : FieldFault) (read : Result (OwnedField × ℕ) FieldFault) → AreBytes bytes
    → ((g : OwnedField) (rest : List ℕ) → IsField g → bytes ≡ field_bytes g ++ rest → ⊥)
    → FieldFails bytes f.kind f.place → field_at bytes ≡ read → read ≡ Err f
field_refused bytes f (Ok x) fits only fails e =
    let t = field_takes bytes x fits e in
    absurd (only x.0 (drop x.1 bytes) t.0 t.1.whole)
field_refused bytes f (Err d) fits only fails e =
    ap (λ (g : FieldFault). Err g) (same_fault d f (field_fails_once bytes d.kind f.kind d.place f.place (field_faults bytes d fits e) fails))

pub field_exact : (bytes : List ℕ) (r : Result (Field × ℕ) FieldFault) → AreBytes bytes
    → IfOk r (λ x. IsField (field_of x.0) × BeginsWith bytes (field_bytes (field_of x.0)) x.1)
    → ((g : OwnedField) (rest : List ℕ) → IsField g → bytes ≡ field_bytes g ++ rest
    → IsOkAnd r (λ x. (field_of x.0 ≡ g) × (x.1 ≡ length (field_bytes g))))
    → IfErr r (λ f. FieldFails bytes f.kind f.place) → field_at bytes ≡ seen r
field_exact bytes (Ok x) fits found only fails = field_found bytes x found
field_exact bytes (Err f) fits found only fails = field_refused bytes f (field_at bytes) fits only fails refl

-- ---- what is read from them

pub number_of-ok : (bytes : List ℕ) (n used : ℕ) → number_at bytes ≡ Ok (n, used) → number_of bytes ≡ Ok (n, drop used bytes)
unfolding number_of number_after
number_of-ok bytes n used e = rw e refl

pub number_of-err : (bytes : List ℕ) (f : FieldFault) → number_at bytes ≡ Err f → number_of bytes ≡ Err (field_misread bytes f)
unfolding number_of number_after
number_of-err bytes f e = rw e refl

pub value_of-ok : (bytes : List ℕ) (value : OwnedValue) (used : ℕ) → field_at bytes ≡ Ok (Defined value, used) → value_of bytes ≡ Ok (value, drop used bytes)
unfolding value_of value_after value_from
value_of-ok bytes value used e = rw e refl

pub value_of-undefined : (bytes : List ℕ) (used : ℕ) → field_at bytes ≡ Ok (Undefined, used) → value_of bytes ≡ Err (misread UndefinedValue (length bytes))
unfolding value_of value_after value_from
value_of-undefined bytes used e = rw e refl

pub value_of-err : (bytes : List ℕ) (f : FieldFault) → field_at bytes ≡ Err f → value_of bytes ≡ Err (field_misread bytes f)
unfolding value_of value_after value_from
value_of-err bytes f e = rw e refl

pub text_of-good : (bytes text seen rest : List ℕ) → counted_of bytes ≡ Ok (text, rest) → seen ≡ text → IsUtf8 text → text_of bytes ≡ Ok (seen, rest)
unfolding text_of
text_of-good bytes text seen rest read same good = rw (read, is_utf8-from_IsUtf8 text good, same) refl

pub text_of-bad : (bytes text rest : List ℕ) → counted_of bytes ≡ Ok (text, rest) → (IsUtf8 text → ⊥) → text_of bytes ≡ Err (misread (OfField BadText) (length text + length rest))
unfolding text_of
text_of-bad bytes text rest read bad = rw (read, false_from_ne_true (is_utf8 text) (λ e. bad (IsUtf8-from_is_utf8 text e))) refl
