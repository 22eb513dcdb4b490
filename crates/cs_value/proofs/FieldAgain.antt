-- A field that is spelled is read.
use Rattle.std.proofs.Common.{◌≡◌, ℕ, suc, ◌+◌, ◌≤◌, false, ltb, List, ◌++◌, length, Ok, refl, ap, ◌∙◌, append_assoc, arith, length-append}
use Rattle.std.specs.Prelude.{FitsSigned}
use Rattle.std.specs.Int.{w64}
use lib.IntN.{ℤ}
use Rattle.std.proofs.lemmas.Bool.{le-ltb, cond-false}
use Rattle.std.proofs.lemmas.List.{take_at, drop_at}
use Rattle.std.proofs.lemmas.Str.{is_utf8-from_IsUtf8}
use Rattle.cs_value.specs.declared.TheConstants.{MAX_CONTENT_LEN}
use Rattle.cs_value.specs.declared.value.OwnedValue.TheVariants.{Int, Text, Blob, Null}
use Rattle.cs_value.specs.declared.value.OwnedField.{OwnedField}
use Rattle.cs_value.specs.declared.value.OwnedField.TheVariants.{Undefined, Defined}
use Rattle.cs_value.specs.Value.{IsField}
use Rattle.cs_value.specs.Varint.{varint}
use Rattle.cs_value.specs.Spelling.{counted, value_bytes, field_bytes}
use Rattle.cs_value.specs.Reading.{integer_at, counted_at, text_at, blob_at, field_at}
use Rattle.cs_value.proofs.Integers.{integer_bytes, integer_of, integer_of-integer_bytes}
use Rattle.cs_value.proofs.VarintLemmas.{number_again}

-- counted bytes are read
counted_again : (text rest : List ℕ) → length text ≤ MAX_CONTENT_LEN → counted_at (counted text ++ rest) ≡ Ok (text, suc (length (counted text)))
unfolding counted_at counted
counted_again text rest le =
    let count = varint (length text) in
    let long : ltb (length (text ++ rest)) (length text) ≡ false = le-ltb (length (text ++ rest)) (length text) (omega (arith, length-append text rest)) in
    let ends : 1 + length count + length text ≡ suc (length (count ++ text)) = omega (arith, length-append count text) in
    rw (append_assoc count text rest, number_again (length text) (text ++ rest) le, drop_at count (text ++ rest) (length count) refl, long, take_at text rest (length text) refl, ends) refl

-- an integer is read
integer_again : (z : ℤ) (rest : List ℕ) → FitsSigned w64 z → integer_at (integer_bytes z ++ rest) ≡ Ok (Defined (Int z), 9)
unfolding integer_at
integer_again z rest fits =
    let bytes = integer_bytes z ++ rest in
    let long : ltb (length bytes) 8 ≡ false = le-ltb (length bytes) 8 (omega arith) in
    cond-false (ltb (length bytes) 8) _ (Ok (Defined (Int (integer_of (integer_bytes z))), 9)) long ∙ ap (λ (y : ℤ). Ok (Defined (Int y), 9)) (integer_of-integer_bytes z fits)

-- what is spelled so is read
pub field_again : (f : OwnedField) (rest : List ℕ) → IsField f → field_at (field_bytes f ++ rest) ≡ Ok (f, length (field_bytes f))
unfolding field_at text_at blob_at field_bytes value_bytes
field_again Undefined rest fits = refl
field_again (Defined (Int z)) rest fits = integer_again z rest fits
field_again (Defined (Text t)) rest fits = rw (counted_again t rest fits.1, is_utf8-from_IsUtf8 t fits.0) refl
field_again (Defined (Blob b)) rest fits = rw (counted_again b rest fits.1) refl
field_again (Defined Null) rest fits = refl
