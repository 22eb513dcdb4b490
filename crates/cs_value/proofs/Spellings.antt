-- No spelling begins another's.
use Rattle.std.proofs.Common.{◌≡◌, ◌≤◌, ℕ, List, [], ◌∷◌, ◌++◌, length, refl, sym, ap, ◌∙◌, append_assoc, arith}
use Rattle.std.proofs.lemmas.List.{append_cancel_left}
use Rattle.cs_value.specs.declared.TheConstants.{MAX_CONTENT_LEN}
use Rattle.cs_value.specs.declared.value.OwnedValue.{OwnedValue}
use Rattle.cs_value.specs.declared.value.OwnedField.{OwnedField}
use Rattle.cs_value.specs.declared.value.OwnedField.TheVariants.{Defined}
use Rattle.cs_value.specs.Value.{IsValue, IsField, IsRecord, IsRow}
use Rattle.cs_value.specs.Varint.{varint}
use Rattle.cs_value.specs.Spelling.{value_bytes, field_bytes, record_bytes, row_bytes}
use Rattle.cs_value.specs.Reading.{number_at, field_at}
use Rattle.cs_value.proofs.Steps.{ok_is}
use Rattle.cs_value.proofs.VarintLemmas.{number_again}
use Rattle.cs_value.proofs.FieldAgain.{field_again}

-- bytes that begin with two varints begin with one
pub varint_spellings : (m n : ℕ) (x y : List ℕ) → m ≤ MAX_CONTENT_LEN → n ≤ MAX_CONTENT_LEN → varint m ++ x ≡ varint n ++ y → (m ≡ n) × (x ≡ y)
varint_spellings m n x y small_m small_n e =
    let both = ok_is (m, length (varint m)) (n, length (varint n)) (sym (number_again m x small_m) ∙ ap number_at e ∙ number_again n y small_n) in
    let same : m ≡ n = ap (λ (p : ℕ × ℕ). p.0) both in
    (same, append_cancel_left (varint m) x y (e ∙ ap (λ (k : ℕ). varint k ++ y) (sym same)))

-- bytes that begin with two fields begin with one
pub field_spellings : (f g : OwnedField) (x y : List ℕ) → IsField f → IsField g → field_bytes f ++ x ≡ field_bytes g ++ y → (f ≡ g) × (x ≡ y)
field_spellings f g x y fits_f fits_g e =
    let both = ok_is (f, length (field_bytes f)) (g, length (field_bytes g)) (sym (field_again f x fits_f) ∙ ap field_at e ∙ field_again g y fits_g) in
    let same : f ≡ g = ap (λ (p : OwnedField × ℕ). p.0) both in
    (same, append_cancel_left (field_bytes f) x y (e ∙ ap (λ (h : OwnedField). field_bytes h ++ y) (sym same)))

-- two fields that are equal have equal values
defined_is : (v w : OwnedValue) → Defined v ≡ Defined w → v ≡ w
defined_is v w e = cc

-- bytes that begin with two values begin with one
value_spellings : (v w : OwnedValue) (x y : List ℕ) → IsValue v → IsValue w → value_bytes v ++ x ≡ value_bytes w ++ y → (v ≡ w) × (x ≡ y)
unfolding field_bytes
value_spellings v w x y fits_v fits_w e =
    let both = field_spellings (Defined v) (Defined w) x y fits_v fits_w e in
    (defined_is v w both.0, both.1)

-- bytes that begin with two records of one width begin with one
pub record_spellings : (r s : List OwnedField) (x y : List ℕ) → IsRecord r → IsRecord s → length r ≡ length s → record_bytes r ++ x ≡ record_bytes s ++ y → (r ≡ s) × (x ≡ y)
record_spellings [] [] x y fits_r fits_s len e = (refl, e)
record_spellings [] (g ∷ s) x y fits_r fits_s len e = absurd (omega arith)
record_spellings (f ∷ r) [] x y fits_r fits_s len e = absurd (omega arith)
record_spellings (f ∷ r) (g ∷ s) x y fits_r fits_s len e =
    let first = field_spellings f g (record_bytes r ++ x) (record_bytes s ++ y) fits_r.0 fits_s.0 (sym (append_assoc (field_bytes f) (record_bytes r) x) ∙ e ∙ append_assoc (field_bytes g) (record_bytes s) y) in
    let others = record_spellings r s x y fits_r.1 fits_s.1 (omega arith) first.1 in
    (cc (first.0, others.0), others.1)

-- bytes that begin with two rows of one width begin with one
row_spellings : (k l : List OwnedValue) (x y : List ℕ) → IsRow k → IsRow l → length k ≡ length l → row_bytes k ++ x ≡ row_bytes l ++ y → (k ≡ l) × (x ≡ y)
row_spellings [] [] x y fits_k fits_l len e = (refl, e)
row_spellings [] (w ∷ l) x y fits_k fits_l len e = absurd (omega arith)
row_spellings (v ∷ k) [] x y fits_k fits_l len e = absurd (omega arith)
row_spellings (v ∷ k) (w ∷ l) x y fits_k fits_l len e =
    let first = value_spellings v w (row_bytes k ++ x) (row_bytes l ++ y) fits_k.0 fits_l.0 (sym (append_assoc (value_bytes v) (row_bytes k) x) ∙ e ∙ append_assoc (value_bytes w) (row_bytes l) y) in
    let others = row_spellings k l x y fits_k.1 fits_l.1 (omega arith) first.1 in
    (cc (first.0, others.0), others.1)

-- rows of one width with equal bytes are equal
pub row_bytes_same : (k l : List OwnedValue) → IsRow k → IsRow l → length k ≡ length l → row_bytes k ≡ row_bytes l → k ≡ l
row_bytes_same k l fits_k fits_l len e =
    let both = row_spellings k l [] [] fits_k fits_l len (ap (λ (x : List ℕ). x ++ []) e) in
    both.0
