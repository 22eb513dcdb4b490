-- Bytes have one fault of a field at most, and none if they begin with a field.
use Rattle.std.proofs.Common.{◌≡◌, ℕ, zero, suc, ◌+◌, ◌<◌, ◌≤◌, List, [], ◌∷◌, ◌++◌, length, Some, refl, sym, ap, ◌∙◌, append_assoc, arith, length-append, inl, inr}
use Rattle.std.specs.Prelude.{slice_get, ◌⊎◌, IsUtf8}
use Rattle.cs_value.specs.declared.TheConstants.{MAX_CONTENT_LEN}
use Rattle.cs_value.specs.declared.fault.FieldFaultKind.{FieldFaultKind}
use Rattle.cs_value.specs.declared.fault.FieldFaultKind.TheVariants.{Truncated, BadVarint, BadType, RealValue, BadText}
use Rattle.cs_value.specs.declared.value.OwnedValue.TheVariants.{Int, Text, Blob, Null}
use Rattle.cs_value.specs.declared.value.OwnedField.{OwnedField}
use Rattle.cs_value.specs.declared.value.OwnedField.TheVariants.{Undefined, Defined}
use Rattle.cs_value.specs.Value.{IsField}
use Rattle.cs_value.specs.Varint.{varint}
use Rattle.cs_value.specs.Spelling.{counted, value_bytes, field_bytes}
use Rattle.cs_value.specs.FieldFaults.{IsCutVarint, IsCutContent, IsCutField, HasContent, VarintFails, FieldFails}
use Rattle.cs_value.proofs.ListLemmas.{same_from_append}
use Rattle.cs_value.proofs.Spellings.{varint_spellings}
use Rattle.cs_wire_laws.proofs.VarintFaults.{varint_or_fails, varint_fails_once}

-- a fault of this kind, and its place
abbrev Is : FieldFaultKind → ℕ → FieldFaultKind → ℕ → Type 0
Is k p kind place = (kind ≡ k) × (place ≡ p)

-- after a count: fewer bytes than it says; or, of a text, bytes that are not UTF-8
abbrev Why : (List ℕ → Type 0) → List ℕ → ℕ → List ℕ → FieldFaultKind → ℕ → Type 0
Why Bad content count rest kind place =
    ((length rest < count) × Is Truncated (1 + length content) kind place)
    ⊎ ((text : List ℕ) × (more : List ℕ) × (rest ≡ text ++ more) × (length text ≡ count) × Bad text × Is BadText (1 + length (varint count)) kind place)

record AfterCount (Bad : List ℕ → Type 0) (content : List ℕ) (kind : FieldFaultKind) (place : ℕ) : Type 0 where
  count : ℕ
  rest : List ℕ
  is_number : count ≤ MAX_CONTENT_LEN
  spelled : content ≡ varint count ++ rest
  why : Why Bad content count rest kind place

-- no count
record NoCount (content : List ℕ) (kind : FieldFaultKind) (place : ℕ) : Type 0 where
  behind : ℕ
  fails : VarintFails content kind behind
  place_is : place ≡ 1 + behind

abbrev Counted : (List ℕ → Type 0) → List ℕ → FieldFaultKind → ℕ → Type 0
Counted Bad content kind place = NoCount content kind place ⊎ AfterCount Bad content kind place

abbrev NotUtf8 : List ℕ → Type 0
NotUtf8 text = IsUtf8 text → ⊥

abbrev Never : List ℕ → Type 0
Never text = ⊥

-- what is wrong after a type
abbrev Typed : ℕ → List ℕ → FieldFaultKind → ℕ → Type 0
Typed zero content kind place = ⊥
Typed (suc zero) content kind place = (length content < 8) × Is Truncated (1 + length content) kind place
Typed (suc (suc zero)) content kind place = Is RealValue 0 kind place
Typed (suc (suc (suc zero))) content kind place = Counted NotUtf8 content kind place
Typed (suc (suc (suc (suc zero)))) content kind place = Counted Never content kind place
Typed (suc (suc (suc (suc (suc zero))))) content kind place = ⊥
Typed (suc (suc (suc (suc (suc (suc n)))))) content kind place = Is BadType 0 kind place

abbrev View : List ℕ → FieldFaultKind → ℕ → Type 0
View [] kind place = Is Truncated 0 kind place
View (t ∷ content) kind place = Typed t content kind place

-- ---- what the cases say

has_content : (bytes content : List ℕ) (kind : FieldFaultKind) (place : ℕ) → HasContent bytes content → ((Bad : List ℕ → Type 0) → Counted Bad content kind place) → View bytes kind place
has_content bytes content kind place (inl text) why = rw text (why NotUtf8)
has_content bytes content kind place (inr blob) why = rw blob (why Never)

length-content : (bytes content : List ℕ) → HasContent bytes content → length bytes ≡ 1 + length content
length-content bytes content (inl text) = ap length text ∙ omega arith
length-content bytes content (inr blob) = ap length blob ∙ omega arith

cut_content : (content : List ℕ) (place : ℕ) → place ≡ 1 + length content → IsCutVarint content ⊎ IsCutContent content → (Bad : List ℕ → Type 0) → Counted Bad content Truncated place
cut_content content place at_end (inl cut) Bad = inl (record { behind = length content; fails = (cut, refl); place_is = at_end })
cut_content content place at_end (inr cut) Bad = inr (record { count = cut.count; rest = cut.rest; is_number = cut.is_number; spelled = cut.spelled; why = inl (cut.fewer, (refl, at_end)) })

cut_field : (bytes : List ℕ) → IsCutField bytes → View bytes Truncated (length bytes)
cut_field bytes (inl none) = rw none (refl, refl)
cut_field bytes (inr (inl cut)) = rw cut.spelled (cut.fewer, (refl, omega arith))
cut_field bytes (inr (inr cut)) = has_content bytes cut.content Truncated (length bytes) cut.has_content (cut_content cut.content (length bytes) (length-content bytes cut.content cut.has_content) cut.cut)

bad_type : (kind : ℕ) (rest : List ℕ) → 5 < kind → Typed kind rest BadType 0
bad_type zero rest lt = absurd (omega arith)
bad_type (suc zero) rest lt = absurd (omega arith)
bad_type (suc (suc zero)) rest lt = absurd (omega arith)
bad_type (suc (suc (suc zero))) rest lt = absurd (omega arith)
bad_type (suc (suc (suc (suc zero)))) rest lt = absurd (omega arith)
bad_type (suc (suc (suc (suc (suc zero))))) rest lt = absurd (omega arith)
bad_type (suc (suc (suc (suc (suc (suc n)))))) rest lt = (refl, refl)

real_value : (bytes : List ℕ) → slice_get bytes 0 ≡ Some 2 → View bytes RealValue 0
real_value [] e = absurd cc
real_value (b ∷ bytes) e = let two : b ≡ 2 = cc in rw two (refl, refl)

view : (bytes : List ℕ) (kind : FieldFaultKind) (place : ℕ) → FieldFails bytes kind place → View bytes kind place
view bytes Truncated place h = rw h.1 (cut_field bytes h.0)
view bytes BadVarint place h = has_content bytes h.0.content BadVarint place h.0.has_content (λ Bad. inl (record { behind = 0; fails = (h.0.no_count, refl); place_is = omega (arith, h.1) }))
view bytes BadType place h = rw (h.0.spelled, h.1) (bad_type h.0.kind h.0.rest h.0.no_type)
view bytes RealValue place h = rw h.1 (real_value bytes h.0)
view bytes BadText place h = rw h.spelled (inr (record {
  count = length h.text;
  rest = h.text ++ h.rest;
  is_number = h.short;
  spelled = append_assoc (varint (length h.text)) h.text h.rest;
  why = inr (h.text, h.rest, refl, refl, h.not_utf8, (refl, h.behind_count));
}))

-- ---- one fault

module _ (Bad : List ℕ → Type 0) (content : List ℕ) (k l : FieldFaultKind) (p q : ℕ) where
  why_once : (count : ℕ) (rest : List ℕ) → Why Bad content count rest k p → Why Bad content count rest l q → (k ≡ l) × (p ≡ q)
  why_once count rest (inl one) (inl two) = (one.1.0 ∙ sym two.1.0, one.1.1 ∙ sym two.1.1)
  why_once count rest (inr one) (inr two) = (one.5.0 ∙ sym two.5.0, one.5.1 ∙ sym two.5.1)
  why_once count rest (inl one) (inr two) = absurd (omega (arith, one.0, ap length two.2, length-append two.0 two.1, two.3))
  why_once count rest (inr one) (inl two) = absurd (omega (arith, two.0, ap length one.2, length-append one.0 one.1, one.3))

  counted_once : Counted Bad content k p → Counted Bad content l q → (k ≡ l) × (p ≡ q)
  counted_once (inl one) (inl two) = let same = varint_fails_once content k l one.behind two.behind one.fails two.fails in (same.0, omega (arith, one.place_is, two.place_is, same.1))
  counted_once (inl one) (inr two) = absurd (varint_or_fails content k one.behind two.count two.rest two.is_number two.spelled one.fails)
  counted_once (inr one) (inl two) = absurd (varint_or_fails content l two.behind one.count one.rest one.is_number one.spelled two.fails)
  counted_once (inr one) (inr two) =
      let same = varint_spellings one.count two.count one.rest two.rest one.is_number two.is_number (sym one.spelled ∙ two.spelled) in
      why_once one.count one.rest one.why (rw (same.0, same.1) two.why)

typed_once : (t : ℕ) (content : List ℕ) (k l : FieldFaultKind) (p q : ℕ) → Typed t content k p → Typed t content l q → (k ≡ l) × (p ≡ q)
typed_once zero content k l p q one two = absurd one
typed_once (suc zero) content k l p q one two = (one.1.0 ∙ sym two.1.0, one.1.1 ∙ sym two.1.1)
typed_once (suc (suc zero)) content k l p q one two = (one.0 ∙ sym two.0, one.1 ∙ sym two.1)
typed_once (suc (suc (suc zero))) content k l p q one two = counted_once NotUtf8 content k l p q one two
typed_once (suc (suc (suc (suc zero)))) content k l p q one two = counted_once Never content k l p q one two
typed_once (suc (suc (suc (suc (suc zero))))) content k l p q one two = absurd one
typed_once (suc (suc (suc (suc (suc (suc n)))))) content k l p q one two = (one.0 ∙ sym two.0, one.1 ∙ sym two.1)

view_once : (bytes : List ℕ) (k l : FieldFaultKind) (p q : ℕ) → View bytes k p → View bytes l q → (k ≡ l) × (p ≡ q)
view_once [] k l p q one two = (one.0 ∙ sym two.0, one.1 ∙ sym two.1)
view_once (t ∷ content) k l p q one two = typed_once t content k l p q one two

-- bytes have one fault of a field at most
pub field_fails_once : (bytes : List ℕ) (k l : FieldFaultKind) (p q : ℕ) → FieldFails bytes k p → FieldFails bytes l q → (k ≡ l) × (p ≡ q)
field_fails_once bytes k l p q one two = view_once bytes k l p q (view bytes k p one) (view bytes l q two)

-- ---- no field

counted_or_fails : (Bad : List ℕ → Type 0) (text rest content : List ℕ) (k : FieldFaultKind) (p : ℕ) → length text ≤ MAX_CONTENT_LEN → (Bad text → ⊥) → content ≡ varint (length text) ++ (text ++ rest)
    → Counted Bad content k p → ⊥
counted_or_fails Bad text rest content k p le good e (inl none) = varint_or_fails content k none.behind (length text) (text ++ rest) le e none.fails
counted_or_fails Bad text rest content k p le good e (inr h) =
    let same = varint_spellings h.count (length text) h.rest (text ++ rest) h.is_number le (sym h.spelled ∙ e) in
    by (rw (same.0, same.1) at h.why)
  where
    by : Why Bad content (length text) (text ++ rest) k p → ⊥
    by (inl cut) = omega (arith, cut.0, length-append text rest)
    by (inr bad) = let both = same_from_append text bad.0 rest bad.1 (sym bad.3) bad.2 in good (rw both.0 bad.4)

field_fits : (f : OwnedField) (rest : List ℕ) (k : FieldFaultKind) (p : ℕ) → IsField f → View (field_bytes f ++ rest) k p → ⊥
unfolding field_bytes value_bytes counted
field_fits Undefined rest k p fits h = h
field_fits (Defined (Int z)) rest k p fits h = omega (arith, h.0)
field_fits (Defined (Text t)) rest k p fits h = counted_or_fails NotUtf8 t rest _ k p fits.1 (λ bad. bad fits.0) (append_assoc (varint (length t)) t rest) h
field_fits (Defined (Blob b)) rest k p fits h = counted_or_fails Never b rest _ k p fits.1 (λ bad. bad) (append_assoc (varint (length b)) b rest) h
field_fits (Defined Null) rest k p fits h = h

-- bytes that begin with a field have none
pub field_or_fails : (bytes : List ℕ) (k : FieldFaultKind) (p : ℕ) (f : OwnedField) (rest : List ℕ) → IsField f → bytes ≡ field_bytes f ++ rest → FieldFails bytes k p → ⊥
field_or_fails bytes k p f rest fits e h = field_fits f rest k p fits (rw e at (view bytes k p h))
