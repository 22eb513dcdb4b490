-- What a fault says of the bytes that begin with no field.
use Rattle.std.proofs.Common.{◌≡◌, ℕ, ◌+◌, ◌-◌, ◌<◌, cond, ltb, List, [], ◌∷◌, ◌++◌, length, take, drop, Result, Ok, Err, Some, refl, sym, ap, subst, ◌∙◌, arith, length-append, inl, inr}
use Rattle.std.specs.Str.{is_utf8}
use Rattle.std.proofs.lemmas.Bool.{ltb-true, cases_Bool, true≢false}
use Rattle.std.proofs.lemmas.Str.{is_utf8-from_IsUtf8}
use Rattle.cs_value.specs.declared.fault.FieldFault.{FieldFault}
use Rattle.cs_value.specs.declared.fault.FieldFaultKind.{FieldFaultKind}
use Rattle.cs_value.specs.declared.fault.FieldFaultKind.TheVariants.{Truncated, BadVarint, BadType, RealValue, BadText}
use Rattle.cs_value.specs.declared.value.OwnedValue.TheVariants.{Int, Text, Blob, Null}
use Rattle.cs_value.specs.declared.value.OwnedField.{OwnedField}
use Rattle.cs_value.specs.declared.value.OwnedField.TheVariants.{Undefined, Defined}
use Rattle.cs_value.specs.Value.{AreBytes}
use Rattle.cs_value.specs.Varint.{varint}
use Rattle.cs_value.specs.Spelling.{counted}
use Rattle.cs_value.specs.FieldFaults.{VarintFails, HasContent, IsCutContent, FieldFails}
use Rattle.cs_value.specs.Reading.{fault, behind_type, number_at, integer_at, counted_at, text_at, blob_at, field_at}
use Rattle.cs_value.proofs.Steps.{err_is, not_both, bind_err, guard_err, behind_ok, behind_err}
use Rattle.cs_value.proofs.Integers.{integer_of}
use Rattle.cs_value.proofs.VarintLemmas.{number_takes, number_faults}
use Rattle.cs_value.proofs.FieldKinds.{kind_cases, field_at-nil, field_at-undefined, field_at-integer, field_at-real, field_at-text, field_at-blob, field_at-null, field_at-other}
use Rattle.cs_value.proofs.FieldTakes.{counted_takes}

-- the bytes begin with no field, for this reason
Fails : List ℕ → FieldFault → Type 0
Fails bytes d = FieldFails bytes d.kind d.place

-- a count that fails makes a text or a blob fail, one byte further on
count_fails : (bytes content : List ℕ) (kind : FieldFaultKind) (place : ℕ) → HasContent bytes content → length bytes ≡ 1 + length content → VarintFails content kind place → FieldFails bytes kind (1 + place)
count_fails bytes content Truncated place has len why = (inr (inr (record { content = content; has_content = has; cut = inl why.0 })), omega (arith, why.1))
count_fails bytes content BadVarint place has len why = (record { content = content; has_content = has; no_count = why.0 }, omega (arith, why.1))
count_fails bytes content BadType place has len why = absurd why
count_fails bytes content RealValue place has len why = absurd why
count_fails bytes content BadText place has len why = absurd why

-- a text or a blob is cut off, or its count is none
counted_faults : (bytes content : List ℕ) (d : FieldFault) → HasContent bytes content → length bytes ≡ 1 + length content → AreBytes content → counted_at content ≡ Err d → Fails bytes d
unfolding counted_at Fails
counted_faults bytes content d has len fits e =
    let second : ℕ × ℕ → Result (List ℕ × ℕ) FieldFault = λ n. cond (ltb (length (drop n.1 content)) n.0) (Err (fault Truncated (1 + length content))) (Ok (take n.0 (drop n.1 content), 1 + n.1 + n.0)) in
    elim (bind_err (behind_type (number_at content)) second d e) [
      | inl count ↦
          let b = behind_err (number_at content) d count in
          subst (Fails bytes) (sym b.2) (count_fails bytes content b.0.kind b.0.place has len (number_faults content b.0 b.1))
      | inr read ↦
          let n = read.0.0 in
          let used = read.0.1 in
          let behind = drop used content in
          let t = number_takes content n used fits (behind_ok (number_at content) read.0 read.1) in
          let g = guard_err (ltb (length behind) n) (fault Truncated (1 + length content)) d (take n behind, 1 + used + n) read.2 in
          let short : length behind < n = ltb-true (length behind) n g.0 in
          let cut : IsCutContent content = record { count = n; rest = behind; is_number = t.0; spelled = t.1.whole; fewer = short } in
          subst (Fails bytes) g.1 (inr (inr (record { content = content; has_content = has; cut = inr cut })), omega arith)
    ]

-- an integer is cut off
integer_faults : (content : List ℕ) (d : FieldFault) → integer_at content ≡ Err d → Fails (1 ∷ content) d
unfolding integer_at Fails
integer_faults content d e =
    let g = guard_err (ltb (length content) 8) (fault Truncated (1 + length content)) d (Defined (Int (integer_of (take 8 content))), 9) e in
    subst (Fails (1 ∷ content)) g.1 (inr (inl (record { content = content; spelled = refl; fewer = ltb-true (length content) 8 g.0 })), omega arith)

-- a text fails as what is counted, or is not UTF-8
text_faults : (content : List ℕ) (d : FieldFault) → AreBytes content → text_at content ≡ Err d → Fails (3 ∷ content) d
unfolding text_at counted Fails
text_faults content d fits e =
    let second : List ℕ × ℕ → Result (OwnedField × ℕ) FieldFault = λ c. cond (is_utf8 c.0) (Ok (Defined (Text c.0), c.1)) (Err (fault BadText (c.1 - length c.0))) in
    elim (bind_err (counted_at content) second d e) [
      | inl content_fails ↦ counted_faults (3 ∷ content) content d (inl refl) (omega arith) fits content_fails
      | inr read ↦
          let text = read.0.0 in
          let end = read.0.1 in
          let t = counted_takes content read.0 fits read.1 in
          elim (cases_Bool (is_utf8 text)) [
            | inl good ↦ absurd (not_both (Defined (Text text), end) d (sym (rw good refl) ∙ read.2))
            | inr bad ↦
                let is : fault BadText (end - length text) ≡ d = err_is (fault BadText (end - length text)) d (sym (rw bad refl) ∙ read.2) in
                let whole : content ≡ varint (length text) ++ text ++ t.0.rest = t.0.whole in
                subst (Fails (3 ∷ content)) is (record {
                  text = text;
                  rest = t.0.rest;
                  spelled = ap (λ (x : List ℕ). 3 ∷ x) whole;
                  short = t.1.short;
                  not_utf8 = λ u. true≢false (sym (is_utf8-from_IsUtf8 text u) ∙ bad);
                  behind_count = omega (arith, t.0.ends, length-append (varint (length text)) text);
                })
          ]
    ]

-- a blob fails as what is counted
blob_faults : (content : List ℕ) (d : FieldFault) → AreBytes content → blob_at content ≡ Err d → Fails (4 ∷ content) d
unfolding blob_at Fails
blob_faults content d fits e =
    let second : List ℕ × ℕ → Result (OwnedField × ℕ) FieldFault = λ c. Ok (Defined (Blob c.0), c.1) in
    elim (bind_err (counted_at content) second d e) [
      | inl content_fails ↦ counted_faults (4 ∷ content) content d (inr refl) (omega arith) fits content_fails
      | inr read ↦ absurd (not_both (Defined (Blob read.0.0), read.0.1) d read.2)
    ]

-- what a refusal says of the bytes
pub field_faults : (bytes : List ℕ) (d : FieldFault) → AreBytes bytes → field_at bytes ≡ Err d → FieldFails bytes d.kind d.place
unfolding Fails
field_faults [] d fits e = subst (Fails []) (err_is (fault Truncated 0) d (sym field_at-nil ∙ e)) (inl refl, refl)
field_faults (kind ∷ content) d fits e =
    elim (kind_cases kind) [
      | inl k0 ↦ absurd (not_both (Undefined, 1) d (sym (rw k0 (field_at-undefined content)) ∙ e))
      | inr (inl k1) ↦ rw k1 (integer_faults content d (sym (field_at-integer content) ∙ rw k1 at e))
      | inr (inr (inl k2)) ↦ subst (Fails (kind ∷ content)) (err_is (fault RealValue 0) d (sym (rw k2 (field_at-real content)) ∙ e)) (ap Some k2, refl)
      | inr (inr (inr (inl k3))) ↦ rw k3 (text_faults content d fits.1 (sym (field_at-text content) ∙ rw k3 at e))
      | inr (inr (inr (inr (inl k4)))) ↦ rw k4 (blob_faults content d fits.1 (sym (field_at-blob content) ∙ rw k4 at e))
      | inr (inr (inr (inr (inr (inl k5))))) ↦ absurd (not_both (Defined Null, 1) d (sym (rw k5 (field_at-null content)) ∙ e))
      | inr (inr (inr (inr (inr (inr other))))) ↦ subst (Fails (kind ∷ content)) (err_is (fault BadType 0) d (sym (field_at-other kind content other) ∙ e)) (record { kind = kind; rest = content; spelled = refl; no_type = other }, refl)
    ]
