-- A field that is read is a field, and it is spelled so.
use Rattle.std.proofs.Common.{◌≡◌, ℕ, ◌+◌, ◌-◌, ◌≤◌, cond, ltb, List, [], ◌∷◌, ◌++◌, length, take, drop, Ok, Err, refl, sym, ap, subst, ◌∙◌, append_assoc, arith, length-append, inl, inr}
use Rattle.std.specs.Str.{is_utf8}
use Rattle.std.proofs.lemmas.Bool.{ltb-false, cases_Bool}
use Rattle.std.proofs.lemmas.List.{take-append-drop, length-take}
use Rattle.std.proofs.lemmas.Str.{IsUtf8-from_is_utf8}
use Rattle.cs_value.specs.declared.TheConstants.{MAX_CONTENT_LEN}
use Rattle.cs_value.specs.declared.fault.FieldFaultKind.TheVariants.{Truncated, BadText, RealValue, BadType}
use Rattle.cs_value.specs.declared.value.OwnedValue.TheVariants.{Int, Text, Blob, Null}
use Rattle.cs_value.specs.declared.value.OwnedField.{OwnedField}
use Rattle.cs_value.specs.declared.value.OwnedField.TheVariants.{Undefined, Defined}
use Rattle.cs_value.specs.Value.{AreBytes, IsField}
use Rattle.cs_value.specs.Varint.{varint}
use Rattle.cs_value.specs.Spelling.{counted, value_bytes, field_bytes, BeginsWith}
use Rattle.cs_value.specs.Reading.{fault, behind_type, number_at, integer_at, counted_at, text_at, blob_at, field_at}
use Rattle.cs_value.proofs.Steps.{ok_is, not_both, bind_ok, guard_ok, behind_ok}
use Rattle.cs_value.proofs.ByteLists.{AreBytes-take, AreBytes-drop}
use Rattle.cs_value.proofs.Integers.{integer_bytes, integer_of, integer_of-fits, integer_bytes-integer_of}
use Rattle.cs_value.proofs.FieldKinds.{kind_cases, field_at-nil, field_at-undefined, field_at-integer, field_at-real, field_at-text, field_at-blob, field_at-null, field_at-other}
use Rattle.cs_value.proofs.VarintLemmas.{number_takes, BeginsWith-from_append}

-- after a type byte a reader took this text, which ends there, the type byte included
pub record Takes (content text : List ℕ) (end : ℕ) : Type 0 where
  pub rest : List ℕ
  pub whole : content ≡ text ++ rest
  pub ends : end ≡ 1 + length text

-- ---- counted bytes

-- content that a count can be of
pub record IsContent (text : List ℕ) : Type 0 where
  pub short : length text ≤ MAX_CONTENT_LEN
  pub are_bytes : AreBytes text

-- counted bytes that are read are spelled so
pub counted_takes : (content : List ℕ) (c : List ℕ × ℕ) → AreBytes content → counted_at content ≡ Ok c → Takes content (counted c.0) c.1 × IsContent c.0
unfolding counted_at counted
counted_takes content c fits e =
    let b = bind_ok (behind_type (number_at content)) (λ n. cond (ltb (length (drop n.1 content)) n.0) (Err (fault Truncated (1 + length content))) (Ok (take n.0 (drop n.1 content), 1 + n.1 + n.0))) c e in
    let n = b.0.0 in
    let used = b.0.1 in
    let behind = drop used content in
    let text = take n behind in
    let t = number_takes content n used fits (behind_ok (number_at content) b.0 b.1) in
    let g = guard_ok (ltb (length behind) n) (fault Truncated (1 + length content)) (text, 1 + used + n) c b.2 in
    let enough : n ≤ length behind = ltb-false (length behind) n g.0 in
    let len : length text ≡ n = omega (arith, length-take n behind) in
    let whole : content ≡ (varint n ++ text) ++ drop n behind = t.1.whole ∙ ap (λ (x : List ℕ). varint n ++ x) (sym (take-append-drop n behind)) ∙ sym (append_assoc (varint n) text (drop n behind)) in
    let taken : Takes content (varint (length text) ++ text) (1 + used + n) = record {
      rest = drop n behind;
      whole = whole ∙ ap (λ (k : ℕ). (varint k ++ text) ++ drop n behind) (sym len);
      ends = rw len (omega (arith, t.1.count, length-append (varint n) text));
    } in
    let good : IsContent text = record { short = omega (arith, t.0); are_bytes = AreBytes-take n behind (AreBytes-drop used content fits) } in
    subst (λ (x : List ℕ × ℕ). Takes content (varint (length x.0) ++ x.0) x.1 × IsContent x.0) g.1 (taken, good)

-- ---- fields

-- a field of a type byte and a text
begins : (kind : ℕ) (content text : List ℕ) (end : ℕ) → Takes content text end → BeginsWith (kind ∷ content) (kind ∷ text) end
begins kind content text end t = BeginsWith-from_append (kind ∷ content) (kind ∷ text) t.rest end (ap (λ (x : List ℕ). kind ∷ x) t.whole) (omega (arith, t.ends))

-- a field was found at the front
Found : List ℕ → OwnedField × ℕ → Type 0
Found bytes x = IsField x.0 × BeginsWith bytes (field_bytes x.0) x.1

-- an integer that is read is spelled so
integer_takes : (content : List ℕ) (x : OwnedField × ℕ) → AreBytes content → integer_at content ≡ Ok x → Found (1 ∷ content) x
unfolding integer_at field_bytes value_bytes Found
integer_takes content x fits e =
    let front = take 8 content in
    let g = guard_ok (ltb (length content) 8) (fault Truncated (1 + length content)) (Defined (Int (integer_of front)), 9) x e in
    let long : 8 ≤ length content = ltb-false (length content) 8 g.0 in
    let eight : length front ≡ 8 = omega (arith, length-take 8 content) in
    let bytes : AreBytes front = AreBytes-take 8 content fits in
    let spelled = integer_bytes-integer_of front eight bytes in
    subst (Found (1 ∷ content)) g.1 (integer_of-fits front bytes, begins 1 content (integer_bytes (integer_of front)) 9 (record { rest = drop 8 content; whole = sym (take-append-drop 8 content) ∙ ap (λ (t : List ℕ). t ++ drop 8 content) (sym spelled); ends = refl }))

-- a text that is read is spelled so
text_takes : (content : List ℕ) (x : OwnedField × ℕ) → AreBytes content → text_at content ≡ Ok x → Found (3 ∷ content) x
unfolding text_at field_bytes value_bytes Found
text_takes content x fits e =
    let b = bind_ok (counted_at content) (λ c. cond (is_utf8 c.0) (Ok (Defined (Text c.0), c.1)) (Err (fault BadText (c.1 - length c.0)))) x e in
    let t = counted_takes content b.0 fits b.1 in
    elim (cases_Bool (is_utf8 b.0.0)) [
      | inl good ↦
          let is : (Defined (Text b.0.0), b.0.1) ≡ x = ok_is _ x (sym (rw good refl) ∙ b.2) in
          subst (Found (3 ∷ content)) is ((IsUtf8-from_is_utf8 b.0.0 good, t.1.short), begins 3 content (counted b.0.0) b.0.1 t.0)
      | inr bad ↦ absurd (not_both x (fault BadText (b.0.1 - length b.0.0)) (sym b.2 ∙ rw bad refl))
    ]

-- a blob that is read is spelled so
blob_takes : (content : List ℕ) (x : OwnedField × ℕ) → AreBytes content → blob_at content ≡ Ok x → Found (4 ∷ content) x
unfolding blob_at field_bytes value_bytes Found
blob_takes content x fits e =
    let b = bind_ok (counted_at content) (λ c. Ok (Defined (Blob c.0), c.1)) x e in
    let t = counted_takes content b.0 fits b.1 in
    subst (Found (4 ∷ content)) (ok_is (Defined (Blob b.0.0), b.0.1) x b.2) ((t.1.are_bytes, t.1.short), begins 4 content (counted b.0.0) b.0.1 t.0)

-- what is read is a field, and is spelled so
pub field_takes : (bytes : List ℕ) (x : OwnedField × ℕ) → AreBytes bytes → field_at bytes ≡ Ok x → IsField x.0 × BeginsWith bytes (field_bytes x.0) x.1
unfolding Found field_bytes value_bytes
field_takes [] x fits e = absurd (not_both x (fault Truncated 0) (sym e ∙ field_at-nil))
field_takes (kind ∷ content) x fits e =
    elim (kind_cases kind) [
      | inl k0 ↦ subst (Found (kind ∷ content)) (ok_is (Undefined, 1) x (sym (rw k0 (field_at-undefined content)) ∙ e)) (tt, rw k0 (begins 0 content [] 1 (record { rest = content; whole = refl; ends = refl })))
      | inr (inl k1) ↦ rw k1 (integer_takes content x fits.1 (sym (field_at-integer content) ∙ rw k1 at e))
      | inr (inr (inl k2)) ↦ absurd (not_both x (fault RealValue 0) (sym e ∙ rw k2 (field_at-real content)))
      | inr (inr (inr (inl k3))) ↦ rw k3 (text_takes content x fits.1 (sym (field_at-text content) ∙ rw k3 at e))
      | inr (inr (inr (inr (inl k4)))) ↦ rw k4 (blob_takes content x fits.1 (sym (field_at-blob content) ∙ rw k4 at e))
      | inr (inr (inr (inr (inr (inl k5))))) ↦ subst (Found (kind ∷ content)) (ok_is (Defined Null, 1) x (sym (rw k5 (field_at-null content)) ∙ e)) (tt, rw k5 (begins 5 content [] 1 (record { rest = content; whole = refl; ends = refl })))
      | inr (inr (inr (inr (inr (inr other))))) ↦ absurd (not_both x (fault BadType 0) (sym e ∙ field_at-other kind content other))
    ]
