-- What is read of a part is spelled so, and what is spelled so is read again.
use Rattle.std.proofs.Common.{◌≡◌, ℕ, zero, suc, ◌+◌, ◌%◌, ◌<◌, ◌≤◌, ◌^◌, Bool, false, true, cond, ltb, List, [], ◌∷◌, ◌++◌, length, take, drop, Option, Some, None, Result, Ok, Err, refl, sym, ap, subst, ◌∙◌, append_assoc, arith, length-append}
use Rattle.std.specs.Int.{w64, to_be_bytes, from_be_bytes}
use Rattle.std.proofs.lemmas.Nat.{be_bytes_8, from_be_bytes-to_be_bytes_8}
use Rattle.cs_value.proofs.ByteLists.{each-from_AreBytes}
use Rattle.cs_apply_conflict_kinds.specs.declared.conflict.Kind.{Kind}
use Rattle.cs_apply_conflict_kinds.specs.declared.conflict.Kind.TheVariants.{Data, NotFound, Conflict, Constraint}
use Rattle.std.specs.Prelude.{IfSome, nat_lt, ◌==◌, if◌then◌else◌}
use Rattle.std.specs.List.{flat_map, AllByRecursion}
use Rattle.std.specs.Str.{is_utf8}
use Rattle.std.proofs.lemmas.Bool.{ltb-false, ltb-true, le-ltb, lt-ltb, cond-false, ne_eqb}
use Rattle.std.proofs.lemmas.List.{take-append-drop, length-take, take_at, drop_at}
use Rattle.std.proofs.lemmas.List.Concat.{flat_map-cons}
use Rattle.std.proofs.lemmas.Str.{IsUtf8-from_is_utf8, is_utf8-from_IsUtf8}
use Rattle.cs_value.specs.declared.TheConstants.{MAX_CONTENT_LEN}
use Rattle.cs_value.specs.declared.fault.FieldFault.{FieldFault}
use Rattle.cs_value.specs.declared.fault.FieldFaultKind.TheVariants.{Truncated, BadText}
use Rattle.cs_value.specs.declared.value.OwnedValue.{OwnedValue}
use Rattle.cs_value.specs.declared.value.OwnedField.{OwnedField}
use Rattle.cs_value.specs.declared.value.OwnedField.TheVariants.{Undefined, Defined}
use Rattle.cs_value.specs.Value.{AreBytes, IsValue}
use Rattle.cs_value.specs.Varint.{varint}
use Rattle.cs_value.specs.Spelling.{counted, value_bytes, field_bytes}
use Rattle.cs_value.specs.Reading.{number_at, field_at}
use Rattle.cs_value.proofs.ByteLists.{AreBytes-take, AreBytes-drop}
use Rattle.cs_value.proofs.VarintLemmas.{number_takes as varint_takes, number_again as varint_again}
use Rattle.cs_value.proofs.FieldTakes.{field_takes}
use Rattle.cs_value.proofs.FieldAgain.{field_again}
use Rattle.cs_apply_conflict_kinds.specs.declared.conflict.Choice.{Choice}
use Rattle.cs_apply_conflict_kinds.specs.declared.conflict.Choice.TheVariants.{Omit, Replace, Abort}
use Rattle.cs_apply_conflict_kinds.specs.declared.conflict.Noop.{Noop}
use Rattle.cs_apply_conflict_kinds.specs.declared.conflict.Noop.TheVariants.{Report, Ignore}
use Rattle.cs_apply_conflict_kinds.specs.Conflicts.{choice_number}
use Rattle.cs_apply_engine.specs.declared.policy.Policy.{Policy}
use Rattle.cs_calls_parts.specs.declared.fault.CallFaultKind.TheVariants.{Field, BadByte}
use Rattle.cs_calls_parts.specs.declared.fault.Misread.{Misread}
use Rattle.cs_calls_parts.specs.declared.lists.Column.{Column}
use Rattle.cs_calls_parts.specs.Spelling.{IsFile, IsText, IsList, IsColumn, list_bytes, row_bytes, option_bytes, wide_bytes, flag_bytes, kind_bytes, mark_of, column_bytes, choice_bytes, noop_bytes, policy_bytes}
use Rattle.cs_calls_parts.specs.Reading.{◌>>=◌, misread, number_after, number_of, counted_of, text_of, value_from, value_after, value_of, parts_at, list_of, row_of, byte_of, option_after, option_of, wide_of, flag_of, kind_from, kind_of, column_of, choice_of, noop_of, policy_of}
use Rattle.cs_calls_parts.proofs.Steps.{given, Takes, Takes-then, ok_is, not_value, bind_ok, guard_ok, wanted_ok}

-- a part that is read is one, and is spelled so; one that is spelled so is read
pub record IsCodec {X : Type 0} (Is : X → Type 0) (spelled : X → List ℕ) (read : List ℕ → Result (X × List ℕ) Misread) : Type 0 where
  pub takes : (bytes : List ℕ) (x : X) (rest : List ℕ) → AreBytes bytes → read bytes ≡ Ok (x, rest) → Takes bytes (spelled x) rest × Is x
  pub again : (x : X) (rest : List ℕ) → Is x → read (spelled x ++ rest) ≡ Ok (x, rest)

-- the parts of a step that gave a value
pub record Stepped {X Y : Type 0} (Is : X → Type 0) (spelled : X → List ℕ) (next : X × List ℕ → Result Y Misread) (bytes : List ℕ) (y : Y) : Type 0 where
  pub value : X
  pub rest : List ℕ
  pub takes : Takes bytes (spelled value) rest
  pub is : Is value
  pub goes_on : next (value, rest) ≡ Ok y

-- a step that gave a value read a part
pub step : {X Y : Type 0} (Is : X → Type 0) (spelled : X → List ℕ) (read : List ℕ → Result (X × List ℕ) Misread) → IsCodec Is spelled read
    → (next : X × List ℕ → Result Y Misread) (bytes : List ℕ) (y : Y) → AreBytes bytes → (read bytes >>= next) ≡ Ok y → Stepped Is spelled next bytes y
step Is spelled read codec next bytes y fits e =
    let b = bind_ok (read bytes) next y e in
    let t = codec.takes bytes b.0.0 b.0.1 fits b.1 in
    record { value = b.0.0; rest = b.0.1; takes = t.0; is = t.1; goes_on = b.2 }

-- ---- numbers

number_after-ok : (bytes : List ℕ) (read : _) (n : ℕ) (rest : List ℕ) → number_after bytes read ≡ Ok (n, rest) → (used : ℕ) × (read ≡ Ok (n, used)) × (rest ≡ drop used bytes)
unfolding number_after
number_after-ok bytes (Ok x) n rest e =
    let is : (x.0, drop x.1 bytes) ≡ (n, rest) = ok_is _ _ e in
    (x.1, ap (λ (p : ℕ × List ℕ). Ok (p.0, x.1)) is, sym (ap (λ (p : ℕ × List ℕ). p.1) is))
number_after-ok bytes (Err d) n rest e = absurd (not_value _ _ e)

pub codec_number : IsCodec (λ n. n ≤ MAX_CONTENT_LEN) varint number_of
unfolding number_of number_after
codec_number = record {
  takes = λ bytes n rest fits e.
      let a = number_after-ok bytes (number_at bytes) n rest e in
      let t = varint_takes bytes n a.0 fits a.1 in
      (record { parts = t.1.whole ∙ ap (λ (r : List ℕ). varint n ++ r) (sym a.2); are_bytes = rw a.2 (AreBytes-drop a.0 bytes fits) }, t.0);
  again = λ n rest le. rw (varint_again n rest le, drop_at (varint n) rest (length (varint n)) refl) refl;
}

-- ---- counted bytes

counted_again : (text rest : List ℕ) → length text ≤ MAX_CONTENT_LEN → counted_of (counted text ++ rest) ≡ Ok (text, rest)
unfolding counted_of counted
counted_again text rest le =
    let enough : ltb (length (text ++ rest)) (length text) ≡ false = le-ltb (length (text ++ rest)) (length text) (omega (arith, length-append text rest)) in
    rw (append_assoc (varint (length text)) text rest, codec_number.again (length text) (text ++ rest) le, enough, take_at text rest (length text) refl, drop_at text rest (length text) refl) refl

pub codec_counted : IsCodec IsFile counted counted_of
unfolding counted_of counted
codec_counted = record {
  takes = λ bytes text rest fits e.
      let s = step (λ n. n ≤ MAX_CONTENT_LEN) varint number_of codec_number (λ n. cond (ltb (length n.1) n.0) (Err (misread (Field Truncated) 0)) (Ok (take n.0 n.1, drop n.0 n.1))) bytes (text, rest) fits e in
      let g = guard_ok (ltb (length s.rest) s.value) (misread (Field Truncated) 0) (take s.value s.rest, drop s.value s.rest) (text, rest) s.goes_on in
      let enough : s.value ≤ length s.rest = ltb-false (length s.rest) s.value g.0 in
      let front = take s.value s.rest in
      let len : length front ≡ s.value = omega (arith, length-take s.value s.rest) in
      let second : Takes s.rest front (drop s.value s.rest) = record { parts = sym (take-append-drop s.value s.rest); are_bytes = AreBytes-drop s.value s.rest s.takes.are_bytes } in
      let both : Takes bytes (varint s.value ++ front) (drop s.value s.rest) = Takes-then bytes (varint s.value) s.rest front (drop s.value s.rest) s.takes second in
      let whole : Takes bytes (varint (length front) ++ front) (drop s.value s.rest) = subst (λ (n : ℕ). Takes bytes (varint n ++ front) (drop s.value s.rest)) (sym len) both in
      subst (λ (p : List ℕ × List ℕ). Takes bytes (varint (length p.0) ++ p.0) p.1 × IsFile p.0) g.1 (whole, (AreBytes-take s.value s.rest s.takes.are_bytes, omega (arith, s.is)));
  again = λ text rest is. counted_again text rest is.1;
}

-- ---- texts

pub codec_text : IsCodec IsText counted text_of
unfolding text_of
codec_text = record {
  takes = λ bytes text rest fits e.
      let s = step IsFile counted counted_of codec_counted (λ c. cond (is_utf8 c.0) (Ok (c.0, c.1)) (Err (misread (Field BadText) (length c.0 + length c.1)))) bytes (text, rest) fits e in
      let g = wanted_ok (is_utf8 s.value) (misread (Field BadText) (length s.value + length s.rest)) (s.value, s.rest) (text, rest) s.goes_on in
      subst (λ (p : List ℕ × List ℕ). Takes bytes (counted p.0) p.1 × IsText p.0) g.1 (s.takes, (IsUtf8-from_is_utf8 s.value g.0, s.is.1));
  again = λ text rest is. rw (counted_again text rest is.1, is_utf8-from_IsUtf8 text is.0) refl;
}

-- ---- values

value_from-ok : (bytes : List ℕ) (field : OwnedField) (used : ℕ) (value : OwnedValue) (rest : List ℕ) → value_from bytes field used ≡ Ok (value, rest)
    → (field ≡ Defined value) × (rest ≡ drop used bytes)
unfolding value_from
value_from-ok bytes Undefined used value rest e = absurd (not_value _ _ e)
value_from-ok bytes (Defined v) used value rest e =
    let is : (v, drop used bytes) ≡ (value, rest) = ok_is _ _ e in
    (ap (λ (p : OwnedValue × List ℕ). Defined p.0) is, sym (ap (λ (p : OwnedValue × List ℕ). p.1) is))

value_after-ok : (bytes : List ℕ) (read : Result (OwnedField × ℕ) FieldFault) (value : OwnedValue) (rest : List ℕ) → value_after bytes read ≡ Ok (value, rest)
    → (used : ℕ) × (read ≡ Ok (Defined value, used)) × (rest ≡ drop used bytes)
unfolding value_after value_from
value_after-ok bytes (Ok x) value rest e = let f = value_from-ok bytes x.0 x.1 value rest e in (x.1, ap (λ (field : OwnedField). Ok (field, x.1)) f.0, f.1)
value_after-ok bytes (Err d) value rest e = absurd (not_value _ _ e)

pub codec_value : IsCodec IsValue value_bytes value_of
unfolding value_of value_after value_from field_bytes value_bytes
codec_value = record {
  takes = λ bytes value rest fits e.
      let a = value_after-ok bytes (field_at bytes) value rest e in
      let t = field_takes bytes (Defined value, a.0) fits a.1 in
      (record { parts = t.1.whole ∙ ap (λ (r : List ℕ). value_bytes value ++ r) (sym a.2); are_bytes = rw a.2 (AreBytes-drop a.0 bytes fits) }, t.0);
  again = λ value rest is. rw (field_again (Defined value) rest is, drop_at (value_bytes value) rest (length (value_bytes value)) refl) refl;
}

-- ---- lists

parts_take : {X : Type 0} (Is : X → Type 0) (spelled : X → List ℕ) (read : List ℕ → Result (X × List ℕ) Misread) → IsCodec Is spelled read
    → (count : ℕ) (bytes : List ℕ) (parts : List X) (rest : List ℕ) → AreBytes bytes → parts_at read count bytes ≡ Ok (parts, rest)
    → Takes bytes (flat_map spelled parts) rest × (length parts ≡ count) × AllByRecursion Is parts
unfolding parts_at
parts_take Is spelled read codec zero bytes parts rest fits e =
    given (λ (p : List _ × List ℕ). Takes bytes (flat_map spelled p.0) p.1 × (length p.0 ≡ 0) × AllByRecursion Is p.0) ([], bytes) (parts, rest) e (record { parts = refl; are_bytes = fits }, refl, tt)
parts_take Is spelled read codec (suc count) bytes parts rest fits e =
    let a = step Is spelled read codec (λ first. parts_at read count first.1 >>= λ others. Ok (first.0 ∷ others.0, others.1)) bytes (parts, rest) fits e in
    let b = bind_ok (parts_at read count a.rest) (λ others. Ok (a.value ∷ others.0, others.1)) (parts, rest) a.goes_on in
    let t = parts_take Is spelled read codec count a.rest b.0.0 b.0.1 a.takes.are_bytes b.1 in
    given (λ (p : List _ × List ℕ). Takes bytes (flat_map spelled p.0) p.1 × (length p.0 ≡ suc count) × AllByRecursion Is p.0) (a.value ∷ b.0.0, b.0.1) (parts, rest) b.2
    (rw (flat_map-cons spelled a.value b.0.0) (Takes-then bytes (spelled a.value) a.rest (flat_map spelled b.0.0) b.0.1 a.takes t.0), ap suc t.1, (a.is, t.2))

parts_again : {X : Type 0} (Is : X → Type 0) (spelled : X → List ℕ) (read : List ℕ → Result (X × List ℕ) Misread) → IsCodec Is spelled read
    → (parts : List X) (rest : List ℕ) → AllByRecursion Is parts → parts_at read (length parts) (flat_map spelled parts ++ rest) ≡ Ok (parts, rest)
unfolding parts_at
parts_again Is spelled read codec [] rest are = refl
parts_again Is spelled read codec (part ∷ parts) rest are =
    rw (flat_map-cons spelled part parts, append_assoc (spelled part) (flat_map spelled parts) rest, codec.again part (flat_map spelled parts ++ rest) are.0, parts_again Is spelled read codec parts rest are.1) refl

pub codec_list : {X : Type 0} (Is : X → Type 0) (spelled : X → List ℕ) (read : List ℕ → Result (X × List ℕ) Misread) → IsCodec Is spelled read
    → IsCodec (IsList Is) (list_bytes spelled) (list_of read)
unfolding list_of list_bytes
codec_list Is spelled read codec = record {
  takes = λ bytes parts rest fits e.
      let a = step (λ n. n ≤ MAX_CONTENT_LEN) varint number_of codec_number (λ count. parts_at read count.0 count.1) bytes (parts, rest) fits e in
      let t = parts_take Is spelled read codec a.value a.rest parts rest a.takes.are_bytes a.goes_on in
      (rw t.1 (Takes-then bytes (varint a.value) a.rest (flat_map spelled parts) rest a.takes t.0), record { few = rw t.1 a.is; are_parts = t.2 });
  again = λ parts rest is.
      rw (append_assoc (varint (length parts)) (flat_map spelled parts) rest, codec_number.again (length parts) (flat_map spelled parts ++ rest) is.few) (parts_again Is spelled read codec parts rest is.are_parts);
}

pub codec_row : IsCodec (IsList IsValue) row_bytes row_of
codec_row = codec_list IsValue value_bytes value_of codec_value

-- ---- bytes below a limit

byte_takes : (limit : ℕ) (bytes : List ℕ) (b : ℕ) (rest : List ℕ) → AreBytes bytes → byte_of limit bytes ≡ Ok (b, rest) → Takes bytes (b ∷ []) rest × (b < limit)
unfolding byte_of
byte_takes limit [] b rest fits e = absurd (not_value _ _ e)
byte_takes limit (first ∷ others) b rest fits e =
    let g = wanted_ok (ltb first limit) (misread BadByte (length (first ∷ others))) (first, others) (b, rest) e in
    subst (λ (p : ℕ × List ℕ). Takes (first ∷ others) (p.0 ∷ []) p.1 × (p.0 < limit)) g.1 (record { parts = refl; are_bytes = fits.1 }, ltb-true first limit g.0)

byte_again : (limit b : ℕ) (rest : List ℕ) → b < limit → byte_of limit ((b ∷ []) ++ rest) ≡ Ok (b, rest)
unfolding byte_of
byte_again limit b rest lt = rw (lt-ltb b limit lt) refl

pub codec_byte : (limit : ℕ) → IsCodec (λ b. b < limit) (λ b. b ∷ []) (byte_of limit)
codec_byte limit = record { takes = byte_takes limit; again = byte_again limit }

-- nothing is asked of a part
abbrev pub Always : {X : Type 0} → X → Type 0
Always x = Unit {0}

-- ---- a part or none

option_marked : {X : Type 0} (Is : X → Type 0) (spelled : X → List ℕ) (read : List ℕ → Result (X × List ℕ) Misread) → IsCodec Is spelled read
    → (bytes : List ℕ) (mark : ℕ) (behind : List ℕ) (o : Option X) (rest : List ℕ) → Takes bytes (mark ∷ []) behind → mark < 2
    → option_after read mark behind ≡ Ok (o, rest) → Takes bytes (option_bytes spelled o) rest × IfSome o Is
unfolding option_after option_bytes
option_marked Is spelled read codec bytes zero behind o rest t lt e =
    given (λ (p : Option _ × List ℕ). Takes bytes (option_bytes spelled p.0) p.1 × IfSome p.0 Is) (None, behind) (o, rest) e (t, tt)
option_marked Is spelled read codec bytes (suc zero) behind o rest t lt e =
    let s = step Is spelled read codec (λ part. Ok (Some part.0, part.1)) behind (o, rest) t.are_bytes e in
    given (λ (p : Option _ × List ℕ). Takes bytes (option_bytes spelled p.0) p.1 × IfSome p.0 Is) (Some s.value, s.rest) (o, rest) s.goes_on
    (Takes-then bytes (1 ∷ []) behind (spelled s.value) s.rest t s.takes, s.is)
option_marked Is spelled read codec bytes (suc (suc mark)) behind o rest t lt e = absurd (omega arith)

option_takes : {X : Type 0} (Is : X → Type 0) (spelled : X → List ℕ) (read : List ℕ → Result (X × List ℕ) Misread) → IsCodec Is spelled read
    → (bytes : List ℕ) (o : Option X) (rest : List ℕ) → AreBytes bytes → option_of read bytes ≡ Ok (o, rest) → Takes bytes (option_bytes spelled o) rest × IfSome o Is
unfolding option_of
option_takes Is spelled read codec bytes o rest fits e =
    let s = step (λ b. b < 2) (λ b. b ∷ []) (byte_of 2) (codec_byte 2) (λ mark. option_after read mark.0 mark.1) bytes (o, rest) fits e in
    option_marked Is spelled read codec bytes s.value s.rest o rest s.takes s.is s.goes_on

option_again : {X : Type 0} (Is : X → Type 0) (spelled : X → List ℕ) (read : List ℕ → Result (X × List ℕ) Misread) → IsCodec Is spelled read
    → (o : Option X) (rest : List ℕ) → IfSome o Is → option_of read (option_bytes spelled o ++ rest) ≡ Ok (o, rest)
unfolding option_of option_after option_bytes byte_of
option_again Is spelled read codec None rest is = refl
option_again Is spelled read codec (Some part) rest is = rw (codec.again part rest is) refl

pub codec_option : {X : Type 0} (Is : X → Type 0) (spelled : X → List ℕ) (read : List ℕ → Result (X × List ℕ) Misread) → IsCodec Is spelled read
    → IsCodec (λ o. IfSome o Is) (option_bytes spelled) (option_of read)
codec_option Is spelled read codec = record { takes = option_takes Is spelled read codec; again = option_again Is spelled read codec }

-- ---- numbers of 64 bits

wide_again : (n : ℕ) (rest : List ℕ) → n < 2 ^ 64 → wide_of (wide_bytes n ++ rest) ≡ Ok (n, rest)
unfolding wide_of
wide_again n rest lt =
    let bytes = wide_bytes n ++ rest in
    let long : ltb (length bytes) 8 ≡ false = le-ltb (length bytes) 8 (omega arith) in
    cond-false (ltb (length bytes) 8) _ (Ok (from_be_bytes w64 (wide_bytes n), rest)) long ∙ ap (λ (y : ℕ). Ok (y, rest)) (from_be_bytes-to_be_bytes_8 n lt)

pub codec_wide : IsCodec (λ n. n < 2 ^ 64) wide_bytes wide_of
unfolding wide_of
codec_wide = record {
  takes = λ bytes n rest fits e.
      let front = take 8 bytes in
      let g = guard_ok (ltb (length bytes) 8) (misread (Field Truncated) 0) (from_be_bytes w64 front, drop 8 bytes) (n, rest) e in
      let long : 8 ≤ length bytes = ltb-false (length bytes) 8 g.0 in
      let eight : length front ≡ 8 = omega (arith, length-take 8 bytes) in
      let at = each-from_AreBytes front (AreBytes-take 8 bytes fits) in
      let back : to_be_bytes w64 (from_be_bytes w64 front) ≡ front = be_bytes_8 front (from_be_bytes w64 front) eight at refl in
      let below : from_be_bytes w64 front < 2 ^ 64 = omega (arith, at 0, at 1, at 2, at 3, at 4, at 5, at 6, at 7) in
      let taken : Takes bytes (wide_bytes (from_be_bytes w64 front)) (drop 8 bytes) = record { parts = sym (take-append-drop 8 bytes) ∙ ap (λ (text : List ℕ). text ++ drop 8 bytes) (sym back); are_bytes = AreBytes-drop 8 bytes fits } in
      subst (λ (p : ℕ × List ℕ). Takes bytes (wide_bytes p.0) p.1 × (p.0 < 2 ^ 64)) g.1 (taken, below);
  again = wide_again;
}

-- ---- yes and no

flag_marked : (bytes : List ℕ) (number : ℕ) (rest : List ℕ) → Takes bytes (number ∷ []) rest → number < 2 → Takes bytes (flag_bytes (number == 1)) rest
unfolding flag_bytes
flag_marked bytes zero rest t lt = t
flag_marked bytes (suc zero) rest t lt = t
flag_marked bytes (suc (suc number)) rest t lt = absurd (omega arith)

flag_takes : (bytes : List ℕ) (flag : Bool) (rest : List ℕ) → AreBytes bytes → flag_of bytes ≡ Ok (flag, rest) → Takes bytes (flag_bytes flag) rest × Always flag
unfolding flag_of
flag_takes bytes flag rest fits e =
    let s = step (λ b. b < 2) (λ b. b ∷ []) (byte_of 2) (codec_byte 2) (λ number. Ok (number.0 == 1, number.1)) bytes (flag, rest) fits e in
    given (λ (p : Bool × List ℕ). Takes bytes (flag_bytes p.0) p.1 × Always p.0) (s.value == 1, s.rest) (flag, rest) s.goes_on (flag_marked bytes s.value s.rest s.takes s.is, tt)

flag_again : (flag : Bool) (rest : List ℕ) → Always flag → flag_of (flag_bytes flag ++ rest) ≡ Ok (flag, rest)
unfolding flag_of flag_bytes byte_of
flag_again false rest is = refl
flag_again true rest is = refl

pub codec_flag : IsCodec Always flag_bytes flag_of
codec_flag = record { takes = flag_takes; again = flag_again }

-- ---- kinds of conflicts

kind_from-other : (number : ℕ) (rest : List ℕ) → 4 < number → kind_from number rest ≡ Err (misread BadByte (1 + length rest))
unfolding kind_from
kind_from-other number rest lt = rw (ne_eqb number 1 (omega arith), ne_eqb number 2 (omega arith), ne_eqb number 3 (omega arith), ne_eqb number 4 (omega arith)) refl

kind_takes : (bytes : List ℕ) (kind : Kind) (rest : List ℕ) → AreBytes bytes → kind_of bytes ≡ Ok (kind, rest) → Takes bytes (kind_bytes kind) rest × Always kind
unfolding kind_of kind_from kind_bytes
kind_takes [] kind rest fits e = absurd (not_value _ _ e)
kind_takes (zero ∷ bytes) kind rest fits e = absurd (not_value _ _ e)
kind_takes (suc zero ∷ bytes) kind rest fits e =
    given (λ (p : Kind × List ℕ). Takes (1 ∷ bytes) (kind_bytes p.0) p.1 × Always p.0) (Data, bytes) (kind, rest) e (record { parts = refl; are_bytes = fits.1 }, tt)
kind_takes (suc (suc zero) ∷ bytes) kind rest fits e =
    given (λ (p : Kind × List ℕ). Takes (2 ∷ bytes) (kind_bytes p.0) p.1 × Always p.0) (NotFound, bytes) (kind, rest) e (record { parts = refl; are_bytes = fits.1 }, tt)
kind_takes (suc (suc (suc zero)) ∷ bytes) kind rest fits e =
    given (λ (p : Kind × List ℕ). Takes (3 ∷ bytes) (kind_bytes p.0) p.1 × Always p.0) (Conflict, bytes) (kind, rest) e (record { parts = refl; are_bytes = fits.1 }, tt)
kind_takes (suc (suc (suc (suc zero))) ∷ bytes) kind rest fits e =
    given (λ (p : Kind × List ℕ). Takes (4 ∷ bytes) (kind_bytes p.0) p.1 × Always p.0) (Constraint, bytes) (kind, rest) e (record { parts = refl; are_bytes = fits.1 }, tt)
kind_takes (suc (suc (suc (suc (suc number)))) ∷ bytes) kind rest fits e = absurd (not_value (kind, rest) (misread BadByte (1 + length bytes)) (sym (kind_from-other (suc (suc (suc (suc (suc number))))) bytes (omega arith)) ∙ e))

kind_again : (kind : Kind) (rest : List ℕ) → Always kind → kind_of (kind_bytes kind ++ rest) ≡ Ok (kind, rest)
unfolding kind_of kind_from kind_bytes
kind_again Data rest is = refl
kind_again NotFound rest is = refl
kind_again Conflict rest is = refl
kind_again Constraint rest is = refl

pub codec_kind : IsCodec Always kind_bytes kind_of
codec_kind = record { takes = kind_takes; again = kind_again }

-- ---- columns

marked_column : (mark : ℕ) → mark < 4 → mark_of (mark % 2 == 1) (nat_lt 1 mark) ≡ mark
unfolding mark_of
marked_column zero lt = refl
marked_column (suc zero) lt = refl
marked_column (suc (suc zero)) lt = refl
marked_column (suc (suc (suc zero))) lt = refl
marked_column (suc (suc (suc (suc mark)))) lt = absurd (omega arith)

column_takes : (bytes : List ℕ) (column : Column) (rest : List ℕ) → AreBytes bytes → column_of bytes ≡ Ok (column, rest) → Takes bytes (column_bytes column) rest × IsColumn column
unfolding column_of column_bytes
column_takes bytes column rest fits e =
    let s = step IsText counted text_of codec_text (λ name. byte_of 4 name.1 >>= λ mark. Ok (record { name = name.0; is_key = mark.0 % 2 == 1; refuses_null = nat_lt 1 mark.0 }, mark.1)) bytes (column, rest) fits e in
    let t = step (λ b. b < 4) (λ b. b ∷ []) (byte_of 4) (codec_byte 4) (λ mark. Ok (record { name = s.value; is_key = mark.0 % 2 == 1; refuses_null = nat_lt 1 mark.0 }, mark.1)) s.rest (column, rest) s.takes.are_bytes s.goes_on in
    let made : Column = record { name = s.value; is_key = t.value % 2 == 1; refuses_null = nat_lt 1 t.value } in
    let both = Takes-then bytes (counted s.value) s.rest (t.value ∷ []) t.rest s.takes t.takes in
    given (λ (p : Column × List ℕ). Takes bytes (column_bytes p.0) p.1 × IsColumn p.0) (made, t.rest) (column, rest) t.goes_on (rw (marked_column t.value t.is) both, s.is)

column_marked_again : (name : List ℕ) (is_key refuses : Bool) (rest : List ℕ) → IsText name
    → column_of (column_bytes (record { name = name; is_key = is_key; refuses_null = refuses }) ++ rest) ≡ Ok (record { name = name; is_key = is_key; refuses_null = refuses }, rest)
unfolding column_of column_bytes mark_of byte_of
column_marked_again name false false rest is = rw (append_assoc (counted name) (0 ∷ []) rest, codec_text.again name (0 ∷ rest) is) refl
column_marked_again name true false rest is = rw (append_assoc (counted name) (1 ∷ []) rest, codec_text.again name (1 ∷ rest) is) refl
column_marked_again name false true rest is = rw (append_assoc (counted name) (2 ∷ []) rest, codec_text.again name (2 ∷ rest) is) refl
column_marked_again name true true rest is = rw (append_assoc (counted name) (3 ∷ []) rest, codec_text.again name (3 ∷ rest) is) refl

pub codec_column : IsCodec IsColumn column_bytes column_of
codec_column = record { takes = column_takes; again = λ column rest is. column_marked_again column.name column.is_key column.refuses_null rest is }

-- ---- choices

numbered_choice : (number : ℕ) → number < 3 → choice_number (if number == 0 then Omit else if number == 1 then Replace else Abort) ≡ number
numbered_choice zero lt = refl
numbered_choice (suc zero) lt = refl
numbered_choice (suc (suc zero)) lt = refl
numbered_choice (suc (suc (suc number))) lt = absurd (omega arith)

choice_takes : (bytes : List ℕ) (choice : Choice) (rest : List ℕ) → AreBytes bytes → choice_of bytes ≡ Ok (choice, rest) → Takes bytes (choice_bytes choice) rest × Always choice
unfolding choice_of choice_bytes
choice_takes bytes choice rest fits e =
    let s = step (λ b. b < 3) (λ b. b ∷ []) (byte_of 3) (codec_byte 3) (λ number. Ok (if number.0 == 0 then Omit else if number.0 == 1 then Replace else Abort, number.1)) bytes (choice, rest) fits e in
    given (λ (p : Choice × List ℕ). Takes bytes (choice_bytes p.0) p.1 × Always p.0) (if s.value == 0 then Omit else if s.value == 1 then Replace else Abort, s.rest) (choice, rest) s.goes_on
    (rw (numbered_choice s.value s.is) s.takes, tt)

choice_again : (choice : Choice) (rest : List ℕ) → Always choice → choice_of (choice_bytes choice ++ rest) ≡ Ok (choice, rest)
unfolding choice_of choice_bytes byte_of
choice_again Omit rest is = refl
choice_again Replace rest is = refl
choice_again Abort rest is = refl

pub codec_choice : IsCodec Always choice_bytes choice_of
codec_choice = record { takes = choice_takes; again = choice_again }

noop_marked : (bytes : List ℕ) (number : ℕ) (rest : List ℕ) → Takes bytes (number ∷ []) rest → number < 2 → Takes bytes (noop_bytes (if number == 0 then Report else Ignore)) rest
unfolding noop_bytes
noop_marked bytes zero rest t lt = t
noop_marked bytes (suc zero) rest t lt = t
noop_marked bytes (suc (suc number)) rest t lt = absurd (omega arith)

noop_takes : (bytes : List ℕ) (noop : Noop) (rest : List ℕ) → AreBytes bytes → noop_of bytes ≡ Ok (noop, rest) → Takes bytes (noop_bytes noop) rest × Always noop
unfolding noop_of
noop_takes bytes noop rest fits e =
    let s = step (λ b. b < 2) (λ b. b ∷ []) (byte_of 2) (codec_byte 2) (λ number. Ok (if number.0 == 0 then Report else Ignore, number.1)) bytes (noop, rest) fits e in
    given (λ (p : Noop × List ℕ). Takes bytes (noop_bytes p.0) p.1 × Always p.0) (if s.value == 0 then Report else Ignore, s.rest) (noop, rest) s.goes_on
    (noop_marked bytes s.value s.rest s.takes s.is, tt)

noop_again : (noop : Noop) (rest : List ℕ) → Always noop → noop_of (noop_bytes noop ++ rest) ≡ Ok (noop, rest)
unfolding noop_of noop_bytes byte_of
noop_again Report rest is = refl
noop_again Ignore rest is = refl

pub codec_noop : IsCodec Always noop_bytes noop_of
codec_noop = record { takes = noop_takes; again = noop_again }

-- ---- policies

abbrev policy_with : Choice → Choice → Choice → Choice → Policy
policy_with on_data on_notfound on_conflict on_constraint = record {
  on_data = on_data;
  on_notfound = on_notfound;
  on_conflict = on_conflict;
  on_constraint = on_constraint;
}

policy_takes : (bytes : List ℕ) (policy : Policy) (rest : List ℕ) → AreBytes bytes → policy_of bytes ≡ Ok (policy, rest) → Takes bytes (policy_bytes policy) rest × Always policy
unfolding policy_of policy_bytes
policy_takes bytes policy rest fits e =
    let a = step Always choice_bytes choice_of codec_choice (λ a. choice_of a.1 >>= λ b. choice_of b.1 >>= λ c. choice_of c.1 >>= λ d. Ok (policy_with a.0 b.0 c.0 d.0, d.1)) bytes (policy, rest) fits e in
    let b = step Always choice_bytes choice_of codec_choice (λ b. choice_of b.1 >>= λ c. choice_of c.1 >>= λ d. Ok (policy_with a.value b.0 c.0 d.0, d.1)) a.rest (policy, rest) a.takes.are_bytes a.goes_on in
    let c = step Always choice_bytes choice_of codec_choice (λ c. choice_of c.1 >>= λ d. Ok (policy_with a.value b.value c.0 d.0, d.1)) b.rest (policy, rest) b.takes.are_bytes b.goes_on in
    let d = step Always choice_bytes choice_of codec_choice (λ d. Ok (policy_with a.value b.value c.value d.0, d.1)) c.rest (policy, rest) c.takes.are_bytes c.goes_on in
    let ab = Takes-then bytes (choice_bytes a.value) a.rest (choice_bytes b.value) b.rest a.takes b.takes in
    let abc = Takes-then bytes (choice_bytes a.value ++ choice_bytes b.value) b.rest (choice_bytes c.value) c.rest ab c.takes in
    let abcd = Takes-then bytes (choice_bytes a.value ++ choice_bytes b.value ++ choice_bytes c.value) c.rest (choice_bytes d.value) d.rest abc d.takes in
    given (λ (p : Policy × List ℕ). Takes bytes (policy_bytes p.0) p.1 × Always p.0) (policy_with a.value b.value c.value d.value, d.rest) (policy, rest) d.goes_on (abcd, tt)

-- after each of the four choices the others are read
policy_again : (policy : Policy) (rest : List ℕ) → Always policy → policy_of (policy_bytes policy ++ rest) ≡ Ok (policy, rest)
unfolding policy_of policy_bytes
policy_again policy rest is =
    let a = choice_bytes policy.on_data in
    let b = choice_bytes policy.on_notfound in
    let c = choice_bytes policy.on_conflict in
    let d = choice_bytes policy.on_constraint in
    let regrouped : policy_bytes policy ++ rest ≡ a ++ (b ++ (c ++ (d ++ rest))) = append_assoc (a ++ b ++ c) d rest ∙ append_assoc (a ++ b) c (d ++ rest) ∙ append_assoc a b (c ++ (d ++ rest)) in
    ap policy_of regrouped ∙ rw (codec_choice.again policy.on_data (b ++ (c ++ (d ++ rest))) tt, codec_choice.again policy.on_notfound (c ++ (d ++ rest)) tt, codec_choice.again policy.on_conflict (d ++ rest) tt, codec_choice.again policy.on_constraint rest tt) refl

pub codec_policy : IsCodec Always policy_bytes policy_of
codec_policy = record { takes = policy_takes; again = policy_again }
