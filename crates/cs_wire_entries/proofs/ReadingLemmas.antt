-- The parts of a file, one after another.
use Rattle.std.proofs.Common.{◌≡◌, ℕ, ◌+◌, ◌<◌, ◌≤◌, List, [], ◌∷◌, ◌++◌, length, take, drop, get_or, Any, refl, sym, ap, ◌∙◌, append_assoc, arith, length-append, inl, inr, ◌≢◌, add-zero}
use Rattle.std.specs.Prelude.{IsUtf8}
use Rattle.std.specs.List.{AllByRecursion}
use Rattle.std.proofs.lemmas.Bool.{cases_order}
use Rattle.std.proofs.lemmas.List.{length-drop, length-take, drop-drop, append_cancel_left, take_at, take-append-drop, get_or-drop, get_or-take, get_or_default, get_or_at, get_or_append_left, drop_more}
use Rattle.std.proofs.lemmas.List.Elements.{recursion_from_All, All-from_recursion}
use Rattle.cs_value.specs.declared.TheConstants.{MAX_CONTENT_LEN}
use Rattle.cs_value.specs.Value.{AreBytes}
use Rattle.cs_value.specs.Varint.{varint}
use Rattle.cs_value.specs.Spelling.{BeginsWith}
use Rattle.cs_value.specs.Table.{IsFlags}
use Rattle.cs_value.specs.Table.{IsName}
use Rattle.cs_wire_entries.specs.Changeset.{HeaderData, flags_bytes, header_bytes}
use Rattle.cs_wire_entries.specs.ReadFaults.{Stands}

-- one text and then another
pub Stands-then : (file : List ℕ) (a b c : ℕ) (s t : List ℕ) → Stands file a s b → Stands file b t c → Stands file a (s ++ t) c
Stands-then file a b c s t p q = record {
  spelled = p.spelled ∙ ap (λ (x : List ℕ). s ++ x) q.spelled ∙ sym (append_assoc s t (drop c file));
  within = q.within;
}

-- what is read from a place on
pub Stands-read : (file : List ℕ) (at used : ℕ) (text : List ℕ) → at ≤ length file → BeginsWith (drop at file) text used → Stands file at text (at + used)
Stands-read file at used text le h = record {
  spelled = h.whole ∙ ap (λ (x : List ℕ). text ++ x) (drop-drop used at file);
  within = omega (arith, ap length h.whole, length-append text (drop used (drop at file)), h.count, length-drop at file);
}

-- what follows a text is what follows it
pub rest_is : (file : List ℕ) (a b : ℕ) (s rest : List ℕ) → Stands file a s b → drop a file ≡ s ++ rest → drop b file ≡ rest
rest_is file a b s rest p e = append_cancel_left s (drop b file) rest (sym p.spelled ∙ e)

-- a part of what is left
pub Stands-take : (file : List ℕ) (at n : ℕ) → at + n ≤ length file → Stands file at (take n (drop at file)) (at + n)
Stands-take file at n le = record {
  spelled = sym (take-append-drop n (drop at file)) ∙ ap (λ (x : List ℕ). take n (drop at file) ++ x) (drop-drop n at file);
  within = le;
}

-- the parts of a list of bytes are bytes
pub AreBytes-part : (file : List ℕ) (at n : ℕ) → ((i : ℕ) → get_or file i 0 < 256) → AreBytes (take n (drop at file))
AreBytes-part file at n fits = recursion_from_All (λ b. b < 256) (take n (drop at file)) (λ k d lt.
    let short : k < n = omega (arith, length-take n (drop at file)) in
    rw (get_or_default (take n (drop at file)) k d 0 lt, get_or-take n (drop at file) k 0 short, get_or-drop) (fits (at + k)))

-- ---- flags

pub flags_some : (flags : List ℕ) → IsFlags flags → 0 < length flags
flags_some flags h = omega (arith, h.some_key.2)

-- the count and what it counts
pub flags_bytes-append : (flags rest : List ℕ) → flags_bytes flags ++ rest ≡ varint (length flags) ++ (flags ++ rest)
unfolding flags_bytes
flags_bytes-append flags rest = append_assoc (varint (length flags)) flags rest

-- if there are flags, their count is read, and they come after it
pub flags_counted : (file : List ℕ) (at start count : ℕ) → Stands file at (varint count) start
    → ((n : ℕ) (rest : List ℕ) → n ≤ MAX_CONTENT_LEN → drop at file ≡ varint n ++ rest → count ≡ n)
    → (flags rest : List ℕ) → IsFlags flags → drop at file ≡ flags_bytes flags ++ rest → (count ≡ length flags) × (drop start file ≡ flags ++ rest)
flags_counted file at start count found only flags rest h e =
    let spelled = e ∙ flags_bytes-append flags rest in
    let same : count ≡ length flags = only (length flags) (flags ++ rest) (omega (arith, h.few)) spelled in
    (same, rest_is file at start (varint (length flags)) (flags ++ rest) (rw (← same) found) spelled)

-- flags that were read, and that they are those in the file
pub IsFlags-read : (file : List ℕ) (start count : ℕ) → ((i : ℕ) → get_or file i 0 < 256) → count ≤ 32767
    → Any (λ flag. 0 < flag) (take count (drop start file)) → IsFlags (take count (drop start file))
IsFlags-read file start count fits few key = record {
  bytes = AreBytes-part file start count fits;
  few = omega (arith, length-take count (drop start file));
  some_key = key;
}

-- as many as were counted
pub flags_taken : (count : ℕ) (left flags rest : List ℕ) → count ≡ length flags → left ≡ flags ++ rest → take count left ≡ flags
flags_taken count left flags rest same e = rw (same, e) (take_at flags rest (length flags) refl)

pub Stands-flags : (file : List ℕ) (at start count : ℕ) (flags : List ℕ) → Stands file at (varint count) start → start + count ≤ length file
    → flags ≡ take count (drop start file) → Stands file at (flags_bytes flags) (start + count)
unfolding flags_bytes
Stands-flags file at start count flags head le same =
    let len : length flags ≡ count = omega (arith, ap length same, length-take count (drop start file), length-drop start file) in
    rw (len, same) (Stands-then file at start (start + count) (varint count) (take count (drop start file)) head (Stands-take file start count le))

-- ---- names

-- the first zero byte is the one after the name
pub name_ended : (left name rest : List ℕ) (n : ℕ) → IsName name → left ≡ name ++ 0 ∷ rest → n < length left → get_or left n 0 ≡ 0
    → ((k : ℕ) → k < n → get_or left k 0 ≡ 0 → ⊥) → n ≡ length name
name_ended left name rest n h e within at_end before =
    let end : get_or left (length name) 0 ≡ 0 = rw e (get_or_at name 0 rest 0 (length name) refl) in
    elim (cases_order n (length name)) [
      | inl same ↦ same
      | inr (inl lt) ↦ absurd (All-from_recursion (λ b. b ≢ 0) name h.no_zero n 0 lt (sym (rw e (get_or_append_left name (0 ∷ rest) 0 n lt)) ∙ at_end))
      | inr (inr gt) ↦ absurd (before (length name) gt end)
    ]

-- a name comes before a zero byte
pub name_has_end : (left name rest : List ℕ) → left ≡ name ++ 0 ∷ rest → (length name < length left) × (get_or left (length name) 0 ≡ 0)
name_has_end left name rest e = (omega (arith, ap length e, length-append name (0 ∷ rest)), rw e (get_or_at name 0 rest 0 (length name) refl))

-- before the first zero byte is none
pub no_zero_before : (left : List ℕ) (n : ℕ) → ((k : ℕ) → k < n → get_or left k 0 ≡ 0 → ⊥) → AllByRecursion (λ b. b ≢ 0) (take n left)
no_zero_before left n before = recursion_from_All (λ b. b ≢ 0) (take n left) (λ k d lt at_end.
    let short : k < n = omega (arith, length-take n left) in
    before k short (sym (get_or_default (take n left) k d 0 lt ∙ get_or-take n left k 0 short) ∙ at_end))

-- what was read of a name before the first zero byte
pub IsName-read : (left : List ℕ) (n : ℕ) → n < length left → ((k : ℕ) → k < n → get_or left k 0 ≡ 0 → ⊥) → IsUtf8 (take n left) → 0 < length (take n left) → IsName (take n left)
IsName-read left n within before text some = record { some = some; text = text; no_zero = no_zero_before left n before }

-- the text and the byte after it
pub Stands-ended : (file : List ℕ) (at n : ℕ) → n < length (drop at file) → get_or (drop at file) n 0 ≡ 0 → Stands file at (take n (drop at file) ++ 0 ∷ []) (at + n + 1)
Stands-ended file at n within at_end =
    let step = drop_more (drop at file) n 0 within in
    let behind : drop n (drop at file) ≡ 0 ∷ drop (at + n + 1) file = step ∙ ap (λ (b : ℕ). b ∷ drop (n + 1) (drop at file)) at_end ∙ ap (λ (x : List ℕ). 0 ∷ x) (drop-drop (n + 1) at file ∙ ap (λ (k : ℕ). drop k file) (omega arith)) in
    record {
      spelled = sym (take-append-drop n (drop at file)) ∙ ap (λ (x : List ℕ). take n (drop at file) ++ x) behind ∙ sym (append_assoc (take n (drop at file)) (0 ∷ []) (drop (at + n + 1) file));
      within = omega (arith, length-drop at file);
    }

-- the text before the first zero byte is the name
pub name_taken : (left name rest : List ℕ) (n : ℕ) → IsName name → left ≡ name ++ 0 ∷ rest → n < length left → get_or left n 0 ≡ 0
    → ((k : ℕ) → k < n → get_or left k 0 ≡ 0 → ⊥) → take n left ≡ name
name_taken left name rest n h e within at_end before = rw (name_ended left name rest n h e within at_end before, e) (take_at name (0 ∷ rest) (length name) refl)

-- what follows a byte is what follows it
pub behind_byte : (file : List ℕ) (a b x y : ℕ) (tail : List ℕ) → Stands file a (x ∷ []) b → x ≡ y → drop a file ≡ y ∷ tail → drop b file ≡ tail
behind_byte file a b x y tail h same e = rest_is file a b (y ∷ []) tail (rw (← same) h) e

-- ---- headers

-- the byte at a place, and what follows it
pub first_byte : (file : List ℕ) (at y : ℕ) (tail : List ℕ) → at < length file → drop at file ≡ y ∷ tail → get_or file at 0 ≡ y
first_byte file at y tail lt e = sym (ap (λ (n : ℕ). get_or file n 0) (add-zero at)) ∙ sym (get_or-drop at file 0 0) ∙ ap (λ (x : List ℕ). get_or x 0 0) e

pub Stands-byte : (file : List ℕ) (at : ℕ) → at < length file → Stands file at (get_or file at 0 ∷ []) (at + 1)
Stands-byte file at lt = record { spelled = drop_more file at 0 lt; within = omega arith }

pub header_bytes-append : (header : HeaderData) (rest : List ℕ) → header_bytes header ++ rest ≡ 0x54 ∷ (flags_bytes header.flags ++ (header.name ++ 0 ∷ rest))
unfolding header_bytes
header_bytes-append header rest = ap (λ (x : List ℕ). 0x54 ∷ x) (append_assoc (flags_bytes header.flags) (header.name ++ 0 ∷ []) rest ∙ ap (λ (x : List ℕ). flags_bytes header.flags ++ x) (append_assoc header.name (0 ∷ []) rest))

pub Stands-header : (file : List ℕ) (at a b c : ℕ) (header : HeaderData) → Stands file at (0x54 ∷ []) a → Stands file a (flags_bytes header.flags) b → Stands file b (header.name ++ 0 ∷ []) c
    → Stands file at (header_bytes header) c
unfolding header_bytes
Stands-header file at a b c header first flags name = Stands-then file at a c (0x54 ∷ []) _ first (Stands-then file a b c _ _ flags name)

pub same_header : (name flags : List ℕ) (header : HeaderData) → name ≡ header.name → flags ≡ header.flags
    → ◌≡◌ {A = HeaderData} (record { name = name; flags = flags }) header
same_header name flags header p q = λ i. record { name = p i; flags = q i }

-- a text that has a byte ends after the place where it begins
pub Stands-moves : (file : List ℕ) (a b : ℕ) (s : List ℕ) → Stands file a s b → 0 < length s → a < length file → a < b
Stands-moves file a b s h some le = omega (arith, ap length h.spelled, length-append s (drop b file), length-drop a file, length-drop b file, h.within)
