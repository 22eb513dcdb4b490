-- A token that is spelled is read, whatever follows it.
use Rattle.std.proofs.Common.{◌≡◌, ℕ, ◌==◌, ◌<◌, ◌≤◌, ◌+◌, ◌*◌, ◌%◌, List, [], ◌∷◌, ◌++◌, length, map, Bool, true, false, not, ◌&&◌, ◌||◌, leb, cond, Option, Some, None, Result, Ok, Err, codes, refl, sym, ap, subst, ◌∙◌, append_assoc, arith, inl, inr}
use Rattle.std.specs.List.{AllByRecursion, find, list_any}
use Rattle.std.specs.Str.{is_utf8, IsAscii, bytes_eq, str_to_ascii_lowercase, str_eq_ignore_ascii_case}
use Rattle.std.specs.Int.{w64}
use Rattle.std.specs.Char.{digit_value, to_ascii_lowercase}
use Rattle.std.proofs.lemmas.Slice.Eq.{bytes_eq-Decides}
use Rattle.std.proofs.lemmas.Str.Ascii.{IsAscii-nil, IsAscii-cons}
use Rattle.std.proofs.lemmas.Str.Parse.{digit_from_value}
use Rattle.std.proofs.lemmas.Bool.Decides.{nat_tests}
use Rattle.std.specs.Str.Parse.{AllDigits, IsNumeral, signed_digits_value, without_leading_sign, without_leading_plus}
use Rattle.std.proofs.lemmas.Bool.{not-true, cond-true, cond-false, cases_Bool, eqb-true, eq-eqb, false_from_ne_true, and_from, and_left, and_parts, and_right, not_from_false, or_parts, le-leb, both_ways, false≢true, or_cases, or_from, or_left, or_right}
use Rattle.std.proofs.lemmas.Str.{IsUtf8-from_ascii, is_utf8-from_IsUtf8}
use Rattle.hex.specs.Hex.{decode_of, decode_pairs, pair_value, value_at, ◌>>=◌}
use Rattle.hex.specs.declared.error.FromHexError.TheVariants.{InvalidHexCharacter, OddLength}
use Rattle.hex.specs.declared.error.FromHexError.{FromHexError}
use Rattle.cs_value.specs.declared.TheConstants.{MAX_CONTENT_LEN}
use Rattle.cs_value.specs.declared.value.OwnedValue.TheVariants.{Int, Text, Blob, Null}
use Rattle.cs_value.specs.Quoting.{doubled}
use Rattle.cs_shell_tokens.specs.declared.symbol.Symbol.{Symbol}
use Rattle.cs_shell_tokens.specs.declared.symbol.Symbol.TheVariants as symbol
use Rattle.cs_shell_tokens.specs.Tokens.{begins, is_blank, is_digit, is_word_byte, symbol_text, is_keyword, is_sign, AreBlanks, Token, Fixed, Name, Value, IsWord, IsQuoted, IsInteger, IsBlob, Spells}
use Rattle.cs_shell_tokens.specs.Reading.{behind, piece_of, behind_piece, onto_text, unquoted, Taken, Ended, Refused, token_or_refused, keywords, keyword_of, named, word_of, is_integer, integer_of, token_of_piece, piece_at, name_from, text_from, blob_from, blob_of, blob_at, sign_at, token_at, next_at}
use Rattle.std.specs.Prelude.{ℤ, FitsSigned, drop}
use Rattle.std.proofs.lemmas.List.{append-nil}
use Rattle.cs_shell_tokens.proofs.PartLemmas.{front_is, behind_is, unquoted-quote, unquoted-second, unquoted-byte, unquoted-end}
use Rattle.cs_shell_tokens.proofs.IntegerLemmas.{is_integer_from}
use Rattle.cs_shell_tokens.proofs.TokenTakes.{keywords_then_null}

-- ---- quoted texts, blobs and signs

-- a quoted text is read, whatever follows it
unquoted_again : (quote : ℕ) (text rest : List ℕ) → begins (λ b. b == quote) rest ≡ false → unquoted quote false (doubled quote text ++ quote ∷ rest) ≡ Some (record { text = text; rest = rest })
unfolding doubled
unquoted_again quote [] rest e = unquoted-quote quote quote rest (eq-eqb quote quote refl) ∙ unquoted-end quote rest e
unquoted_again quote (b ∷ text) rest e = elim (cases_Bool (b == quote)) [
  | inl h ↦ rw h (
      unquoted-quote quote quote (quote ∷ doubled quote text ++ quote ∷ rest) (eq-eqb quote quote refl)
      ∙ unquoted-second quote quote (doubled quote text ++ quote ∷ rest) (eq-eqb quote quote refl)
      ∙ ap (onto_text (quote ∷ [])) (unquoted_again quote text rest e)
      ∙ ap (λ c. Some (record { text = c ∷ text; rest = rest })) (sym (eqb-true b quote h)))
  | inr h ↦ rw h (unquoted-byte quote b (doubled quote text ++ quote ∷ rest) h ∙ ap (onto_text (b ∷ [])) (unquoted_again quote text rest e))
]

quoted_again : (quote : ℕ) (text bytes rest : List ℕ) → IsQuoted quote text bytes rest → (bytes ++ rest ≡ quote ∷ doubled quote text ++ quote ∷ rest) × (unquoted quote false (doubled quote text ++ quote ∷ rest) ≡ Some (record { text = text; rest = rest }))
quoted_again quote text bytes rest q = (
  ap (λ l. l ++ rest) q.spelled ∙ ap (λ l. quote ∷ l) (append_assoc (doubled quote text) (quote ∷ []) rest),
  unquoted_again quote text rest q.longest,
)

name_again : (text bytes rest : List ℕ) → IsQuoted 34 text bytes rest → token_at (bytes ++ rest) ≡ Taken (Name text) rest
unfolding token_at name_from
name_again text bytes rest q =
    let a = quoted_again 34 text bytes rest q in
    ap token_at a.0 ∙ ap name_from a.1 ∙ cond-true (is_utf8 text) (Taken (Name text) rest) Refused (is_utf8-from_IsUtf8 text q.is_text)

text_again : (text bytes rest : List ℕ) → IsQuoted 39 text bytes rest → length text ≤ MAX_CONTENT_LEN → token_at (bytes ++ rest) ≡ Taken (Value (Text text)) rest
unfolding token_at text_from
text_again text bytes rest q short =
    let a = quoted_again 39 text bytes rest q in
    ap token_at a.0 ∙ ap text_from a.1
    ∙ cond-true (is_utf8 text && leb (length text) MAX_CONTENT_LEN) (Taken (Value (Text text)) rest) Refused (and_from _ _ (is_utf8-from_IsUtf8 text q.is_text) (le-leb (length text) MAX_CONTENT_LEN short))

-- the digits of a blob are no quotes
digit_no_quote : (c i : ℕ) (v : ℕ) → value_at c i ≡ Ok v → not (c == 39) ≡ true
digit_no_quote c i v e = elim (cases_Bool (c == 39)) [
  | inl h ↦ let bad : Err (InvalidHexCharacter 39 i) ≡ Ok v = subst (λ (d : ℕ). value_at d i ≡ Ok v) (eqb-true c 39 h) e in cc
  | inr h ↦ not_from_false (c == 39) h
]

bind_parts : {A B : Type 0} (r : Result A FromHexError) (f : A → Result B FromHexError) (y : B) → (r >>= f) ≡ Ok y → (x : A) × (r ≡ Ok x) × (f x ≡ Ok y)
bind_parts (Ok x) f y e = (x, refl, e)
bind_parts (Err x) f y e = cc

pairs_no_quote : (i : ℕ) (digits blob : List ℕ) → decode_pairs i digits ≡ Ok blob → AllByRecursion (λ c. not (c == 39) ≡ true) digits
unfolding decode_pairs
pairs_no_quote i [] blob e = tt
pairs_no_quote i (c ∷ []) blob e = cc
pairs_no_quote i (high ∷ low ∷ digits) blob e =
    let p = bind_parts (pair_value high low i) (λ byte. decode_pairs (i + 2) digits >>= (λ bytes. Ok (byte ∷ bytes))) blob e in
    let a = bind_parts (value_at high i) (λ h. value_at low (i + 1) >>= (λ l. Ok (h * 16 + l))) p.0 p.1 in
    let b = bind_parts (value_at low (i + 1)) (λ l. Ok (a.0 * 16 + l)) p.0 a.2 in
    let q = bind_parts (decode_pairs (i + 2) digits) (λ bytes. Ok (p.0 ∷ bytes)) blob p.2 in
    (digit_no_quote high i a.0 a.1, (digit_no_quote low (i + 1) b.0 b.1, pairs_no_quote (i + 2) digits q.0 q.1))

blob_no_quote : (digits blob : List ℕ) → decode_of digits ≡ Ok blob → AllByRecursion (λ c. not (c == 39) ≡ true) digits
blob_no_quote digits blob e = elim (cases_Bool (length digits % 2 == 1)) [
  | inl h ↦ let bad : Err OddLength ≡ Ok blob = sym (cond-true (length digits % 2 == 1) (Err OddLength) (decode_pairs 0 digits) h) ∙ e in cc
  | inr h ↦ pairs_no_quote 0 digits blob (sym (cond-false (length digits % 2 == 1) (Err OddLength) (decode_pairs 0 digits) h) ∙ e)
]

blob_at_again : (digits blob rest : List ℕ) → decode_of digits ≡ Ok blob → length blob ≤ MAX_CONTENT_LEN → blob_at (39 ∷ digits ++ 39 ∷ rest) ≡ Taken (Value (Blob blob)) rest
unfolding blob_at blob_of blob_from
blob_at_again digits blob rest e short =
    let p = λ (c : ℕ). not (c == 39) in
    let no_quote = blob_no_quote digits blob e in
    ap (λ d. blob_of d (behind p (digits ++ 39 ∷ rest))) (front_is p digits (39 ∷ rest) no_quote refl) ∙ ap (blob_of digits) (behind_is p digits (39 ∷ rest) no_quote refl)
    ∙ ap (λ r. blob_from r rest) e ∙ cond-true (leb (length blob) MAX_CONTENT_LEN) (Taken (Value (Blob blob)) rest) Refused (le-leb (length blob) MAX_CONTENT_LEN short)

blob_again : (blob bytes rest : List ℕ) → IsBlob blob bytes → length blob ≤ MAX_CONTENT_LEN → token_at (bytes ++ rest) ≡ Taken (Value (Blob blob)) rest
unfolding token_at
blob_again blob bytes rest b short = elim b.spelled [
  | inl e ↦ ap token_at (ap (λ l. l ++ rest) e ∙ ap (λ l. 88 ∷ 39 ∷ l) (append_assoc b.digits (39 ∷ []) rest)) ∙ blob_at_again b.digits blob rest b.decoded short
  | inr e ↦ ap token_at (ap (λ l. l ++ rest) e ∙ ap (λ l. 120 ∷ 39 ∷ l) (append_assoc b.digits (39 ∷ []) rest)) ∙ blob_at_again b.digits blob rest b.decoded short
]

-- signs
sign_again : (s : Symbol) (rest : List ℕ) → is_sign s ≡ true → token_at (symbol_text s ++ rest) ≡ Taken (Fixed s) rest
unfolding token_at sign_at
sign_again symbol.Open rest e = refl
sign_again symbol.Close rest e = refl
sign_again symbol.Comma rest e = refl
sign_again symbol.Semicolon rest e = refl
sign_again symbol.Equals rest e = refl
sign_again symbol.Star rest e = refl
sign_again _ rest e = absurd (false≢true e)

-- ---- words and integers that are spelled are read

-- a byte that passes is none that does not
is_other : (p : ℕ → Bool) (b k : ℕ) → p b ≡ true → p k ≡ false → (b == k) ≡ false
is_other p b k h e = false_from_ne_true (b == k) (λ same. both_ways (p k) e (subst (λ (c : ℕ). p c ≡ true) (eqb-true b k same) h))

word_byte_ascii : (b : ℕ) → is_word_byte b ≡ true → b < 128
word_byte_ascii b h = grind (arith, nat_tests)

word_byte_lower : (b : ℕ) → is_word_byte b ≡ true → is_word_byte (to_ascii_lowercase b) ≡ true
word_byte_lower b h = grind (arith, nat_tests)

digit_word_byte : (b : ℕ) → is_digit b ≡ true → is_word_byte b ≡ true
digit_word_byte b h = grind (arith, nat_tests)

digit_tested : (b : ℕ) → digit_value b < 10 → is_digit b ≡ true
digit_tested b h = let r = digit_from_value b h in and_from (leb 48 b) (leb b 57) (le-leb 48 b r.0) (le-leb b 57 r.1)

word_ascii : (bytes : List ℕ) → AllByRecursion (λ b. is_word_byte b ≡ true) bytes → IsAscii bytes
word_ascii [] h = IsAscii-nil
word_ascii (b ∷ bytes) h = IsAscii-cons b bytes (word_byte_ascii b h.0) (word_ascii bytes h.1)

digits_word : (bytes : List ℕ) → AllDigits 10 bytes → AllByRecursion (λ b. is_word_byte b ≡ true) bytes
digits_word [] h = tt
digits_word (b ∷ bytes) h = (digit_word_byte b (digit_tested b h.0), digits_word bytes h.1)

-- a piece comes first
piece_here : (b : ℕ) (more rest : List ℕ) → b < 128 → AllByRecursion (λ b. is_word_byte b ≡ true) more → begins is_word_byte rest ≡ false
    → piece_at (b ∷ more ++ rest) ≡ token_or_refused (token_of_piece (b ∷ more)) rest
unfolding piece_at piece_of behind_piece
piece_here b more rest ascii h e =
    ap (λ w. cond (is_utf8 (b ∷ w)) (token_or_refused (token_of_piece (b ∷ w)) (behind is_word_byte (more ++ rest))) Refused) (front_is is_word_byte more rest h e)
    ∙ cond-true (is_utf8 (b ∷ more)) (token_or_refused (token_of_piece (b ∷ more)) (behind is_word_byte (more ++ rest))) Refused
    (is_utf8-from_IsUtf8 (b ∷ more) (IsUtf8-from_ascii (b ∷ more) (IsAscii-cons b more ascii (word_ascii more h))))
    ∙ ap (token_or_refused (token_of_piece (b ∷ more))) (behind_is is_word_byte more rest h e)

piece_first : (b : ℕ) (bytes : List ℕ) → (b == 34) ≡ false → (b == 39) ≡ false → (((b == 88) || (b == 120)) && begins (λ b. b == 39) bytes) ≡ false → (is_word_byte b || (b == 45)) ≡ true
    → token_at (b ∷ bytes) ≡ piece_at (b ∷ bytes)
unfolding token_at
piece_first b bytes no_name no_text no_blob start = cond-false (b == 34) _ _ no_name ∙ cond-false (b == 39) _ _ no_text ∙ cond-false _ _ _ no_blob ∙ cond-true _ _ _ start

-- integers
integer_piece_again : (number : ℤ) (b : ℕ) (more rest : List ℕ) → (is_digit b || (b == 45)) ≡ true → AllDigits 10 more → IsInteger number (b ∷ more) rest
    → token_at (b ∷ more ++ rest) ≡ Taken (Value (Int number)) rest
unfolding token_of_piece integer_of
integer_piece_again number b more rest h digits i =
    let p = λ (c : ℕ). is_digit c || (c == 45) in
    let start : (is_word_byte b || (b == 45)) ≡ true = elim (or_cases (is_digit b) (b == 45) h) [
      | inl d ↦ or_left (is_word_byte b) (b == 45) (digit_word_byte b d)
      | inr m ↦ or_right (is_word_byte b) (b == 45) m
    ] in
    let ascii : b < 128 = elim (or_cases (is_digit b) (b == 45) h) [
      | inl d ↦ word_byte_ascii b (digit_word_byte b d)
      | inr m ↦ omega (arith, eqb-true b 45 m)
    ] in
    let no_x : ((b == 88) || (b == 120)) ≡ false = or_from (b == 88) (b == 120) (is_other p b 88 h refl) (is_other p b 120 h refl) in
    piece_first b (more ++ rest) (is_other p b 34 h refl) (is_other p b 39 h refl) (and_left _ _ no_x) start
    ∙ piece_here b more rest ascii (digits_word more digits) i.longest
    ∙ ap (λ t. token_or_refused t rest) (
    cond-true (is_digit b || (b == 45)) (integer_of (b ∷ more)) (Some (word_of (b ∷ more))) h
    ∙ cond-true (is_integer (b ∷ more)) (Some (Value (Int (signed_digits_value 10 (b ∷ more))))) None (is_integer_from (b ∷ more) i.digits (subst (FitsSigned w64) i.number_is i.within))
    ∙ ap (λ (z : ℤ). Some (Value (Int z))) (sym i.number_is))

-- the sign of an integer, and its digits
signed_parts : (b : ℕ) (more : List ℕ) → (b == 43) ≡ false → IsNumeral 10 (without_leading_sign (b ∷ more)) → ((is_digit b || (b == 45)) ≡ true) × AllDigits 10 more
signed_parts b more no_plus n = elim (cases_Bool (b == 45)) [
  | inl m ↦ (or_right (is_digit b) (b == 45) m, (subst (IsNumeral 10) (cond-true (b == 45) more (without_leading_plus (b ∷ more)) m) n).1)
  | inr m ↦
      let plain : without_leading_sign (b ∷ more) ≡ b ∷ more = cond-false (b == 45) more (without_leading_plus (b ∷ more)) m ∙ ap (λ t. drop (cond t 1 0) (b ∷ more)) no_plus in
      let d = (subst (IsNumeral 10) plain n).1 in
      (or_left (is_digit b) (b == 45) (digit_tested b d.0), d.1)
]

integer_again : (number : ℤ) (bytes rest : List ℕ) → IsInteger number bytes rest → token_at (bytes ++ rest) ≡ Taken (Value (Int number)) rest
integer_again number [] rest i = absurd (omega (arith, i.digits.0))
integer_again number (b ∷ more) rest i = let p = signed_parts b more i.no_plus i.digits in integer_piece_again number b more rest p.0 p.1 i

-- words
x_word : (b : ℕ) → ((b == 88) || (b == 120)) ≡ true → str_eq_ignore_ascii_case (b ∷ []) (codes "X") ≡ true
x_word b h = elim (or_cases (b == 88) (b == 120) h) [
  | inl e ↦ rw (eqb-true b 88 e) refl
  | inr e ↦ rw (eqb-true b 120 e) refl
]

no_blob_here : (b : ℕ) (more rest : List ℕ) → IsWord (b ∷ more) rest → (((b == 88) || (b == 120)) && begins (λ b. b == 39) (more ++ rest)) ≡ false
no_blob_here b (c ∷ more) rest w = and_right _ _ (is_other is_word_byte c 39 w.each.1.0 refl)
no_blob_here b [] rest w = elim (cases_Bool ((b == 88) || (b == 120))) [
  | inl x ↦ and_right _ _ (w.no_blob (x_word b x))
  | inr x ↦ and_left _ _ x
]

word_again : (bytes rest : List ℕ) → IsWord bytes rest → token_at (bytes ++ rest) ≡ Taken (word_of bytes) rest
unfolding token_of_piece
word_again [] rest w = absurd (false≢true w.first)
word_again (b ∷ more) rest w =
    let l = and_parts (is_word_byte b) (not (is_digit b)) w.first in
    piece_first b (more ++ rest) (is_other is_word_byte b 34 l.0 refl) (is_other is_word_byte b 39 l.0 refl) (no_blob_here b more rest w) (or_left (is_word_byte b) (b == 45) l.0)
    ∙ piece_here b more rest (word_byte_ascii b l.0) w.each.1 w.longest
    ∙ ap (λ t. token_or_refused t rest) (cond-false (is_digit b || (b == 45)) (integer_of (b ∷ more)) (Some (word_of (b ∷ more))) (or_from (is_digit b) (b == 45) (not-true (is_digit b) l.1) (is_other is_word_byte b 45 l.0 refl)))

-- which keyword a word is depends on its lower case
by_lower : List ℕ → Option Symbol
by_lower lower = find (λ s. bytes_eq lower (str_to_ascii_lowercase (symbol_text s))) keywords

bytes_eq_true : (a b : List ℕ) → bytes_eq a b ≡ true → a ≡ b
bytes_eq_true a b h = (bytes_eq-Decides a b).0 h

lower_same : (a b : List ℕ) → str_eq_ignore_ascii_case a b ≡ true → str_to_ascii_lowercase a ≡ str_to_ascii_lowercase b
lower_same a b h = bytes_eq_true (str_to_ascii_lowercase a) (str_to_ascii_lowercase b) h

keyword_by_lower : (a b : List ℕ) → str_eq_ignore_ascii_case a b ≡ true → keyword_of a ≡ keyword_of b
unfolding keyword_of by_lower
keyword_by_lower a b h = ap by_lower (lower_same a b h)

keyword_itself : (s : Symbol) → is_sign s ≡ false → keyword_of (symbol_text s) ≡ Some s
unfolding keyword_of
keyword_itself symbol.Open e = absurd (false≢true (sym e))
keyword_itself symbol.Close e = absurd (false≢true (sym e))
keyword_itself symbol.Comma e = absurd (false≢true (sym e))
keyword_itself symbol.Semicolon e = absurd (false≢true (sym e))
keyword_itself symbol.Equals e = absurd (false≢true (sym e))
keyword_itself symbol.Star e = absurd (false≢true (sym e))
keyword_itself _ e = refl

sign_lower : (s : Symbol) → begins is_word_byte (str_to_ascii_lowercase (symbol_text s)) ≡ true → is_sign s ≡ false
sign_lower symbol.Open e = absurd (false≢true e)
sign_lower symbol.Close e = absurd (false≢true e)
sign_lower symbol.Comma e = absurd (false≢true e)
sign_lower symbol.Semicolon e = absurd (false≢true e)
sign_lower symbol.Equals e = absurd (false≢true e)
sign_lower symbol.Star e = absurd (false≢true e)
sign_lower _ e = refl

-- a word is no sign
word_no_sign : (bytes rest : List ℕ) (s : Symbol) → IsWord bytes rest → str_eq_ignore_ascii_case bytes (symbol_text s) ≡ true → is_sign s ≡ false
word_no_sign [] rest s w h = absurd (false≢true w.first)
word_no_sign (b ∷ more) rest s w h =
    let lower : begins is_word_byte (str_to_ascii_lowercase (symbol_text s)) ≡ true =
    ap (begins is_word_byte) (sym (lower_same (b ∷ more) (symbol_text s) h)) ∙ word_byte_lower b (and_parts (is_word_byte b) _ w.first).0 in
    sign_lower s lower

word_fixed : (bytes rest : List ℕ) (s : Symbol) → IsWord bytes rest → str_eq_ignore_ascii_case bytes (symbol_text s) ≡ true → word_of bytes ≡ Fixed s
unfolding word_of
word_fixed bytes rest s w h = ap (named bytes) (keyword_by_lower bytes (symbol_text s) h ∙ keyword_itself s (word_no_sign bytes rest s w h))

null_no_keyword : keyword_of (codes "NULL") ≡ None
unfolding keyword_of
null_no_keyword = refl

word_null : (bytes : List ℕ) → str_eq_ignore_ascii_case bytes (codes "NULL") ≡ true → word_of bytes ≡ Value Null
unfolding word_of
word_null bytes h = ap (named bytes) (keyword_by_lower bytes (codes "NULL") h ∙ null_no_keyword) ∙ cond-true _ (Value Null) (Name bytes) h

any_fails : (word : List ℕ) (symbols : List Symbol) (more : List (List ℕ)) → list_any (str_eq_ignore_ascii_case word) (map symbol_text symbols ++ more) ≡ false
    → (find (λ s. str_eq_ignore_ascii_case word (symbol_text s)) symbols ≡ None) × (list_any (str_eq_ignore_ascii_case word) more ≡ false)
any_fails word [] more e = (refl, e)
any_fails word (s ∷ symbols) more e =
    let p = or_parts (str_eq_ignore_ascii_case word (symbol_text s)) _ e in
    let r = any_fails word symbols more p.1 in
    (cond-false (str_eq_ignore_ascii_case word (symbol_text s)) (Some s) _ p.0 ∙ r.0, r.1)

word_name : (bytes : List ℕ) → is_keyword bytes ≡ false → word_of bytes ≡ Name bytes
unfolding word_of keyword_of
word_name bytes h =
    let p = any_fails bytes keywords (codes "NULL" ∷ []) (ap (list_any (str_eq_ignore_ascii_case bytes)) keywords_then_null ∙ h) in
    ap (named bytes) p.0 ∙ cond-false _ (Value Null) (Name bytes) (or_parts (str_eq_ignore_ascii_case bytes (codes "NULL")) false p.1).0

-- ---- a line

spells_again : (token : Token) (bytes rest : List ℕ) → Spells token bytes rest → token_at (bytes ++ rest) ≡ Taken token rest
spells_again (Fixed s) bytes rest h = elim h [
  | inl (sign, e) ↦ ap (λ l. token_at (l ++ rest)) e ∙ sign_again s rest sign
  | inr (w, e) ↦ word_again bytes rest w ∙ ap (λ t. Taken t rest) (word_fixed bytes rest s w e)
]
spells_again (Name name) bytes rest h = elim h [
  | inl (w, k, e) ↦ word_again bytes rest w ∙ ap (λ t. Taken t rest) (word_name bytes k ∙ ap Name e)
  | inr q ↦ name_again name bytes rest q
]
spells_again (Value (Int number)) bytes rest h = integer_again number bytes rest h
spells_again (Value (Text text)) bytes rest h = text_again text bytes rest h.0 h.1
spells_again (Value (Blob blob)) bytes rest h = blob_again blob bytes rest h.0 h.1
spells_again (Value Null) bytes rest h = word_again bytes rest h.0 ∙ ap (λ t. Taken t rest) (word_null bytes h.1)

-- no token begins with a blank
blank_refused : (line : List ℕ) → begins is_blank line ≡ true → token_at line ≡ Refused
unfolding token_at sign_at
blank_refused [] h = absurd (false≢true h)
blank_refused (b ∷ bytes) h = elim (or_cases ((b == 32) || (b == 9)) (b == 13) h) [
  | inl e ↦ elim (or_cases (b == 32) (b == 9) e) [
    | inl f ↦ rw (eqb-true b 32 f) refl
    | inr f ↦ rw (eqb-true b 9 f) refl
  ]
  | inr f ↦ rw (eqb-true b 13 f) refl
]

taken_no_blank : (line : List ℕ) (token : Token) (rest : List ℕ) → token_at line ≡ Taken token rest → begins is_blank line ≡ false
taken_no_blank line token rest e = false_from_ne_true (begins is_blank line) (λ h. let bad : Refused ≡ Taken token rest = sym (blank_refused line h) ∙ e in cc)

pub next_again : (line blanks bytes rest : List ℕ) (token : Token) → line ≡ (blanks ++ bytes) ++ rest → AreBlanks blanks → Spells token bytes rest → next_at line ≡ Taken token rest
unfolding next_at
next_again line blanks bytes rest token is are spelled =
    let e = spells_again token bytes rest spelled in
    ap (λ l. token_at (behind is_blank l)) (is ∙ append_assoc blanks bytes rest) ∙ ap token_at (behind_is is_blank blanks (bytes ++ rest) are (taken_no_blank (bytes ++ rest) token rest e)) ∙ e

pub next_none : (line : List ℕ) → AreBlanks line → next_at line ≡ Ended
unfolding next_at token_at
next_none line are = ap (λ l. token_at (behind is_blank l)) (sym (append-nil line)) ∙ ap token_at (behind_is is_blank line [] are refl)
