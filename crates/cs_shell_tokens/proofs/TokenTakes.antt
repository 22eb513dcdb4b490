-- A token that is read is spelled so in the line, and makes the line shorter.
use Rattle.std.proofs.Common.{◌≡◌, ℕ, ◌==◌, ◌<◌, List, [], ◌∷◌, ◌++◌, length, map, Bool, true, false, not, ◌&&◌, ◌||◌, leb, Option, Some, None, Result, Ok, Err, codes, refl, sym, ap, subst, ◌∙◌, append_assoc, length-append, arith, inl, inr, ◌⊎◌}
use Rattle.std.specs.List.{find, list_any}
use Rattle.std.specs.Str.{is_utf8, str_eq_ignore_ascii_case}
use Rattle.std.specs.Char.{to_ascii_lowercase}
use Rattle.std.proofs.lemmas.Bool.Decides.{nat_tests}
use Rattle.std.proofs.lemmas.Bool.{not-false, cond-true, cond-false, cases_Bool, eqb-true, eq-eqb, false_from_ne_true, and_from, and_parts, and_right, and_cases, not_from_false, or_parts, leb-true, both_ways, false≢true, or_cases}
use Rattle.std.proofs.lemmas.Str.{IsUtf8-from_is_utf8}
use Rattle.hex.specs.Hex.{decode_of}
use Rattle.hex.specs.declared.error.FromHexError.{FromHexError}
use Rattle.cs_value.specs.declared.TheConstants.{MAX_CONTENT_LEN}
use Rattle.cs_value.specs.declared.value.OwnedValue.TheVariants.{Int, Text, Blob, Null}
use Rattle.cs_value.specs.Quoting.{doubled, quoted}
use Rattle.cs_shell_tokens.specs.declared.symbol.Symbol.{Symbol}
use Rattle.cs_shell_tokens.specs.declared.symbol.Symbol.TheVariants as symbol
use Rattle.cs_shell_tokens.specs.Tokens.{begins, is_blank, is_digit, is_word_byte, symbol_text, Token, Fixed, Name, Value, IsWord, IsQuoted, IsInteger, IsBlob, Spells}
use Rattle.cs_shell_tokens.specs.Reading.{front_of, behind, piece_of, behind_piece, Unquoted, onto_text, unquoted, Next, Taken, Ended, Refused, token_or_refused, keywords, keyword_of, named, word_of, is_integer, integer_of, token_of_piece, piece_at, name_from, text_from, blob_from, blob_of, blob_at, sign_at, token_at, next_at}
use Rattle.std.specs.Prelude.{ℤ}
use Rattle.cs_shell_tokens.proofs.PartLemmas.{front_behind, front_passes, behind_fails}
use Rattle.cs_shell_tokens.proofs.IntegerLemmas.{from_is_integer}

-- the line begins with bytes that spell the token, and the rest comes after them
pub record IsTaken (line : List ℕ) (token : Token) (rest : List ℕ) : Type 0 where
  pub bytes : List ℕ
  pub whole : line ≡ bytes ++ rest
  pub spelled : Spells token bytes rest

-- what a reader gives is in the line
Reads : List ℕ → Next → Type 0
Reads line (Taken token rest) = IsTaken line token rest
Reads line Ended = line ≡ []
Reads line Refused = Unit {0}

-- a text that ends at a quote is spelled so; if a quote comes before the bytes, it is with that quote
record IsEnded (quote : ℕ) (bytes : List ℕ) (u : Unquoted) : Type 0 where
  whole : bytes ≡ doubled quote u.text ++ quote ∷ u.rest
  longest : begins (λ b. b == quote) u.rest ≡ false

Ends : ℕ → List ℕ → Option Unquoted → Type 0
Ends quote bytes None = Unit {0}
Ends quote bytes (Some u) = IsEnded quote bytes u

doubled-byte : (quote b : ℕ) (text : List ℕ) → (b == quote) ≡ false → doubled quote (b ∷ text) ≡ b ∷ doubled quote text
unfolding doubled
doubled-byte quote b text h = cond-false (b == quote) _ _ h

doubled-quote : (quote : ℕ) (text : List ℕ) → doubled quote (quote ∷ text) ≡ quote ∷ quote ∷ doubled quote text
unfolding doubled
doubled-quote quote text = cond-true (quote == quote) _ _ (eq-eqb quote quote refl)

-- one more byte that is no quote in front, or two quotes
ends_byte : (quote b : ℕ) (bytes : List ℕ) (u : Option Unquoted) → (b == quote) ≡ false → Ends quote bytes u → Ends quote (b ∷ bytes) (onto_text (b ∷ []) u)
unfolding Ends
ends_byte quote b bytes None h e = tt
ends_byte quote b bytes (Some u) h e = record {
  whole = ap (λ l. b ∷ l) e.whole ∙ ap (λ l. l ++ quote ∷ u.rest) (sym (doubled-byte quote b u.text h));
  longest = e.longest;
}

ends_quotes : (quote : ℕ) (bytes : List ℕ) (u : Option Unquoted) → Ends quote bytes u → Ends quote (quote ∷ quote ∷ bytes) (onto_text (quote ∷ []) u)
unfolding Ends
ends_quotes quote bytes None e = tt
ends_quotes quote bytes (Some u) e = record {
  whole = ap (λ l. quote ∷ quote ∷ l) e.whole ∙ ap (λ l. l ++ quote ∷ u.rest) (sym (doubled-quote quote u.text));
  longest = e.longest;
}

-- both readings of the bytes: not after a quote, and after one
unquoted_ends : (quote : ℕ) (bytes : List ℕ) → Ends quote bytes (unquoted quote false bytes) × Ends quote (quote ∷ bytes) (unquoted quote true bytes)
unfolding Ends unquoted doubled
unquoted_ends quote [] = (tt, record { whole = refl; longest = refl })
unquoted_ends quote (b ∷ bytes) =
    let more = unquoted_ends quote bytes in
    elim (cases_Bool (b == quote)) [
      | inl h ↦ rw h (
        subst (λ (c : ℕ). Ends quote (c ∷ bytes) (unquoted quote true bytes)) (sym (eqb-true b quote h)) more.1,
        subst (λ (c : ℕ). Ends quote (quote ∷ c ∷ bytes) (onto_text (quote ∷ []) (unquoted quote false bytes))) (sym (eqb-true b quote h)) (ends_quotes quote bytes (unquoted quote false bytes) more.0),
      )
      | inr h ↦ rw h (ends_byte quote b bytes (unquoted quote false bytes) h more.0, record { whole = refl; longest = h })
    ]

-- a quoted text, after its first quote
quoted_whole : (quote : ℕ) (bytes text rest : List ℕ) → bytes ≡ doubled quote text ++ quote ∷ rest → quote ∷ bytes ≡ quoted quote text ++ rest
quoted_whole quote bytes text rest e = ap (λ l. quote ∷ l) (e ∙ sym (append_assoc (doubled quote text) (quote ∷ []) rest))

name_reads : (bytes : List ℕ) (u : Option Unquoted) → Ends 34 bytes u → Reads (34 ∷ bytes) (name_from u)
unfolding Reads Ends name_from
name_reads bytes None e = tt
name_reads bytes (Some u) e = elim (cases_Bool (is_utf8 u.text)) [
  | inl h ↦ rw h (record {
    bytes = quoted 34 u.text;
    whole = quoted_whole 34 bytes u.text u.rest e.whole;
    spelled = inr (record { is_text = IsUtf8-from_is_utf8 u.text h; spelled = refl; longest = e.longest });
  })
  | inr h ↦ rw h tt
]

text_reads : (bytes : List ℕ) (u : Option Unquoted) → Ends 39 bytes u → Reads (39 ∷ bytes) (text_from u)
unfolding Reads Ends text_from
text_reads bytes None e = tt
text_reads bytes (Some u) e = elim (cases_Bool (is_utf8 u.text && leb (length u.text) MAX_CONTENT_LEN)) [
  | inl h ↦ rw h (record {
    bytes = quoted 39 u.text;
    whole = quoted_whole 39 bytes u.text u.rest e.whole;
    spelled = (record { is_text = IsUtf8-from_is_utf8 u.text (and_parts _ _ h).0; spelled = refl; longest = e.longest }, leb-true (length u.text) MAX_CONTENT_LEN (and_parts _ _ h).1);
  })
  | inr h ↦ rw h tt
]

-- a blob, after its X and quote
blob_bytes : (b : ℕ) (digits : List ℕ) → ((b == 88) || (b == 120)) ≡ true
    → (b ∷ 39 ∷ digits ++ 39 ∷ [] ≡ codes "X'" ++ digits ++ codes "'") ⊎ (b ∷ 39 ∷ digits ++ 39 ∷ [] ≡ codes "x'" ++ digits ++ codes "'")
blob_bytes b digits h = elim (or_cases (b == 88) (b == 120) h) [
  | inl e ↦ inl (ap (λ c. c ∷ 39 ∷ digits ++ 39 ∷ []) (eqb-true b 88 e))
  | inr e ↦ inr (ap (λ c. c ∷ 39 ∷ digits ++ 39 ∷ []) (eqb-true b 120 e))
]

blob_decoded : (b : ℕ) (digits rest : List ℕ) (r : Result (List ℕ) FromHexError) → ((b == 88) || (b == 120)) ≡ true → decode_of digits ≡ r → Reads (b ∷ 39 ∷ digits ++ 39 ∷ rest) (blob_from r rest)
unfolding Reads blob_from
blob_decoded b digits rest (Err e) h is = tt
blob_decoded b digits rest (Ok blob) h is = elim (cases_Bool (leb (length blob) MAX_CONTENT_LEN)) [
  | inl short ↦ rw short (record {
    bytes = b ∷ 39 ∷ digits ++ 39 ∷ [];
    whole = ap (λ l. b ∷ 39 ∷ l) (sym (append_assoc digits (39 ∷ []) rest));
    spelled = (record { digits = digits; spelled = blob_bytes b digits h; decoded = is }, leb-true (length blob) MAX_CONTENT_LEN short);
  })
  | inr long ↦ rw long tt
]

blob_reads : (b : ℕ) (digits back : List ℕ) → ((b == 88) || (b == 120)) ≡ true → begins (λ b. not (b == 39)) back ≡ false → Reads (b ∷ 39 ∷ digits ++ back) (blob_of digits back)
unfolding Reads blob_of
blob_reads b digits [] h e = tt
blob_reads b digits (q ∷ rest) h e =
    subst (λ (c : ℕ). Reads (b ∷ 39 ∷ digits ++ c ∷ rest) (blob_from (decode_of digits) rest)) (sym (eqb-true q 39 (not-false (q == 39) e))) (blob_decoded b digits rest (decode_of digits) h refl)

blob_at_reads : (b : ℕ) (bytes : List ℕ) → ((b == 88) || (b == 120)) ≡ true → begins (λ b. b == 39) bytes ≡ true → Reads (b ∷ bytes) (blob_at bytes)
unfolding blob_at
blob_at_reads b [] h e = absurd (false≢true e)
blob_at_reads b (q ∷ bytes) h e =
    let p = λ (c : ℕ). not (c == 39) in
    rw (eqb-true q 39 e) (subst (λ (l : List ℕ). Reads (b ∷ 39 ∷ l) (blob_of (front_of p bytes) (behind p bytes))) (sym (front_behind p bytes)) (blob_reads b (front_of p bytes) (behind p bytes) h (behind_fails p bytes)))

-- ---- signs

sign_reads : (b : ℕ) (rest : List ℕ) → Reads (b ∷ rest) (sign_at b rest)
unfolding Reads sign_at
sign_reads b rest = elim (cases_Bool (b == 40)) [
  | inl h ↦ rw h (record { bytes = 40 ∷ []; whole = ap (λ c. c ∷ rest) (eqb-true b 40 h); spelled = inl (refl, refl) })
  | inr n1 ↦ rw n1 (elim (cases_Bool (b == 41)) [
    | inl h ↦ rw h (record { bytes = 41 ∷ []; whole = ap (λ c. c ∷ rest) (eqb-true b 41 h); spelled = inl (refl, refl) })
    | inr n2 ↦ rw n2 (elim (cases_Bool (b == 44)) [
      | inl h ↦ rw h (record { bytes = 44 ∷ []; whole = ap (λ c. c ∷ rest) (eqb-true b 44 h); spelled = inl (refl, refl) })
      | inr n3 ↦ rw n3 (elim (cases_Bool (b == 59)) [
        | inl h ↦ rw h (record { bytes = 59 ∷ []; whole = ap (λ c. c ∷ rest) (eqb-true b 59 h); spelled = inl (refl, refl) })
        | inr n4 ↦ rw n4 (elim (cases_Bool (b == 61)) [
          | inl h ↦ rw h (record { bytes = 61 ∷ []; whole = ap (λ c. c ∷ rest) (eqb-true b 61 h); spelled = inl (refl, refl) })
          | inr n5 ↦ rw n5 (elim (cases_Bool (b == 42)) [
            | inl h ↦ rw h (record { bytes = 42 ∷ []; whole = ap (λ c. c ∷ rest) (eqb-true b 42 h); spelled = inl (refl, refl) })
            | inr n6 ↦ rw n6 tt
          ])
        ])
      ])
    ])
  ])
]

-- ---- words and integers

pub some_is : {A : Type 0} (x y : A) → Some x ≡ Some y → x ≡ y
some_is x y e = cc

x_byte : (b : ℕ) → (to_ascii_lowercase b == 120) ≡ true → ((b == 88) || (b == 120)) ≡ true
x_byte b e = grind (arith, nat_tests)

-- a keyword that is found is one
find_passes : {A : Type 0} (p : A → Bool) (xs : List A) (x : A) → find p xs ≡ Some x → p x ≡ true
find_passes p [] x e = cc
find_passes p (y ∷ xs) x e = elim (cases_Bool (p y)) [
  | inl h ↦ let is : y ≡ x = some_is y x (sym (cond-true (p y) (Some y) (find p xs) h) ∙ e) in subst (λ z. p z ≡ true) is h
  | inr h ↦ find_passes p xs x (sym (cond-false (p y) (Some y) (find p xs) h) ∙ e)
]

-- where none is found, the word is none of their texts
find_fails : (word : List ℕ) (symbols : List Symbol) (more : List (List ℕ)) → find (λ s. str_eq_ignore_ascii_case word (symbol_text s)) symbols ≡ None
    → list_any (str_eq_ignore_ascii_case word) (map symbol_text symbols ++ more) ≡ list_any (str_eq_ignore_ascii_case word) more
find_fails word [] more e = refl
find_fails word (s ∷ symbols) more e = elim (cases_Bool (str_eq_ignore_ascii_case word (symbol_text s))) [
  | inl h ↦ let bad : Some s ≡ None = sym (cond-true (str_eq_ignore_ascii_case word (symbol_text s)) (Some s) _ h) ∙ e in cc
  | inr h ↦ ap (λ b. b || list_any (str_eq_ignore_ascii_case word) (map symbol_text symbols ++ more)) h
      ∙ find_fails word symbols more (sym (cond-false (str_eq_ignore_ascii_case word (symbol_text s)) (Some s) _ h) ∙ e)
]

pub keywords_then_null : map symbol_text keywords ++ codes "NULL" ∷ []
    ≡ codes "CREATE" ∷ codes "TABLE" ∷ codes "PRIMARY" ∷ codes "KEY" ∷ codes "INSERT" ∷ codes "INTO" ∷ codes "VALUES" ∷ codes "UPDATE" ∷ codes "SET" ∷ codes "WHERE" ∷ codes "AND"
    ∷ codes "DELETE" ∷ codes "FROM" ∷ codes "SELECT" ∷ codes "NOT" ∷ codes "NULL" ∷ []
keywords_then_null = refl

named_spells : (bytes rest : List ℕ) (found : Option Symbol) → IsWord bytes rest → find (λ s. str_eq_ignore_ascii_case bytes (symbol_text s)) keywords ≡ found → Spells (named bytes found) bytes rest
named_spells bytes rest (Some s) w e = inr (w, find_passes (λ s. str_eq_ignore_ascii_case bytes (symbol_text s)) keywords s e)
named_spells bytes rest None w e = elim (cases_Bool (str_eq_ignore_ascii_case bytes (codes "NULL"))) [
  | inl h ↦ rw h (w, h)
  | inr h ↦ rw h (inl (w, ap (list_any (str_eq_ignore_ascii_case bytes)) (sym keywords_then_null) ∙ find_fails bytes keywords (codes "NULL" ∷ []) e ∙ ap (λ b. b || false) h, refl))
]

word_spells : (bytes rest : List ℕ) → IsWord bytes rest → Spells (word_of bytes) bytes rest
unfolding word_of keyword_of
word_spells bytes rest w = named_spells bytes rest (find (λ s. str_eq_ignore_ascii_case bytes (symbol_text s)) keywords) w refl

-- a word of one byte that is an X, and a line where no blob begins
x_is : (b : ℕ) (more : List ℕ) → str_eq_ignore_ascii_case (b ∷ more) (codes "X") ≡ true → (more ≡ []) × (((b == 88) || (b == 120)) ≡ true)
x_is b [] e = (refl, x_byte b (and_parts _ _ e).0)
x_is b (c ∷ more) e = absurd (false≢true (sym (and_right (to_ascii_lowercase b == 120) false refl) ∙ e))

no_blob_at : (b : ℕ) (bytes : List ℕ) → (((b == 88) || (b == 120)) && begins (λ b. b == 39) bytes) ≡ false → str_eq_ignore_ascii_case (b ∷ front_of is_word_byte bytes) (codes "X") ≡ true
    → begins (λ b. b == 39) (behind is_word_byte bytes) ≡ false
no_blob_at b bytes h e =
    let x = x_is b (front_of is_word_byte bytes) e in
    let same : bytes ≡ behind is_word_byte bytes = front_behind is_word_byte bytes ∙ ap (λ l. l ++ behind is_word_byte bytes) x.0 in
    elim (and_cases ((b == 88) || (b == 120)) (begins (λ b. b == 39) bytes) h) [
      | inl other ↦ absurd (both_ways _ other x.1)
      | inr other ↦ ap (begins (λ b. b == 39)) (sym same) ∙ other
    ]

-- a first byte of a piece that is no number's is a letter's
letter : (b : ℕ) → (is_word_byte b || (b == 45)) ≡ true → (is_digit b || (b == 45)) ≡ false → (is_word_byte b && not (is_digit b)) ≡ true
letter b h e =
    let p = or_parts (is_digit b) (b == 45) e in
    elim (or_cases (is_word_byte b) (b == 45) h) [
      | inl w ↦ and_from (is_word_byte b) (not (is_digit b)) w (not_from_false (is_digit b) p.0)
      | inr m ↦ absurd (both_ways (b == 45) p.1 m)
    ]

not_plus : (b : ℕ) → (is_digit b || (b == 45)) ≡ true → (b == 43) ≡ false
not_plus b h = false_from_ne_true (b == 43) (λ e. false≢true (subst (λ (c : ℕ). (is_digit c || (c == 45)) ≡ true) (eqb-true b 43 e) h))

piece_token_reads : (b : ℕ) (bytes : List ℕ) → (is_word_byte b || (b == 45)) ≡ true → (((b == 88) || (b == 120)) && begins (λ b. b == 39) bytes) ≡ false
    → Reads (b ∷ bytes) (token_or_refused (token_of_piece (b ∷ front_of is_word_byte bytes)) (behind is_word_byte bytes))
unfolding Reads token_of_piece integer_of
piece_token_reads b bytes h x =
    let word = front_of is_word_byte bytes in
    let rest = behind is_word_byte bytes in
    let whole : b ∷ bytes ≡ b ∷ word ++ rest = ap (λ l. b ∷ l) (front_behind is_word_byte bytes) in
    elim (cases_Bool (is_digit b || (b == 45))) [
      | inl number ↦ rw number (elim (cases_Bool (is_integer (b ∷ word))) [
        | inl good ↦ rw good (let i = from_is_integer (b ∷ word) good in record {
          bytes = b ∷ word;
          whole = whole;
          spelled = record { no_plus = not_plus b number; digits = i.0; number_is = refl; within = i.1; longest = behind_fails is_word_byte bytes };
        })
        | inr bad ↦ rw bad tt
      ])
      | inr none ↦ rw none (let l = letter b h none in record {
        bytes = b ∷ word;
        whole = whole;
        spelled = word_spells (b ∷ word) rest (record { first = l; each = ((and_parts (is_word_byte b) _ l).0, front_passes is_word_byte bytes); longest = behind_fails is_word_byte bytes; no_blob = no_blob_at b bytes x });
      })
    ]

piece_reads : (b : ℕ) (bytes : List ℕ) → (is_word_byte b || (b == 45)) ≡ true → (((b == 88) || (b == 120)) && begins (λ b. b == 39) bytes) ≡ false → Reads (b ∷ bytes) (piece_at (b ∷ bytes))
unfolding Reads piece_at piece_of behind_piece
piece_reads b bytes h x = elim (cases_Bool (is_utf8 (b ∷ front_of is_word_byte bytes))) [
  | inl good ↦ rw good (piece_token_reads b bytes h x)
  | inr bad ↦ rw bad tt
]

-- ---- the front of a line

token_reads : (line : List ℕ) → Reads line (token_at line)
unfolding token_at
token_reads [] = unfold Reads in refl
token_reads (b ∷ bytes) = elim (cases_Bool (b == 34)) [
  | inl h ↦ rw (h, eqb-true b 34 h) (name_reads bytes (unquoted 34 false bytes) (unquoted_ends 34 bytes).0)
  | inr n1 ↦ rw n1 (elim (cases_Bool (b == 39)) [
    | inl h ↦ rw (h, eqb-true b 39 h) (text_reads bytes (unquoted 39 false bytes) (unquoted_ends 39 bytes).0)
    | inr n2 ↦ rw n2 (elim (cases_Bool (((b == 88) || (b == 120)) && begins (λ b. b == 39) bytes)) [
      | inl h ↦ rw h (let p = and_parts _ _ h in blob_at_reads b bytes p.0 p.1)
      | inr n3 ↦ rw n3 (elim (cases_Bool (is_word_byte b || (b == 45))) [
        | inl h ↦ rw h (piece_reads b bytes h n3)
        | inr n4 ↦ rw n4 (sign_reads b bytes)
      ])
    ])
  ])
]

-- ---- a line

-- what is read after the blanks of a line
pub next_taken : (line : List ℕ) (token : Token) (rest : List ℕ) → next_at line ≡ Taken token rest → IsTaken (behind is_blank line) token rest
unfolding next_at Reads
next_taken line token rest e = subst (Reads (behind is_blank line)) e (token_reads (behind is_blank line))

pub next_ended : (line : List ℕ) → next_at line ≡ Ended → behind is_blank line ≡ []
unfolding next_at Reads
next_ended line e = subst (Reads (behind is_blank line)) e (token_reads (behind is_blank line))

-- a token has a byte
symbol_long : (s : Symbol) → 0 < length (symbol_text s)
symbol_long symbol.Create = omega arith
symbol_long symbol.Table = omega arith
symbol_long symbol.Primary = omega arith
symbol_long symbol.Key = omega arith
symbol_long symbol.Insert = omega arith
symbol_long symbol.Into = omega arith
symbol_long symbol.Values = omega arith
symbol_long symbol.Update = omega arith
symbol_long symbol.Set = omega arith
symbol_long symbol.Where = omega arith
symbol_long symbol.And = omega arith
symbol_long symbol.Delete = omega arith
symbol_long symbol.From = omega arith
symbol_long symbol.Select = omega arith
symbol_long symbol.Not = omega arith
symbol_long symbol.Open = omega arith
symbol_long symbol.Close = omega arith
symbol_long symbol.Comma = omega arith
symbol_long symbol.Semicolon = omega arith
symbol_long symbol.Equals = omega arith
symbol_long symbol.Star = omega arith

word_long : (bytes rest : List ℕ) → IsWord bytes rest → 0 < length bytes
word_long [] rest w = absurd (false≢true w.first)
word_long (b ∷ bytes) rest w = omega arith

quoted_long : (quote : ℕ) (text bytes rest : List ℕ) → IsQuoted quote text bytes rest → 0 < length bytes
quoted_long quote text bytes rest q = omega (arith, ap length q.spelled)

integer_long : (number : ℤ) (bytes rest : List ℕ) → IsInteger number bytes rest → 0 < length bytes
integer_long number [] rest i = i.digits.0
integer_long number (b ∷ bytes) rest i = omega arith

blob_long : (blob bytes : List ℕ) → IsBlob blob bytes → 0 < length bytes
blob_long blob bytes b = elim b.spelled [
  | inl e ↦ omega (arith, ap length e)
  | inr e ↦ omega (arith, ap length e)
]

pub spells_long : (token : Token) (bytes rest : List ℕ) → Spells token bytes rest → 0 < length bytes
spells_long (Fixed s) bytes rest h = elim h [
  | inl (sign, e) ↦ omega (arith, ap length e, symbol_long s)
  | inr (w, e) ↦ word_long bytes rest w
]
spells_long (Name name) bytes rest h = elim h [
  | inl (w, k, e) ↦ word_long bytes rest w
  | inr q ↦ quoted_long 34 name bytes rest q
]
spells_long (Value (Int number)) bytes rest h = integer_long number bytes rest h
spells_long (Value (Text text)) bytes rest h = quoted_long 39 text bytes rest h.0
spells_long (Value (Blob blob)) bytes rest h = blob_long blob bytes h.0
spells_long (Value Null) bytes rest h = word_long bytes rest h.0

-- so it makes the line shorter
pub next_shorter : (line : List ℕ) (token : Token) (rest : List ℕ) → next_at line ≡ Taken token rest → length rest < length line
next_shorter line token rest e =
    let t = next_taken line token rest e in
    omega (arith, ap length (front_behind is_blank line), length-append (front_of is_blank line) (behind is_blank line), ap length t.whole, length-append t.bytes rest, spells_long token t.bytes rest t.spelled)
