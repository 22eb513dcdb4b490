-- Lemmas on the parts of a line: its front of bytes that pass, and texts between quotes.
use Rattle.std.proofs.Common.{◌≡◌, ℕ, ◌==◌, ◌<◌, ◌≤◌, ◌+◌, ◌-◌, List, [], ◌∷◌, ◌++◌, length, take, drop, Bool, true, false, not, ◌&&◌, ◌||◌, leb, cond, Option, Some, None, refl, sym, ap, subst, ◌∙◌, append_assoc, add-one, arith, inl, inr}
use Rattle.std.specs.List.{All, AllByRecursion}
use Rattle.std.specs.Str.{is_utf8, IsUtf8}
use Rattle.std.proofs.lemmas.List.Elements.{recursion_from_All}
use Rattle.std.proofs.lemmas.Bool.{cond-true, cond-false, cases_Bool, eqb-true, false_from_ne_true, and_from, and_left, and_right, le-leb, leb-true}
use Rattle.std.proofs.lemmas.List.{append-nil, take_at, drop_at, take_all, nil_from_length}
use Rattle.std.proofs.lemmas.Str.{IsUtf8-from_is_utf8, is_utf8-from_IsUtf8}
use Rattle.cs_value.specs.declared.TheConstants.{MAX_CONTENT_LEN}
use Rattle.cs_value.specs.declared.value.OwnedValue.TheVariants.{Text}
use Rattle.cs_shell_tokens.specs.Tokens.{begins, is_digit, is_word_byte, Token, Name, Value}
use Rattle.cs_shell_tokens.specs.Reading.{front_of, behind, piece_of, behind_piece, Unquoted, onto_text, unquoted, Taken, Refused, token_or_refused, word_of, integer_of, token_of_piece, piece_at, name_from, text_from, blob_of, blob_at}

-- ---- bytes that pass

pub behind-pass : (p : ℕ → Bool) (b : ℕ) (bytes : List ℕ) → p b ≡ true → behind p (b ∷ bytes) ≡ behind p bytes
unfolding behind
behind-pass p b bytes h = cond-true (p b) _ _ h

-- if the first byte does not pass, the prefix is empty
pub behind_none : (p : ℕ → Bool) (bytes : List ℕ) → begins p bytes ≡ false → behind p bytes ≡ bytes
unfolding behind
behind_none p [] h = refl
behind_none p (b ∷ bytes) h = cond-false (p b) _ _ h

front_none : (p : ℕ → Bool) (bytes : List ℕ) → begins p bytes ≡ false → front_of p bytes ≡ []
unfolding front_of
front_none p [] h = refl
front_none p (b ∷ bytes) h = cond-false (p b) _ _ h

-- bytes that pass, where what follows does not begin with one, are the front
pub front_is : (p : ℕ → Bool) (front rest : List ℕ) → AllByRecursion (λ b. p b ≡ true) front → begins p rest ≡ false → front_of p (front ++ rest) ≡ front
unfolding front_of
front_is p [] rest h e = front_none p rest e
front_is p (b ∷ front) rest h e = cond-true (p b) _ _ h.0 ∙ ap (λ l. b ∷ l) (front_is p front rest h.1 e)

pub behind_is : (p : ℕ → Bool) (front rest : List ℕ) → AllByRecursion (λ b. p b ≡ true) front → begins p rest ≡ false → behind p (front ++ rest) ≡ rest
unfolding behind
behind_is p [] rest h e = behind_none p rest e
behind_is p (b ∷ front) rest h e = cond-true (p b) _ _ h.0 ∙ behind_is p front rest h.1 e

-- the same of a line that was cut so
pub front_cut : (p : ℕ → Bool) (line front rest : List ℕ) → line ≡ front ++ rest → All (λ b. p b ≡ true) front → begins p rest ≡ false → front_of p line ≡ front
front_cut p line front rest is h e = ap (front_of p) is ∙ front_is p front rest (recursion_from_All _ front h) e

pub behind_cut : (p : ℕ → Bool) (line front rest : List ℕ) → line ≡ front ++ rest → All (λ b. p b ≡ true) front → begins p rest ≡ false → behind p line ≡ rest
behind_cut p line front rest is h e = ap (behind p) is ∙ behind_is p front rest (recursion_from_All _ front h) e

-- a line is its prefix and the rest
pub front_behind : (p : ℕ → Bool) (line : List ℕ) → line ≡ front_of p line ++ behind p line
unfolding front_of behind
front_behind p [] = refl
front_behind p (b ∷ bytes) = elim (p b) as (λ v. b ∷ bytes ≡ cond v (b ∷ front_of p bytes) [] ++ cond v (behind p bytes) (b ∷ bytes)) [
  | true ↦ ap (λ l. b ∷ l) (front_behind p bytes)
  | false ↦ refl
]

pub front_passes : (p : ℕ → Bool) (line : List ℕ) → AllByRecursion (λ b. p b ≡ true) (front_of p line)
unfolding front_of
front_passes p [] = tt
front_passes p (b ∷ bytes) = elim (cases_Bool (p b)) [
  | inl h ↦ rw h (h, front_passes p bytes)
  | inr h ↦ rw h tt
]

pub behind_fails : (p : ℕ → Bool) (line : List ℕ) → begins p (behind p line) ≡ false
unfolding behind
behind_fails p [] = refl
behind_fails p (b ∷ bytes) = elim (cases_Bool (p b)) [
  | inl h ↦ rw h (behind_fails p bytes)
  | inr h ↦ rw h h
]

-- ---- texts between quotes

-- what a loop reads so far, and what is left to read
pub onto_more : (front more : List ℕ) (u : Option Unquoted) → onto_text front (onto_text more u) ≡ onto_text (front ++ more) u
onto_more front more None = refl
onto_more front more (Some u) = ap (λ t. Some (record { text = t; rest = u.rest })) (sym (append_assoc front more u.text))

pub onto_nil : (u : Option Unquoted) → onto_text [] u ≡ u
onto_nil None = refl
onto_nil (Some u) = refl

-- a byte that is no quote
pub unquoted-byte : (quote b : ℕ) (bytes : List ℕ) → (b == quote) ≡ false → unquoted quote false (b ∷ bytes) ≡ onto_text (b ∷ []) (unquoted quote false bytes)
unfolding unquoted
unquoted-byte quote b bytes h = cond-false (b == quote) _ _ h

-- a quote
pub unquoted-quote : (quote b : ℕ) (bytes : List ℕ) → (b == quote) ≡ true → unquoted quote false (b ∷ bytes) ≡ unquoted quote true bytes
unfolding unquoted
unquoted-quote quote b bytes h = cond-true (b == quote) _ _ h

-- and a second one after it
pub unquoted-second : (quote b : ℕ) (bytes : List ℕ) → (b == quote) ≡ true → unquoted quote true (b ∷ bytes) ≡ onto_text (quote ∷ []) (unquoted quote false bytes)
unfolding unquoted
unquoted-second quote b bytes h = cond-true (b == quote) _ _ h

-- or none
pub unquoted-end : (quote : ℕ) (bytes : List ℕ) → begins (λ b. b == quote) bytes ≡ false → unquoted quote true bytes ≡ Some (record { text = []; rest = bytes })
unfolding unquoted
unquoted-end quote [] h = refl
unquoted-end quote (b ∷ bytes) h = cond-false (b == quote) _ _ h

pub unquoted-nil : (quote : ℕ) → unquoted quote false [] ≡ None
unfolding unquoted
unquoted-nil quote = refl

-- ---- words of a line

-- ---- what the code's parts are

-- the line from where the blanks end
pub behind_left : (p : ℕ → Bool) (line rest : List ℕ) → behind p rest ≡ behind p line → begins p rest ≡ false → rest ≡ behind p line
behind_left p line rest is h = sym (behind_none p rest h) ∙ is

pub begins_cons : (p : ℕ → Bool) (b : ℕ) (bytes line : List ℕ) → line ≡ b ∷ bytes → p b ≡ false → begins p line ≡ false
begins_cons p b bytes line is h = ap (begins p) is ∙ h

-- a loop that reads a text: one more byte that is no quote, or two quotes
pub more_byte : (quote b : ℕ) (line rest after text : List ℕ) → unquoted quote false line ≡ onto_text text (unquoted quote false rest) → rest ≡ b ∷ after → (b == quote) ≡ false
    → unquoted quote false line ≡ onto_text (text ++ b ∷ []) (unquoted quote false after)
more_byte quote b line rest after text so_far is h =
    so_far ∙ ap (λ l. onto_text text (unquoted quote false l)) is ∙ ap (onto_text text) (unquoted-byte quote b after h) ∙ onto_more text (b ∷ []) (unquoted quote false after)

pub more_quote : (quote b next : ℕ) (line rest after behind_it text : List ℕ) → unquoted quote false line ≡ onto_text text (unquoted quote false rest) → rest ≡ b ∷ after → after ≡ next ∷ behind_it
    → (b == quote) ≡ true → (next == quote) ≡ true → unquoted quote false line ≡ onto_text (text ++ b ∷ []) (unquoted quote false behind_it)
more_quote quote b next line rest after behind_it text so_far is second h e =
    so_far ∙ ap (λ l. onto_text text (unquoted quote false l)) is
    ∙ ap (onto_text text) (unquoted-quote quote b after h ∙ ap (unquoted quote true) second ∙ unquoted-second quote next behind_it e)
    ∙ onto_more text (quote ∷ []) (unquoted quote false behind_it)
    ∙ ap (λ k. onto_text (text ++ k ∷ []) (unquoted quote false behind_it)) (sym (eqb-true b quote h))

pub stepped : (quote : ℕ) (line items more left after : List ℕ) → unquoted quote false line ≡ onto_text items (unquoted quote false left) → more ≡ items → after ≡ left
    → unquoted quote false line ≡ onto_text more (unquoted quote false after)
stepped quote line items more left after is pushed next = is ∙ ap (λ t. onto_text t (unquoted quote false left)) (sym pushed) ∙ ap (λ l. onto_text more (unquoted quote false l)) (sym next)

pub read_end : (quote b : ℕ) (line rest after text : List ℕ) → unquoted quote false line ≡ onto_text text (unquoted quote false rest) → rest ≡ b ∷ after → (b == quote) ≡ true
    → begins (λ b. b == quote) after ≡ false → unquoted quote false line ≡ Some (record { text = text; rest = after })
read_end quote b line rest after text so_far is h e =
    so_far ∙ ap (λ l. onto_text text (unquoted quote false l)) is
    ∙ ap (onto_text text) (unquoted-quote quote b after h ∙ unquoted-end quote after e)
    ∙ ap (λ t. Some (record { text = t; rest = after })) (append-nil text)

pub read_none : (quote : ℕ) (line rest text : List ℕ) → unquoted quote false line ≡ onto_text text (unquoted quote false rest) → rest ≡ [] → unquoted quote false line ≡ None
read_none quote line rest text so_far is = so_far ∙ ap (λ l. onto_text text (unquoted quote false l)) is ∙ ap (onto_text text) (unquoted-nil quote)

-- what comes after a first byte
cut_rest : (b : ℕ) (bytes word rest : List ℕ) → take (length (b ∷ bytes) - 1) (drop 1 (b ∷ bytes)) ≡ word ++ rest → bytes ≡ word ++ rest
cut_rest b bytes word rest is = sym (take_all (length (b ∷ bytes) - 1) bytes (omega arith)) ∙ is

pub blob_cut : (line digits rest : List ℕ) → 1 ≤ length line → take (length line - 1) (drop 1 line) ≡ digits ++ rest → All (λ b. not (b == 39) ≡ true) digits
    → begins (λ b. not (b == 39)) rest ≡ false → blob_at line ≡ blob_of digits rest
unfolding blob_at
blob_cut [] digits rest some is h e = absurd (omega arith)
blob_cut (b ∷ bytes) digits rest some is h e =
    let cut = cut_rest b bytes digits rest is in
    ap (λ d. blob_of d (behind (λ b. not (b == 39)) bytes)) (front_cut _ bytes digits rest cut h e) ∙ ap (blob_of digits) (behind_cut _ bytes digits rest cut h e)

pub piece_nil : (line : List ℕ) → length line < 1 → line ≡ piece_of line
unfolding piece_of
piece_nil [] none = refl
piece_nil (b ∷ bytes) none = absurd (omega arith)

pub behind_piece_nil : (line : List ℕ) → length line < 1 → line ≡ behind_piece line
unfolding behind_piece
behind_piece_nil [] none = refl
behind_piece_nil (b ∷ bytes) none = absurd (omega arith)

pub piece_cut : (line word rest front : List ℕ) → 1 ≤ length line → take (length line - 1) (drop 1 line) ≡ word ++ rest → All (λ b. is_word_byte b ≡ true) word
    → begins is_word_byte rest ≡ false → front ≡ take (length word + 1) line → front ≡ piece_of line
unfolding piece_of
piece_cut [] word rest front some is h e taken_is = absurd (omega arith)
piece_cut (b ∷ bytes) word rest front some is h e taken_is =
    let cut = cut_rest b bytes word rest is in
    taken_is ∙ ap (λ n. take n (b ∷ bytes)) (add-one (length word)) ∙ ap (λ l. b ∷ take (length word) l) cut ∙ ap (λ l. b ∷ l) (take_at word rest (length word) refl)
    ∙ ap (λ l. b ∷ l) (sym (front_cut is_word_byte bytes word rest cut h e))

pub behind_piece_cut : (line word rest back : List ℕ) → 1 ≤ length line → take (length line - 1) (drop 1 line) ≡ word ++ rest → All (λ b. is_word_byte b ≡ true) word
    → begins is_word_byte rest ≡ false → back ≡ drop (length word + 1) line → back ≡ behind_piece line
unfolding behind_piece
behind_piece_cut [] word rest back some is h e dropped_is = absurd (omega arith)
behind_piece_cut (b ∷ bytes) word rest back some is h e dropped_is =
    let cut = cut_rest b bytes word rest is in
    dropped_is ∙ ap (λ n. drop n (b ∷ bytes)) (add-one (length word)) ∙ ap (drop (length word)) cut ∙ drop_at word rest (length word) refl
    ∙ sym (behind_cut is_word_byte bytes word rest cut h e)

-- ---- what is UTF-8

not_utf8 : (bytes : List ℕ) → ¬ (IsUtf8 bytes) → is_utf8 bytes ≡ false
not_utf8 bytes none = false_from_ne_true (is_utf8 bytes) (λ h. none (IsUtf8-from_is_utf8 bytes h))

pub piece_refused : (line piece : List ℕ) → piece ≡ piece_of line → ¬ (IsUtf8 piece) → piece_at line ≡ Refused
unfolding piece_at
piece_refused line piece is none = cond-false (is_utf8 (piece_of line)) _ _ (ap is_utf8 (sym is) ∙ not_utf8 piece none)

-- the token of a piece that is a text
pub piece_taken : (line piece rest : List ℕ) (token : Token) → piece ≡ piece_of line → rest ≡ behind_piece line → IsUtf8 piece → token_of_piece piece ≡ Some token → piece_at line ≡ Taken token rest
unfolding piece_at
piece_taken line piece rest token is rest_is text token_is =
    cond-true (is_utf8 (piece_of line)) _ _ (ap is_utf8 (sym is) ∙ is_utf8-from_IsUtf8 piece text)
    ∙ ap (λ p. token_or_refused (token_of_piece p) (behind_piece line)) (sym is) ∙ ap (λ t. token_or_refused t (behind_piece line)) token_is ∙ ap (Taken token) (sym rest_is)

-- that token
pub word_piece : (piece text : List ℕ) (token : Token) (number : Bool) → number ≡ begins (λ b. is_digit b || (b == 45)) piece → number ≡ false → text ≡ piece → token ≡ word_of text
    → token_of_piece piece ≡ Some token
unfolding token_of_piece
word_piece piece text token number tested none same token_is = cond-false _ _ _ (sym tested ∙ none) ∙ ap (λ p. Some (word_of p)) (sym same) ∙ ap Some (sym token_is)

pub integer_piece : (piece text : List ℕ) (token : Token) (number : Bool) → number ≡ begins (λ b. is_digit b || (b == 45)) piece → number ≡ true → text ≡ piece → Some token ≡ integer_of text
    → token_of_piece piece ≡ Some token
unfolding token_of_piece
integer_piece piece text token number tested some same token_is = cond-true _ _ _ (sym tested ∙ some) ∙ ap integer_of (sym same) ∙ sym token_is

pub name_taken : (u : Option Unquoted) (name items rest : List ℕ) → u ≡ Some (record { text = items; rest = rest }) → name ≡ items → IsUtf8 name → name_from u ≡ Taken (Name name) rest
unfolding name_from
name_taken u name items rest is same text =
    ap name_from is ∙ cond-true (is_utf8 items) _ _ (ap is_utf8 (sym same) ∙ is_utf8-from_IsUtf8 name text) ∙ ap (λ n. Taken (Name n) rest) (sym same)

pub name_refused : (u : Option Unquoted) (items rest : List ℕ) → u ≡ Some (record { text = items; rest = rest }) → ¬ (IsUtf8 items) → name_from u ≡ Refused
unfolding name_from
name_refused u items rest is none = ap name_from is ∙ cond-false (is_utf8 items) _ _ (not_utf8 items none)

pub text_taken : (u : Option Unquoted) (text items rest : List ℕ) → u ≡ Some (record { text = items; rest = rest }) → text ≡ items → IsUtf8 text → length text ≤ MAX_CONTENT_LEN
    → text_from u ≡ Taken (Value (Text text)) rest
unfolding text_from
text_taken u text items rest is same good short =
    ap text_from is
    ∙ cond-true (is_utf8 items && leb (length items) MAX_CONTENT_LEN) _ _ (ap (λ t. is_utf8 t && leb (length t) MAX_CONTENT_LEN) (sym same) ∙ and_from _ _ (is_utf8-from_IsUtf8 text good) (le-leb (length text) MAX_CONTENT_LEN short))
    ∙ ap (λ t. Taken (Value (Text t)) rest) (sym same)

pub text_refused : (u : Option Unquoted) (items rest : List ℕ) → u ≡ Some (record { text = items; rest = rest }) → ¬ (IsUtf8 items) → text_from u ≡ Refused
unfolding text_from
text_refused u items rest is none = ap text_from is ∙ cond-false (is_utf8 items && leb (length items) MAX_CONTENT_LEN) _ _ (and_left _ _ (not_utf8 items none))

pub text_long : (u : Option Unquoted) (text items rest : List ℕ) → u ≡ Some (record { text = items; rest = rest }) → text ≡ items → ¬ (length text ≤ MAX_CONTENT_LEN) → text_from u ≡ Refused
unfolding text_from
text_long u text items rest is same long =
    ap text_from is ∙ cond-false (is_utf8 items && leb (length items) MAX_CONTENT_LEN) _ _
    (and_right _ _ (false_from_ne_true _ (λ h. long (subst (λ t. length t ≤ MAX_CONTENT_LEN) (sym same) (leb-true (length items) MAX_CONTENT_LEN h)))))

pub begins_nothing : (p : ℕ → Bool) (line : List ℕ) → length line ≡ 0 → begins p line ≡ false
begins_nothing p line none = ap (begins p) (nil_from_length line none)
