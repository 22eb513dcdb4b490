-- The tokens of a line as a function, which the code computes: what contracts of this crate's own functions say.
use Rattle.std.specs.Prelude.{◌≡◌, ℕ, zero, suc, ◌==◌, ◌&&◌, ◌||◌, ◌<◌, ◌^◌, nat_le, nat_lt, Bool, true, false, not}
use Rattle.std.specs.Prelude.{if◌then◌else◌, List, [], ◌∷◌, ◌++◌, length}
use Rattle.std.specs.Prelude.{Option, None, Some, Result, Ok, Err, Vec, codes, string_bytes}
use Rattle.std.specs.Borrow.{Bor}
use Rattle.std.specs.declared.alloc.Global.{Global}
use Rattle.std.specs.List.{find}
use Rattle.std.specs.Str.{is_utf8, all_ascii_digits, str_eq_ignore_ascii_case}
use Rattle.std.specs.Str.Parse.{digits_value, starts_with_minus, signed_digits_value, without_leading_sign}
use Rattle.hex.specs.Hex.{decode_of}
use Rattle.hex.specs.declared.error.FromHexError.{FromHexError}
use Rattle.cs_value.specs.declared.TheConstants.{MAX_CONTENT_LEN}
use Rattle.cs_value.specs.declared.value.OwnedValue.TheVariants.{Int, Text, Blob, Null}
use Rattle.cs_shell_tokens.specs.declared.symbol.Symbol.{Symbol}
use Rattle.cs_shell_tokens.specs.declared.symbol.Symbol.TheVariants as symbol
use Rattle.cs_shell_tokens.specs.declared.token.Token.{Token as TokenOf}
use Rattle.cs_shell_tokens.specs.declared.token.Token.TheVariants as token
use Rattle.cs_shell_tokens.specs.declared.token.Found.{Found}
use Rattle.cs_shell_tokens.specs.declared.token.Found.TheVariants as found
use Rattle.cs_shell_tokens.specs.Tokens.{Token, Fixed, Name, Value, symbol_text, is_blank, is_digit, is_word_byte, begins}

-- a token of the code
abbrev pub token_of : TokenOf → Token
token_of (token.Fixed symbol) = Fixed symbol
token_of (token.Name name) = Name (string_bytes name)
token_of (token.Value value) = Value value

-- ---- symbols

-- the place of a symbol among the symbols
abbrev pub symbol_place : Symbol → ℕ
symbol_place symbol.Create = 0
symbol_place symbol.Table = 1
symbol_place symbol.Primary = 2
symbol_place symbol.Key = 3
symbol_place symbol.Insert = 4
symbol_place symbol.Into = 5
symbol_place symbol.Values = 6
symbol_place symbol.Update = 7
symbol_place symbol.Set = 8
symbol_place symbol.Where = 9
symbol_place symbol.And = 10
symbol_place symbol.Delete = 11
symbol_place symbol.From = 12
symbol_place symbol.Select = 13
symbol_place symbol.Not = 14
symbol_place symbol.Open = 15
symbol_place symbol.Close = 16
symbol_place symbol.Comma = 17
symbol_place symbol.Semicolon = 18
symbol_place symbol.Equals = 19
symbol_place symbol.Star = 20

abbrev pub same_symbol : Symbol → Symbol → Bool
same_symbol a b = symbol_place a == symbol_place b

-- ---- parts of a line

-- nothing is left, or a word begins
abbrev pub starts_word : List ℕ → Bool
starts_word bytes = not (begins is_blank bytes)

-- the longest prefix of bytes that pass
unfoldable pub front_of : (ℕ → Bool) → List ℕ → List ℕ
front_of p [] = []
front_of p (b ∷ bytes) = if p b then b ∷ front_of p bytes else []

-- the bytes from the first that does not pass
unfoldable pub behind : (ℕ → Bool) → List ℕ → List ℕ
behind p [] = []
behind p (b ∷ bytes) = if p b then behind p bytes else b ∷ bytes

-- the first byte and the letters, digits and `_` that follow it; and what follows these
unfoldable pub piece_of : List ℕ → List ℕ
piece_of [] = []
piece_of (b ∷ bytes) = b ∷ front_of is_word_byte bytes

unfoldable pub behind_piece : List ℕ → List ℕ
behind_piece [] = []
behind_piece (b ∷ bytes) = behind is_word_byte bytes

-- a text whose quotes are no longer doubled, and what comes after the quote that ends it
pub record Unquoted : Type 0 where
  pub text : List ℕ
  pub rest : List ℕ

-- the same with bytes in front of the text
abbrev pub onto_text : List ℕ → Option Unquoted → Option Unquoted
onto_text front None = None
onto_text front (Some u) = Some (record { text = front ++ u.text; rest = u.rest })

-- what comes after the first quote of a text, with a quote in it that is still held or without: the next byte says
-- whether a held quote is doubled or ends the text
unfoldable pub unquoted : ℕ → Bool → List ℕ → Option Unquoted
unquoted quote held [] = if held then Some (record { text = []; rest = [] }) else None
unquoted quote held (b ∷ bytes) =
    if b == quote then (if held then onto_text (quote ∷ []) (unquoted quote false bytes) else unquoted quote true bytes)
    else if held then Some (record { text = []; rest = b ∷ bytes })
    else onto_text (b ∷ []) (unquoted quote false bytes)

-- what the code reads of it
abbrev pub unquoted_of : Option (Vec ℕ Global × Bor (List ℕ)) → Option Unquoted
unquoted_of None = None
unquoted_of (Some read) = Some (record { text = read.0.items; rest = read.1.now })

-- ---- tokens

-- what a line begins with: a token, and the rest after it; nothing; or no token
pub data Next : Type 0 where
  Taken : Token → List ℕ → Next
  Ended : Next
  Refused : Next

-- what the code finds is what reading gives
abbrev pub Gives : Next → Found → Type 0
Gives next (found.Token token rest) = next ≡ Taken (token_of token) rest.now
Gives next found.End = next ≡ Ended
Gives next found.Malformed = next ≡ Refused

-- a token, where there is one
abbrev pub token_or_refused : Option Token → List ℕ → Next
token_or_refused None rest = Refused
token_or_refused (Some token) rest = Taken token rest

abbrev pub keywords : List Symbol
keywords = symbol.Create ∷ symbol.Table ∷ symbol.Primary ∷ symbol.Key ∷ symbol.Insert ∷ symbol.Into ∷ symbol.Values
    ∷ symbol.Update ∷ symbol.Set ∷ symbol.Where ∷ symbol.And ∷ symbol.Delete ∷ symbol.From ∷ symbol.Select
    ∷ symbol.Not ∷ []

unfoldable pub keyword_of : List ℕ → Option Symbol
keyword_of word = find (λ symbol. str_eq_ignore_ascii_case word (symbol_text symbol)) keywords

-- a word is a keyword, NULL or a name
abbrev pub named : List ℕ → Option Symbol → Token
named word (Some symbol) = Fixed symbol
named word None = if str_eq_ignore_ascii_case word (codes "NULL") then Value Null else Name word

unfoldable pub word_of : List ℕ → Token
word_of word = named word (keyword_of word)

-- whether the digits are at least one, and their number has 64 bits
unfoldable pub is_integer : List ℕ → Bool
is_integer bytes =
    nat_lt 0 (length (without_leading_sign bytes)) && (all_ascii_digits (without_leading_sign bytes)
    && (if starts_with_minus bytes then nat_le (digits_value 10 (without_leading_sign bytes)) (2 ^ 63)
    else nat_lt (digits_value 10 (without_leading_sign bytes)) (2 ^ 63)))

unfoldable pub integer_of : List ℕ → Option Token
integer_of bytes = if is_integer bytes then Some (Value (Int (signed_digits_value 10 bytes))) else None

-- a piece that begins with a digit or a minus is an integer, and else a word
unfoldable pub token_of_piece : List ℕ → Option Token
token_of_piece piece =
    if begins (λ b. is_digit b || (b == 45)) piece then integer_of piece else Some (word_of piece)

unfoldable pub piece_at : List ℕ → Next
piece_at line =
    if is_utf8 (piece_of line) then token_or_refused (token_of_piece (piece_of line)) (behind_piece line) else Refused

-- a text between quotes as a name, and as a value
unfoldable pub name_from : Option Unquoted → Next
name_from None = Refused
name_from (Some u) = if is_utf8 u.text then Taken (Name u.text) u.rest else Refused

unfoldable pub text_from : Option Unquoted → Next
text_from None = Refused
text_from (Some u) =
    if is_utf8 u.text && nat_le (length u.text) MAX_CONTENT_LEN then Taken (Value (Text u.text)) u.rest else Refused

-- a blob of these bytes
unfoldable pub blob_from : Result (List ℕ) FromHexError → List ℕ → Next
blob_from (Ok blob) rest = if nat_le (length blob) MAX_CONTENT_LEN then Taken (Value (Blob blob)) rest else Refused
blob_from (Err e) rest = Refused

-- a blob of these digits, where the second list begins with the quote that ends them
unfoldable pub blob_of : List ℕ → List ℕ → Next
blob_of digits [] = Refused
blob_of digits (quote ∷ rest) = blob_from (decode_of digits) rest

-- a blob, after the X
unfoldable pub blob_at : List ℕ → Next
blob_at [] = Refused
blob_at (quote ∷ bytes) = blob_of (front_of (λ b. not (b == 39)) bytes) (behind (λ b. not (b == 39)) bytes)

unfoldable pub sign_at : ℕ → List ℕ → Next
sign_at b rest =
    if b == 40 then Taken (Fixed symbol.Open) rest
    else if b == 41 then Taken (Fixed symbol.Close) rest
    else if b == 44 then Taken (Fixed symbol.Comma) rest
    else if b == 59 then Taken (Fixed symbol.Semicolon) rest
    else if b == 61 then Taken (Fixed symbol.Equals) rest
    else if b == 42 then Taken (Fixed symbol.Star) rest
    else Refused

-- the first token, if there are no blanks
unfoldable pub token_at : List ℕ → Next
token_at [] = Ended
token_at (b ∷ bytes) =
    if b == 34 then name_from (unquoted 34 false bytes)
    else if b == 39 then text_from (unquoted 39 false bytes)
    else if ((b == 88) || (b == 120)) && begins (λ b. b == 39) bytes then blob_at bytes
    else if is_word_byte b || (b == 45) then piece_at (b ∷ bytes)
    else sign_at b bytes

-- the token after the blanks
unfoldable pub next_at : List ℕ → Next
next_at line = token_at (behind is_blank line)

-- ---- the tokens of a line

-- a token, and the later ones
abbrev pub onward : (List ℕ → List (Option Token)) → Next → List (Option Token)
onward tokens (Taken token rest) = Some token ∷ tokens rest
onward tokens Ended = []
onward tokens Refused = None ∷ []

-- at most so many tokens
unfoldable pub tokens_within : ℕ → List ℕ → List (Option Token)
tokens_within zero line = []
tokens_within (suc most) line = onward (tokens_within most) (next_at line)

-- the tokens of a line in turn, and None in place of the first that is malformed, which ends them: each takes a byte
unfoldable pub tokens_of : List ℕ → List (Option Token)
tokens_of line = tokens_within (length line) line

-- what is found at the front of the line, which a token makes shorter
abbrev pub Finds : List ℕ → Found → Type 0
Finds line (found.Token token rest) =
    (tokens_of line ≡ Some (token_of token) ∷ tokens_of rest.now) × (length rest.now < length line)
Finds line found.End = tokens_of line ≡ []
Finds line found.Malformed = tokens_of line ≡ None ∷ []
