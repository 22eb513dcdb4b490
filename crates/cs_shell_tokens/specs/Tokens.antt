-- The tokens of a statement, and how a line spells them. They are this project's own, and close to SQL's.
use Rattle.std.specs.Prelude.{◌≡◌, ℕ, ◌==◌, ◌≤◌, ◌||◌, ◌&&◌, ◌⊎◌, nat_le, Bool, true, false, not, List, [], ◌∷◌, ◌++◌, length, ℤ}
use Rattle.std.specs.Prelude.{codes, Ok, IsTrue, IsUtf8, FitsSigned}
use Rattle.std.specs.Int.{w64}
use Rattle.std.specs.List.{AllByRecursion, list_any}
use Rattle.std.specs.Str.{str_eq_ignore_ascii_case}
use Rattle.std.specs.Str.Parse.{IsNumeral, signed_digits_value, without_leading_sign}
use Rattle.hex.specs.Hex.{decode_of}
use Rattle.cs_value.specs.declared.TheConstants.{MAX_CONTENT_LEN}
use Rattle.cs_value.specs.declared.value.OwnedValue.{OwnedValue}
use Rattle.cs_value.specs.declared.value.OwnedValue.TheVariants.{Int, Text, Blob, Null}
use Rattle.cs_value.specs.Quoting.{quoted}
use Rattle.cs_shell_tokens.specs.declared.symbol.Symbol.{Symbol}
use Rattle.cs_shell_tokens.specs.declared.symbol.Symbol.TheVariants as symbol

-- ---- bytes

-- space, tab and carriage return
abbrev pub is_blank : ℕ → Bool
is_blank b = (b == 32) || (b == 9) || (b == 13)

abbrev pub AreBlanks : List ℕ → Type 0
AreBlanks bytes = AllByRecursion (λ b. is_blank b ≡ true) bytes

abbrev pub is_digit : ℕ → Bool
is_digit b = nat_le 48 b && nat_le b 57

-- an ASCII letter, a digit or `_`
abbrev pub is_word_byte : ℕ → Bool
is_word_byte b = (nat_le 97 b && nat_le b 122) || (nat_le 65 b && nat_le b 90) || is_digit b || (b == 95)

-- the first byte is such a one
abbrev pub begins : (ℕ → Bool) → List ℕ → Bool
begins p [] = false
begins p (b ∷ bytes) = p b

-- ---- what a token is

-- the keywords and the signs, which mean one thing each
abbrev pub symbol_text : Symbol → List ℕ
symbol_text symbol.Create = codes "CREATE"
symbol_text symbol.Table = codes "TABLE"
symbol_text symbol.Primary = codes "PRIMARY"
symbol_text symbol.Key = codes "KEY"
symbol_text symbol.Insert = codes "INSERT"
symbol_text symbol.Into = codes "INTO"
symbol_text symbol.Values = codes "VALUES"
symbol_text symbol.Update = codes "UPDATE"
symbol_text symbol.Set = codes "SET"
symbol_text symbol.Where = codes "WHERE"
symbol_text symbol.And = codes "AND"
symbol_text symbol.Delete = codes "DELETE"
symbol_text symbol.From = codes "FROM"
symbol_text symbol.Select = codes "SELECT"
symbol_text symbol.Not = codes "NOT"
symbol_text symbol.Open = codes "("
symbol_text symbol.Close = codes ")"
symbol_text symbol.Comma = codes ","
symbol_text symbol.Semicolon = codes ";"
symbol_text symbol.Equals = codes "="
symbol_text symbol.Star = codes "*"

-- a keyword, in any case, NULL among them
abbrev pub is_keyword : List ℕ → Bool
is_keyword word = list_any (str_eq_ignore_ascii_case word)
    (codes "CREATE" ∷ codes "TABLE" ∷ codes "PRIMARY" ∷ codes "KEY" ∷ codes "INSERT" ∷ codes "INTO" ∷ codes "VALUES"
    ∷ codes "UPDATE" ∷ codes "SET" ∷ codes "WHERE" ∷ codes "AND" ∷ codes "DELETE" ∷ codes "FROM" ∷ codes "SELECT"
    ∷ codes "NOT" ∷ codes "NULL" ∷ [])

pub data Token : Type 0 where
  Fixed : Symbol → Token
  Name : List ℕ → Token
  Value : OwnedValue → Token

-- ---- how it is spelled

-- Each of these says that the bytes spell something where the rest follows. As a token takes as many bytes as it can,
-- the rest does not go on with it.

-- a letter or `_`, and then letters, digits and `_`; where it is an X, no quote follows, since a blob begins so
pub record IsWord (bytes rest : List ℕ) : Type 0 where
  pub first : begins (λ b. is_word_byte b && not (is_digit b)) bytes ≡ true
  pub each : AllByRecursion (λ b. is_word_byte b ≡ true) bytes
  pub longest : begins is_word_byte rest ≡ false
  pub no_blob : str_eq_ignore_ascii_case bytes (codes "X") ≡ true → begins (λ b. b == 39) rest ≡ false

-- a text between two quotes, with each quote in it doubled
pub record IsQuoted (quote : ℕ) (text bytes rest : List ℕ) : Type 0 where
  pub is_text : IsUtf8 text
  pub spelled : bytes ≡ quoted quote text
  pub longest : begins (λ b. b == quote) rest ≡ false

-- a minus or none, and decimal digits, one or more
pub record IsInteger (number : ℤ) (bytes rest : List ℕ) : Type 0 where
  pub no_plus : begins (λ b. b == 43) bytes ≡ false
  pub digits : IsNumeral 10 (without_leading_sign bytes)
  pub number_is : number ≡ signed_digits_value 10 bytes
  pub within : FitsSigned w64 number
  pub longest : begins is_word_byte rest ≡ false

-- an X in either case, and hexadecimal digits between quotes, two for each byte
pub record IsBlob (blob bytes : List ℕ) : Type 0 where
  pub digits : List ℕ
  pub spelled : (bytes ≡ codes "X'" ++ digits ++ codes "'") ⊎ (bytes ≡ codes "x'" ++ digits ++ codes "'")
  pub decoded : decode_of digits ≡ Ok blob

abbrev pub is_sign : Symbol → Bool
is_sign sign = not (begins is_word_byte (symbol_text sign))

abbrev pub Spells : Token → List ℕ → List ℕ → Type 0
Spells (Fixed symbol) bytes rest =
    (IsTrue (is_sign symbol) × (bytes ≡ symbol_text symbol))
    ⊎ (IsWord bytes rest × (str_eq_ignore_ascii_case bytes (symbol_text symbol) ≡ true))
Spells (Name name) bytes rest =
    (IsWord bytes rest × (is_keyword bytes ≡ false) × (bytes ≡ name)) ⊎ IsQuoted 34 name bytes rest
Spells (Value (Int number)) bytes rest = IsInteger number bytes rest
Spells (Value (Text text)) bytes rest = IsQuoted 39 text bytes rest × (length text ≤ MAX_CONTENT_LEN)
Spells (Value (Blob blob)) bytes rest = IsBlob blob bytes × (length blob ≤ MAX_CONTENT_LEN)
Spells (Value Null) bytes rest = IsWord bytes rest × (str_eq_ignore_ascii_case bytes (codes "NULL") ≡ true)

-- the line is these tokens, with blanks or nothing before, between and after them
abbrev pub AreTokens : List ℕ → List Token → Type 0
AreTokens line [] = AreBlanks line
AreTokens line (token ∷ tokens) = (blanks : List ℕ) × (bytes : List ℕ) × (rest : List ℕ)
    × (line ≡ blanks ++ bytes ++ rest) × AreBlanks blanks × Spells token bytes rest × AreTokens rest tokens
