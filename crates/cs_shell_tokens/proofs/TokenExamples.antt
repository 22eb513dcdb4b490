-- Lines and their tokens.
use Rattle.std.proofs.Common.{◌≡◌, [], ◌∷◌, Some, None, codes, refl}
use Rattle.std.specs.Prelude.{⊤, pos, negsuc}
use Rattle.std.specs.Str.{is_utf8, chars}
use lib.Utf8.{encode}
use Rattle.hex.proofs.OnLiterals.{hex_on_literals}
use Rattle.cs_value.specs.declared.value.OwnedValue.TheVariants.{Int, Text, Blob, Null}
use Rattle.cs_shell_tokens.specs.declared.symbol.Symbol.TheVariants.{Create, Table, Select, From, Not, Star, Semicolon, Open, Close, Comma, Equals}
use Rattle.cs_shell_tokens.specs.Tokens.{Fixed, Name, Value}
use Rattle.cs_shell_tokens.specs.Reading.{front_of, behind, piece_of, behind_piece, unquoted, keyword_of, word_of, is_integer, integer_of, token_of_piece, piece_at, name_from, text_from, blob_from, blob_of, blob_at, sign_at, token_at, next_at, tokens_within, tokens_of}

-- what an answer unfolds to compute the tokens of a literal
unfoldable pub on_literals : ⊤
unfolding front_of behind piece_of behind_piece unquoted keyword_of word_of is_integer integer_of token_of_piece piece_at name_from text_from blob_from blob_of blob_at sign_at token_at next_at tokens_within tokens_of is_utf8 chars encode hex_on_literals
on_literals = tt

words_and_symbols :
    (tokens_of (codes "cReAtE Table sELECT") ≡ Some (Fixed Create) ∷ Some (Fixed Table) ∷ Some (Fixed Select) ∷ [])
    × (tokens_of (codes "NULL,nulls") ≡ Some (Value Null) ∷ Some (Fixed Comma) ∷ Some (Name (codes "nulls")) ∷ [])
    × (tokens_of (codes "Not nulL not_ \"not\"")
    ≡ Some (Fixed Not) ∷ Some (Value Null) ∷ Some (Name (codes "not_")) ∷ Some (Name (codes "not")) ∷ [])
    × (tokens_of (codes "\"select\" X x1 _")
    ≡ Some (Name (codes "select")) ∷ Some (Name (codes "X")) ∷ Some (Name (codes "x1")) ∷ Some (Name (codes "_")) ∷ [])
    × (tokens_of (codes "SELECT*FROM\"t\";")
    ≡ Some (Fixed Select) ∷ Some (Fixed Star) ∷ Some (Fixed From) ∷ Some (Name (codes "t")) ∷ Some (Fixed Semicolon)
    ∷ [])
    × (tokens_of (codes " \t\r") ≡ [])
unfolding on_literals
words_and_symbols = (refl, refl, refl, refl, refl, refl)

literals :
    (tokens_of (codes "\"a\"\"b\"") ≡ Some (Name (codes "a\"b")) ∷ [])
    × (tokens_of (codes "'it''s'") ≡ Some (Value (Text (codes "it's"))) ∷ [])
    × (tokens_of (codes "X'' x'0F'") ≡ Some (Value (Blob [])) ∷ Some (Value (Blob (15 ∷ []))) ∷ [])
    × (tokens_of (codes "-9223372036854775808 9223372036854775807")
    ≡ Some (Value (Int (negsuc 9223372036854775807))) ∷ Some (Value (Int (pos 9223372036854775807))) ∷ [])
unfolding on_literals
literals = (refl, refl, refl, refl)

-- after what is malformed there is no token
malformed :
    (tokens_of (codes "9223372036854775808") ≡ None ∷ [])
    × (tokens_of (codes "1x") ≡ None ∷ [])
    × (tokens_of (codes "- 1") ≡ None ∷ [])
    × (tokens_of (codes "X'0'") ≡ None ∷ [])
    × (tokens_of (codes "'abc") ≡ None ∷ [])
    × (tokens_of (codes "(a=-7)#,")
    ≡ Some (Fixed Open) ∷ Some (Name (codes "a")) ∷ Some (Fixed Equals) ∷ Some (Value (Int (negsuc 6)))
    ∷ Some (Fixed Close) ∷ None ∷ [])
unfolding on_literals
malformed = (refl, refl, refl, refl, refl, refl)
