-- The words of a line, and the functions on them that the code computes.
use Rattle.std.specs.Prelude.{◌≡◌, ◌≢◌, ℕ, ◌<◌, List, [], ◌∷◌, length, Option, None, Some}
use Rattle.std.specs.Prelude.{Bool, true, false, if◌then◌else◌}
use Rattle.std.specs.List.{AllByRecursion}
use Rattle.std.specs.Str.{is_utf8}
use Rattle.cs_shell_tokens.specs.Tokens.{is_blank, is_word_byte}
use Rattle.cs_shell_tokens.specs.Faults.{and_then}

-- nothing follows a word, or a blank does
abbrev pub ends_word : List ℕ → Bool
ends_word [] = true
ends_word (b ∷ bytes) = is_blank b

-- with one more byte at the front of the first word
abbrev pub onto_first : ℕ → List (List ℕ) → List (List ℕ)
onto_first b [] = (b ∷ []) ∷ []
onto_first b (word ∷ words) = (b ∷ word) ∷ words

-- the words of a line: the texts between its blanks
unfoldable pub words_of : List ℕ → List (List ℕ)
words_of [] = []
words_of (b ∷ bytes) =
    if is_blank b then words_of bytes
    else if ends_word bytes then (b ∷ []) ∷ words_of bytes
    else onto_first b (words_of bytes)

-- the name of a slot: one or more letters, digits and `_`
abbrev pub IsSlot : List ℕ → Type 0
IsSlot name = (name ≢ []) × AllByRecursion (λ b. is_word_byte b ≡ true) name

-- ---- words that are taken

abbrev pub Words : Type 0
Words = List (List ℕ)

-- the text after the first word of a line
unfoldable pub behind_word : List ℕ → List ℕ
behind_word [] = []
behind_word (b ∷ bytes) =
    if is_blank b then behind_word bytes else if ends_word bytes then bytes else behind_word bytes

-- the first word, and the text after it
pub record IsNextWord (line : List ℕ) (word rest : List ℕ) : Type 0 where
  pub words : words_of line ≡ word ∷ words_of rest
  pub behind : behind_word line ≡ rest
  pub shorter : length rest < length line

abbrev pub are_word_bytes : List ℕ → Bool
are_word_bytes [] = true
are_word_bytes (b ∷ bytes) = if is_word_byte b then are_word_bytes bytes else false

abbrev pub is_slot : List ℕ → Bool
is_slot [] = false
is_slot (b ∷ bytes) = are_word_bytes (b ∷ bytes)

unfoldable pub text_in : Words → Option (List ℕ × Words)
text_in [] = None
text_in (word ∷ words) = if is_utf8 word then Some (word, words) else None

unfoldable pub slot_in : Words → Option (List ℕ × Words)
slot_in words = and_then (text_in words) (λ t. if is_slot t.0 then Some t else None)

unfoldable pub no_word_in : Words → Option (Unit {0})
no_word_in [] = Some tt
no_word_in (word ∷ words) = None

-- one slot, and no further word
unfoldable pub one_slot_in : Words → Option (List ℕ)
one_slot_in words = and_then (slot_in words) (λ s. and_then (no_word_in s.1) (λ _. Some s.0))
