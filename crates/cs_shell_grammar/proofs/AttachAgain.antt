-- `.session attach` and a name are read as that.
use Rattle.std.proofs.Common.{◌≡◌, ℕ, List, [], ◌∷◌, ◌++◌, Some, Bool, true, false, refl, sym, ap, ◌∙◌, append_assoc, inl, inr}
use Rattle.std.specs.Prelude.{if◌then◌else◌, codes}
use Rattle.std.proofs.lemmas.Bool.{cases_Bool}
use Rattle.cs_shell_tokens.specs.Tokens.{Token, Name, AreTokens, AreBlanks, is_blank}
use Rattle.cs_shell_grammar.specs.Commands.{CommandData, SessionAttach}
use Rattle.cs_shell_tokens.specs.Words.{words_of, ends_word, behind_word}
use Rattle.cs_shell_grammar.specs.Lines.{IsAttach}
use Rattle.cs_shell_tokens.specs.Reading.{tokens_of}
use Rattle.cs_shell_grammar.specs.DotReading.{dot_in, attach_in}
use Rattle.cs_shell_tokens.proofs.TokenLemmas.{tokens_again}
use Rattle.cs_shell_tokens.proofs.WordLemmas.{words_of-nil, words_of-blank}
use Rattle.cs_shell_grammar.proofs.DotLemmas.{some_words, not_ended, ends_join, words_of-join, session_by, rest_of, rest_of_two, session_of-attach}

behind_by : (p q r : Bool) (front rest behind all : List ℕ) → r ≡ q → (p ≡ true → all ≡ behind ++ rest) → (q ≡ false → all ≡ behind ++ rest)
    → (if p then all else if r then front ++ rest else all) ≡ (if p then behind else if q then front else behind) ++ rest
behind_by true q r front rest behind all same blank inner = blank refl
behind_by false true r front rest behind all same blank inner = rw same refl
behind_by false false r front rest behind all same blank inner = rw same (inner refl)

-- what comes after the first word, if more follows the line
behind_join : (front rest : List ℕ) → ends_word rest ≡ true → (words_of front ≡ [] → ⊥) → behind_word (front ++ rest) ≡ behind_word front ++ rest
unfolding behind_word
behind_join [] rest h some = absurd (some words_of-nil)
behind_join (b ∷ front) rest h some =
    behind_by (is_blank b) (ends_word front) (ends_word (front ++ rest)) front rest (behind_word front) (behind_word (front ++ rest)) (ends_join front rest h)
    (λ e. behind_join front rest h (λ none. some (words_of-blank b front e ∙ none))) (λ e. behind_join front rest h (not_ended front e))

word_is_some : (bytes word : List ℕ) (words : List (List ℕ)) → words_of bytes ≡ word ∷ words → words_of bytes ≡ [] → ⊥
word_is_some bytes word words is none = let f = sym none ∙ is in cc

-- the same of two words
behind_two : (front rest first second : List ℕ) → ends_word rest ≡ true → words_of front ≡ first ∷ second ∷ [] → behind_word (behind_word (front ++ rest)) ≡ behind_word (behind_word front) ++ rest
behind_two front rest first second h is =
    ap behind_word (behind_join front rest h (word_is_some front first (second ∷ []) is))
    ∙ behind_join (behind_word front) rest h (word_is_some (behind_word front) second [] (rest_of front first (second ∷ []) is))

-- a line with no word is blank
no_words : (bytes : List ℕ) → words_of bytes ≡ [] → AreBlanks bytes
no_words [] none = tt
no_words (b ∷ bytes) none = elim (cases_Bool (is_blank b)) [
  | inl h ↦ (h, no_words bytes (sym (words_of-blank b bytes h) ∙ none))
  | inr h ↦ absurd (some_words b bytes h none)
]

both_blank : (front more : List ℕ) → AreBlanks front → AreBlanks more → AreBlanks (front ++ more)
both_blank [] more h e = e
both_blank (b ∷ front) more h e = (h.0, both_blank front more h.1 e)

-- blanks in front of a token are none of it
behind_blanks : (front line : List ℕ) (token : Token) (tokens : List Token) → AreBlanks front → AreTokens line (token ∷ tokens) → AreTokens (front ++ line) (token ∷ tokens)
behind_blanks front line token tokens h (blanks, bytes, rest, is, are, spelled, more) =
    (front ++ blanks, bytes, rest, ap (λ l. front ++ l) is ∙ simp append_assoc, both_blank front blanks h are, spelled, more)

name_read : (table : List ℕ) → attach_in (Some (Name table) ∷ []) ≡ Some (SessionAttach table)
unfolding attach_in
name_read table = refl

attach_read : (line front rest table : List ℕ) → line ≡ front ++ rest → words_of front ≡ codes ".session" ∷ codes "attach" ∷ [] → ends_word rest ≡ true → AreTokens rest (Name table ∷ [])
    → dot_in line ≡ Some (SessionAttach table)
attach_read line front rest table is words ended tokens =
    session_by line (codes "attach") (words_of rest) (Some (SessionAttach table)) (ap words_of is ∙ words_of-join front rest ended ∙ ap (λ ws. ws ++ words_of rest) words)
    (session_of-attach (codes "attach") (behind_word (behind_word line)) refl
    ∙ ap (λ l. attach_in (tokens_of l)) (ap (λ l. behind_word (behind_word l)) is ∙ behind_two front rest (codes ".session") (codes "attach") ended words)
    ∙ ap attach_in (tokens_again (behind_word (behind_word front) ++ rest) (Name table ∷ [])
    (behind_blanks (behind_word (behind_word front)) rest (Name table) [] (no_words (behind_word (behind_word front)) (rest_of_two front (codes ".session") (codes "attach") [] words)) tokens))
    ∙ name_read table)

-- what asks to attach a table is read as that
pub attach_again : (line : List ℕ) (c : CommandData) → IsAttach line c → dot_in line ≡ Some c
attach_again line (SessionAttach table) (front, rest, is, words, ended, tokens) = attach_read line front rest table is words ended tokens
attach_again line _ h = absurd h
