-- Lemmas on the words of a line.
use Rattle.std.proofs.Common.{◌≡◌, ℕ, ◌<◌, ◌==◌, List, [], ◌∷◌, ◌++◌, length, Bool, true, false, refl, sym, ap, subst, ◌∙◌, append_assoc, arith}
use Rattle.std.specs.List.{All, AllByRecursion}
use Rattle.std.proofs.lemmas.List.Elements.{recursion_from_All}
use Rattle.std.proofs.lemmas.Bool.{cond-true, cond-false, both_ways, not-true, eqb-true, eqb-false}
use Rattle.std.proofs.lemmas.List.{append-nil, nil_from_length}
use Rattle.cs_shell_tokens.specs.Tokens.{is_blank}
use Rattle.cs_shell_tokens.specs.Words.{ends_word, words_of, onto_first, behind_word}
use Rattle.cs_shell_tokens.specs.Reading.{starts_word}

-- an empty line has no word
pub words_of-nil : words_of [] ≡ []
unfolding words_of
words_of-nil = refl

-- a blank at the front is in no word
pub words_of-blank : (b : ℕ) (bytes : List ℕ) → is_blank b ≡ true → words_of (b ∷ bytes) ≡ words_of bytes
unfolding words_of
words_of-blank b bytes h = cond-true (is_blank b) _ _ h

words_of-last : (b : ℕ) (rest : List ℕ) → is_blank b ≡ false → ends_word rest ≡ true → words_of (b ∷ rest) ≡ (b ∷ []) ∷ words_of rest
unfolding words_of
words_of-last b rest h e = cond-false (is_blank b) _ _ h ∙ cond-true (ends_word rest) _ _ e

words_of-inner : (b c : ℕ) (bytes : List ℕ) → is_blank b ≡ false → is_blank c ≡ false → words_of (b ∷ c ∷ bytes) ≡ onto_first b (words_of (c ∷ bytes))
unfolding words_of
words_of-inner b c bytes h e = cond-false (is_blank b) _ _ h ∙ cond-false (is_blank c) _ _ e

words_of-recursion : (b : ℕ) (word rest : List ℕ) → AllByRecursion (λ b. is_blank b ≡ false) (b ∷ word) → ends_word rest ≡ true → words_of ((b ∷ word) ++ rest) ≡ (b ∷ word) ∷ words_of rest
words_of-recursion b [] rest h e = words_of-last b rest h.0 e
words_of-recursion b (c ∷ word) rest h e = words_of-inner b c (word ++ rest) h.0 h.1.0 ∙ ap (onto_first b) (words_of-recursion c word rest h.1 e)

-- a word that ends where the rest begins is the first word
pub words_of-append : (word rest : List ℕ) → 0 < length word → All (λ b. is_blank b ≡ false) word → ends_word rest ≡ true → words_of (word ++ rest) ≡ word ∷ words_of rest
words_of-append [] rest some h e = absurd (omega arith)
words_of-append (b ∷ word) rest some h e = words_of-recursion b word rest (recursion_from_All _ (b ∷ word) h) e

-- the text before a blank has a byte, where a word begins
pub word_nonempty : (word rest line : List ℕ) → line ≡ word ++ rest → 0 < length line → starts_word line ≡ true → ends_word rest ≡ true → 0 < length word
word_nonempty (b ∷ word) rest line is some start e = omega arith
word_nonempty [] [] line is some start e = absurd (omega (arith, ap length is))
word_nonempty [] (b ∷ rest) line is some start e = absurd (both_ways (is_blank b) (not-true (is_blank b) (subst (λ l. starts_word l ≡ true) is start)) e)

-- what a test of `is_empty` says
pub nonempty_tested : (bytes : List ℕ) (empty : Bool) → empty ≡ (length bytes == 0) → empty ≡ false → 0 < length bytes
nonempty_tested bytes empty is tested = let apart = eqb-false (length bytes) 0 (sym is ∙ tested) in omega arith

pub empty_tested : (bytes : List ℕ) (empty : Bool) → empty ≡ (length bytes == 0) → empty ≡ true → bytes ≡ []
empty_tested bytes empty is tested = nil_from_length bytes (eqb-true (length bytes) 0 (sym is ∙ tested))

-- at the end the words are all
pub words_all : (words : List (List ℕ)) (rest line : List ℕ) → words ++ words_of rest ≡ words_of line → rest ≡ [] → words ≡ words_of line
words_all words rest line so_far none = sym (append-nil words) ∙ ap (λ ws. words ++ ws) (sym (ap words_of none ∙ words_of-nil)) ∙ so_far

-- the words so far and those of the rest, one word on
pub words_more : (words : List (List ℕ)) (word after next rest line : List ℕ) → words ++ words_of rest ≡ words_of line → rest ≡ word ++ after → 0 < length rest
    → starts_word rest ≡ true → All (λ b. is_blank b ≡ false) word → ends_word after ≡ true → words_of next ≡ words_of after → (words ++ word ∷ []) ++ words_of next ≡ words_of line
words_more words word after next rest line so_far is some start none_blank e skipped =
    append_assoc words (word ∷ []) (words_of next) ∙ ap (λ ws. words ++ word ∷ ws) skipped
    ∙ ap (λ ws. words ++ ws) (sym (words_of-append word after (word_nonempty word after rest is some start e) none_blank e))
    ∙ ap (λ l. words ++ words_of l) (sym is) ∙ so_far

-- ---- the text after a word

pub behind_word-blank : (b : ℕ) (bytes : List ℕ) → is_blank b ≡ true → behind_word (b ∷ bytes) ≡ behind_word bytes
unfolding behind_word
behind_word-blank b bytes h = cond-true (is_blank b) _ _ h

behind_word-last : (b : ℕ) (rest : List ℕ) → is_blank b ≡ false → ends_word rest ≡ true → behind_word (b ∷ rest) ≡ rest
unfolding behind_word
behind_word-last b rest h e = cond-false (is_blank b) _ _ h ∙ cond-true (ends_word rest) _ _ e

behind_word-inner : (b c : ℕ) (bytes : List ℕ) → is_blank b ≡ false → is_blank c ≡ false → behind_word (b ∷ c ∷ bytes) ≡ behind_word (c ∷ bytes)
unfolding behind_word
behind_word-inner b c bytes h e = cond-false (is_blank b) _ _ h ∙ cond-false (is_blank c) _ _ e

behind_word-recursion : (b : ℕ) (word rest : List ℕ) → AllByRecursion (λ b. is_blank b ≡ false) (b ∷ word) → ends_word rest ≡ true → behind_word ((b ∷ word) ++ rest) ≡ rest
behind_word-recursion b [] rest h e = behind_word-last b rest h.0 e
behind_word-recursion b (c ∷ word) rest h e = behind_word-inner b c (word ++ rest) h.0 h.1.0 ∙ behind_word-recursion c word rest h.1 e

pub behind_word-append : (word rest : List ℕ) → 0 < length word → All (λ b. is_blank b ≡ false) word → ends_word rest ≡ true → behind_word (word ++ rest) ≡ rest
behind_word-append [] rest some h e = absurd (omega arith)
behind_word-append (b ∷ word) rest some h e = behind_word-recursion b word rest (recursion_from_All _ (b ∷ word) h) e
