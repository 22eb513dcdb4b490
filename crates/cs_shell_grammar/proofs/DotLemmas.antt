-- Lemmas on the words of dot lines.
use Rattle.std.proofs.Common.{◌≡◌, ℕ, List, [], ◌∷◌, ◌++◌, Option, Some, None, option_map, Bool, true, false, refl, sym, ap, ◌∙◌}
use Rattle.std.specs.Prelude.{if◌then◌else◌}
use Rattle.cs_shell_tokens.specs.Tokens.{is_blank}
use Rattle.cs_shell_tokens.specs.Words.{Words, words_of, ends_word, onto_first, behind_word, one_slot_in, no_word_in}
use Rattle.cs_shell_tokens.specs.Faults.{and_then}
use Rattle.cs_shell_grammar.specs.declared.dot.Settings.{Settings}
use Rattle.std.specs.Prelude.{codes}
use Rattle.std.specs.Str.{bytes_eq}
use Rattle.cs_shell_tokens.specs.Reading.{tokens_of}
use Rattle.cs_shell_grammar.specs.Commands.{CommandData, SessionChangeset, SessionOpen, SessionIsEmpty, SessionUndo, SessionClose}
use Rattle.cs_shell_grammar.specs.DotReading.{setting_in, settings_in, dot_in, dot_of, session_in, session_of}
use Rattle.cs_shell_grammar.specs.DotReading.{load_in, hex_in, dump_in, invert_in, concat_in, apply_in, revert_in, attach_in}

-- the settings of the words that are left, one word on
pub settings_go : (s t : Settings) (word : List ℕ) (words rest : Words) → words ≡ word ∷ rest → setting_in s word ≡ Some t → settings_in s words ≡ settings_in t rest
unfolding settings_in
settings_go s t word words rest is h = rw is (ap (λ o. and_then o (λ s. settings_in s rest)) h)

pub no_setting : (s : Settings) (word : List ℕ) (words rest : Words) → words ≡ word ∷ rest → setting_in s word ≡ None → settings_in s words ≡ None
unfolding settings_in
no_setting s word words rest is h = rw is (ap (λ o. and_then o (λ s. settings_in s rest)) h)

pub settings_end : (s : Settings) (words : Words) → words ≡ [] → settings_in s words ≡ Some s
unfolding settings_in
settings_end s words is = rw is refl

-- ---- which form it is

pub dot_is : (line word rest : List ℕ) (words : Words) → words_of line ≡ word ∷ words → behind_word line ≡ rest → dot_in line ≡ dot_of word rest
unfolding dot_in
dot_is line word rest words is behind = rw (is, behind) refl

pub dot_none : (line : List ℕ) → words_of line ≡ [] → dot_in line ≡ None
unfolding dot_in
dot_none line is = rw is refl

pub session_is : (line word rest : List ℕ) (words : Words) → words_of line ≡ word ∷ words → behind_word line ≡ rest → session_in line ≡ session_of word rest
unfolding session_in
session_is line word rest words is behind = rw (is, behind) refl

pub session_none : (line : List ℕ) → words_of line ≡ [] → session_in line ≡ None
unfolding session_in
session_none line is = rw is refl

pub dot_of-load : (word rest : List ℕ) → bytes_eq word (codes ".load") ≡ true → dot_of word rest ≡ load_in (words_of rest)
unfolding dot_of
dot_of-load word rest is = rw (is) refl

pub dot_of-hex : (word rest : List ℕ) → bytes_eq word (codes ".load") ≡ false → bytes_eq word (codes ".hex") ≡ true → dot_of word rest ≡ hex_in (words_of rest)
unfolding dot_of
dot_of-hex word rest not_load is = rw (not_load, is) refl

pub dot_of-dump : (word rest : List ℕ) → bytes_eq word (codes ".load") ≡ false → bytes_eq word (codes ".hex") ≡ false → bytes_eq word (codes ".dump") ≡ true → dot_of word rest ≡ dump_in (words_of rest)
unfolding dot_of
dot_of-dump word rest not_load not_hex is = rw (not_load, not_hex, is) refl

pub dot_of-invert : (word rest : List ℕ) → bytes_eq word (codes ".load") ≡ false → bytes_eq word (codes ".hex") ≡ false → bytes_eq word (codes ".dump") ≡ false → bytes_eq word (codes ".invert") ≡ true → dot_of word rest ≡ invert_in (words_of rest)
unfolding dot_of
dot_of-invert word rest not_load not_hex not_dump is = rw (not_load, not_hex, not_dump, is) refl

pub dot_of-concat : (word rest : List ℕ) → bytes_eq word (codes ".load") ≡ false → bytes_eq word (codes ".hex") ≡ false → bytes_eq word (codes ".dump") ≡ false → bytes_eq word (codes ".invert") ≡ false → bytes_eq word (codes ".concat") ≡ true → dot_of word rest ≡ concat_in (words_of rest)
unfolding dot_of
dot_of-concat word rest not_load not_hex not_dump not_invert is = rw (not_load, not_hex, not_dump, not_invert, is) refl

pub dot_of-apply : (word rest : List ℕ) → bytes_eq word (codes ".load") ≡ false → bytes_eq word (codes ".hex") ≡ false → bytes_eq word (codes ".dump") ≡ false → bytes_eq word (codes ".invert") ≡ false → bytes_eq word (codes ".concat") ≡ false → bytes_eq word (codes ".apply") ≡ true → dot_of word rest ≡ apply_in (words_of rest)
unfolding dot_of
dot_of-apply word rest not_load not_hex not_dump not_invert not_concat is = rw (not_load, not_hex, not_dump, not_invert, not_concat, is) refl

pub dot_of-revert : (word rest : List ℕ) → bytes_eq word (codes ".load") ≡ false → bytes_eq word (codes ".hex") ≡ false → bytes_eq word (codes ".dump") ≡ false → bytes_eq word (codes ".invert") ≡ false → bytes_eq word (codes ".concat") ≡ false → bytes_eq word (codes ".apply") ≡ false → bytes_eq word (codes ".revert") ≡ true → dot_of word rest ≡ revert_in (words_of rest)
unfolding dot_of
dot_of-revert word rest not_load not_hex not_dump not_invert not_concat not_apply is = rw (not_load, not_hex, not_dump, not_invert, not_concat, not_apply, is) refl

pub dot_of-session : (word rest : List ℕ) → bytes_eq word (codes ".load") ≡ false → bytes_eq word (codes ".hex") ≡ false → bytes_eq word (codes ".dump") ≡ false → bytes_eq word (codes ".invert") ≡ false → bytes_eq word (codes ".concat") ≡ false → bytes_eq word (codes ".apply") ≡ false → bytes_eq word (codes ".revert") ≡ false → bytes_eq word (codes ".session") ≡ true → dot_of word rest ≡ session_in rest
unfolding dot_of
dot_of-session word rest not_load not_hex not_dump not_invert not_concat not_apply not_revert is = rw (not_load, not_hex, not_dump, not_invert, not_concat, not_apply, not_revert, is) refl

pub dot_of-none : (word rest : List ℕ) → bytes_eq word (codes ".load") ≡ false → bytes_eq word (codes ".hex") ≡ false → bytes_eq word (codes ".dump") ≡ false → bytes_eq word (codes ".invert") ≡ false → bytes_eq word (codes ".concat") ≡ false → bytes_eq word (codes ".apply") ≡ false → bytes_eq word (codes ".revert") ≡ false → bytes_eq word (codes ".session") ≡ false → dot_of word rest ≡ None
unfolding dot_of
dot_of-none word rest not_load not_hex not_dump not_invert not_concat not_apply not_revert not_session = rw (not_load, not_hex, not_dump, not_invert, not_concat, not_apply, not_revert, not_session) refl

pub session_of-attach : (word rest : List ℕ) → bytes_eq word (codes "attach") ≡ true → session_of word rest ≡ attach_in (tokens_of rest)
unfolding session_of
session_of-attach word rest is = rw (is) refl

pub session_of-changeset : (word rest : List ℕ) → bytes_eq word (codes "attach") ≡ false → bytes_eq word (codes "changeset") ≡ true → session_of word rest ≡ option_map SessionChangeset (one_slot_in (words_of rest))
unfolding session_of
session_of-changeset word rest not_attach is = rw (not_attach, is) refl

pub session_of-open : (word rest : List ℕ) → bytes_eq word (codes "attach") ≡ false → bytes_eq word (codes "changeset") ≡ false → bytes_eq word (codes "open") ≡ true → session_of word rest ≡ option_map (λ _. SessionOpen) (no_word_in (words_of rest))
unfolding session_of
session_of-open word rest not_attach not_changeset is = rw (not_attach, not_changeset, is) refl

pub session_of-isempty : (word rest : List ℕ) → bytes_eq word (codes "attach") ≡ false → bytes_eq word (codes "changeset") ≡ false → bytes_eq word (codes "open") ≡ false → bytes_eq word (codes "isempty") ≡ true → session_of word rest ≡ option_map (λ _. SessionIsEmpty) (no_word_in (words_of rest))
unfolding session_of
session_of-isempty word rest not_attach not_changeset not_open is = rw (not_attach, not_changeset, not_open, is) refl

pub session_of-undo : (word rest : List ℕ) → bytes_eq word (codes "attach") ≡ false → bytes_eq word (codes "changeset") ≡ false → bytes_eq word (codes "open") ≡ false → bytes_eq word (codes "isempty") ≡ false → bytes_eq word (codes "undo") ≡ true → session_of word rest ≡ option_map (λ _. SessionUndo) (no_word_in (words_of rest))
unfolding session_of
session_of-undo word rest not_attach not_changeset not_open not_isempty is = rw (not_attach, not_changeset, not_open, not_isempty, is) refl

pub session_of-close : (word rest : List ℕ) → bytes_eq word (codes "attach") ≡ false → bytes_eq word (codes "changeset") ≡ false → bytes_eq word (codes "open") ≡ false → bytes_eq word (codes "isempty") ≡ false → bytes_eq word (codes "undo") ≡ false → bytes_eq word (codes "close") ≡ true → session_of word rest ≡ option_map (λ _. SessionClose) (no_word_in (words_of rest))
unfolding session_of
session_of-close word rest not_attach not_changeset not_open not_isempty not_undo is = rw (not_attach, not_changeset, not_open, not_isempty, not_undo, is) refl

pub session_of-none : (word rest : List ℕ) → bytes_eq word (codes "attach") ≡ false → bytes_eq word (codes "changeset") ≡ false → bytes_eq word (codes "open") ≡ false → bytes_eq word (codes "isempty") ≡ false → bytes_eq word (codes "undo") ≡ false → bytes_eq word (codes "close") ≡ false → session_of word rest ≡ None
unfolding session_of
session_of-none word rest not_attach not_changeset not_open not_isempty not_undo not_close = rw (not_attach, not_changeset, not_open, not_isempty, not_undo, not_close) refl

-- ---- how a line begins

-- the first word begins with this byte
abbrev pub Leads : ℕ → List ℕ → Type 0
Leads b line = (word : List ℕ) × (words : List (List ℕ)) × (words_of line ≡ (b ∷ word) ∷ words)

leads_onto : (b : ℕ) (words : List (List ℕ)) → (word : List ℕ) × (rest : List (List ℕ)) × (onto_first b words ≡ (b ∷ word) ∷ rest)
leads_onto b [] = ([], [], refl)
leads_onto b (word ∷ words) = (word, words, refl)

leads_by : (b : ℕ) (p q : Bool) (some none : List (List ℕ)) → p ≡ false → (word : List ℕ) × (rest : List (List ℕ)) × ((if p then none else if q then (b ∷ []) ∷ some else onto_first b some) ≡ (b ∷ word) ∷ rest)
leads_by b true q some none h = absurd (cc)
leads_by b false true some none h = ([], some, refl)
leads_by b false false some none h = leads_onto b some

pub leads : (b : ℕ) (bytes : List ℕ) → is_blank b ≡ false → Leads b (b ∷ bytes)
unfolding words_of
leads b bytes h = leads_by b (is_blank b) (ends_word bytes) (words_of bytes) (words_of bytes) h

onto-append : (b : ℕ) (words more : List (List ℕ)) → (words ≡ [] → ⊥) → onto_first b (words ++ more) ≡ onto_first b words ++ more
onto-append b [] more some = absurd (some refl)
onto-append b (word ∷ words) more some = refl

pub some_words : (b : ℕ) (bytes : List ℕ) → is_blank b ≡ false → words_of (b ∷ bytes) ≡ [] → ⊥
some_words b bytes h none = let k = leads b bytes h in let e = sym none ∙ k.2 in cc

join_by : (b : ℕ) (p q r : Bool) (words more all : List (List ℕ)) → r ≡ q → all ≡ words ++ more → (q ≡ false → words ≡ [] → ⊥)
    → (if p then all else if r then (b ∷ []) ∷ all else onto_first b all) ≡ (if p then words else if q then (b ∷ []) ∷ words else onto_first b words) ++ more
join_by b true q r words more all same is some = is
join_by b false true r words more all same is some = rw same (ap (λ ws. (b ∷ []) ∷ ws) is)
join_by b false false r words more all same is some = rw same (ap (onto_first b) is ∙ onto-append b words more (some refl))

pub ends_join : (bytes rest : List ℕ) → ends_word rest ≡ true → ends_word (bytes ++ rest) ≡ ends_word bytes
ends_join [] rest h = h
ends_join (b ∷ bytes) rest h = refl

pub not_ended : (bytes : List ℕ) → ends_word bytes ≡ false → words_of bytes ≡ [] → ⊥
not_ended [] h none = absurd (cc)
not_ended (b ∷ bytes) h none = some_words b bytes h none

-- words that end where the rest begins are words of the whole
pub words_of-join : (front rest : List ℕ) → ends_word rest ≡ true → words_of (front ++ rest) ≡ words_of front ++ words_of rest
unfolding words_of
words_of-join [] rest h = refl
words_of-join (b ∷ front) rest h =
    join_by b (is_blank b) (ends_word front) (ends_word (front ++ rest)) (words_of front) (words_of rest) (words_of (front ++ rest)) (ends_join front rest h) (words_of-join front rest h) (not_ended front)

-- the text after the first word has the other words
abbrev pub tail : List (List ℕ) → List (List ℕ)
tail [] = []
tail (word ∷ words) = words

tail_onto : (b : ℕ) (words : List (List ℕ)) → tail (onto_first b words) ≡ tail words
tail_onto b [] = refl
tail_onto b (word ∷ words) = refl

tail_by : (b : ℕ) (p q : Bool) (bytes behind : List ℕ) (words : List (List ℕ)) → words_of bytes ≡ words → words_of behind ≡ tail words
    → words_of (if p then behind else if q then bytes else behind) ≡ tail (if p then words else if q then (b ∷ []) ∷ words else onto_first b words)
tail_by b true q bytes behind words is h = h
tail_by b false true bytes behind words is h = is
tail_by b false false bytes behind words is h = h ∙ sym (tail_onto b words)

pub words_behind : (line : List ℕ) → words_of (behind_word line) ≡ tail (words_of line)
unfolding words_of behind_word
words_behind [] = refl
words_behind (b ∷ bytes) = tail_by b (is_blank b) (ends_word bytes) bytes (behind_word bytes) (words_of bytes) refl (words_behind bytes)

pub dot_by : (line word : List ℕ) (words : List (List ℕ)) (o : Option CommandData) → words_of line ≡ word ∷ words → dot_of word (behind_word line) ≡ o → dot_in line ≡ o
dot_by line word words o is h = dot_is line word (behind_word line) words is refl ∙ h

pub rest_of : (line word : List ℕ) (words : List (List ℕ)) → words_of line ≡ word ∷ words → words_of (behind_word line) ≡ words
rest_of line word words is = words_behind line ∙ ap tail is

pub session_by : (line word : List ℕ) (words : List (List ℕ)) (o : Option CommandData) → words_of line ≡ codes ".session" ∷ word ∷ words → session_of word (behind_word (behind_word line)) ≡ o → dot_in line ≡ o
unfolding dot_of
session_by line word words o is h =
    dot_by line (codes ".session") (word ∷ words) o is (session_is (behind_word line) word (behind_word (behind_word line)) words (rest_of line (codes ".session") (word ∷ words) is) refl ∙ h)

pub rest_of_two : (line first second : List ℕ) (words : List (List ℕ)) → words_of line ≡ first ∷ second ∷ words → words_of (behind_word (behind_word line)) ≡ words
rest_of_two line first second words is = rest_of (behind_word line) second words (rest_of line first (second ∷ words) is)
