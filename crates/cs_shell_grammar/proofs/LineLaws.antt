-- What a line is read as, and what it is spelled as.
use Rattle.std.proofs.Common.{◌≡◌, ◌⊎◌, inl, inr, ℕ, ◌==◌, ◌++◌, List, [], ◌∷◌, map, Option, Some, None, option_map, Bool, true, false, refl, sym, ap, subst, ◌∙◌, IsTrue}
use Rattle.std.specs.Prelude.{if◌then◌else◌, not, ◌&&◌, ◌||◌, codes, IsUtf8}
use Rattle.std.proofs.lemmas.Bool.{eqb-true, false_from_ne_true}
use Rattle.cs_shell_tokens.specs.declared.symbol.Symbol.{Symbol}
use Rattle.cs_shell_tokens.specs.declared.symbol.Symbol.TheVariants as symbol
use Rattle.cs_shell_tokens.specs.Tokens.{Token, Fixed, AreTokens, AreBlanks, is_blank, is_word_byte, is_digit, is_sign, begins}
use Rattle.cs_shell_grammar.specs.Commands.{CommandData, IsStatement, IsDotLine, Create, Insert, Update, Delete, Select, Load, Hex, Dump, Invert, Concat, Apply, Revert}
use Rattle.cs_shell_grammar.specs.Commands.{SessionOpen, SessionAttach, SessionChangeset, SessionIsEmpty, SessionUndo, SessionClose}
use Rattle.cs_shell_tokens.specs.Words.{words_of, IsSlot, slot_in, text_in, one_slot_in, no_word_in}
use Rattle.cs_shell_grammar.specs.Lines.{IsAttach, IsNothing, IsNoCommand, Spelled}
use Rattle.cs_shell_tokens.specs.Reading.{tokens_of}
use Rattle.cs_shell_grammar.specs.StatementReading.{statement_in}
use Rattle.cs_shell_grammar.specs.DotReading.{dot_in}
use Rattle.cs_shell_grammar.specs.LineReading.{begins_dot, line_in}
use Rattle.cs_shell_tokens.proofs.TokenLemmas.{tokens_taken, tokens_again}
use Rattle.cs_shell_grammar.proofs.StatementForms.{statement_taken, statement_again}
use Rattle.cs_shell_tokens.proofs.WordLemmas.{words_of-blank}
use Rattle.std.proofs.Common.{◌<◌, zero, suc, get_or, lit<, arith}
use Rattle.std.specs.List.{AllByRecursion}
use Rattle.std.specs.Str.{is_utf8}
use Rattle.std.proofs.lemmas.Bool.Decides.{nat_tests}
use Rattle.std.proofs.lemmas.Str.{is_utf8-from_IsUtf8, IsUtf8-from_ascii}
use Rattle.cs_apply_conflict_kinds.specs.declared.conflict.Choice.{Choice}
use Rattle.cs_apply_conflict_kinds.specs.declared.conflict.Noop.{Noop}
use Rattle.cs_shell_grammar.specs.DotReading.{digits_in, load_in, hex_in, dump_in, revert_in, invert_in, concat_in, dot_of, session_of}
use Rattle.cs_shell_tokens.proofs.SlotLemmas.{says-is_slot}
use Rattle.cs_shell_grammar.proofs.DotLemmas.{Leads, leads, words_of-join, dot_by, session_by, rest_of, rest_of_two}
use Rattle.cs_shell_grammar.proofs.SettingLemmas.{apply_read}
use Rattle.cs_shell_grammar.proofs.AttachAgain.{attach_again}
use Rattle.cs_shell_grammar.specs.Commands.{setting_text}
use Rattle.cs_shell_grammar.proofs.DotTaken.{dot_taken}

-- ---- how a line begins

leads_behind : (blanks : List ℕ) (b : ℕ) (bytes : List ℕ) → AreBlanks blanks → is_blank b ≡ false → Leads b (blanks ++ b ∷ bytes)
leads_behind [] b bytes are h = leads b bytes h
leads_behind (blank ∷ blanks) b bytes are h = let k = leads_behind blanks b bytes are.1 h in (k.0, k.1, words_of-blank blank (blanks ++ b ∷ bytes) are.0 ∙ k.2)

both : (p q : Bool) → (p && q) ≡ true → p ≡ true
both true q h = refl
both false q h = absurd (cc)

-- a byte of a word is neither of these
other_byte : (b n : ℕ) → is_word_byte b ≡ true → is_word_byte n ≡ false → (b == n) ≡ false
other_byte b n h k = false_from_ne_true _ (λ e. let s = ap is_word_byte (eqb-true b n e) in let f : true ≡ false = sym h ∙ s ∙ k in absurd (cc))

no_or : (p q : Bool) → p ≡ false → q ≡ false → (p || q) ≡ false
no_or true q h k = absurd (cc)
no_or false q h k = k

no_blank : (b : ℕ) → is_word_byte b ≡ true → is_blank b ≡ false
no_blank b h = no_or ((b == 32) || (b == 9)) (b == 13) (no_or (b == 32) (b == 9) (other_byte b 32 h refl) (other_byte b 9 h refl)) (other_byte b 13 h refl)

-- a keyword at the front is a word
abbrev LeadsWord : List ℕ → Type 0
LeadsWord line = (b : ℕ) × (is_word_byte b ≡ true) × Leads b line

word_leads : (blanks bytes rest : List ℕ) → AreBlanks blanks → begins (λ b. is_word_byte b && not (is_digit b)) bytes ≡ true → LeadsWord (blanks ++ bytes ++ rest)
word_leads blanks [] rest are h = absurd (cc)
word_leads blanks (b ∷ bytes) rest are h =
    let w = both (is_word_byte b) (not (is_digit b)) h in
    (b, w, subst (λ line. Leads b line) (sym (Rattle.std.proofs.Common.append_assoc blanks (b ∷ bytes) rest)) (leads_behind blanks b (bytes ++ rest) are (no_blank b w)))

fixed_leads : (s : Symbol) (tokens : List Token) (line : List ℕ) → is_sign s ≡ false → AreTokens line (Fixed s ∷ tokens) → LeadsWord line
fixed_leads s tokens line no_sign (blanks, bytes, rest, is, are, inl sign, more) = let f : false ≡ true = sym no_sign ∙ sign.0 in absurd (cc)
fixed_leads s tokens line no_sign (blanks, bytes, rest, is, are, inr word, more) = subst (λ line. LeadsWord line) (sym is) (word_leads blanks bytes rest are word.0.first)

leads_when : (s : Symbol) (tokens rest : List Token) (line : List ℕ) → is_sign s ≡ false → tokens ≡ Fixed s ∷ rest → AreTokens line tokens → LeadsWord line
leads_when s tokens rest line no_sign is are = fixed_leads s rest line no_sign (subst (λ tokens. AreTokens line tokens) is are)

pub statement_leads : (line : List ℕ) (tokens : List Token) (c : CommandData) → AreTokens line tokens → IsStatement tokens c → LeadsWord line
statement_leads line tokens (Create name columns refuses keys) are h = leads_when symbol.Create tokens _ line refl h.3 are
statement_leads line tokens (Insert table values) are h = leads_when symbol.Insert tokens _ line refl h.1 are
statement_leads line tokens (Update table sets conditions) are h = leads_when symbol.Update tokens _ line refl h.2 are
statement_leads line tokens (Delete table conditions) are h = leads_when symbol.Delete tokens _ line refl h.1 are
statement_leads line tokens (Select table) are h = leads_when symbol.Select tokens _ line refl h are
statement_leads line tokens _ are h = absurd h

-- ---- dot lines

dot_words_lead : (line : List ℕ) (c : CommandData) → IsDotLine (words_of line) c → Leads 46 line
dot_words_lead line (Load slot digits) (s, text, inl h) = (codes "load", _, h)
dot_words_lead line (Load slot digits) (s, text, inr h) = (codes "load", _, h.0)
dot_words_lead line (Hex slot) h = (codes "hex", _, h.1)
dot_words_lead line (Dump slot) h = (codes "dump", _, h.1)
dot_words_lead line (Invert from into) h = (codes "invert", _, h.2)
dot_words_lead line (Concat first second into) h = (codes "concat", _, h.3)
dot_words_lead line (Apply slot on_data on_notfound on_conflict on_constraint noop) h = (codes "apply", _, h.2)
dot_words_lead line (Revert slot) h = (codes "revert", _, h.1)
dot_words_lead line SessionOpen h = (codes "session", _, h)
dot_words_lead line (SessionChangeset slot) h = (codes "session", _, h.1)
dot_words_lead line SessionIsEmpty h = (codes "session", _, h)
dot_words_lead line SessionUndo h = (codes "session", _, h)
dot_words_lead line SessionClose h = (codes "session", _, h)
dot_words_lead line _ h = absurd h

attach_leads : (line : List ℕ) (c : CommandData) → IsAttach line c → Leads 46 line
attach_leads line (SessionAttach table) (front, rest, is, words, ended, tokens) =
    (codes "session", _, ap words_of is ∙ words_of-join front rest ended ∙ ap (λ words. words ++ words_of rest) words)
attach_leads line _ h = absurd h

-- it begins with a dot
pub dot_leads : (line : List ℕ) (c : CommandData) → IsDotLine (words_of line) c ⊎ IsAttach line c → Leads 46 line
dot_leads line c (inr a) = attach_leads line c a
dot_leads line c (inl h) = dot_words_lead line c h

word_byte_is_ascii : (b : ℕ) → is_word_byte b ≡ true → b < 128
word_byte_is_ascii b h = grind (arith, nat_tests)

ascii_at : (bytes : List ℕ) → AllByRecursion (λ b. is_word_byte b ≡ true) bytes → (i : ℕ) → get_or bytes i 0 < 128
ascii_at [] all i = lit< tt
ascii_at (b ∷ bytes) all zero = word_byte_is_ascii b all.0
ascii_at (b ∷ bytes) all (suc i) = ascii_at bytes all.1 i

slot_utf8 : (w : List ℕ) → IsSlot w → is_utf8 w ≡ true
slot_utf8 w s = is_utf8-from_IsUtf8 w (IsUtf8-from_ascii w (ascii_at w s.1))

slot_read : (w : List ℕ) (ws : List (List ℕ)) → IsSlot w → slot_in (w ∷ ws) ≡ Some (w, ws)
unfolding slot_in text_in
slot_read w ws s = rw (slot_utf8 w s, says-is_slot w s) refl

one_slot_read : (w : List ℕ) → IsSlot w → one_slot_in (w ∷ []) ≡ Some w
unfolding one_slot_in no_word_in
one_slot_read w s = rw (slot_read w [] s) refl

apply_again : (line slot : List ℕ) (d n k r : Choice) (noop : Noop) → IsDotLine (words_of line) (Apply slot d n k r noop) → dot_in line ≡ Some (Apply slot d n k r noop)
unfolding dot_of
apply_again line slot d n k r noop (s, settings, is, apart, data_is, notfound_is, conflict_is, constraint_is, noop_is) =
    dot_by line _ _ _ is (rw (rest_of line _ _ is) (apply_read slot settings d n k r noop (slot_read slot (map setting_text settings) s) apart data_is notfound_is conflict_is constraint_is noop_is))

dot_words_again : (line : List ℕ) (c : CommandData) → IsUtf8 line → IsDotLine (words_of line) c → dot_in line ≡ Some c
unfolding dot_of session_of load_in digits_in text_in hex_in dump_in invert_in concat_in revert_in no_word_in
dot_words_again line (Load slot digits) utf8 (s, text, inl h) =
    dot_by line _ _ _ h (rw (rest_of line _ _ h, slot_read slot (digits ∷ []) s, is_utf8-from_IsUtf8 digits text) refl)
dot_words_again line (Load slot digits) utf8 (s, text, inr h) =
    dot_by line _ _ _ h.0 (rw (rest_of line _ _ h.0, slot_read slot [] s, h.1) refl)
dot_words_again line (Hex slot) utf8 h = dot_by line _ _ _ h.1 (rw (rest_of line _ _ h.1, one_slot_read slot h.0) refl)
dot_words_again line (Dump slot) utf8 h = dot_by line _ _ _ h.1 (rw (rest_of line _ _ h.1, one_slot_read slot h.0) refl)
dot_words_again line (Revert slot) utf8 h = dot_by line _ _ _ h.1 (rw (rest_of line _ _ h.1, one_slot_read slot h.0) refl)
dot_words_again line (Invert from into) utf8 h = dot_by line _ _ _ h.2 (rw (rest_of line _ _ h.2, slot_read from (into ∷ []) h.0, one_slot_read into h.1) refl)
dot_words_again line (Concat first second into) utf8 h =
    dot_by line _ _ _ h.3 (rw (rest_of line _ _ h.3, slot_read first (second ∷ into ∷ []) h.0, slot_read second (into ∷ []) h.1, one_slot_read into h.2) refl)
dot_words_again line (Apply slot on_data on_notfound on_conflict on_constraint noop) utf8 h = apply_again line slot on_data on_notfound on_conflict on_constraint noop h
dot_words_again line SessionOpen utf8 h = session_by line _ _ _ h (rw (rest_of_two line _ _ _ h) refl)
dot_words_again line SessionIsEmpty utf8 h = session_by line _ _ _ h (rw (rest_of_two line _ _ _ h) refl)
dot_words_again line SessionUndo utf8 h = session_by line _ _ _ h (rw (rest_of_two line _ _ _ h) refl)
dot_words_again line SessionClose utf8 h = session_by line _ _ _ h (rw (rest_of_two line _ _ _ h) refl)
dot_words_again line (SessionChangeset slot) utf8 h = session_by line _ _ _ h.1 (rw (rest_of_two line _ _ _ h.1, one_slot_read slot h.0) refl)
dot_words_again line _ utf8 h = absurd h

-- and what is one is read as it
pub dot_again : (line : List ℕ) (c : CommandData) → IsUtf8 line → IsDotLine (words_of line) c ⊎ IsAttach line c → dot_in line ≡ Some c
dot_again line c utf8 (inl h) = dot_words_again line c utf8 h
dot_again line c utf8 (inr h) = attach_again line c h

-- ---- lines

leads_no_dot : (line : List ℕ) → LeadsWord line → begins_dot (words_of line) ≡ false
leads_no_dot line (b, word, k) = ap begins_dot k.2 ∙ other_byte b 46 word refl

leads_dot : (line : List ℕ) → Leads 46 line → begins_dot (words_of line) ≡ true
leads_dot line k = ap begins_dot k.2

leads_command : (b : ℕ) (line : List ℕ) → (b == 45) ≡ false → Leads b line → IsNothing line → ⊥
leads_command b line apart k nothing =
    let n : IsNoCommand ((b ∷ k.0) ∷ k.1) = subst (λ words. IsNoCommand words) k.2 nothing in
    let e : b ∷ k.0 ≡ 45 ∷ 45 ∷ n.0 = n.1 in
    let f : b ≡ 45 = cc in
    let g : true ≡ false = sym (ap (λ b. b == 45) f) ∙ apart in absurd (cc)

-- a line that asks for something is not blank and no comment
pub spelled_is_some : (line : List ℕ) (c : CommandData) → Spelled line c → IsNothing line → ⊥
spelled_is_some line c (inl s) nothing = let k = statement_leads line s.0 c s.1 s.2 in leads_command k.0 line (other_byte k.0 45 k.1 refl) k.2 nothing
spelled_is_some line c (inr d) nothing = leads_command 46 line refl (dot_leads line c d) nothing

line_taken_by : (q : Bool) (line : List ℕ) (c : CommandData) → IsUtf8 line → (if q then dot_in line else statement_in (tokens_of line)) ≡ Some c → Spelled line c
line_taken_by true line c utf8 h = inr (dot_taken line c utf8 h)
line_taken_by false line c utf8 h = let k = statement_taken (tokens_of line) c h in inl (k.0, tokens_taken line k.0 k.1, k.2)

pub line_taken : (line : List ℕ) (c : CommandData) → IsUtf8 line → line_in line ≡ Some c → Spelled line c
unfolding line_in
line_taken line c utf8 h = line_taken_by (begins_dot (words_of line)) line c utf8 h

pub line_again : (line : List ℕ) (c : CommandData) → IsUtf8 line → Spelled line c → line_in line ≡ Some c
unfolding line_in
line_again line c utf8 (inl s) = rw (leads_no_dot line (statement_leads line s.0 c s.1 s.2), tokens_again line s.0 s.1) (statement_again s.0 c s.2)
line_again line c utf8 (inr d) = rw (leads_dot line (dot_leads line c d)) (dot_again line c utf8 d)

pub refused : (line : List ℕ) → IsUtf8 line → line_in line ≡ None → (c : CommandData) → Spelled line c → ⊥
refused line utf8 none c h = let k = sym none ∙ line_again line c utf8 h in cc
