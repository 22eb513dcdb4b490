-- What is read as a dot line is spelled as one.
use Rattle.std.proofs.Common.{◌≡◌, ◌≢◌, ◌⊎◌, inl, inr, ℕ, ◌++◌, List, [], ◌∷◌, map, Option, Some, None, option_map, Bool, true, false, refl, sym, ap, subst, ◌∙◌, append_assoc, lit<}
use Rattle.std.specs.Prelude.{if◌then◌else◌, codes, IsUtf8, unwrap_or}
use Rattle.std.specs.Str.{is_utf8, bytes_eq}
use Rattle.std.proofs.lemmas.Bool.{cond-false, cond-true}
use Rattle.std.proofs.lemmas.Str.{IsUtf8-from_is_utf8, IsUtf8-from_ascii}
use Rattle.cs_value.proofs.ListLemmas.{AllPairs-from_recursion}
use Rattle.cs_apply_conflict_kinds.specs.declared.conflict.Kind.TheVariants as kind
use Rattle.cs_apply_conflict_kinds.specs.declared.conflict.Choice.TheVariants as choice
use Rattle.cs_apply_conflict_kinds.specs.declared.conflict.Noop.TheVariants.{Report}
use Rattle.cs_shell_tokens.specs.Tokens.{Token, Fixed, Name, Value, is_blank}
use Rattle.cs_shell_grammar.specs.Commands.{CommandData, IsDotLine, ForKind, ForNoop, option_of, Load, Hex, Dump, Invert, Concat, Apply, Revert}
use Rattle.cs_shell_tokens.specs.Words.{IsSlot, words_of, ends_word, onto_first, behind_word, is_slot, slot_in, text_in, one_slot_in, no_word_in}
use Rattle.cs_shell_grammar.specs.Commands.{SessionOpen, SessionAttach, SessionChangeset, SessionIsEmpty, SessionUndo, SessionClose}
use Rattle.cs_shell_grammar.specs.Lines.{IsAttach}
use Rattle.cs_shell_tokens.specs.Reading.{tokens_of}
use Rattle.cs_shell_grammar.specs.DotReading.{digits_in, load_in, hex_in, dump_in, revert_in, invert_in, concat_in, apply_in}
use Rattle.cs_shell_grammar.specs.DotReading.{settings_in, no_settings, attach_in, session_in, session_of, dot_of, dot_in}
use Rattle.cs_shell_tokens.proofs.TokenLemmas.{tokens_taken}
use Rattle.cs_shell_grammar.proofs.StatementLaws.{then_some}
use Rattle.cs_shell_tokens.proofs.WordLemmas.{words_of-nil, words_of-blank, behind_word-blank}
use Rattle.cs_shell_grammar.proofs.SettingLemmas.{at, settings_taken, chosen_of, none_some, some_same, same_bytes}
use Rattle.cs_shell_tokens.proofs.SlotLemmas.{is_slot-says}
use Rattle.cs_shell_grammar.proofs.DotLemmas.{dot_is, dot_none, session_is, session_none, not_ended, words_of-join, tail, words_behind}
use Rattle.cs_shell_grammar.proofs.DotLemmas.{dot_of-load, dot_of-hex, dot_of-dump, dot_of-invert, dot_of-concat, dot_of-apply, dot_of-revert, dot_of-session, dot_of-none}
use Rattle.cs_shell_grammar.proofs.DotLemmas.{session_of-attach, session_of-changeset, session_of-open, session_of-isempty, session_of-undo, session_of-close, session_of-none}

-- ---- words

slot_if : (q : Bool) (t u : List ℕ × List (List ℕ)) → (if q then Some t else None) ≡ Some u → (q ≡ true) × (t ≡ u)
slot_if true t u h = (refl, cc)
slot_if false t u h = absurd (cc)

-- the words that a slot is read from
slot_words : (ws rest : List (List ℕ)) (slot : List ℕ) → slot_in ws ≡ Some (slot, rest) → IsSlot slot × (ws ≡ slot ∷ rest)
unfolding slot_in text_in
slot_words [] rest slot h = absurd (cc)
slot_words (w ∷ ws) rest slot h =
    let t = then_some (if is_utf8 w then Some (w, ws) else None) _ (slot, rest) h in
    let k = slot_if (is_utf8 w) (w, ws) t.0 t.1 in
    let j = slot_if (is_slot t.0.0) t.0 (slot, rest) t.2 in
    let e = k.1 ∙ j.1 in
    (subst (λ s. IsSlot s) (ap (λ r. r.0) j.1) (is_slot-says t.0.0 j.0), ap (λ r. r.0 ∷ r.1) e)

nothing_behind : (ws : List (List ℕ)) (u : Unit {0}) → no_word_in ws ≡ Some u → ws ≡ []
unfolding no_word_in
nothing_behind [] u h = refl
nothing_behind (w ∷ ws) u h = absurd (cc)

one_slot_words : (ws : List (List ℕ)) (slot : List ℕ) → one_slot_in ws ≡ Some slot → IsSlot slot × (ws ≡ slot ∷ [])
unfolding one_slot_in
one_slot_words ws slot h =
    let t = then_some (slot_in ws) _ slot h in
    let u = then_some (no_word_in t.0.1) _ slot t.2 in
    let k = slot_words ws t.0.1 t.0.0 t.1 in
    let e : t.0.0 ≡ slot = let f = u.2 in cc in
    (subst (λ s. IsSlot s) e k.0, k.1 ∙ ap (λ r. t.0.0 ∷ r) (nothing_behind t.0.1 u.0 u.1) ∙ ap (λ s. s ∷ []) e)

mapped : {X : Type 0} (C : X → CommandData) (o : Option X) (c : CommandData) → option_map C o ≡ Some c → (x : X) × (o ≡ Some x) × (C x ≡ c)
mapped C None c h = absurd (none_some c h)
mapped C (Some x) c h = (x, refl, some_same (C x) c h)

hex_taken : (ws : List (List ℕ)) (c : CommandData) → hex_in ws ≡ Some c → IsDotLine (codes ".hex" ∷ ws) c
unfolding hex_in
hex_taken ws c h =
    let m = mapped Hex (one_slot_in ws) c h in
    let k = one_slot_words ws m.0 m.1 in
    subst (λ c. IsDotLine (codes ".hex" ∷ ws) c) m.2 (k.0, ap (λ ws. codes ".hex" ∷ ws) k.1)

dump_taken : (ws : List (List ℕ)) (c : CommandData) → dump_in ws ≡ Some c → IsDotLine (codes ".dump" ∷ ws) c
unfolding dump_in
dump_taken ws c h =
    let m = mapped Dump (one_slot_in ws) c h in
    let k = one_slot_words ws m.0 m.1 in
    subst (λ c. IsDotLine (codes ".dump" ∷ ws) c) m.2 (k.0, ap (λ ws. codes ".dump" ∷ ws) k.1)

revert_taken : (ws : List (List ℕ)) (c : CommandData) → revert_in ws ≡ Some c → IsDotLine (codes ".revert" ∷ ws) c
unfolding revert_in
revert_taken ws c h =
    let m = mapped Revert (one_slot_in ws) c h in
    let k = one_slot_words ws m.0 m.1 in
    subst (λ c. IsDotLine (codes ".revert" ∷ ws) c) m.2 (k.0, ap (λ ws. codes ".revert" ∷ ws) k.1)

invert_taken : (ws : List (List ℕ)) (c : CommandData) → invert_in ws ≡ Some c → IsDotLine (codes ".invert" ∷ ws) c
unfolding invert_in
invert_taken ws c h =
    let f = then_some (slot_in ws) _ c h in
    let m = mapped (λ into. Invert f.0.0 into) (one_slot_in f.0.1) c f.2 in
    let j = slot_words ws f.0.1 f.0.0 f.1 in
    let k = one_slot_words f.0.1 m.0 m.1 in
    subst (λ c. IsDotLine (codes ".invert" ∷ ws) c) m.2 (j.0, k.0, ap (λ ws. codes ".invert" ∷ ws) (j.1 ∙ ap (λ ws. f.0.0 ∷ ws) k.1))

concat_taken : (ws : List (List ℕ)) (c : CommandData) → concat_in ws ≡ Some c → IsDotLine (codes ".concat" ∷ ws) c
unfolding concat_in
concat_taken ws c h =
    let f = then_some (slot_in ws) _ c h in
    let g = then_some (slot_in f.0.1) _ c f.2 in
    let m = mapped (λ into. Concat f.0.0 g.0.0 into) (one_slot_in g.0.1) c g.2 in
    let j = slot_words ws f.0.1 f.0.0 f.1 in
    let i = slot_words f.0.1 g.0.1 g.0.0 g.1 in
    let k = one_slot_words g.0.1 m.0 m.1 in
    subst (λ c. IsDotLine (codes ".concat" ∷ ws) c) m.2 (j.0, i.0, k.0, ap (λ ws. codes ".concat" ∷ ws) (j.1 ∙ ap (λ ws. f.0.0 ∷ ws) (i.1 ∙ ap (λ ws. g.0.0 ∷ ws) k.1)))

-- ---- `.load`

empty_utf8 : IsUtf8 []
empty_utf8 = IsUtf8-from_ascii [] (λ i. lit< tt)

digits_words : (ws : List (List ℕ)) (digits : List ℕ) → digits_in ws ≡ Some digits → IsUtf8 digits × ((ws ≡ digits ∷ []) ⊎ ((ws ≡ []) × (digits ≡ [])))
unfolding digits_in text_in
digits_words [] digits h = let e : [] ≡ digits = some_same [] digits h in (subst (λ d. IsUtf8 d) e empty_utf8, inr (refl, sym e))
digits_words (w ∷ ws) digits h =
    let t = then_some (if is_utf8 w then Some (w, ws) else None) _ digits h in
    let u = then_some (no_word_in t.0.1) _ digits t.2 in
    let k = slot_if (is_utf8 w) (w, ws) t.0 t.1 in
    let e : w ≡ digits = ap (λ r. r.0) k.1 ∙ some_same t.0.0 digits u.2 in
    let n : ws ≡ [] = ap (λ r. r.1) k.1 ∙ nothing_behind t.0.1 u.0 u.1 in
    (subst (λ d. IsUtf8 d) e (IsUtf8-from_is_utf8 w k.0), inl (ap (λ w. w ∷ ws) e ∙ ap (λ ws. digits ∷ ws) n))

load_form : (ws rest : List (List ℕ)) (slot digits : List ℕ) → ws ≡ slot ∷ rest → (rest ≡ digits ∷ []) ⊎ ((rest ≡ []) × (digits ≡ []))
    → (codes ".load" ∷ ws ≡ codes ".load" ∷ slot ∷ digits ∷ []) ⊎ ((codes ".load" ∷ ws ≡ codes ".load" ∷ slot ∷ []) × (digits ≡ []))
load_form ws rest slot digits is (inl e) = inl (ap (λ ws. codes ".load" ∷ ws) (is ∙ ap (λ r. slot ∷ r) e))
load_form ws rest slot digits is (inr e) = inr (ap (λ ws. codes ".load" ∷ ws) (is ∙ ap (λ r. slot ∷ r) e.0), e.1)

load_taken : (ws : List (List ℕ)) (c : CommandData) → load_in ws ≡ Some c → IsDotLine (codes ".load" ∷ ws) c
unfolding load_in
load_taken ws c h =
    let f = then_some (slot_in ws) _ c h in
    let m = mapped (λ digits. Load f.0.0 digits) (digits_in f.0.1) c f.2 in
    let j = slot_words ws f.0.1 f.0.0 f.1 in
    let k = digits_words f.0.1 m.0 m.1 in
    subst (λ c. IsDotLine (codes ".load" ∷ ws) c) m.2 (j.0, k.0, load_form ws f.0.1 f.0.0 m.0 j.1 k.1)

-- ---- `.apply`

apply_taken : (ws : List (List ℕ)) (c : CommandData) → apply_in ws ≡ Some c → IsDotLine (codes ".apply" ∷ ws) c
unfolding apply_in
apply_taken ws c h =
    let f = then_some (slot_in ws) _ c h in
    let m = mapped (λ s. Apply f.0.0 (unwrap_or s.on_data choice.Abort) (unwrap_or s.on_notfound choice.Abort) (unwrap_or s.on_conflict choice.Abort) (unwrap_or s.on_constraint choice.Abort) (unwrap_or s.noop Report)) (settings_in no_settings f.0.1) c f.2 in
    let j = slot_words ws f.0.1 f.0.0 f.1 in
    let r = settings_taken no_settings m.0 f.0.1 m.1 in
    subst (λ c. IsDotLine (codes ".apply" ∷ ws) c) m.2 (
      j.0,
      r.settings,
      ap (λ ws. codes ".apply" ∷ ws) (j.1 ∙ ap (λ ws. f.0.0 ∷ ws) r.spelled),
      AllPairs-from_recursion (λ x y. option_of x ≢ option_of y) r.settings r.apart,
      chosen_of (ForKind kind.Data) choice.Abort r.settings r.apart m.0.on_data (λ c. sym (ap (λ t. at t (ForKind kind.Data c)) r.after)),
      chosen_of (ForKind kind.NotFound) choice.Abort r.settings r.apart m.0.on_notfound (λ c. sym (ap (λ t. at t (ForKind kind.NotFound c)) r.after)),
      chosen_of (ForKind kind.Conflict) choice.Abort r.settings r.apart m.0.on_conflict (λ c. sym (ap (λ t. at t (ForKind kind.Conflict c)) r.after)),
      chosen_of (ForKind kind.Constraint) choice.Abort r.settings r.apart m.0.on_constraint (λ c. sym (ap (λ t. at t (ForKind kind.Constraint c)) r.after)),
      chosen_of ForNoop Report r.settings r.apart m.0.noop (λ n. sym (ap (λ t. at t (ForNoop n)) r.after)),
    )

-- ---- `.session`

-- a line is its first word, with blanks in front, and the text after it
record IsSplit (line : List ℕ) : Type 0 where
  front : List ℕ
  word : List ℕ
  whole : line ≡ front ++ behind_word line
  first : words_of front ≡ word ∷ []
  ended : ends_word (behind_word line) ≡ true

front_goes_on : (front rest bytes word : List ℕ) → bytes ≡ front ++ rest → words_of front ≡ word ∷ [] → ends_word bytes ≡ false → ends_word front ≡ false
front_goes_on [] rest bytes word is first h = let e = sym words_of-nil ∙ first in absurd (cc)
front_goes_on (b ∷ front) rest bytes word is first h = sym (ap ends_word is) ∙ h

split_by : (b : ℕ) (bytes : List ℕ) (p q : Bool) → is_blank b ≡ p → ends_word bytes ≡ q → ((words_of bytes ≡ [] → ⊥) → IsSplit bytes) → (words_of (b ∷ bytes) ≡ [] → ⊥) → IsSplit (b ∷ bytes)
unfolding words_of behind_word
split_by b bytes true q blank e more some =
    let s = more (λ none. some (words_of-blank b bytes blank ∙ none)) in
    let behind : behind_word (b ∷ bytes) ≡ behind_word bytes = behind_word-blank b bytes blank in record {
      front = b ∷ s.front;
      word = s.word;
      whole = ap (λ l. b ∷ l) (s.whole ∙ ap (λ l. s.front ++ l) (sym behind));
      first = words_of-blank b s.front blank ∙ s.first;
      ended = ap ends_word behind ∙ s.ended;
    }
split_by b bytes false true blank e more some =
    let behind : behind_word (b ∷ bytes) ≡ bytes = cond-false (is_blank b) _ _ blank ∙ cond-true (ends_word bytes) _ _ e in record {
      front = b ∷ [];
      word = b ∷ [];
      whole = ap (λ l. b ∷ l) (sym behind);
      first = cond-false (is_blank b) _ _ blank;
      ended = ap ends_word behind ∙ e;
    }
split_by b bytes false false blank e more some =
    let s = more (not_ended bytes e) in
    let behind : behind_word (b ∷ bytes) ≡ behind_word bytes = cond-false (is_blank b) _ _ blank ∙ cond-false (ends_word bytes) _ _ e in record {
      front = b ∷ s.front;
      word = b ∷ s.word;
      whole = ap (λ l. b ∷ l) (s.whole ∙ ap (λ l. s.front ++ l) (sym behind));
      first = cond-false (is_blank b) _ _ blank ∙ cond-false (ends_word s.front) _ _ (front_goes_on s.front (behind_word bytes) bytes s.word s.whole s.first e) ∙ ap (onto_first b) s.first;
      ended = ap ends_word behind ∙ s.ended;
    }

split : (line : List ℕ) → (words_of line ≡ [] → ⊥) → IsSplit line
split [] some = absurd (some words_of-nil)
split (b ∷ bytes) some = split_by b bytes (is_blank b) (ends_word bytes) refl refl (split bytes) some

some_of : (ws words : List (List ℕ)) (word : List ℕ) → ws ≡ word ∷ words → ws ≡ [] → ⊥
some_of ws words word is none = let e = sym none ∙ is in cc

heads : (v w : List ℕ) (vs ws : List (List ℕ)) → v ∷ vs ≡ w ∷ ws → v ≡ w
heads v w vs ws e = cc

split_word : (line word : List ℕ) (words : List (List ℕ)) → words_of line ≡ word ∷ words → (s : IsSplit line) → words_of s.front ≡ word ∷ []
split_word line word words is s =
    s.first ∙ ap (λ w. w ∷ []) (heads s.word word (words_of (behind_word line)) words
    (sym (ap words_of s.whole ∙ words_of-join s.front (behind_word line) s.ended ∙ ap (λ ws. ws ++ words_of (behind_word line)) s.first) ∙ is))

front_ends : (front rest line : List ℕ) → line ≡ front ++ rest → ends_word line ≡ true → ends_word front ≡ true
front_ends [] rest line is h = refl
front_ends (b ∷ front) rest line is h = sym (ap ends_word is) ∙ h

-- two words in front of the rest
record AreTwo (line first second rest : List ℕ) : Type 0 where
  front : List ℕ
  whole : line ≡ front ++ rest
  words : words_of front ≡ first ∷ second ∷ []
  ended : ends_word rest ≡ true

two_by : (line first second : List ℕ) (words more : List (List ℕ)) → words_of line ≡ first ∷ words → words_of (behind_word line) ≡ second ∷ more → IsSplit line → IsSplit (behind_word line)
    → AreTwo line first second (behind_word (behind_word line))
two_by line first second words more is behind s t = record {
  front = s.front ++ t.front;
  whole = s.whole ∙ ap (λ l. s.front ++ l) t.whole ∙ sym (append_assoc s.front t.front (behind_word (behind_word line)));
  words =
      words_of-join s.front t.front (front_ends t.front (behind_word (behind_word line)) (behind_word line) t.whole s.ended)
      ∙ ap (λ ws. ws ++ words_of t.front) (split_word line first words is s) ∙ ap (λ ws. first ∷ ws) (split_word (behind_word line) second more behind t);
  ended = t.ended;
}

are_two : (line first second : List ℕ) (words more : List (List ℕ)) → words_of line ≡ first ∷ words → words_of (behind_word line) ≡ second ∷ more → AreTwo line first second (behind_word (behind_word line))
are_two line first second words more is behind =
    two_by line first second words more is behind (split line (some_of (words_of line) words first is)) (split (behind_word line) (some_of (words_of (behind_word line)) more second behind))

attach_name : (ts : List (Option Token)) (c : CommandData) → attach_in ts ≡ Some c → (table : List ℕ) × (ts ≡ map Some (Name table ∷ [])) × (SessionAttach table ≡ c)
unfolding attach_in
attach_name [] c h = absurd (none_some c h)
attach_name (None ∷ []) c h = absurd (none_some c h)
attach_name (Some (Fixed s) ∷ []) c h = absurd (none_some c h)
attach_name (Some (Name n) ∷ []) c h = (n, refl, some_same (SessionAttach n) c h)
attach_name (Some (Value v) ∷ []) c h = absurd (none_some c h)
attach_name (t ∷ u ∷ ts) c h = absurd (none_some c h)

attach_taken : (line rest : List ℕ) (c : CommandData) → AreTwo line (codes ".session") (codes "attach") rest → attach_in (tokens_of rest) ≡ Some c → IsAttach line c
attach_taken line rest c two h =
    let n = attach_name (tokens_of rest) c h in
    subst (λ c. IsAttach line c) n.2 (two.front, rest, two.whole, two.words, two.ended, tokens_taken rest (Name n.0 ∷ []) n.1)

-- a form that is one word
alone : (c d : CommandData) (ws : List (List ℕ)) → option_map (λ _. d) (no_word_in ws) ≡ Some c → (ws ≡ []) × (d ≡ c)
unfolding no_word_in
alone c d [] h = (refl, some_same d c h)
alone c d (w ∷ ws) h = absurd (none_some c h)

abbrev DotOrAttach : List ℕ → CommandData → Type 0
DotOrAttach line c = IsDotLine (words_of line) c ⊎ IsAttach line c

decide : {G : Type 0} (q : Bool) → (q ≡ true → G) → (q ≡ false → G) → G
decide true f g = f refl
decide false f g = g refl

two_words : (line word name : List ℕ) (ws : List (List ℕ)) → words_of line ≡ codes ".session" ∷ word ∷ ws → bytes_eq word name ≡ true → words_of line ≡ codes ".session" ∷ name ∷ ws
two_words line word name ws is same = is ∙ ap (λ w. codes ".session" ∷ w ∷ ws) (same_bytes word name same)

alone_taken : (line word name : List ℕ) (ws : List (List ℕ)) (c d : CommandData) → words_of line ≡ codes ".session" ∷ word ∷ ws → bytes_eq word name ≡ true
    → option_map (λ _. d) (no_word_in ws) ≡ Some c → ((words_of line ≡ codes ".session" ∷ name ∷ []) → IsDotLine (words_of line) d) → DotOrAttach line c
alone_taken line word name ws c d is same h says =
    let a = alone c d ws h in inl (subst (λ c. IsDotLine (words_of line) c) a.1 (says (two_words line word name ws is same ∙ ap (λ ws. codes ".session" ∷ name ∷ ws) a.0)))

changeset_taken : (line word : List ℕ) (ws : List (List ℕ)) (c : CommandData) → words_of line ≡ codes ".session" ∷ word ∷ ws → bytes_eq word (codes "changeset") ≡ true
    → option_map SessionChangeset (one_slot_in ws) ≡ Some c → DotOrAttach line c
changeset_taken line word ws c is same h =
    let m = mapped SessionChangeset (one_slot_in ws) c h in
    let k = one_slot_words ws m.0 m.1 in
    inl (subst (λ c. IsDotLine (words_of line) c) m.2 (k.0, two_words line word (codes "changeset") ws is same ∙ ap (λ ws. codes ".session" ∷ codes "changeset" ∷ ws) k.1))

session_words : (line word rest : List ℕ) (c : CommandData) → words_of line ≡ codes ".session" ∷ word ∷ words_of rest → AreTwo line (codes ".session") word rest → session_of word rest ≡ Some c → DotOrAttach line c
session_words line word rest c is two h =
    decide (bytes_eq word (codes "attach")) (λ y. inr (attach_taken line rest c (subst (λ w. AreTwo line (codes ".session") w rest) (same_bytes word (codes "attach") y) two) (sym (session_of-attach word rest y) ∙ h)))
    (λ n1. decide (bytes_eq word (codes "changeset")) (λ y. changeset_taken line word (words_of rest) c is y (sym (session_of-changeset word rest n1 y) ∙ h))
    (λ n2. decide (bytes_eq word (codes "open")) (λ y. alone_taken line word (codes "open") (words_of rest) c SessionOpen is y (sym (session_of-open word rest n1 n2 y) ∙ h) (λ e. e))
    (λ n3. decide (bytes_eq word (codes "isempty")) (λ y. alone_taken line word (codes "isempty") (words_of rest) c SessionIsEmpty is y (sym (session_of-isempty word rest n1 n2 n3 y) ∙ h) (λ e. e))
    (λ n4. decide (bytes_eq word (codes "undo")) (λ y. alone_taken line word (codes "undo") (words_of rest) c SessionUndo is y (sym (session_of-undo word rest n1 n2 n3 n4 y) ∙ h) (λ e. e))
    (λ n5. decide (bytes_eq word (codes "close")) (λ y. alone_taken line word (codes "close") (words_of rest) c SessionClose is y (sym (session_of-close word rest n1 n2 n3 n4 n5 y) ∙ h) (λ e. e))
    (λ n6. absurd (none_some c (sym (session_of-none word rest n1 n2 n3 n4 n5 n6) ∙ h))))))))

session_by_words : (line : List ℕ) (words : List (List ℕ)) (c : CommandData) → words_of line ≡ codes ".session" ∷ words_of (behind_word line) → words_of (behind_word line) ≡ words → session_in (behind_word line) ≡ Some c → DotOrAttach line c
session_by_words line [] c is behind h = absurd (none_some c (sym (session_none (behind_word line) behind) ∙ h))
session_by_words line (word ∷ words) c is behind h =
    session_words line word (behind_word (behind_word line)) c
    (is ∙ ap (λ ws. codes ".session" ∷ ws) (behind ∙ ap (λ ws. word ∷ ws) (sym (words_behind (behind_word line) ∙ ap tail behind))))
    (are_two line (codes ".session") word (words_of (behind_word line)) words is behind)
    (sym (session_is (behind_word line) word (behind_word (behind_word line)) words behind refl) ∙ h)

-- ---- which form it is

first_is : (line word name : List ℕ) → words_of line ≡ word ∷ words_of (behind_word line) → bytes_eq word name ≡ true → words_of line ≡ name ∷ words_of (behind_word line)
first_is line word name is same = is ∙ ap (λ w. w ∷ words_of (behind_word line)) (same_bytes word name same)

form_taken : (line word name : List ℕ) (c : CommandData) → words_of line ≡ word ∷ words_of (behind_word line) → bytes_eq word name ≡ true → IsDotLine (name ∷ words_of (behind_word line)) c → DotOrAttach line c
form_taken line word name c is same d = inl (subst (λ ws. IsDotLine ws c) (sym (first_is line word name is same)) d)

forms_taken : (line word : List ℕ) (c : CommandData) → words_of line ≡ word ∷ words_of (behind_word line) → dot_of word (behind_word line) ≡ Some c → DotOrAttach line c
forms_taken line word c is h =
    let rest = behind_word line in
    let ws = words_of rest in
    decide (bytes_eq word (codes ".load")) (λ y. form_taken line word (codes ".load") c is y (load_taken ws c (sym (dot_of-load word rest y) ∙ h)))
    (λ n1. decide (bytes_eq word (codes ".hex")) (λ y. form_taken line word (codes ".hex") c is y (hex_taken ws c (sym (dot_of-hex word rest n1 y) ∙ h)))
    (λ n2. decide (bytes_eq word (codes ".dump")) (λ y. form_taken line word (codes ".dump") c is y (dump_taken ws c (sym (dot_of-dump word rest n1 n2 y) ∙ h)))
    (λ n3. decide (bytes_eq word (codes ".invert")) (λ y. form_taken line word (codes ".invert") c is y (invert_taken ws c (sym (dot_of-invert word rest n1 n2 n3 y) ∙ h)))
    (λ n4. decide (bytes_eq word (codes ".concat")) (λ y. form_taken line word (codes ".concat") c is y (concat_taken ws c (sym (dot_of-concat word rest n1 n2 n3 n4 y) ∙ h)))
    (λ n5. decide (bytes_eq word (codes ".apply")) (λ y. form_taken line word (codes ".apply") c is y (apply_taken ws c (sym (dot_of-apply word rest n1 n2 n3 n4 n5 y) ∙ h)))
    (λ n6. decide (bytes_eq word (codes ".revert")) (λ y. form_taken line word (codes ".revert") c is y (revert_taken ws c (sym (dot_of-revert word rest n1 n2 n3 n4 n5 n6 y) ∙ h)))
    (λ n7. decide (bytes_eq word (codes ".session")) (λ y. session_by_words line ws c (first_is line word (codes ".session") is y) refl (sym (dot_of-session word rest n1 n2 n3 n4 n5 n6 n7 y) ∙ h))
    (λ n8. absurd (none_some c (sym (dot_of-none word rest n1 n2 n3 n4 n5 n6 n7 n8) ∙ h))))))))))

dot_by_words : (line : List ℕ) (words : List (List ℕ)) (c : CommandData) → words_of line ≡ words → dot_in line ≡ Some c → DotOrAttach line c
dot_by_words line [] c is h = absurd (none_some c (sym (dot_none line is) ∙ h))
dot_by_words line (word ∷ words) c is h =
    forms_taken line word c (is ∙ ap (λ ws. word ∷ ws) (sym (words_behind line ∙ ap tail is))) (sym (dot_is line word (behind_word line) words is refl) ∙ h)

-- what is read as a dot line is one
pub dot_taken : (line : List ℕ) (c : CommandData) → IsUtf8 line → dot_in line ≡ Some c → IsDotLine (words_of line) c ⊎ IsAttach line c
dot_taken line c utf8 h = dot_by_words line (words_of line) c refl h
