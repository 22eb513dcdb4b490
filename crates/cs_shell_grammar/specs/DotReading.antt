-- The words of a dot line as functions, which the code computes: what contracts of this crate's own functions say.
use Rattle.std.specs.Prelude.{ℕ, List, [], ◌∷◌, Option, None, Some, option_map, unwrap_or}
use Rattle.std.specs.Prelude.{if◌then◌else◌, codes}
use Rattle.std.specs.Str.{bytes_eq}
use Rattle.cs_apply_conflict_kinds.specs.declared.conflict.Kind.{Kind}
use Rattle.cs_apply_conflict_kinds.specs.declared.conflict.Kind.TheVariants as kind
use Rattle.cs_apply_conflict_kinds.specs.declared.conflict.Choice.{Choice}
use Rattle.cs_apply_conflict_kinds.specs.declared.conflict.Choice.TheVariants as choice
use Rattle.cs_apply_conflict_kinds.specs.declared.conflict.Noop.{Noop}
use Rattle.cs_apply_conflict_kinds.specs.declared.conflict.Noop.TheVariants.{Report, Ignore}
use Rattle.cs_shell_grammar.specs.declared.dot.Settings.{Settings}
use Rattle.cs_shell_tokens.specs.Tokens.{Token}
use Rattle.cs_shell_tokens.specs.Words.{words_of, Words, behind_word, text_in, slot_in, no_word_in, one_slot_in}
use Rattle.cs_shell_grammar.specs.Commands.{CommandData, Load, Hex, Dump, Invert, Concat, Apply, Revert}
use Rattle.cs_shell_grammar.specs.Commands.{SessionOpen, SessionAttach, SessionChangeset, SessionIsEmpty, SessionUndo, SessionClose}
use Rattle.cs_shell_grammar.specs.Commands.{ForKind, ForNoop, setting_text}
use Rattle.cs_shell_tokens.specs.Reading.{tokens_of}
use Rattle.cs_shell_tokens.specs.Faults.{and_then}
use Rattle.cs_shell_grammar.specs.StatementReading.{name_of}

unfoldable pub digits_in : Words → Option (List ℕ)
digits_in [] = Some []
digits_in (word ∷ words) = and_then (text_in (word ∷ words)) (λ t. and_then (no_word_in t.1) (λ _. Some t.0))

unfoldable pub load_in : Words → Option CommandData
load_in words = and_then (slot_in words) (λ s. option_map (λ digits. Load s.0 digits) (digits_in s.1))

unfoldable pub hex_in : Words → Option CommandData
hex_in words = option_map Hex (one_slot_in words)

unfoldable pub dump_in : Words → Option CommandData
dump_in words = option_map Dump (one_slot_in words)

unfoldable pub revert_in : Words → Option CommandData
revert_in words = option_map Revert (one_slot_in words)

unfoldable pub invert_in : Words → Option CommandData
invert_in words = and_then (slot_in words) (λ from. option_map (λ into. Invert from.0 into) (one_slot_in from.1))

unfoldable pub concat_in : Words → Option CommandData
concat_in words = and_then (slot_in words) (λ first. and_then (slot_in first.1)
    (λ second. option_map (λ into. Concat first.0 second.0 into) (one_slot_in second.1)))

-- what the word chooses for the kind
abbrev pub chosen_in : Kind → List ℕ → Option Choice
chosen_in kind word =
    if bytes_eq word (setting_text (ForKind kind choice.Omit)) then Some choice.Omit
    else if bytes_eq word (setting_text (ForKind kind choice.Replace)) then Some choice.Replace
    else if bytes_eq word (setting_text (ForKind kind choice.Abort)) then Some choice.Abort
    else None

-- what the word sets `noop` to
abbrev pub noop_in : List ℕ → Option Noop
noop_in word =
    if bytes_eq word (setting_text (ForNoop Report)) then Some Report
    else if bytes_eq word (setting_text (ForNoop Ignore)) then Some Ignore
    else None

abbrev pub when_none : {X Y : Type 0} → Option X → Y → Option Y
when_none None y = Some y
when_none (Some x) y = None

abbrev pub or_else : {X Y : Type 0} → Option X → (X → Option Y) → Option Y → Option Y
or_else None next other = other
or_else (Some x) next other = next x

unfoldable pub setting_in : Settings → List ℕ → Option Settings
setting_in s word =
    or_else (chosen_in kind.Data word) (λ c. when_none s.on_data (record s { on_data = Some c }))
    (or_else (chosen_in kind.NotFound word) (λ c. when_none s.on_notfound (record s { on_notfound = Some c }))
    (or_else (chosen_in kind.Conflict word) (λ c. when_none s.on_conflict (record s { on_conflict = Some c }))
    (or_else (chosen_in kind.Constraint word) (λ c. when_none s.on_constraint (record s { on_constraint = Some c }))
    (or_else (noop_in word) (λ n. when_none s.noop (record s { noop = Some n })) None))))

unfoldable pub settings_in : Settings → Words → Option Settings
settings_in s [] = Some s
settings_in s (word ∷ words) = and_then (setting_in s word) (λ s. settings_in s words)

abbrev pub no_settings : Settings
no_settings = record { on_data = None; on_notfound = None; on_conflict = None; on_constraint = None; noop = None }

unfoldable pub apply_in : Words → Option CommandData
apply_in words = and_then (slot_in words) (λ t. option_map
    (λ s. Apply t.0 (unwrap_or s.on_data choice.Abort) (unwrap_or s.on_notfound choice.Abort)
    (unwrap_or s.on_conflict choice.Abort) (unwrap_or s.on_constraint choice.Abort) (unwrap_or s.noop Report))
    (settings_in no_settings t.1))

-- a name, and nothing else
unfoldable pub attach_in : List (Option Token) → Option CommandData
attach_in [] = None
attach_in (t ∷ []) = option_map SessionAttach (name_of t)
attach_in (t ∷ u ∷ ts) = None

-- what follows `.session`
unfoldable pub session_of : List ℕ → List ℕ → Option CommandData
session_of word rest =
    if bytes_eq word (codes "attach") then attach_in (tokens_of rest)
    else if bytes_eq word (codes "changeset") then option_map SessionChangeset (one_slot_in (words_of rest))
    else if bytes_eq word (codes "open") then option_map (λ _. SessionOpen) (no_word_in (words_of rest))
    else if bytes_eq word (codes "isempty") then option_map (λ _. SessionIsEmpty) (no_word_in (words_of rest))
    else if bytes_eq word (codes "undo") then option_map (λ _. SessionUndo) (no_word_in (words_of rest))
    else if bytes_eq word (codes "close") then option_map (λ _. SessionClose) (no_word_in (words_of rest))
    else None

abbrev pub with_first : {X : Type 0} → (List ℕ → List ℕ → Option X) → Words → List ℕ → Option X
with_first read [] rest = None
with_first read (word ∷ words) rest = read word rest

unfoldable pub session_in : List ℕ → Option CommandData
session_in line = with_first session_of (words_of line) (behind_word line)

-- a dot line, by its first word and the text after it
unfoldable pub dot_of : List ℕ → List ℕ → Option CommandData
dot_of word rest =
    if bytes_eq word (codes ".load") then load_in (words_of rest)
    else if bytes_eq word (codes ".hex") then hex_in (words_of rest)
    else if bytes_eq word (codes ".dump") then dump_in (words_of rest)
    else if bytes_eq word (codes ".invert") then invert_in (words_of rest)
    else if bytes_eq word (codes ".concat") then concat_in (words_of rest)
    else if bytes_eq word (codes ".apply") then apply_in (words_of rest)
    else if bytes_eq word (codes ".revert") then revert_in (words_of rest)
    else if bytes_eq word (codes ".session") then session_in rest
    else None

unfoldable pub dot_in : List ℕ → Option CommandData
dot_in line = with_first dot_of (words_of line) (behind_word line)
