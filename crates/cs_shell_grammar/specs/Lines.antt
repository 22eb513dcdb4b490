-- What a line asks for. The grammar is this project's own.
use Rattle.std.specs.Prelude.{◌≡◌, ◌≤◌, ◌⊎◌, ℕ, ◌+◌, List, [], ◌∷◌, ◌++◌, true, length, codes}
use Rattle.cs_value.specs.declared.refusal.OrNoMemory.{OrNoMemory}
use Rattle.cs_value.specs.declared.refusal.OrNoMemory.TheVariants as refusal
use Rattle.cs_shell_grammar.specs.declared.fault.SyntaxFault.{SyntaxFault}
use Rattle.cs_shell_tokens.specs.Tokens.{Token, Name, AreTokens}
use Rattle.cs_shell_grammar.specs.Commands.{CommandData, SessionAttach, IsStatement, IsDotLine}
unfoldable pub use Rattle.cs_shell_tokens.specs.Words.{words_of}
pub use Rattle.cs_shell_tokens.specs.Words.{ends_word, onto_first}

-- the words `.session attach`, and a name by the rules of tokens
abbrev pub IsAttach : List ℕ → CommandData → Type 0
IsAttach line (SessionAttach table) = (front : List ℕ) × (rest : List ℕ) × (line ≡ front ++ rest)
    × (words_of front ≡ codes ".session" ∷ codes "attach" ∷ []) × (ends_word rest ≡ true)
    × AreTokens rest (Name table ∷ [])
IsAttach line _ = ⊥

-- the line asks for this: it is a statement, whose end nothing but blanks follows, or a dot line
abbrev pub Spelled : List ℕ → CommandData → Type 0
Spelled line command =
    ((tokens : List Token) × AreTokens line tokens × IsStatement tokens command)
    ⊎ IsDotLine (words_of line) command ⊎ IsAttach line command

-- no word, or a first one that begins with `--`
abbrev pub IsNoCommand : List (List ℕ) → Type 0
IsNoCommand [] = Unit {0}
IsNoCommand (word ∷ words) = (rest : List ℕ) × (word ≡ codes "--" ++ rest)

-- the line is blank or a comment
abbrev pub IsNothing : List ℕ → Type 0
IsNothing line = IsNoCommand (words_of line)

-- why a line is refused: it asks for nothing that there is, and the column is one of its own or the next; or memory was
-- refused
abbrev pub RefusesLine : List ℕ → OrNoMemory SyntaxFault → Type 0
RefusesLine line (refusal.Fault f) = (IsNothing line → ⊥) × ((command : CommandData) → Spelled line command → ⊥)
    × (1 ≤ f.column) × (f.column ≤ length line + 1)
RefusesLine line refusal.NoMemory = Unit {0}
