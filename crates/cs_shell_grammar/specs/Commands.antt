-- The commands that lines ask for, and the tokens and words of each. The grammar is this project's own: of SQL and of
-- the shell of SQLite it has the few forms that tables, rows and changesets need.
use Rattle.std.specs.Prelude.{◌≡◌, ◌≢◌, ◌⊎◌, ℕ, Bool, List, [], ◌∷◌, ◌++◌, length, map, true, false, codes, AllPairs, Contains, IsUtf8, string_bytes}
use Rattle.cs_value.specs.declared.value.OwnedValue.{OwnedValue}
use Rattle.cs_value.specs.declared.value.OwnedValue.TheVariants.{Null}
use Rattle.cs_apply_conflict_kinds.specs.declared.conflict.Kind.{Kind}
use Rattle.cs_apply_conflict_kinds.specs.declared.conflict.Kind.TheVariants as kind
use Rattle.cs_apply_conflict_kinds.specs.declared.conflict.Choice.{Choice}
use Rattle.cs_apply_conflict_kinds.specs.declared.conflict.Choice.TheVariants as choice
use Rattle.cs_apply_conflict_kinds.specs.declared.conflict.Noop.{Noop}
use Rattle.cs_apply_conflict_kinds.specs.declared.conflict.Noop.TheVariants.{Report, Ignore}
use Rattle.cs_shell_grammar.specs.declared.command.Command.{Command}
use Rattle.cs_shell_grammar.specs.declared.command.Command.TheVariants as command
use Rattle.cs_shell_grammar.specs.declared.command.Assignment.{Assignment}
use Rattle.cs_shell_tokens.specs.declared.symbol.Symbol.TheVariants.{Create as CREATE, Table as TABLE, Primary as PRIMARY}
use Rattle.cs_shell_tokens.specs.declared.symbol.Symbol.TheVariants.{Key as KEY, Insert as INSERT, Into as INTO, Values as VALUES}
use Rattle.cs_shell_tokens.specs.declared.symbol.Symbol.TheVariants.{Update as UPDATE, Set as SET, Where as WHERE, And as AND}
use Rattle.cs_shell_tokens.specs.declared.symbol.Symbol.TheVariants.{Delete as DELETE, From as FROM, Select as SELECT, Not as NOT}
use Rattle.cs_shell_tokens.specs.declared.symbol.Symbol.TheVariants.{Open, Close, Comma, Semicolon, Equals, Star}
use Rattle.cs_shell_tokens.specs.Tokens.{Token, Fixed, Name, Value}
pub use Rattle.cs_shell_tokens.specs.Words.{IsSlot}

-- a column, and the value that it gets or has
pub record AssignmentData : Type 0 where
  pub column : List ℕ
  pub value : OwnedValue

-- what a line asks for; names, slots and digits are bytes
pub data CommandData : Type 0 where
  Create : (name : List ℕ) (columns : List (List ℕ)) (refuses : List Bool) (keys : List (List ℕ)) → CommandData
  Insert : (table : List ℕ) (values : List OwnedValue) → CommandData
  Update : (table : List ℕ) (sets conditions : List AssignmentData) → CommandData
  Delete : (table : List ℕ) (conditions : List AssignmentData) → CommandData
  Select : (table : List ℕ) → CommandData
  Load : (slot digits : List ℕ) → CommandData
  Hex : (slot : List ℕ) → CommandData
  Dump : (slot : List ℕ) → CommandData
  Invert : (from into : List ℕ) → CommandData
  Concat : (first second into : List ℕ) → CommandData
  Apply : (slot : List ℕ) (on_data on_notfound on_conflict on_constraint : Choice) (noop : Noop) → CommandData
  Revert : (slot : List ℕ) → CommandData
  SessionOpen : CommandData
  SessionAttach : (table : List ℕ) → CommandData
  SessionChangeset : (slot : List ℕ) → CommandData
  SessionIsEmpty : CommandData
  SessionUndo : CommandData
  SessionClose : CommandData

-- ---- statements

-- the lists of tokens in a row, with a symbol between each two
unfoldable pub joined : Token → List (List Token) → List Token
joined between [] = []
joined between (item ∷ []) = item
joined between (item ∷ next ∷ items) = item ++ between ∷ joined between (next ∷ items)

abbrev pub assignment : AssignmentData → List Token
assignment a = Name a.column ∷ Fixed Equals ∷ Value a.value ∷ []

-- what comes after a column: NOT NULL if it says so, and a comma
abbrev pub rule_tokens : Bool → List Token
rule_tokens true = Fixed NOT ∷ Value Null ∷ Fixed Comma ∷ []
rule_tokens false = Fixed Comma ∷ []

-- columns, each with whether it says NOT NULL
abbrev pub columns_tokens : List (List ℕ) → List Bool → List Token
columns_tokens (column ∷ columns) (mark ∷ refuses) = Name column ∷ rule_tokens mark ++ columns_tokens columns refuses
columns_tokens [] refuses = []
columns_tokens (column ∷ columns) [] = []

-- the conditions, and the end of the statement
abbrev pub where_tokens : List AssignmentData → List Token
where_tokens conditions = Fixed WHERE ∷ joined (Fixed AND) (map assignment conditions) ++ Fixed Semicolon ∷ []

-- the tokens are the statement's: its lists have an element, and one at least
abbrev pub IsStatement : List Token → CommandData → Type 0
IsStatement tokens (Create name columns refuses keys) = (columns ≢ []) × (keys ≢ []) × (length refuses ≡ length columns)
    × (tokens ≡ Fixed CREATE ∷ Fixed TABLE ∷ Name name ∷ Fixed Open
    ∷ columns_tokens columns refuses
    ++ Fixed PRIMARY ∷ Fixed KEY ∷ Fixed Open ∷ joined (Fixed Comma) (map (λ key. Name key ∷ []) keys)
    ++ Fixed Close ∷ Fixed Close ∷ Fixed Semicolon ∷ [])
IsStatement tokens (Insert table values) = (values ≢ [])
    × (tokens ≡ Fixed INSERT ∷ Fixed INTO ∷ Name table ∷ Fixed VALUES ∷ Fixed Open
    ∷ joined (Fixed Comma) (map (λ value. Value value ∷ []) values) ++ Fixed Close ∷ Fixed Semicolon ∷ [])
IsStatement tokens (Update table sets conditions) = (sets ≢ []) × (conditions ≢ [])
    × (tokens ≡ Fixed UPDATE ∷ Name table ∷ Fixed SET ∷ joined (Fixed Comma) (map assignment sets)
    ++ where_tokens conditions)
IsStatement tokens (Delete table conditions) = (conditions ≢ [])
    × (tokens ≡ Fixed DELETE ∷ Fixed FROM ∷ Name table ∷ where_tokens conditions)
IsStatement tokens (Select table) =
    tokens ≡ Fixed SELECT ∷ Fixed Star ∷ Fixed FROM ∷ Name table ∷ Fixed Semicolon ∷ []
IsStatement tokens _ = ⊥

-- ---- dot lines

abbrev pub kind_text : Kind → List ℕ
kind_text kind.Data = codes "data"
kind_text kind.NotFound = codes "notfound"
kind_text kind.Conflict = codes "conflict"
kind_text kind.Constraint = codes "constraint"

abbrev pub choice_text : Choice → List ℕ
choice_text choice.Omit = codes "omit"
choice_text choice.Replace = codes "replace"
choice_text choice.Abort = codes "abort"

abbrev pub noop_text : Noop → List ℕ
noop_text Report = codes "report"
noop_text Ignore = codes "ignore"

-- an option, and what it is set to
pub data Setting : Type 0 where
  ForKind : Kind → Choice → Setting
  ForNoop : Noop → Setting

-- the option's name
abbrev pub option_of : Setting → List ℕ
option_of (ForKind kind choice) = kind_text kind
option_of (ForNoop noop) = codes "noop"

-- the name of what it is set to
abbrev pub value_of : Setting → List ℕ
value_of (ForKind kind choice) = choice_text choice
value_of (ForNoop noop) = noop_text noop

abbrev pub setting_text : Setting → List ℕ
setting_text s = option_of s ++ codes "=" ++ value_of s

-- the value is the one that the option is set to, or the default where it is not set
abbrev pub IsChosen : {X : Type 0} → (X → Setting) → X → List Setting → X → Type 0
IsChosen {X} option default settings value = Contains settings (option value)
    ⊎ ((value ≡ default) × ((other : X) → Contains settings (option other) → ⊥))

-- the words are the dot line's, whose digits are any text; `.session attach`, which a name follows, is not decided by
-- words only
abbrev pub IsDotLine : List (List ℕ) → CommandData → Type 0
IsDotLine words (Load slot digits) = IsSlot slot × IsUtf8 digits
    × ((words ≡ codes ".load" ∷ slot ∷ digits ∷ []) ⊎ ((words ≡ codes ".load" ∷ slot ∷ []) × (digits ≡ [])))
IsDotLine words (Hex slot) = IsSlot slot × (words ≡ codes ".hex" ∷ slot ∷ [])
IsDotLine words (Dump slot) = IsSlot slot × (words ≡ codes ".dump" ∷ slot ∷ [])
IsDotLine words (Invert from into) = IsSlot from × IsSlot into × (words ≡ codes ".invert" ∷ from ∷ into ∷ [])
IsDotLine words (Concat first second into) = IsSlot first × IsSlot second × IsSlot into
    × (words ≡ codes ".concat" ∷ first ∷ second ∷ into ∷ [])
IsDotLine words (Apply slot on_data on_notfound on_conflict on_constraint noop) = IsSlot slot × (settings : List Setting)
    × (words ≡ codes ".apply" ∷ slot ∷ map setting_text settings) × AllPairs (λ s t. option_of s ≢ option_of t) settings
    × IsChosen (ForKind kind.Data) choice.Abort settings on_data
    × IsChosen (ForKind kind.NotFound) choice.Abort settings on_notfound
    × IsChosen (ForKind kind.Conflict) choice.Abort settings on_conflict
    × IsChosen (ForKind kind.Constraint) choice.Abort settings on_constraint
    × IsChosen ForNoop Report settings noop
IsDotLine words (Revert slot) = IsSlot slot × (words ≡ codes ".revert" ∷ slot ∷ [])
IsDotLine words SessionOpen = words ≡ codes ".session" ∷ codes "open" ∷ []
IsDotLine words (SessionChangeset slot) = IsSlot slot × (words ≡ codes ".session" ∷ codes "changeset" ∷ slot ∷ [])
IsDotLine words SessionIsEmpty = words ≡ codes ".session" ∷ codes "isempty" ∷ []
IsDotLine words SessionUndo = words ≡ codes ".session" ∷ codes "undo" ∷ []
IsDotLine words SessionClose = words ≡ codes ".session" ∷ codes "close" ∷ []
IsDotLine words _ = ⊥

-- ---- the code's commands

abbrev pub assignment_of : Assignment → AssignmentData
assignment_of a = record { column = string_bytes a.column; value = a.value }

-- a command, with the bytes of its names
abbrev pub command_of : Command → CommandData
command_of (command.Create name columns refuses keys) =
    Create (string_bytes name) (map string_bytes columns.items) refuses.items (map string_bytes keys.items)
command_of (command.Insert table values) = Insert (string_bytes table) values.items
command_of (command.Update table sets conditions) =
    Update (string_bytes table) (map assignment_of sets.items) (map assignment_of conditions.items)
command_of (command.Delete table conditions) = Delete (string_bytes table) (map assignment_of conditions.items)
command_of (command.Select table) = Select (string_bytes table)
command_of (command.Load slot digits) = Load (string_bytes slot) (string_bytes digits)
command_of (command.Hex slot) = Hex (string_bytes slot)
command_of (command.Dump slot) = Dump (string_bytes slot)
command_of (command.Invert from into) = Invert (string_bytes from) (string_bytes into)
command_of (command.Concat first second into) =
    Concat (string_bytes first) (string_bytes second) (string_bytes into)
command_of (command.Apply slot policy noop) =
    Apply (string_bytes slot) policy.on_data policy.on_notfound policy.on_conflict policy.on_constraint noop
command_of (command.Revert slot) = Revert (string_bytes slot)
command_of command.SessionOpen = SessionOpen
command_of (command.SessionAttach table) = SessionAttach (string_bytes table)
command_of (command.SessionChangeset slot) = SessionChangeset (string_bytes slot)
command_of command.SessionIsEmpty = SessionIsEmpty
command_of command.SessionUndo = SessionUndo
command_of command.SessionClose = SessionClose
