-- What the words of a command line ask for, over what `clap` says that a command takes from words. The commands and
-- their arguments are those of SQLite's `changeset` utility; the options and `shell` are this project's own.
use Rattle.std.specs.Prelude.{◌≡◌, ◌⊎◌, ℕ, true, List, [], ◌∷◌, codes, if◌then◌else◌}
use Rattle.std.specs.Prelude.{Option, Some, None, option_and_then, option_map, unwrap_or}
use Rattle.std.specs.Str.{bytes_eq}
use Rattle.clap.specs.Lexer.{usize_max}
use Rattle.clap.specs.Words.{App, Row, Rule, Text, all_of, first_of, matches_of, new_app, new_rule, takes, with_rule}
use Rattle.clap.specs.Words.{fault_of, IsAmong, Kinds}
use Rattle.clap.specs.declared.builder.action.ArgAction.TheVariants.{SetTrue}
use Rattle.clap.specs.declared.error.kind.ErrorKind.{ErrorKind}
use Rattle.clap.specs.declared.error.kind.ErrorKind.TheVariants as kind
use Rattle.cs_apply_conflict_kinds.specs.declared.conflict.Choice.{Choice}
use Rattle.cs_apply_conflict_kinds.specs.declared.conflict.Choice.TheVariants as choice
use Rattle.cs_apply_conflict_kinds.specs.declared.conflict.Noop.{Noop}
use Rattle.cs_apply_conflict_kinds.specs.declared.conflict.Noop.TheVariants.{Report, Ignore}
use Rattle.cs_apply_engine.specs.declared.policy.Policy.{Policy}
use Rattle.cs_shell_grammar.specs.Commands.{choice_text}
use Rattle.cs_shell_command_line.specs.declared.action.Action.{Action}
use Rattle.cs_shell_command_line.specs.declared.action.Action.TheVariants as action
use Rattle.cs_shell_command_line.specs.declared.fault.WordsFault.{WordsFault}
use Rattle.cs_shell_command_line.specs.declared.fault.WordsFault.TheVariants as fault

-- the name of the store that is in memory
abbrev pub in_memory : List ℕ
in_memory = codes ":memory:"

-- what words ask for; files and stores are named by bytes
pub data Asked : Type 0 where
  Apply : (file store : Text) → Policy → Noop → Asked
  Concat : (file second out : Text) → Asked
  Dump : (file : Text) → Asked
  Sql : (file : Text) → Asked
  Invert : (file out : Text) → Asked
  Shell : (file : Text) → Asked

abbrev pub asked_of : Action → Asked
asked_of (action.Apply file store policy noop) = Apply file.now store.now policy noop
asked_of (action.Concat file second out) = Concat file.now second.now out.now
asked_of (action.Dump file) = Dump file.now
asked_of (action.Sql file) = Sql file.now
asked_of (action.Invert file out) = Invert file.now out.now
asked_of (action.Shell file) = Shell file.now

-- ---- the command line

-- an option that takes a word, `abort` where it is not given
abbrev pub choice_rule : Text → Rule
choice_rule name = record (new_rule name) { long = Some name; defaults = codes "abort" ∷ [] }

-- an option that takes no word
abbrev pub flag_rule : Text → Rule
flag_rule name = record (new_rule name) { long = Some name; action = Some SetTrue }

-- a word that has to be there
abbrev pub operand_rule : Text → Rule
operand_rule name = record (new_rule name) { required = true }

-- any number of words
abbrev pub rest_rule : Rule
rest_rule = record (new_rule (codes "ARG")) { range = Some (record { start_inclusive = 0; end_inclusive = usize_max }) }

-- the five options, a file, a command, and that one's arguments
abbrev pub command_app : App
command_app = with_rule (with_rule (with_rule (with_rule (with_rule (with_rule (with_rule (with_rule
    (new_app (codes "changeset")) (choice_rule (codes "data"))) (choice_rule (codes "notfound")))
    (choice_rule (codes "conflict"))) (choice_rule (codes "constraint"))) (flag_rule (codes "ignore-noop")))
    (operand_rule (codes "FILE"))) (operand_rule (codes "COMMAND"))) rest_rule

-- ---- what matched words ask for

-- the choice of a name
abbrev pub chosen : Text → Option Choice
chosen name = if bytes_eq name (choice_text choice.Omit) then Some choice.Omit
    else (if bytes_eq name (choice_text choice.Replace) then Some choice.Replace
    else (if bytes_eq name (choice_text choice.Abort) then Some choice.Abort else None))

abbrev pub choice_in : List Row → Text → Option Choice
choice_in rows option = option_and_then chosen (first_of option rows)

abbrev pub policy_in : List Row → Option Policy
policy_in rows = option_and_then (λ on_data. option_and_then (λ on_notfound. option_and_then (λ on_conflict.
    option_map (λ on_constraint.
    record { on_data = on_data; on_notfound = on_notfound; on_conflict = on_conflict; on_constraint = on_constraint })
    (choice_in rows (codes "constraint"))) (choice_in rows (codes "conflict"))) (choice_in rows (codes "notfound")))
    (choice_in rows (codes "data"))

-- the value of a flag is `true` where it is given
abbrev pub noop_where : Option Text → Noop
noop_where None = Report
noop_where (Some given) = if bytes_eq given (codes "true") then Ignore else Report

abbrev pub noop_in : List Row → Noop
noop_in rows = noop_where (first_of (codes "ignore-noop") rows)

-- a command without arguments, with one, and with two
abbrev pub bare_in : Text → Text → Option Asked
bare_in file name = if bytes_eq name (codes "dump") then Some (Dump file)
    else (if bytes_eq name (codes "sql") then Some (Sql file)
    else (if bytes_eq name (codes "shell") then Some (Shell file) else None))

abbrev pub short_in : Policy → Noop → Text → Text → Text → Option Asked
short_in policy noop file name argument = if bytes_eq name (codes "apply") then Some (Apply file argument policy noop)
    else (if bytes_eq name (codes "invert") then Some (Invert file argument) else None)

abbrev pub long_in : Text → Text → Text → Text → Option Asked
long_in file name second out = if bytes_eq name (codes "concat") then Some (Concat file second out) else None

abbrev pub command_in : Policy → Noop → Text → Text → List Text → Option Asked
command_in policy noop file name [] = bare_in file name
command_in policy noop file name (argument ∷ []) = short_in policy noop file name argument
command_in policy noop file name (second ∷ out ∷ []) = long_in file name second out
command_in policy noop file name _ = None

abbrev pub arguments_in : List Row → List Text
arguments_in rows = unwrap_or (all_of (codes "ARG") rows) []

abbrev pub asked_by : List Row → Option Asked
asked_by rows = option_and_then (λ policy. option_and_then (λ file. option_and_then (λ name.
    command_in policy (noop_in rows) file name (arguments_in rows))
    (first_of (codes "COMMAND") rows)) (first_of (codes "FILE") rows)) (policy_in rows)

-- ---- what words ask for

-- `clap` finds no fault in the words
abbrev pub asked_where : Kinds → List Row → Option Asked
asked_where [] rows = asked_by rows
asked_where (fault ∷ faults) rows = None

-- only the program's name, or no word, asks for a script on a store in memory; other words ask for what is matched
abbrev pub asked : List Text → Option Asked
asked [] = Some (Shell in_memory)
asked (name ∷ []) = Some (Shell in_memory)
asked words = asked_where (fault_of command_app words) (matches_of command_app words)

-- ---- refusals

abbrev pub fault_of_kind : ErrorKind → WordsFault
fault_of_kind kind.DisplayHelp = fault.Help
fault_of_kind kind.OutOfMemory = fault.NoMemory
fault_of_kind _ = fault.Usage

-- what `clap` may return for the words is printed so
abbrev pub Tells : List Text → WordsFault → Type 0
Tells words why = (fault : ErrorKind) × IsAmong fault (fault_of command_app words) × (fault_of_kind fault ≡ why)

-- the words ask for nothing; nor does what they match, where `clap` takes them
pub record AskNothing (words : List Text) : Type 0 where
  pub asked : asked words ≡ None
  pub taken : takes command_app words ≡ true → asked_by (matches_of command_app words) ≡ None

-- words are refused where they ask for nothing, or for memory: for help where `clap` says so, and for usage where it
-- says something else, or finds no fault, but they fit no command
abbrev pub Refuses : List Text → WordsFault → Type 0
Refuses words fault.NoMemory = Unit {0}
Refuses words fault.Help = AskNothing words × Tells words fault.Help
Refuses words fault.Usage = AskNothing words × ((fault_of command_app words ≡ []) ⊎ Tells words fault.Usage)
