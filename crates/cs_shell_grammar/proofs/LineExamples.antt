-- What lines ask for: each form, in upper case and in any, and lines that ask for nothing that there is.
use Rattle.std.proofs.Common.{◌≡◌, ℕ, true, false, List, [], ◌∷◌, None, Some, map, codes, refl}
use Rattle.std.specs.Prelude.{⊤, pos, negsuc}
use Rattle.std.specs.List.{AllByRecursion}
use Rattle.std.specs.Str.{is_utf8}
use Rattle.std.proofs.lemmas.Str.{IsUtf8-from_is_utf8}
use Rattle.cs_value.specs.declared.value.OwnedValue.{OwnedValue}
use Rattle.cs_value.specs.declared.value.OwnedValue.TheVariants.{Int, Text, Blob, Null}
use Rattle.cs_apply_conflict_kinds.specs.declared.conflict.Choice.TheVariants.{Omit, Replace, Abort}
use Rattle.cs_apply_conflict_kinds.specs.declared.conflict.Noop.TheVariants.{Report, Ignore}
use Rattle.cs_shell_grammar.specs.Commands.{CommandData, AssignmentData, Create, Insert, Update, Delete, Select, Load, Hex, Dump, Invert, Concat, Apply, Revert}
use Rattle.cs_shell_grammar.specs.Commands.{SessionOpen, SessionAttach, SessionChangeset, SessionIsEmpty, SessionUndo, SessionClose}
use Rattle.cs_shell_tokens.specs.Words.{words_of, behind_word, text_in, slot_in, no_word_in, one_slot_in}
use Rattle.cs_shell_grammar.specs.Lines.{IsNothing, Spelled}
use Rattle.cs_shell_grammar.specs.StatementReading.{create_in, insert_in, update_in, delete_in, select_in, fixed_in, name_in, value_in, turn_in, end_in, list_in, assignment_in, assignments_in, rule_in, null_in, column_in, columns_within, columns_in, symbol_in, form_of, form_in, statement_in}
use Rattle.cs_shell_grammar.specs.DotReading.{digits_in, load_in, hex_in, dump_in, revert_in, invert_in, concat_in, setting_in, settings_in, apply_in, attach_in, session_of, session_in, dot_of, dot_in}
use Rattle.cs_shell_grammar.specs.LineReading.{line_in}
use Rattle.cs_shell_tokens.proofs.TokenExamples.{on_literals}
use Rattle.cs_shell_grammar.proofs.LineLaws.{line_taken, refused}

-- what an answer unfolds to read a literal line
unfoldable pub on_lines : ⊤
unfolding on_literals words_of line_in create_in insert_in update_in delete_in select_in fixed_in name_in value_in turn_in end_in list_in assignment_in assignments_in rule_in null_in column_in columns_within columns_in symbol_in form_of form_in statement_in behind_word text_in slot_in no_word_in one_slot_in digits_in load_in hex_in dump_in revert_in invert_in concat_in setting_in settings_in apply_in attach_in session_of session_in dot_of dot_in
on_lines = tt

-- ---- lines that ask for something

-- a line, and what it asks for
abbrev Line : Type 0
Line = List ℕ × CommandData

abbrev asks : List ℕ → CommandData → Line
asks line command = (line, command)

-- each asks for it
record AllAsk (lines : List Line) : Type 0 where
  each : AllByRecursion (λ l. Spelled l.0 l.1) lines

-- since it is text, and read so
all_ask : {lines : List Line} → map (λ l. is_utf8 l.0) lines ≡ map (λ l. true) lines
    → map (λ l. line_in l.0) lines ≡ map (λ l. Some l.1) lines → AllAsk lines
all_ask {lines = []} text read = record { each = tt }
all_ask {lines = l ∷ lines} text read =
    let is_text : is_utf8 l.0 ≡ true = cc in
    let is_read : line_in l.0 ≡ Some l.1 = cc in
    let texts : map (λ l. is_utf8 l.0) lines ≡ map (λ l. true) lines = cc in
    let all_read : map (λ l. line_in l.0) lines ≡ map (λ l. Some l.1) lines = cc in
    let this : Spelled l.0 l.1 = line_taken l.0 l.1 (IsUtf8-from_is_utf8 l.0 is_text) is_read in
    record { each = (this, (all_ask {lines = lines} texts all_read).each) }

tables_ask : AllAsk (
    asks (codes "CREATE TABLE t(a, b, PRIMARY KEY(a));")
    (Create (codes "t") (codes "a" ∷ codes "b" ∷ []) (false ∷ false ∷ []) (codes "a" ∷ []))
    ∷ asks (codes "create Table t(a, \"b c\", Primary KEY(\"b c\", a)) ;\r")
    (Create (codes "t") (codes "a" ∷ codes "b c" ∷ []) (false ∷ false ∷ []) (codes "b c" ∷ codes "a" ∷ []))
    ∷ asks (codes "CREATE TABLE n(a, b NOT NULL, PRIMARY KEY(a));")
    (Create (codes "n") (codes "a" ∷ codes "b" ∷ []) (false ∷ true ∷ []) (codes "a" ∷ []))
    ∷ asks (codes "create table n(a nOt Null,\"not\" NOT\tNULL , c,primary key(a));")
    (Create (codes "n") (codes "a" ∷ codes "not" ∷ codes "c" ∷ []) (true ∷ true ∷ false ∷ []) (codes "a" ∷ []))
    ∷ [])
unfolding on_lines
tables_ask = all_ask refl refl

abbrev at : List ℕ → OwnedValue → AssignmentData
at column value = record { column = column; value = value }

rows_ask : AllAsk (
    asks (codes "INSERT INTO t VALUES(1,'z');") (Insert (codes "t") (Int (pos 1) ∷ Text (codes "z") ∷ []))
    ∷ asks (codes "insert inTO\"a\"\"b\"values(-9223372036854775808,9223372036854775807,'it''s',X'',x'0F',nUll);")
    (Insert (codes "a\"b") (Int (negsuc 9223372036854775807) ∷ Int (pos 9223372036854775807) ∷ Text (codes "it's")
    ∷ Blob [] ∷ Blob (15 ∷ []) ∷ Null ∷ []))
    ∷ asks (codes "INSERT INTO t VALUES(1);") (Insert (codes "t") (Int (pos 1) ∷ []))
    ∷ asks (codes "UPDATE t SET a=2 WHERE a=1;")
    (Update (codes "t") (at (codes "a") (Int (pos 2)) ∷ []) (at (codes "a") (Int (pos 1)) ∷ []))
    ∷ asks (codes "Update t sEt a=3,b='' wheRE a=2 anD b=NULL;")
    (Update (codes "t") (at (codes "a") (Int (pos 3)) ∷ at (codes "b") (Text []) ∷ [])
    (at (codes "a") (Int (pos 2)) ∷ at (codes "b") Null ∷ []))
    ∷ asks (codes "DELETE FROM t WHERE a=NULL;") (Delete (codes "t") (at (codes "a") Null ∷ []))
    ∷ asks (codes "delete From t Where a='1';") (Delete (codes "t") (at (codes "a") (Text (codes "1")) ∷ []))
    ∷ asks (codes "SELECT * FROM t;") (Select (codes "t"))
    ∷ asks (codes "select*From\"\";") (Select [])
    ∷ [])
unfolding on_lines
rows_ask = all_ask refl refl

slots_ask : AllAsk (
    asks (codes ".load a 540201007400") (Load (codes "a") (codes "540201007400"))
    ∷ asks (codes ".load a") (Load (codes "a") [])
    ∷ asks (codes ".load q 5") (Load (codes "q") (codes "5"))  -- any word
    ∷ asks (codes "  .hex   _1 ") (Hex (codes "_1"))
    ∷ asks (codes ".dump c") (Dump (codes "c"))
    ∷ asks (codes ".invert a b") (Invert (codes "a") (codes "b"))
    ∷ asks (codes ".concat a b c") (Concat (codes "a") (codes "b") (codes "c"))
    ∷ [])
unfolding on_lines
slots_ask = all_ask refl refl

-- with choices in any order
applies_ask : AllAsk (
    asks (codes ".apply a") (Apply (codes "a") Abort Abort Abort Abort Report)
    ∷ asks (codes ".apply a conflict=replace") (Apply (codes "a") Abort Abort Replace Abort Report)
    ∷ asks (codes ".apply a notfound=abort conflict=omit data=replace")
    (Apply (codes "a") Replace Abort Omit Abort Report)
    ∷ asks (codes ".apply a constraint=omit") (Apply (codes "a") Abort Abort Abort Omit Report)
    ∷ asks (codes ".apply a constraint=replace conflict=replace data=omit notfound=omit")
    (Apply (codes "a") Omit Omit Replace Replace Report)
    ∷ asks (codes ".apply a noop=ignore") (Apply (codes "a") Abort Abort Abort Abort Ignore)
    ∷ asks (codes ".apply a noop=report") (Apply (codes "a") Abort Abort Abort Abort Report)
    ∷ asks (codes ".apply a conflict=replace noop=ignore data=omit") (Apply (codes "a") Omit Abort Replace Abort Ignore)
    ∷ asks (codes ".revert a") (Revert (codes "a"))
    ∷ [])
unfolding on_lines
applies_ask = all_ask refl refl

sessions_ask : AllAsk (
    asks (codes ".session open") SessionOpen
    ∷ asks (codes ".session attach t") (SessionAttach (codes "t"))
    ∷ asks (codes ".session attach \"a  b\" ") (SessionAttach (codes "a  b"))
    ∷ asks (codes ".session changeset c") (SessionChangeset (codes "c"))
    ∷ asks (codes ".session isempty") SessionIsEmpty
    ∷ asks (codes ".session undo") SessionUndo
    ∷ asks (codes ".session close") SessionClose
    ∷ [])
unfolding on_lines
sessions_ask = all_ask refl refl

-- ---- lines that ask for nothing that there is

-- each asks for no command
record NoneAsks (lines : List (List ℕ)) : Type 0 where
  each : AllByRecursion (λ line. (command : CommandData) → Spelled line command → ⊥) lines

none_asks : {lines : List (List ℕ)} → map is_utf8 lines ≡ map (λ line. true) lines
    → map line_in lines ≡ map (λ line. None) lines → NoneAsks lines
none_asks {lines = []} text read = record { each = tt }
none_asks {lines = line ∷ lines} text read =
    let is_text : is_utf8 line ≡ true = cc in
    let is_read : line_in line ≡ None = cc in
    let texts : map is_utf8 lines ≡ map (λ line. true) lines = cc in
    let all_read : map line_in lines ≡ map (λ line. None) lines = cc in
    let this = refused line (IsUtf8-from_is_utf8 line is_text) is_read in
    record { each = (this, (none_asks {lines = lines} texts all_read).each) }

no_statement_asks : NoneAsks (
    codes "INSERT INTO t VALUES(1 'x');"  -- no comma
    ∷ codes "INSERT INTO t VALUES(1x);"
    ∷ codes "INSERT INTO t VALUES(9223372036854775808);"  -- too great
    ∷ codes "SELECT * FROM t"
    ∷ codes "SELECT * FROM t; -- all"
    ∷ codes "SELECT * FROM Table;"  -- a keyword is no name
    ∷ codes "SELECT * FROM Not;"
    ∷ codes "CREATE TABLE t(a, b);"
    ∷ codes "CREATE TABLE t(PRIMARY KEY(a));"
    ∷ codes "CREATE TABLE n(a, b NOT, PRIMARY KEY(a));"
    ∷ codes "CREATE TABLE n(a, b NULL, PRIMARY KEY(a));"
    ∷ codes "CREATE TABLE n(a, b NOT NULL NOT NULL, PRIMARY KEY(a));"
    ∷ codes "CREATE TABLE n(a NOT NULL PRIMARY KEY(a));"
    ∷ codes "- -"
    ∷ [])
unfolding on_lines
no_statement_asks = none_asks refl refl

no_dot_line_asks : NoneAsks (
    codes ".session"
    ∷ codes ".Hex b"
    -- an option given twice, and one of another name or of none
    ∷ codes ".apply a data=omit data=omit"
    ∷ codes ".apply a constraint=omit noop=ignore constraint=omit"
    ∷ codes ".apply a noop=ignore data=omit noop=report"
    ∷ codes ".apply a noop=maybe"
    ∷ codes ".apply a noop"
    ∷ [])
unfolding on_lines
no_dot_line_asks = none_asks refl refl

-- ---- lines that ask for nothing

blank_line : IsNothing (codes " \t\r")
unfolding on_lines
blank_line = tt

comment : IsNothing (codes " --comment, to the end of the line")
unfolding on_lines
comment = (codes "comment,", refl)
