-- What is read of bytes, part by part from the left: a part and the bytes after it, or the first fault.
use Rattle.std.specs.Prelude.{◌≡◌, ℕ, zero, suc, ◌+◌, ◌-◌, ◌%◌, ◌==◌, nat_lt, if◌then◌else◌, List, [], ◌∷◌, length}
use Rattle.std.specs.Prelude.{take, drop, Bool, Option, None, Some, Result, Ok, Err}
use Rattle.std.specs.Str.{is_utf8}
use Rattle.cs_value.specs.declared.refusal.OrNoMemory.{OrNoMemory}
use Rattle.cs_value.specs.declared.refusal.OrNoMemory.TheVariants.{Fault, NoMemory}
use Rattle.cs_value.specs.declared.fault.FieldFault.{FieldFault}
use Rattle.cs_value.specs.declared.fault.FieldFaultKind.TheVariants.{Truncated, BadText}
use Rattle.cs_value.specs.declared.value.OwnedValue.{OwnedValue}
use Rattle.cs_value.specs.declared.value.OwnedField.{OwnedField}
use Rattle.cs_value.specs.declared.value.OwnedField.TheVariants.{Undefined, Defined}
use Rattle.cs_value.specs.Reading.{number_at, field_at}
use Rattle.std.specs.Int.{w64, from_be_bytes}
use Rattle.cs_apply_conflict_kinds.specs.declared.conflict.Kind.{Kind}
use Rattle.cs_apply_conflict_kinds.specs.declared.conflict.Kind.TheVariants.{Data, NotFound, Conflict, Constraint}
use Rattle.cs_apply_conflict_kinds.specs.declared.conflict.Choice.{Choice}
use Rattle.cs_apply_conflict_kinds.specs.declared.conflict.Choice.TheVariants.{Omit, Replace, Abort}
use Rattle.cs_apply_conflict_kinds.specs.declared.conflict.Noop.{Noop}
use Rattle.cs_apply_conflict_kinds.specs.declared.conflict.Noop.TheVariants.{Report, Ignore}
use Rattle.cs_apply_engine.specs.declared.policy.Policy.{Policy}
use Rattle.cs_calls_parts.specs.declared.fault.CallFault.{CallFault}
use Rattle.cs_calls_parts.specs.declared.fault.CallFaultKind.{CallFaultKind}
use Rattle.cs_calls_parts.specs.declared.fault.CallFaultKind.TheVariants.{Field, UndefinedField as UndefinedValue, BadByte}
use Rattle.cs_calls_parts.specs.declared.fault.Misread.{Misread}
use Rattle.cs_calls_parts.specs.declared.conflicts.ChosenConflict.{ChosenConflict}
use Rattle.cs_calls_parts.specs.declared.conflicts.FoundConflict.{FoundConflict}
use Rattle.cs_calls_parts.specs.declared.lists.Column.{Column}

-- ? of the code: the second step where the first gave a value
infixl 10 ◌>>=◌
abbrev pub ◌>>=◌ : {A B : Type 0} → Result A Misread → (A → Result B Misread) → Result B Misread
(Ok x) >>= f = f x
(Err e) >>= f = Err e

-- what a function answers, seen by view, is what is read, unless memory runs out
abbrev pub Fails : {Y F : Type 0} → OrNoMemory F → Result Y F → Type 0
Fails (Fault f) read = read ≡ Err f
Fails NoMemory read = Unit {0}

abbrev pub Gives : {X Y F : Type 0} → (X → Y) → Result X (OrNoMemory F) → Result Y F → Type 0
Gives view (Ok x) read = read ≡ Ok (view x)
Gives view (Err e) read = Fails e read

-- a fault, and how many bytes there are from its place on
abbrev pub misread : CallFaultKind → ℕ → Misread
misread kind left = record { kind = kind; left = left }

-- the fault of a field at the front of bytes
abbrev pub field_misread : List ℕ → FieldFault → Misread
field_misread bytes fault = misread (Field fault.kind) (length bytes - fault.place)

-- Each part: what the bytes begin with, and the bytes after it.

unfoldable pub number_after : List ℕ → Result (ℕ × ℕ) FieldFault → Result (ℕ × List ℕ) Misread
number_after bytes (Ok n) = Ok (n.0, drop n.1 bytes)
number_after bytes (Err fault) = Err (field_misread bytes fault)

unfoldable pub number_of : List ℕ → Result (ℕ × List ℕ) Misread
number_of bytes = number_after bytes (number_at bytes)

unfoldable pub counted_of : List ℕ → Result (List ℕ × List ℕ) Misread
counted_of bytes = do
  n ← number_of bytes
  if nat_lt (length n.1) n.0 then Err (misread (Field Truncated) 0) else Ok (take n.0 n.1, drop n.0 n.1)

unfoldable pub text_of : List ℕ → Result (List ℕ × List ℕ) Misread
text_of bytes = do
  c ← counted_of bytes
  if is_utf8 c.0 then Ok (c.0, c.1) else Err (misread (Field BadText) (length c.0 + length c.1))

unfoldable pub value_from : List ℕ → OwnedField → ℕ → Result (OwnedValue × List ℕ) Misread
value_from bytes Undefined used = Err (misread UndefinedValue (length bytes))
value_from bytes (Defined value) used = Ok (value, drop used bytes)

unfoldable pub value_after : List ℕ → Result (OwnedField × ℕ) FieldFault → Result (OwnedValue × List ℕ) Misread
value_after bytes (Ok field) = value_from bytes field.0 field.1
value_after bytes (Err fault) = Err (field_misread bytes fault)

unfoldable pub value_of : List ℕ → Result (OwnedValue × List ℕ) Misread
value_of bytes = value_after bytes (field_at bytes)

-- so many parts
unfoldable pub parts_at : {X : Type 0} → (List ℕ → Result (X × List ℕ) Misread) → ℕ → List ℕ → Result (List X × List ℕ) Misread
parts_at part_of zero bytes = Ok ([], bytes)
parts_at part_of (suc count) bytes = do
  first ← part_of bytes
  others ← parts_at part_of count first.1
  Ok (first.0 ∷ others.0, others.1)

-- parts after their count
unfoldable pub list_of : {X : Type 0} → (List ℕ → Result (X × List ℕ) Misread) → List ℕ → Result (List X × List ℕ) Misread
list_of part_of bytes = do
  count ← number_of bytes
  parts_at part_of count.0 count.1

abbrev pub row_of : List ℕ → Result (List OwnedValue × List ℕ) Misread
row_of bytes = list_of value_of bytes

-- a byte below a limit
unfoldable pub byte_of : ℕ → List ℕ → Result (ℕ × List ℕ) Misread
byte_of limit [] = Err (misread (Field Truncated) 0)
byte_of limit (byte ∷ rest) = if nat_lt byte limit then Ok (byte, rest) else Err (misread BadByte (length (byte ∷ rest)))

unfoldable pub option_after : {X : Type 0} → (List ℕ → Result (X × List ℕ) Misread) → ℕ → List ℕ → Result (Option X × List ℕ) Misread
option_after part_of zero bytes = Ok (None, bytes)
option_after part_of (suc more) bytes = do
  part ← part_of bytes
  Ok (Some part.0, part.1)

unfoldable pub option_of : {X : Type 0} → (List ℕ → Result (X × List ℕ) Misread) → List ℕ → Result (Option X × List ℕ) Misread
option_of part_of bytes = do
  mark ← byte_of 2 bytes
  option_after part_of mark.0 mark.1

-- a number of 64 bits
unfoldable pub wide_of : List ℕ → Result (ℕ × List ℕ) Misread
wide_of bytes = if nat_lt (length bytes) 8 then Err (misread (Field Truncated) 0) else Ok (from_be_bytes w64 (take 8 bytes), drop 8 bytes)

unfoldable pub flag_of : List ℕ → Result (Bool × List ℕ) Misread
flag_of bytes = do
  flag ← byte_of 2 bytes
  Ok (flag.0 == 1, flag.1)

-- the kind of a conflict with a number, before bytes
unfoldable pub kind_from : ℕ → List ℕ → Result (Kind × List ℕ) Misread
kind_from number rest =
    if number == 1 then Ok (Data, rest)
    else if number == 2 then Ok (NotFound, rest)
    else if number == 3 then Ok (Conflict, rest)
    else if number == 4 then Ok (Constraint, rest)
    else Err (misread BadByte (1 + length rest))

unfoldable pub kind_of : List ℕ → Result (Kind × List ℕ) Misread
kind_of [] = Err (misread (Field Truncated) 0)
kind_of (number ∷ rest) = kind_from number rest

unfoldable pub column_of : List ℕ → Result (Column × List ℕ) Misread
column_of bytes = do
  name ← text_of bytes
  mark ← byte_of 4 name.1
  Ok (record { name = name.0; is_key = mark.0 % 2 == 1; refuses_null = nat_lt 1 mark.0 }, mark.1)

unfoldable pub choice_of : List ℕ → Result (Choice × List ℕ) Misread
choice_of bytes = do
  number ← byte_of 3 bytes
  Ok (if number.0 == 0 then Omit else if number.0 == 1 then Replace else Abort, number.1)

unfoldable pub noop_of : List ℕ → Result (Noop × List ℕ) Misread
noop_of bytes = do
  number ← byte_of 2 bytes
  Ok (if number.0 == 0 then Report else Ignore, number.1)

unfoldable pub policy_of : List ℕ → Result (Policy × List ℕ) Misread
policy_of bytes = do
  data_choice ← choice_of bytes
  notfound ← choice_of data_choice.1
  conflict ← choice_of notfound.1
  constraint ← choice_of conflict.1
  Ok (
    record {
      on_data = data_choice.0;
      on_notfound = notfound.0;
      on_conflict = conflict.0;
      on_constraint = constraint.0;
    },
    constraint.1,
  )

unfoldable pub found_of : List ℕ → Result (FoundConflict × List ℕ) Misread
found_of bytes = do
  index ← wide_of bytes
  kind ← kind_of index.1
  table ← text_of kind.1
  key ← row_of table.1
  current ← option_of row_of key.1
  Ok (record { index = index.0; kind = kind.0; table = table.0; key = key.0; current = current.0 }, current.1)

-- a conflict, and the choice for it
unfoldable pub chosen_of : List ℕ → Result (ChosenConflict × List ℕ) Misread
chosen_of bytes = do
  conflict ← found_of bytes
  choice ← choice_of conflict.1
  Ok (record { conflict = conflict.0; choice = choice.0 }, choice.1)

-- the place of a fault, from the front
abbrev pub placed : {X : Type 0} → ℕ → Result X Misread → Result X CallFault
placed len (Ok x) = Ok x
placed len (Err m) = Err (record { kind = m.kind; place = len - m.left })
