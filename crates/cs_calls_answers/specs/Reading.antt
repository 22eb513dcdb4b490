-- What is read of the bytes of answers, part by part from the left.
use Rattle.std.specs.Prelude.{ℕ, ◌+◌, ◌==◌, if◌then◌else◌, List, [], ◌∷◌, length, Result, Ok, Err}
use Rattle.cs_value.specs.declared.fault.FieldFaultKind.TheVariants.{Truncated}
use Rattle.cs_calls_parts.specs.declared.fault.CallFault.{CallFault}
use Rattle.cs_calls_parts.specs.declared.fault.CallFaultKind.TheVariants.{Field, UnknownAnswer, ExtraBytes}
use Rattle.cs_calls_parts.specs.declared.fault.Misread.{Misread}
use Rattle.cs_calls_parts.specs.Reading.{◌>>=◌, misread, placed, counted_of, text_of, list_of, row_of, option_of, wide_of}
use Rattle.cs_calls_parts.specs.Reading.{flag_of, kind_of, choice_of, column_of, found_of}
use Rattle.cs_calls_answers.specs.declared.answer.Answer.{Answer}
use Rattle.cs_calls_answers.specs.declared.answer.Answer.TheVariants as answer
use Rattle.cs_calls_answers.specs.declared.answer.Reported.{Reported}
use Rattle.cs_calls_answers.specs.declared.answer.Refused.{Refused}
use Rattle.cs_calls_answers.specs.declared.conflicts.MetConflict.{MetConflict}

unfoldable pub met_of : List ℕ → Result (MetConflict × List ℕ) Misread
met_of bytes = do
  kind ← kind_of bytes
  choice ← choice_of kind.1
  table ← text_of choice.1
  key ← row_of table.1
  Ok (record { kind = kind.0; choice = choice.0; table = table.0; key = key.0 }, key.1)

unfoldable pub report_of : List ℕ → Result (Reported × List ℕ) Misread
report_of bytes = do
  written ← wide_of bytes
  ignored ← wide_of written.1
  skipped ← list_of text_of ignored.1
  conflicts ← list_of met_of skipped.1
  Ok (record { written = written.0; ignored = ignored.0; skipped = skipped.0; conflicts = conflicts.0 }, conflicts.1)

unfoldable pub refused_of : List ℕ → Result (Refused × List ℕ) Misread
refused_of bytes = do
  code ← wide_of bytes
  table ← option_of text_of code.1
  column ← option_of text_of table.1
  key ← option_of row_of column.1
  detail ← option_of wide_of key.1
  Ok (record { code = code.0; table = table.0; column = column.0; key = key.0; detail = detail.0 }, detail.1)

-- the parts of an answer, after its number
unfoldable pub names_of : List ℕ → Result (Answer × List ℕ) Misread
names_of bytes = do
  names ← list_of text_of bytes
  Ok (answer.Names names.0, names.1)

unfoldable pub schema_of : List ℕ → Result (Answer × List ℕ) Misread
schema_of bytes = do
  columns ← list_of column_of bytes
  Ok (answer.Schema columns.0, columns.1)

unfoldable pub found_row_of : List ℕ → Result (Answer × List ℕ) Misread
found_row_of bytes = do
  row ← option_of row_of bytes
  Ok (answer.Row row.0, row.1)

unfoldable pub rows_of : List ℕ → Result (Answer × List ℕ) Misread
rows_of bytes = do
  rows ← list_of row_of bytes
  more ← flag_of rows.1
  Ok (answer.Rows rows.0 more.0, more.1)

unfoldable pub count_of : List ℕ → Result (Answer × List ℕ) Misread
count_of bytes = do
  number ← wide_of bytes
  Ok (answer.Number number.0, number.1)

unfoldable pub reported_of : List ℕ → Result (Answer × List ℕ) Misread
reported_of bytes = do
  report ← report_of bytes
  Ok (answer.Report report.0, report.1)

unfoldable pub conflicts_of : List ℕ → Result (Answer × List ℕ) Misread
conflicts_of bytes = do
  conflicts ← list_of found_of bytes
  Ok (answer.Conflicts conflicts.0, conflicts.1)

unfoldable pub changeset_of : List ℕ → Result (Answer × List ℕ) Misread
changeset_of bytes = do
  file ← counted_of bytes
  Ok (answer.Changeset file.0, file.1)

unfoldable pub said_of : List ℕ → Result (Answer × List ℕ) Misread
said_of bytes = do
  flag ← flag_of bytes
  Ok (answer.Flag flag.0, flag.1)

unfoldable pub limits_of : List ℕ → Result (Answer × List ℕ) Misread
limits_of bytes = do
  version ← wide_of bytes
  most ← wide_of version.1
  Ok (answer.Limits version.0 most.0, most.1)

unfoldable pub refusal_of : List ℕ → Result (Answer × List ℕ) Misread
refusal_of bytes = do
  refused ← refused_of bytes
  Ok (answer.Refused refused.0, refused.1)

unfoldable pub unread_of : List ℕ → Result (Answer × List ℕ) Misread
unread_of bytes = do
  code ← wide_of bytes
  offset ← wide_of code.1
  Ok (answer.Unread code.0 offset.0, offset.1)

-- the answer with a number
unfoldable pub answer_by : ℕ → List ℕ → Result (Answer × List ℕ) Misread
answer_by number bytes =
    if number == 0 then Ok (answer.Done, bytes)
    else if number == 1 then names_of bytes
    else if number == 2 then schema_of bytes
    else if number == 3 then found_row_of bytes
    else if number == 4 then rows_of bytes
    else if number == 5 then count_of bytes
    else if number == 6 then reported_of bytes
    else if number == 7 then conflicts_of bytes
    else if number == 8 then changeset_of bytes
    else if number == 9 then said_of bytes
    else if number == 10 then limits_of bytes
    else if number == 11 then refusal_of bytes
    else if number == 12 then unread_of bytes
    else Err (misread UnknownAnswer (1 + length bytes))

-- the answer at the front
unfoldable pub answer_at : List ℕ → Result (Answer × List ℕ) Misread
answer_at [] = Err (misread (Field Truncated) 0)
answer_at (number ∷ bytes) = answer_by number bytes

-- an answer that no byte follows
unfoldable pub whole_answer : List ℕ → Result Answer Misread
whole_answer bytes = do
  a ← answer_at bytes
  if length a.1 == 0 then Ok a.0 else Err (misread ExtraBytes (length a.1))

-- the answer that bytes are, or the first part of them that cannot be read
abbrev pub answer_in : List ℕ → Result Answer CallFault
answer_in bytes = placed (length bytes) (whole_answer bytes)
