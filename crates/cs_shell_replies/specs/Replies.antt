-- What lines are answered, and what is printed for that.
use Rattle.std.specs.Prelude.{ℕ, List, [], ◌++◌, Bool, true, false}
use Rattle.std.specs.Prelude.{Result, Ok, Err, codes, string_bytes}
use Rattle.std.specs.List.{flat_map}
use Rattle.cs_value.specs.declared.value.OwnedValue.{OwnedValue}
use Rattle.cs_wire.specs.Changeset.{GroupData}
use Rattle.cs_files.specs.Texts.{dump_of, listed_text}
use Rattle.cs_shell_replies.specs.declared.refusal.Refusal.{Refusal}
use Rattle.cs_shell_replies.specs.declared.reply.Reply.{Reply as ReplyOf}
use Rattle.cs_shell_replies.specs.declared.reply.Reply.TheVariants as reply
use Rattle.cs_shell_replies.specs.ErrorLines.{refusal_text}
use Rattle.cs_shell_replies.specs.Report.{ReportData, told_text, told_of}

-- what a line is answered
pub data Reply : Type 0 where
  Silent : Reply
  Text : List ℕ → Reply
  Dumped : List GroupData → Reply
  Listed : List (List OwnedValue) → Reply
  Reported : ReportData → Reply
  Refused : Refusal → Reply

abbrev pub line_text : List ℕ → List ℕ
line_text text = text ++ codes "\n"

-- a line for each row
abbrev pub rows_text : List (List OwnedValue) → List ℕ
rows_text rows = flat_map (λ row. line_text (listed_text row)) rows

-- what is printed for a reply
unfoldable pub reply_text : Reply → List ℕ
reply_text Silent = []
reply_text (Text text) = line_text text
reply_text (Dumped changeset) = dump_of changeset
reply_text (Listed rows) = rows_text rows
reply_text (Reported report) = told_text report
reply_text (Refused refusal) = refusal_text refusal

abbrev pub replies_text : List Reply → List ℕ
replies_text replies = flat_map reply_text replies

abbrev pub is_refused : Reply → Bool
is_refused Silent = false
is_refused (Text text) = false
is_refused (Dumped changeset) = false
is_refused (Listed rows) = false
is_refused (Reported report) = false
is_refused (Refused refusal) = true

-- a reply of the code, without where its text lies in memory
abbrev pub reply_of : ReplyOf → Reply
reply_of reply.Silent = Silent
reply_of (reply.Text text) = Text (string_bytes text)
reply_of (reply.Dump changeset) = Dumped changeset
reply_of (reply.Rows rows) = Listed rows.items
reply_of (reply.Report report) = Reported (told_of report)

abbrev pub answer_of : Result ReplyOf Refusal → Reply
answer_of (Ok reply) = reply_of reply
answer_of (Err refusal) = Refused refusal
