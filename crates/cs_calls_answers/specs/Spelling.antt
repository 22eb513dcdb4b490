-- The bytes of answers: `docs/CALLS.md` has them in words.
use Rattle.std.specs.Prelude.{◌≤◌, ℕ, List, [], ◌∷◌, ◌++◌, length, IfSome, All}
use Rattle.cs_value.specs.declared.TheConstants.{MAX_CONTENT_LEN}
use Rattle.cs_value.specs.declared.value.OwnedValue.{OwnedValue}
use Rattle.cs_value.specs.Spelling.{counted}
use Rattle.cs_calls_parts.specs.Spelling.{FoundCounts, IsColumn, IsFile, IsFound, IsList, IsRowList, IsText, IsWide}
use Rattle.cs_calls_parts.specs.Spelling.{found_bytes, list_bytes, row_bytes, option_bytes, wide_bytes}
use Rattle.cs_calls_parts.specs.Spelling.{flag_bytes, kind_bytes, choice_bytes, column_bytes}
use Rattle.cs_calls_answers.specs.declared.answer.Answer.{Answer}
use Rattle.cs_calls_answers.specs.declared.answer.Answer.TheVariants as answer
use Rattle.cs_calls_answers.specs.declared.answer.Reported.{Reported}
use Rattle.cs_calls_answers.specs.declared.answer.Refused.{Refused}
use Rattle.cs_calls_answers.specs.declared.conflicts.MetConflict.{MetConflict}

-- ---- conflicts

unfoldable pub met_bytes : MetConflict → List ℕ
met_bytes met = kind_bytes met.kind ++ choice_bytes met.choice ++ counted met.table ++ row_bytes met.key

pub record IsMet (met : MetConflict) : Type 0 where
  pub table : IsText met.table
  pub key : IsRowList met.key

abbrev pub MetCounts : MetConflict → Type 0
MetCounts met = length met.key ≤ MAX_CONTENT_LEN

-- ---- reports and refusals

unfoldable pub report_bytes : Reported → List ℕ
report_bytes report =
    wide_bytes report.written ++ wide_bytes report.ignored ++ list_bytes counted report.skipped
    ++ list_bytes met_bytes report.conflicts

pub record IsReport (report : Reported) : Type 0 where
  pub written : IsWide report.written
  pub ignored : IsWide report.ignored
  pub skipped : IsList IsText report.skipped
  pub conflicts : IsList IsMet report.conflicts

pub record ReportCounts (report : Reported) : Type 0 where
  pub skipped : length report.skipped ≤ MAX_CONTENT_LEN
  pub conflicts : length report.conflicts ≤ MAX_CONTENT_LEN
  pub mets : All MetCounts report.conflicts

unfoldable pub refused_bytes : Refused → List ℕ
refused_bytes refused =
    wide_bytes refused.code ++ option_bytes counted refused.table ++ option_bytes counted refused.column
    ++ option_bytes row_bytes refused.key ++ option_bytes wide_bytes refused.detail

pub record IsRefused (refused : Refused) : Type 0 where
  pub code : IsWide refused.code
  pub table : IfSome refused.table IsText
  pub column : IfSome refused.column IsText
  pub key : IfSome refused.key IsRowList
  pub detail : IfSome refused.detail IsWide

abbrev pub RefusedCounts : Refused → Type 0
RefusedCounts refused = IfSome refused.key (λ key. length key ≤ MAX_CONTENT_LEN)

-- ---- answers

-- the number of an answer
unfoldable pub number_of : Answer → ℕ
number_of answer.Done = 0
number_of (answer.Names names) = 1
number_of (answer.Schema columns) = 2
number_of (answer.Row row) = 3
number_of (answer.Rows rows more) = 4
number_of (answer.Number number) = 5
number_of (answer.Report report) = 6
number_of (answer.Conflicts conflicts) = 7
number_of (answer.Changeset file) = 8
number_of (answer.Flag flag) = 9
number_of (answer.Limits version bytes) = 10
number_of (answer.Refused refused) = 11
number_of (answer.Unread code offset) = 12

-- the parts of an answer
unfoldable pub parts_of : Answer → List ℕ
parts_of answer.Done = []
parts_of (answer.Names names) = list_bytes counted names
parts_of (answer.Schema columns) = list_bytes column_bytes columns
parts_of (answer.Row row) = option_bytes row_bytes row
parts_of (answer.Rows rows more) = list_bytes row_bytes rows ++ flag_bytes more
parts_of (answer.Number number) = wide_bytes number
parts_of (answer.Report report) = report_bytes report
parts_of (answer.Conflicts conflicts) = list_bytes found_bytes conflicts
parts_of (answer.Changeset file) = counted file
parts_of (answer.Flag flag) = flag_bytes flag
parts_of (answer.Limits version bytes) = wide_bytes version ++ wide_bytes bytes
parts_of (answer.Refused refused) = refused_bytes refused
parts_of (answer.Unread code offset) = wide_bytes code ++ wide_bytes offset

-- the number of an answer, and its parts
abbrev pub answer_bytes : Answer → List ℕ
answer_bytes a = number_of a ∷ parts_of a

-- what is an answer: its parts can be spelled
unfoldable pub IsAnswer : Answer → Type 0
IsAnswer answer.Done = Unit {0}
IsAnswer (answer.Names names) = IsList IsText names
IsAnswer (answer.Schema columns) = IsList IsColumn columns
IsAnswer (answer.Row row) = IfSome row IsRowList
IsAnswer (answer.Rows rows more) = IsList IsRowList rows
IsAnswer (answer.Number number) = IsWide number
IsAnswer (answer.Report report) = IsReport report
IsAnswer (answer.Conflicts conflicts) = IsList IsFound conflicts
IsAnswer (answer.Changeset file) = IsFile file
IsAnswer (answer.Flag flag) = Unit {0}
IsAnswer (answer.Limits version bytes) = IsWide version × IsWide bytes
IsAnswer (answer.Refused refused) = IsRefused refused
IsAnswer (answer.Unread code offset) = IsWide code × IsWide offset

-- the rows and lists of an answer have at most 2147483647 parts
unfoldable pub HasCounts : Answer → Type 0
HasCounts answer.Done = Unit {0}
HasCounts (answer.Names names) = length names ≤ MAX_CONTENT_LEN
HasCounts (answer.Schema columns) = length columns ≤ MAX_CONTENT_LEN
HasCounts (answer.Row row) = IfSome row (λ values. length values ≤ MAX_CONTENT_LEN)
HasCounts (answer.Rows rows more) = (length rows ≤ MAX_CONTENT_LEN) × All (λ row. length row ≤ MAX_CONTENT_LEN) rows
HasCounts (answer.Number number) = Unit {0}
HasCounts (answer.Report report) = ReportCounts report
HasCounts (answer.Conflicts conflicts) = (length conflicts ≤ MAX_CONTENT_LEN) × All FoundCounts conflicts
HasCounts (answer.Changeset file) = Unit {0}
HasCounts (answer.Flag flag) = Unit {0}
HasCounts (answer.Limits version bytes) = Unit {0}
HasCounts (answer.Refused refused) = RefusedCounts refused
HasCounts (answer.Unread code offset) = Unit {0}
