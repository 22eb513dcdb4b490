-- The text of what an apply did, which is this project's own.
use Rattle.std.specs.Prelude.{ℕ, zero, suc, List, [], ◌++◌, map, codes, decimal, string_bytes}
use Rattle.std.specs.List.{flat_map}
use Rattle.cs_apply_conflict_kinds.specs.Conflicts.{kind_number}
use Rattle.cs_apply_conflict_kinds.specs.Applying.{MetData}
use Rattle.cs_apply_engine.specs.declared.report.Summary.{Summary}
use Rattle.cs_apply_engine.specs.Report.{met_of}
use Rattle.cs_value.specs.Quoting.{quoted}
use Rattle.cs_shell_grammar.specs.Commands.{kind_text, choice_text}

-- a table that was passed over; 17 is SQLite's SQLITE_SCHEMA
unfoldable pub skip_text : List ℕ → List ℕ
skip_text table = codes "warning 17 skipped " ++ quoted 39 table ++ codes "\n"

-- a conflict, and what was chosen for it
unfoldable pub met_text : MetData → List ℕ
met_text met = codes "conflict " ++ decimal (kind_number met.conflict.kind) ++ codes " " ++ kind_text met.conflict.kind
    ++ codes " " ++ choice_text met.choice ++ codes " " ++ quoted 39 met.conflict.table ++ codes "\n"

-- a line with a word and a count
abbrev pub counted_text : List ℕ → ℕ → List ℕ
counted_text word count = word ++ decimal count ++ codes "\n"

-- how many entries were ignored, where some were
unfoldable pub ignored_text : ℕ → List ℕ
ignored_text zero = []
ignored_text (suc count) = counted_text (codes "ignored ") (suc count)

unfoldable pub count_text : ℕ → List ℕ
count_text count = counted_text (codes "applied ") count

-- what is reported of an apply: the tables that were passed over, the conflicts with their choices, and how many
-- entries were ignored and how many carried out
pub record ReportData : Type 0 where
  pub skipped : List (List ℕ)
  pub conflicts : List MetData
  pub ignored : ℕ
  pub applied : ℕ

-- a line for each table that was passed over, then one for each conflict, one with the count of entries that were
-- ignored where there are some, and one with the count of those that were carried out
abbrev pub told_text : ReportData → List ℕ
told_text told = flat_map skip_text told.skipped
    ++ (flat_map met_text told.conflicts ++ (ignored_text told.ignored ++ count_text told.applied))

abbrev pub told_of : Summary → ReportData
told_of report = record {
  skipped = map string_bytes report.skipped.items;
  conflicts = map met_of report.conflicts.items;
  ignored = report.ignored;
  applied = report.written;
}

-- the text of a report
abbrev pub report_of : Summary → List ℕ
report_of report = told_text (told_of report)
