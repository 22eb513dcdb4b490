-- Each entry is a step towards the end of the file.
use Rattle.std.proofs.Common.{◌-◌, length}
use Rattle.cs_file_scan.proofs.tables.Tables.count_entries.Given as goal

abbrev pub invariant-entries : goal.invariant-entries
invariant-entries l = Unit {0}

abbrev pub decreases-entries : goal.decreases-entries
decreases-entries l = length l.left.file - l.left.place
