use Rattle.std.proofs.Common.{◌≡◌, map, take}
use Rattle.cs_store_sql.specs.Records.{shown_keyed}
use Rattle.cs_store_sql.proofs.records.keyed_rows.Given as goal

-- what was read so far
abbrev pub invariant-loop-row : goal.invariant-loop-row
invariant-loop-row l = l.listed.items ≡ map shown_keyed (take l.row-index l.rows)
