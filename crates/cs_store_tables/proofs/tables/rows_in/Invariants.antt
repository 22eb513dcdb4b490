use Rattle.std.proofs.Common.{map, take}
use Rattle.cs_store_tables.specs.Store.{AreStored}
use Rattle.cs_store_tables.proofs.tables.rows_in.Given as goal

-- the rows so far are read
abbrev pub invariant-loop-record : goal.invariant-loop-record
invariant-loop-record l = AreStored l.schema (map (λ e. e.1) (take l.record-index l.listed)) l.rows.items
