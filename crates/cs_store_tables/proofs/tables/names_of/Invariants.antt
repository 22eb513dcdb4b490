use Rattle.std.proofs.Common.{◌≡◌, map, take, string_bytes}
use Rattle.cs_store_tables.proofs.tables.names_of.Given as goal

-- the names so far are read
abbrev pub invariant-loop-record : goal.invariant-loop-record
invariant-loop-record l = map string_bytes l.names.items ≡ map (λ e. e.0) (take l.record-index l.listed)
