use Rattle.std.proofs.Common.{◌≡◌, map, take, string_bytes}
use Rattle.cs_calls_conversions.proofs.names.names_of.Given as goal

-- those of the names so far
abbrev pub invariant-loop-name : goal.invariant-loop-name
invariant-loop-name l = l.texts.items ≡ map string_bytes (take l.name-index l.names)
