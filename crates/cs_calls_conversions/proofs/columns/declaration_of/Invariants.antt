use Rattle.std.proofs.Common.{◌≡◌, map, take, string_bytes}
use Rattle.cs_calls_conversions.proofs.columns.declaration_of.Given as goal

-- each list is that of the columns so far
abbrev pub invariant-loop-column : goal.invariant-loop-column
invariant-loop-column l =
    (map string_bytes l.names.items ≡ map (λ c. c.name) (take l.column-index l.columns))
    × (l.keys.items ≡ map (λ c. c.is_key) (take l.column-index l.columns))
    × (l.refuses.items ≡ map (λ c. c.refuses_null) (take l.column-index l.columns))
