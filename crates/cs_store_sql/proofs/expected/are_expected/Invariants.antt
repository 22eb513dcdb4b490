use Rattle.std.proofs.Common.{◌≡◌, map, take}
use Rattle.sqlite_sql.specs.Syntax.{terms_of}
use Rattle.cs_store_sql.specs.Statements.{expected_term}
use Rattle.cs_store_sql.proofs.expected.are_expected.Given as goal

-- the terms so far are the expected ones
abbrev pub invariant-loop-at : goal.invariant-loop-at
invariant-loop-at l = terms_of l.nodes (take l.at l.roots) ≡ map expected_term (take l.at l.expected)
