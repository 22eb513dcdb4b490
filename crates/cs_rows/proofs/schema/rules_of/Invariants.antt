use Rattle.std.proofs.Common.{◌≡◌, take}
use Rattle.cs_rows.specs.Editing.{either}
use Rattle.cs_rows.proofs.schema.rules_of.Given as goal

-- the marks so far are those of the first columns
abbrev pub invariant-loop-column : goal.invariant-loop-column
invariant-loop-column l = l.rules.items ≡ take l.column (either l.keys l.refuses)
