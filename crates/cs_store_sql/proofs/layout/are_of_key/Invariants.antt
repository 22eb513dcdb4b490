use Rattle.std.proofs.Common.{All, take}
use Rattle.cs_store_sql.specs.Records.{IsOfKey}
use Rattle.cs_store_sql.proofs.layout.are_of_key.Given as goal

-- so far it is so
abbrev pub invariant-loop-index : goal.invariant-loop-index
invariant-loop-index l = All (IsOfKey l.tree) (take l.index-index l.indexes)
