use Rattle.std.proofs.Common.{◌≡◌, false, All, take}
use Rattle.sqlite_schema.specs.Names.{same_name}
use Rattle.cs_store_sql.specs.Records.{table_name}
use Rattle.cs_store_sql.proofs.layout.refers_elsewhere.Given as goal

-- so far it is so
abbrev pub invariant-loop-key : goal.invariant-loop-key
invariant-loop-key l = All (λ key. same_name key.parent table_name ≡ false) (take l.key-index l.keys)
