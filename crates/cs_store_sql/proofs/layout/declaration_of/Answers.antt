-- `layout::declaration_of`: the table that was found is there.
use Rattle.std.proofs.Common.{sym}
use Rattle.sqlite_schema.specs.Names.{same_name}
use Rattle.cs_store_sql.specs.Records.{table_name}
use Rattle.cs_store_sql.proofs.PlaceLemmas.{something_there}
use Rattle.cs_store_sql.proofs.layout.declaration_of.Goals as goal

pub unreachable-requires : goal.unreachable-requires
unreachable-requires c = something_there (λ t. same_name t.name table_name) c.args.schema.now.tables c.in-Some.index (sym c.in-Some.ensures) (sym c.in-None.ensures.value)
