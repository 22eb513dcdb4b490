-- What a database declares under the name of the table of records.
use Rattle.sqlite_schema.specs.declared.schema.Schema.{Schema}
use Rattle.cs_store_sql.specs.declared.layout.Declaration.{Declaration}
use Rattle.cs_store_sql.specs.declared.layout.Declaration.TheVariants.{Missing, Records, Other, Unsupported}
use Rattle.cs_store_sql.specs.Records.{DeclaresRecords, IsDeclaredOtherwise, IsUnsupported, LacksRecords}

abbrev pub IsDeclaration : Schema → Declaration → Type 0
IsDeclaration schema Missing = LacksRecords schema
IsDeclaration schema Records = DeclaresRecords schema
IsDeclaration schema Other = IsDeclaredOtherwise schema
IsDeclaration schema Unsupported = IsUnsupported schema
