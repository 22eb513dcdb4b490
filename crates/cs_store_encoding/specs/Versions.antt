-- The versions of records, as values of their own type.
use Rattle.std.specs.Prelude.{ℕ, List}
use Rattle.cs_store_encoding.specs.declared.version.Version.{Version}
use Rattle.cs_store_encoding.specs.declared.version.Version.TheVariants.{Current, Former}
use Rattle.cs_store_encoding.specs.Stored.{version, former_version}

-- the bytes of a version
abbrev pub bytes_of : Version → List ℕ
bytes_of Current = version
bytes_of Former = former_version
