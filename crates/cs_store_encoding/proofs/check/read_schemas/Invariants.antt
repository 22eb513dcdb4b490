use Rattle.std.proofs.Common.{take}
use Rattle.cs_store_encoding.specs.Valid.{AreDeclared}
use Rattle.cs_store_encoding.specs.Versions.{bytes_of}
use Rattle.cs_store_encoding.proofs.check.read_schemas.Given as goal

-- the schemas are those of the declarations so far
abbrev pub invariant-loop-record : goal.invariant-loop-record
invariant-loop-record l = AreDeclared (bytes_of l.version) (take l.record-index l.listed) l.schemas
