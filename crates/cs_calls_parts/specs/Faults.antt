-- The numbers and the names of the faults of calls. Those of a field are as in a changeset file.
use Rattle.std.specs.Prelude.{ℕ, List, codes}
use Rattle.cs_value.specs.FieldFaults.{code_of as field_code, name_of as field_name}
use Rattle.cs_calls_parts.specs.declared.fault.CallFaultKind.{CallFaultKind}
use Rattle.cs_calls_parts.specs.declared.fault.CallFaultKind.TheVariants.{Field, UndefinedField, BadByte, UnknownCall, UnknownAnswer, ExtraBytes}

-- the number of a kind
abbrev pub code_of : CallFaultKind → ℕ
code_of (Field kind) = field_code kind
code_of UndefinedField = 15
code_of BadByte = 90
code_of UnknownCall = 91
code_of ExtraBytes = 92
code_of UnknownAnswer = 93

-- the name of a kind
abbrev pub name_of : CallFaultKind → List ℕ
name_of (Field kind) = field_name kind
name_of UndefinedField = codes "UndefinedField"
name_of BadByte = codes "BadByte"
name_of UnknownCall = codes "UnknownCall"
name_of ExtraBytes = codes "ExtraBytes"
name_of UnknownAnswer = codes "UnknownAnswer"

-- SQLite's result code of each: SQLITE_CORRUPT
abbrev pub class_of : CallFaultKind → ℕ
class_of kind = 11
