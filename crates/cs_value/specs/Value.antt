-- Values, fields and rows, after the format comment of SQLite's sqlite3session.c: what of the declared types is a
-- value of a changeset. There an integer has 64 bits, a text is UTF-8, and the count of the bytes of a text or a blob
-- is at most 2147483647.
use Rattle.std.specs.Prelude.{ℕ, ◌<◌, ◌≤◌, List, length, FitsSigned, IsUtf8}
use Rattle.std.specs.Int.{w64}
use Rattle.std.specs.List.{AllByRecursion}
use Rattle.cs_value.specs.declared.TheConstants.{MAX_CONTENT_LEN}
use Rattle.cs_value.specs.declared.value.Value.{Value}
use Rattle.cs_value.specs.declared.value.Value.TheVariants as borrowed
use Rattle.cs_value.specs.declared.value.Field.{Field}
use Rattle.cs_value.specs.declared.value.Field.TheVariants as borrowed_field
use Rattle.cs_value.specs.declared.value.OwnedValue.{OwnedValue}
use Rattle.cs_value.specs.declared.value.OwnedValue.TheVariants.{Int, Text, Blob, Null}
use Rattle.cs_value.specs.declared.value.OwnedField.{OwnedField}
use Rattle.cs_value.specs.declared.value.OwnedField.TheVariants.{Undefined, Defined}

-- the value that a borrowed one shows
abbrev pub value_of : Value → OwnedValue
value_of (borrowed.Int z) = Int z
value_of (borrowed.Text t) = Text t.now
value_of (borrowed.Blob b) = Blob b.now
value_of borrowed.Null = Null

-- the field that a borrowed one shows
abbrev pub field_of : Field → OwnedField
field_of borrowed_field.Undefined = Undefined
field_of (borrowed_field.Defined v) = Defined (value_of v)

-- a borrowed value whose text or blob is not too long
abbrev pub Fits : Value → Type 0
Fits (borrowed.Int z) = Unit {0}
Fits (borrowed.Text t) = length t.now ≤ MAX_CONTENT_LEN
Fits (borrowed.Blob b) = length b.now ≤ MAX_CONTENT_LEN
Fits borrowed.Null = Unit {0}

abbrev pub FieldFits : Field → Type 0
FieldFits borrowed_field.Undefined = Unit {0}
FieldFits (borrowed_field.Defined v) = Fits v

-- each element is a byte
abbrev pub AreBytes : List ℕ → Type 0
AreBytes bytes = AllByRecursion (λ b. b < 256) bytes

-- a value: an integer of 64 bits, a text, a blob or NULL
abbrev pub IsValue : OwnedValue → Type 0
IsValue (Int z) = FitsSigned w64 z
IsValue (Text t) = IsUtf8 t × (length t ≤ MAX_CONTENT_LEN)
IsValue (Blob b) = AreBytes b × (length b ≤ MAX_CONTENT_LEN)
IsValue Null = Unit {0}

-- a field: undefined, or a value
abbrev pub IsField : OwnedField → Type 0
IsField Undefined = Unit {0}
IsField (Defined v) = IsValue v

-- a record: a list of fields
abbrev pub IsRecord : List OwnedField → Type 0
IsRecord fields = AllByRecursion IsField fields

-- a row: a record without an undefined field, given by its values
abbrev pub IsRow : List OwnedValue → Type 0
IsRow values = AllByRecursion IsValue values
