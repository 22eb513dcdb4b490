-- Why bytes do not begin with a varint or a field, one case for each kind of fault, said of the bytes and not of the
-- steps of a reader. The names and numbers are this project's own.
use Rattle.std.specs.Prelude.{◌≡◌, ◌≢◌, ℕ, ◌+◌, ◌<◌, ◌≤◌, ◌⊎◌, List, [], ◌∷◌, ◌++◌, length, take, slice_get, Some}
use Rattle.std.specs.Prelude.{IsUtf8, codes}
use Rattle.std.specs.List.{AllByRecursion}
use Rattle.cs_value.specs.declared.TheConstants.{MAX_CONTENT_LEN}
use Rattle.cs_value.specs.declared.fault.FieldFaultKind.{FieldFaultKind}
use Rattle.cs_value.specs.declared.fault.FieldFaultKind.TheVariants.{Truncated, BadVarint, BadType, RealValue, BadText}
use Rattle.cs_value.specs.Varint.{varint}

-- the number of a kind
abbrev pub code_of : FieldFaultKind → ℕ
code_of Truncated = 1
code_of BadVarint = 4
code_of BadType = 12
code_of RealValue = 13
code_of BadText = 14

-- the name of a kind
abbrev pub name_of : FieldFaultKind → List ℕ
name_of Truncated = codes "Truncated"
name_of BadVarint = codes "BadVarint"
name_of BadType = codes "BadType"
name_of RealValue = codes "RealValue"
name_of BadText = codes "BadText"

-- none to four bytes above 0x7f, the first not 0x80: a varint that an end cuts off
pub record IsCutVarint (bytes : List ℕ) : Type 0 where
  pub few : length bytes ≤ 4
  pub go_on : AllByRecursion (λ b. 127 < b) bytes
  pub shortest : slice_get bytes 0 ≢ Some 128

-- five bytes, the first four above 0x7f, that are no varint
pub record IsLongVarint (bytes : List ℕ) : Type 0 where
  pub five : length bytes ≡ 5
  pub go_on : AllByRecursion (λ b. 127 < b) (take 4 bytes)
  pub no_varint : (n : ℕ) → n ≤ MAX_CONTENT_LEN → varint n ≢ bytes

-- the bytes begin with 0x80, or with five that are too many or too large
abbrev pub BeginsNoVarint : List ℕ → Type 0
BeginsNoVarint bytes = (slice_get bytes 0 ≡ Some 128) ⊎ ((5 ≤ length bytes) × IsLongVarint (take 5 bytes))

-- the fault of bytes that begin with no varint, and its place
abbrev pub VarintFails : List ℕ → FieldFaultKind → ℕ → Type 0
VarintFails bytes Truncated place = IsCutVarint bytes × (place ≡ length bytes)
VarintFails bytes BadVarint place = BeginsNoVarint bytes × (place ≡ 0)
VarintFails bytes BadType place = ⊥
VarintFails bytes RealValue place = ⊥
VarintFails bytes BadText place = ⊥

-- a text or a blob: its type, and what follows that
abbrev pub HasContent : List ℕ → List ℕ → Type 0
HasContent bytes content = (bytes ≡ 3 ∷ content) ⊎ (bytes ≡ 4 ∷ content)

-- 0x01, and fewer than eight bytes after it
pub record IsCutInteger (bytes : List ℕ) : Type 0 where
  pub content : List ℕ
  pub spelled : bytes ≡ 1 ∷ content
  pub fewer : length content < 8

-- a count, and fewer bytes than it says
pub record IsCutContent (content : List ℕ) : Type 0 where
  pub count : ℕ
  pub rest : List ℕ
  pub is_number : count ≤ MAX_CONTENT_LEN
  pub spelled : content ≡ varint count ++ rest
  pub fewer : length rest < count

-- a text or a blob that is cut in its count or after it
pub record IsCutTextOrBlob (bytes : List ℕ) : Type 0 where
  pub content : List ℕ
  pub has_content : HasContent bytes content
  pub cut : IsCutVarint content ⊎ IsCutContent content

-- nothing; or an integer, a text or a blob that an end cuts off
abbrev pub IsCutField : List ℕ → Type 0
IsCutField bytes = (bytes ≡ []) ⊎ IsCutInteger bytes ⊎ IsCutTextOrBlob bytes

-- a text or a blob that begins with no count
pub record HasNoContentCount (bytes : List ℕ) : Type 0 where
  pub content : List ℕ
  pub has_content : HasContent bytes content
  pub no_count : BeginsNoVarint content

-- a type above 5
pub record HasBadType (bytes : List ℕ) : Type 0 where
  pub kind : ℕ
  pub rest : List ℕ
  pub spelled : bytes ≡ kind ∷ rest
  pub no_type : 5 < kind

-- a text that is not UTF-8, after its count
pub record HasBadText (bytes : List ℕ) (place : ℕ) : Type 0 where
  pub text : List ℕ
  pub rest : List ℕ
  pub spelled : bytes ≡ 3 ∷ varint (length text) ++ text ++ rest
  pub short : length text ≤ MAX_CONTENT_LEN
  pub not_utf8 : IsUtf8 text → ⊥
  pub behind_count : place ≡ 1 + length (varint (length text))

-- the fault of bytes that begin with no field, and its place, from the first of the bytes
abbrev pub FieldFails : List ℕ → FieldFaultKind → ℕ → Type 0
FieldFails bytes Truncated place = IsCutField bytes × (place ≡ length bytes)
FieldFails bytes BadVarint place = HasNoContentCount bytes × (place ≡ 1)
FieldFails bytes BadType place = HasBadType bytes × (place ≡ 0)
FieldFails bytes RealValue place = (slice_get bytes 0 ≡ Some 2) × (place ≡ 0)
FieldFails bytes BadText place = HasBadText bytes place
