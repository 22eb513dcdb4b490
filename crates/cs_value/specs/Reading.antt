-- What the private readers answer, by what they meet first. No public contract names these: what the readers are for
-- is said by Spelling and FieldFaults.
use Rattle.std.specs.Prelude.{◌≡◌, ℕ, ◌+◌, ◌*◌, ◌-◌, ◌%◌, ◌==◌, nat_lt, if◌then◌else◌, List, [], ◌∷◌, length}
use Rattle.std.specs.Prelude.{take, drop, Result, Ok, Err}
use Rattle.std.specs.Int.{w64, cast_signed, from_be_bytes}
use Rattle.std.specs.Str.{is_utf8}
use Rattle.cs_value.specs.declared.TheConstants.{MAX_CONTENT_LEN}
use Rattle.cs_value.specs.declared.fault.FieldFault.{FieldFault}
use Rattle.cs_value.specs.declared.fault.FieldFaultKind.{FieldFaultKind}
use Rattle.cs_value.specs.declared.fault.FieldFaultKind.TheVariants.{Truncated, BadVarint, BadType, RealValue, BadText}
use Rattle.cs_value.specs.declared.value.OwnedValue.TheVariants.{Int, Text, Blob, Null}
use Rattle.cs_value.specs.declared.value.OwnedField.{OwnedField}
use Rattle.cs_value.specs.declared.value.OwnedField.TheVariants.{Undefined, Defined}
use Rattle.cs_value.specs.FieldFaults.{FieldFails}

abbrev pub fault : FieldFaultKind → ℕ → FieldFault
fault kind place = record { kind = kind; place = place }

-- the number that begins with the digits of n, used of them, and goes on with these bytes
unfoldable pub number_from : ℕ → ℕ → List ℕ → Result (ℕ × ℕ) FieldFault
number_from used n [] = Err (fault Truncated used)
number_from used n (b ∷ bytes) =
    let next = n * 128 + b % 128 in
    if nat_lt b 128 then (if nat_lt MAX_CONTENT_LEN next then Err (fault BadVarint 0) else Ok (next, used + 1))
    else if used == 4 then Err (fault BadVarint 0) else number_from (used + 1) next bytes

unfoldable pub number_at : List ℕ → Result (ℕ × ℕ) FieldFault
number_at [] = Err (fault Truncated 0)
number_at (b ∷ bytes) = if b == 128 then Err (fault BadVarint 0) else number_from 0 0 (b ∷ bytes)

-- what a reader answers, seen by view, is what reading gives
abbrev pub Reads : {X Y : Type 0} → (X → Y) → Result X FieldFault → Result Y FieldFault → Type 0
Reads view (Ok x) read = read ≡ Ok (view x)
Reads view (Err e) read = read ≡ Err e

-- ? of the code: the second step where the first gave a value
infixl 10 ◌>>=◌
abbrev pub ◌>>=◌ : {A B : Type 0} → Result A FieldFault → (A → Result B FieldFault) → Result B FieldFault
(Ok x) >>= f = f x
(Err e) >>= f = Err e

-- a fault after the type byte
abbrev pub behind_type : {A : Type 0} → Result A FieldFault → Result A FieldFault
behind_type (Ok x) = Ok x
behind_type (Err e) = Err (fault e.kind (1 + e.place))

-- After a type byte: what is read, and where it ends, the type byte included.

unfoldable pub integer_at : List ℕ → Result (OwnedField × ℕ) FieldFault
integer_at content =
    if nat_lt (length content) 8 then Err (fault Truncated (1 + length content))
    else Ok (Defined (Int (cast_signed w64 (from_be_bytes w64 (take 8 content)))), 9)

unfoldable pub counted_at : List ℕ → Result (List ℕ × ℕ) FieldFault
counted_at content = do
  n ← behind_type (number_at content)
  if nat_lt (length (drop n.1 content)) n.0 then Err (fault Truncated (1 + length content))
      else Ok (take n.0 (drop n.1 content), 1 + n.1 + n.0)

unfoldable pub text_at : List ℕ → Result (OwnedField × ℕ) FieldFault
text_at content = do
  c ← counted_at content
  if is_utf8 c.0 then Ok (Defined (Text c.0), c.1) else Err (fault BadText (c.1 - length c.0))

unfoldable pub blob_at : List ℕ → Result (OwnedField × ℕ) FieldFault
blob_at content = do
  c ← counted_at content
  Ok (Defined (Blob c.0), c.1)

unfoldable pub field_at : List ℕ → Result (OwnedField × ℕ) FieldFault
field_at [] = Err (fault Truncated 0)
field_at (kind ∷ content) =
    if kind == 0 then Ok (Undefined, 1)
    else if kind == 1 then integer_at content
    else if kind == 2 then Err (fault RealValue 0)
    else if kind == 3 then text_at content
    else if kind == 4 then blob_at content
    else if kind == 5 then Ok (Defined Null, 1)
    else Err (fault BadType 0)

-- from a place on there is no field
abbrev pub NoFieldAt : List ℕ → ℕ → FieldFault → Type 0
NoFieldAt bytes at f = (behind : ℕ) × FieldFails (drop at bytes) f.kind behind × (f.place ≡ at + behind)
