-- A sentence for people for each number that a call answers.
use Rattle.std.specs.Prelude.{◌≡◌, ◌⊎◌, ℕ, ℤ, pos, negsuc, ◌==◌, nat_lt, if◌then◌else◌, List, [], ◌∷◌, ◌++◌, Option, Some, None, codes, get_or}
use Rattle.vollikash.specs.declared.answer.TheConstants.{OK, NO_ROOM, RANGE}

-- those of the numbers 0 to 18, by their places
abbrev pub low_messages : List (List ℕ)
low_messages =
    codes "no error"
    ∷ codes "the file ends inside a part"
    ∷ codes "the file does not begin with a table"
    ∷ codes "the file is a patchset"
    ∷ codes "a count is not a varint in its shortest form"
    ∷ codes "a table has no column, or more than 32767"
    ∷ codes "a table has no key column"
    ∷ codes "a table's name is empty or not UTF-8"
    ∷ codes "a table is in the file twice"
    ∷ codes "a table has no change"
    ∷ codes "a change has no known operation"
    ∷ codes "an indirect flag is neither 0 nor 1"
    ∷ codes "a field has no known type"
    ∷ codes "a field is a floating-point value"
    ∷ codes "a text is not UTF-8"
    ∷ codes "a field that must be defined is not"
    ∷ codes "an update has a field only before or only after"
    ∷ codes "a key column is NULL"
    ∷ codes "a key is in a table twice"
    ∷ []

-- the sentence of a number, or none if no call answers it
abbrev pub message_of : ℕ → Option (List ℕ)
message_of code =
    if nat_lt code 19 then Some (get_or low_messages code [])
    else if code == 37 then Some (codes "the file is a database that is no store")
    else if code == 38 then Some (codes "the file is no database, or the database refuses")
    else if code == 43 then Some (codes "a table has other columns or another key than in an earlier file")
    else if code == 60 then Some (codes "out of memory")
    else if code == 80 then Some (codes "the buffer is too small")
    else if code == 81 then Some (codes "no change is left")
    else if code == 82 then Some (codes "an argument is out of range")
    else if code == 83 then Some (codes "the store is not open")
    else if code == 95 then Some (codes "a transaction of the store is open")
    else None

-- the same of C's int
abbrev pub message_of_code : ℤ → Option (List ℕ)
message_of_code (pos code) = message_of code
message_of_code (negsuc code) = None

-- the sentence of a number, and a zero byte
abbrev pub IsMessage : ℤ → List ℕ → Type 0
IsMessage code text = (sentence : List ℕ) × (message_of_code code ≡ Some sentence) × (text ≡ sentence ++ 0 ∷ [])

-- what asking for a sentence answers
abbrev pub IsMessageCode : ℤ → Type 0
IsMessageCode code = (code ≡ OK) ⊎ (code ≡ NO_ROOM) ⊎ (code ≡ RANGE)
