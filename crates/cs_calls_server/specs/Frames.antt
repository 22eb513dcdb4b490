-- Frames, in which calls and answers are sent: four bytes of length, the most significant first, and that many bytes.
use Rattle.std.specs.Prelude.{◌≡◌, ◌≢◌, ◌⊎◌, ℕ, ◌+◌, ◌<◌, ◌≤◌, false, IsTrue, List, [], ◌++◌, length, take, Option}
use Rattle.std.specs.Int.{w32, to_be_bytes, from_be_bytes}
use Rattle.std.specs.List.{flat_map}
use Rattle.std.specs.Io.KnownBytes.{Consumes, IsAtEnd}
use Rattle.cs_file_texts.specs.declared.told.Told.{Told}
use Rattle.cs_file_texts.specs.Told.{has_failed, known}
use Rattle.cs_calls_server.specs.declared.frames.Body.{Body}
use Rattle.cs_calls_server.specs.declared.frames.Ending.{Ending}
use Rattle.cs_calls_server.specs.declared.frames.Ending.TheVariants.{Done, Torn, InputFault, OutputFault, Full}
use Rattle.cs_calls_server.specs.declared.frames.Received.{Received}
use Rattle.cs_calls_server.specs.declared.frames.Received.TheVariants.{Call, TooLong, NoMemory}

-- the most bytes after the length of a frame
abbrev pub FRAME_LIMIT : ℕ
FRAME_LIMIT = 4294967295

-- the most bytes of a call that is carried out
abbrev pub CALL_LIMIT : ℕ
CALL_LIMIT = 67108864

abbrev pub frame_bytes : List ℕ → List ℕ
frame_bytes body = to_be_bytes w32 (length body) ++ body

abbrev pub frames_of : List (List ℕ) → List ℕ
frames_of bodies = flat_map frame_bytes bodies

-- bytes that end within a frame, or before it begins: within its length, or within what follows
abbrev pub IsTorn : List ℕ → Type 0
IsTorn bytes = (length bytes < 4) ⊎ (length bytes < 4 + from_be_bytes w32 (take 4 bytes))

-- ---- reading

-- why no more was read: the input is at its end, or a read failed
abbrev pub Stopped : {R : Type 0} → (R → Option (List ℕ)) → Ending → Told R → Type 0
Stopped remaining Done input = IsAtEnd (known remaining input)
Stopped remaining Torn input = IsAtEnd (known remaining input)
Stopped remaining InputFault input = IsTrue (has_failed input)
Stopped remaining OutputFault input = ⊥
Stopped remaining Full input = ⊥

-- these bytes were read, and then no more
pub record Stops {R : Type 0} (remaining : R → Option (List ℕ)) (ending : Ending) (old new : Told R)
    (bytes : List ℕ) : Type 0 where
  pub consumed : Consumes (known remaining old) (known remaining new) bytes
  pub stopped : Stopped remaining ending new
  pub none : ending ≡ Done → bytes ≡ []
  pub some : ending ≡ Torn → bytes ≢ []

-- why no more of a frame that has begun was read
abbrev pub Breaks : {R : Type 0} → (R → Option (List ℕ)) → Ending → Told R → Type 0
Breaks remaining ending input = (ending ≢ Done) × Stopped remaining ending input

-- these bytes were read
abbrev pub Reads : {R : Type 0} → (R → Option (List ℕ)) → Told R → Told R → List ℕ → Type 0
Reads remaining old new bytes = Consumes (known remaining old) (known remaining new) bytes

-- that many bytes were read
abbrev pub ReadsCount : {R : Type 0} → (R → Option (List ℕ)) → Told R → Told R → ℕ → List ℕ → Type 0
ReadsCount remaining old new count bytes = Reads remaining old new bytes × (length bytes ≡ count)

-- what was received of the bytes of a call: all, unless there are too many, or memory ran out
abbrev pub IsReceived : Received → List ℕ → Type 0
IsReceived (Call bytes) call = (bytes.items ≡ call) × (length call ≤ CALL_LIMIT)
IsReceived TooLong call = (CALL_LIMIT < length call) × (length call ≤ FRAME_LIMIT)
IsReceived NoMemory call = length call ≤ CALL_LIMIT

-- the bytes of a call so far are these, unless they are lost
abbrev pub Holds : Body → List ℕ → Type 0
Holds body bytes = body.is_lost ≡ false → body.bytes.items ≡ bytes
