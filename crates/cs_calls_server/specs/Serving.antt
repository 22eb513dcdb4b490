-- Calls that are answered in turn. What a call is answered is a relation `gives` from a state and the bytes of the call
-- to those of the answer and the next state.
use Rattle.std.specs.Prelude.{◌≡◌, ◌≢◌, ℕ, ◌<◌, ◌≤◌, nat_lt, if◌then◌else◌, IsTrue, List, [], ◌∷◌, ◌++◌, length}
use Rattle.std.specs.Prelude.{Option}
use Rattle.std.specs.Io.KnownBytes.{Appends, Consumes, IsAtEnd}
use Rattle.cs_file_texts.specs.declared.told.Told.{Told}
use Rattle.cs_file_texts.specs.Told.{has_failed, known}
use Rattle.cs_calls_answers.specs.Refusals.{plain_refusal}
use Rattle.cs_calls_answers.specs.Spelling.{answer_bytes}
use Rattle.cs_calls_answers.specs.declared.answer.Answer.TheVariants.{Refused}
use Rattle.cs_calls_server.specs.declared.frames.Ending.{Ending}
use Rattle.cs_calls_server.specs.declared.frames.Ending.TheVariants.{Done, Torn, InputFault, OutputFault, Full}
use Rattle.cs_calls_server.specs.declared.serving.Sent.{Sent}
use Rattle.cs_calls_server.specs.declared.serving.Sent.TheVariants as sent
use Rattle.cs_calls_server.specs.Frames.{FRAME_LIMIT, CALL_LIMIT, frame_bytes, frames_of, IsTorn}

-- the bytes of a refusal that names nothing
abbrev pub refusal_bytes : ℕ → List ℕ
refusal_bytes code = answer_bytes (Refused (plain_refusal code))

-- those of 60 NoMemory
abbrev pub no_memory : List ℕ
no_memory = refusal_bytes 60

-- those of 94 FrameTooLong
abbrev pub too_long : List ℕ
too_long = refusal_bytes 94

-- the answer that is sent for an answer: one that no frame can hold is too long
abbrev pub sent_for : List ℕ → List ℕ
sent_for answer = if nat_lt FRAME_LIMIT (length answer) then too_long else answer

-- What the call in a frame is answered. A call that is too long, and one for which memory runs out, is not carried out.
pub data FrameGives {S : Type 0} (gives : S → List ℕ → List ℕ → S → Type 0) (old : S) (call : List ℕ) :
    List ℕ → S → Type 0 where
  answered : (answer : List ℕ) (new : S) → length call ≤ CALL_LIMIT → gives old call answer new
      → FrameGives gives old call (sent_for answer) new
  not_taken : CALL_LIMIT < length call → length call ≤ FRAME_LIMIT → FrameGives gives old call too_long old
  lost : length call ≤ CALL_LIMIT → FrameGives gives old call no_memory old

-- the answers to calls in turn, and the state after them
abbrev pub FramesGive : {S : Type 0} → (S → List ℕ → List ℕ → S → Type 0) → S → List (List ℕ) → List (List ℕ) → S
    → Type 0
FramesGive gives old [] [] new = new ≡ old
FramesGive {S} gives old (call ∷ calls) (answer ∷ answers) new =
    (mid : S) × FrameGives gives old call answer mid × FramesGive gives mid calls answers new
FramesGive gives old [] (answer ∷ answers) new = ⊥
FramesGive gives old (call ∷ calls) [] new = ⊥

-- frames with calls were read, and then these bytes, and the calls are answered
pub record Exchanges {S R : Type 0} (remaining : R → Option (List ℕ)) (gives : S → List ℕ → List ℕ → S → Type 0)
    (start final : S) (old new : Told R) (calls answers : List (List ℕ)) (last : List ℕ) : Type 0 where
  pub given : FramesGive gives start calls answers final
  pub consumed : Consumes (known remaining old) (known remaining new) (frames_of calls ++ last)

-- ---- what is sent

abbrev pub sent_bytes : Sent → List ℕ
sent_bytes (sent.Answer answer) = answer.items
sent_bytes sent.TooLong = too_long
sent_bytes sent.NoMemory = no_memory

-- a frame can hold it
abbrev pub Fits : Sent → Type 0
Fits (sent.Answer answer) = length answer.items ≤ FRAME_LIMIT
Fits sent.TooLong = Unit {0}
Fits sent.NoMemory = Unit {0}

-- this is sent for a call
pub record Responds {S : Type 0} (gives : S → List ℕ → List ℕ → S → Type 0) (old : S) (call : List ℕ)
    (sent : Sent) (new : S) : Type 0 where
  pub given : FrameGives gives old call (sent_bytes sent) new
  pub fits : Fits sent

-- ---- how it ends

-- the frames of answers are written
abbrev pub AreWritten : {W : Type 0} → (W → Option (List ℕ)) → Told W → Told W → List (List ℕ) → Type 0
AreWritten contents before after answers = Appends (known contents before) (known contents after) (frames_of answers)

-- a write failed: those of all answers but the last, and a front of that of the last
pub record AreCut {W : Type 0} (contents : W → Option (List ℕ)) (before after : Told W)
    (answers : List (List ℕ)) : Type 0 where
  pub earlier : List (List ℕ)
  pub cut : List ℕ
  pub all : answers ≡ earlier ++ cut ∷ []
  pub front : List ℕ
  pub rest : List ℕ
  pub parts : frame_bytes cut ≡ front ++ rest
  pub written : Appends (known contents before) (known contents after) (frames_of earlier ++ front)
  pub failed : IsTrue (has_failed after)

-- by the ending, after these answers to that many calls, where these bytes are read last
abbrev pub Ends : {R W : Type 0} → (R → Option (List ℕ)) → (W → Option (List ℕ)) → Ending → Told R → Told W → Told W
    → List (List ℕ) → List ℕ → ℕ → Type 0
Ends remaining contents Done input before after answers last count =
    (last ≡ []) × IsAtEnd (known remaining input) × AreWritten contents before after answers
Ends remaining contents Torn input before after answers last count =
    IsTorn last × (last ≢ []) × IsAtEnd (known remaining input) × AreWritten contents before after answers
Ends remaining contents InputFault input before after answers last count =
    IsTorn last × IsTrue (has_failed input) × AreWritten contents before after answers
Ends remaining contents OutputFault input before after answers last count =
    (last ≡ []) × AreCut contents before after answers
Ends remaining contents Full input before after answers last count =
    (last ≡ []) × (count ≡ 18446744073709551615) × AreWritten contents before after answers

-- the calls of the input were answered
pub record Serves {S R W : Type 0} (remaining : R → Option (List ℕ)) (contents : W → Option (List ℕ))
    (gives : S → List ℕ → List ℕ → S → Type 0) (ending : Ending) (start final : S) (input_old input_new : Told R)
    (before after : Told W) : Type 0 where
  pub calls : List (List ℕ)
  pub answers : List (List ℕ)
  pub last : List ℕ
  pub exchanges : Exchanges remaining gives start final input_old input_new calls answers last
  pub ends : Ends remaining contents ending input_new before after answers last (length calls)

-- on the way: that many calls were answered, and all of their answers are written
pub record Served {S R W : Type 0} (remaining : R → Option (List ℕ)) (contents : W → Option (List ℕ))
    (gives : S → List ℕ → List ℕ → S → Type 0) (start final : S) (input_old input_new : Told R)
    (before after : Told W) (count : ℕ) : Type 0 where
  pub calls : List (List ℕ)
  pub answers : List (List ℕ)
  pub exchanges : Exchanges remaining gives start final input_old input_new calls answers []
  pub written : AreWritten contents before after answers
  pub counted : length calls ≡ count
