-- How far a script is run, which the loops that run it keep.
use Rattle.std.specs.Prelude.{◌≡◌, ◌≢◌, ◌⊎◌, ℕ, ◌≤◌, ◌||◌, Bool, true, false, List, [], ◌∷◌, ◌++◌, length}
use Rattle.std.specs.Prelude.{Option, Result}
use Rattle.std.specs.List.{list_any}
use Rattle.std.specs.Io.KnownBytes.{Appends, Consumes, IsAtEnd}
use Rattle.cs_file_texts.specs.declared.told.Told.{Told}
use Rattle.cs_files.specs.Told.{known}
use Rattle.cs_files.specs.Calls.{AppendsFront, Writes}
use Rattle.cs_shell_script.specs.declared.reader.LineReader.{LineReader}
use Rattle.cs_shell_script.specs.declared.script.RunningScript.{RunningScript}
use Rattle.cs_shell_script.specs.declared.script.Status.{Status}
use Rattle.cs_shell_script.specs.declared.script.Status.TheVariants.{TooLong, InputFault, OutputFault}
use Rattle.cs_shell_script.specs.declared.script.Interruption.{Interruption}
use Rattle.cs_shell_script.specs.declared.script.Interruption.TheVariants as stop
use Rattle.cs_shell_replies.specs.Replies.{Reply, reply_text, replies_text, is_refused}
use Rattle.cs_shell_script.specs.Runs.{Splits, LinesGive, Answers, AnswersAll, SCRIPT_LIMIT}

-- ---- the line that is read

-- these are its bytes, unless it is lost
abbrev pub Holds : LineReader → List ℕ → Type 0
Holds reader line = reader.is_lost ≡ false → reader.bytes.items ≡ line

abbrev pub IsAtStart : LineReader → Type 0
IsAtStart reader = (reader.bytes.items ≡ []) × (reader.is_lost ≡ false)

abbrev pub HasBegun : LineReader → Type 0
HasBegun reader = (reader.is_lost ≡ true) ⊎ (reader.bytes.items ≢ [])

-- a byte was added, or the line is lost
abbrev pub Adds : LineReader → LineReader → ℕ → Type 0
Adds old new byte = new.is_lost ≡ false → (old.is_lost ≡ false) × (new.bytes.items ≡ old.bytes.items ++ byte ∷ [])

-- ---- lines

-- nothing is read, and no line was refused
abbrev pub IsFresh : RunningScript → Type 0
IsFresh script = IsAtStart script.line × (script.has_refused ≡ false)

-- a script that is being run, and what answers its lines
pub record Running (M : Type 0) : Type 0 where
  pub interpreter : M
  pub line : LineReader
  pub has_refused : Bool

abbrev pub running : {M : Type 0} → M → RunningScript → Running M
running interpreter script =
    record { interpreter = interpreter; line = script.line; has_refused = script.has_refused }

-- the line was answered, its answer was written, or some front of it, and the next line begins
pub record EndsLine {M W X E : Type 0} (contents : W → Option (List ℕ)) (gives : M → List ℕ → Reply → M → Type 0)
    (old new : Running M) (result : Result X E) (before after : Told W) : Type 0 where
  pub reply : Reply
  pub given : (line : List ℕ) → Holds old.line line → gives old.interpreter line reply new.interpreter
  pub writes : Writes contents result before after (reply_text reply)
  pub has_refused : new.has_refused ≡ (old.has_refused || is_refused reply)
  pub at_start : IsAtStart new.line

-- of this front of the text each whole line was answered, and the rest is the line that is read
pub record Progress {M : Type 0} (gives : M → List ℕ → Reply → M → Type 0) (start : M) (front : List ℕ)
    (before after : Option (List ℕ)) (script : Running M) : Type 0 where
  pub lines : List (List ℕ)
  pub last : List ℕ
  pub replies : List Reply
  pub splits : Splits front lines last
  pub given : LinesGive gives start lines replies script.interpreter
  pub written : Appends before after (replies_text replies)
  pub has_refused : list_any is_refused replies ≡ script.has_refused
  pub holds : Holds script.line last
  pub lost : script.line.is_lost ≡ true → last ≢ []

-- whatever was run before, these bytes more are run
pub record Advances {M W : Type 0} (contents : W → Option (List ℕ)) (gives : M → List ℕ → Reply → M → Type 0)
    (old new : Running M) (before after : Told W) (bytes : List ℕ) : Type 0 where
  pub progress : (start : M) (front : List ℕ) (first : Option (List ℕ))
      → Progress gives start front first (known contents before) old
      → Progress gives start (front ++ bytes) first (known contents after) new

-- the lines of a prefix of the text were answered, and a prefix of what is printed for them was written
pub record Broken {M : Type 0} (gives : M → List ℕ → Reply → M → Type 0) (start : M) (text : List ℕ)
    (before after : Option (List ℕ)) (final : M) : Type 0 where
  pub front : List ℕ
  pub rest : List ℕ
  pub whole : text ≡ front ++ rest
  pub replies : List Reply
  pub answers : Answers gives start front replies final
  pub written : AppendsFront before after (replies_text replies)

-- whatever was run before, a write failed in these bytes
pub record Breaks {M W : Type 0} (contents : W → Option (List ℕ)) (gives : M → List ℕ → Reply → M → Type 0)
    (old new : Running M) (before after : Told W) (bytes : List ℕ) : Type 0 where
  pub broken : (start : M) (front : List ℕ) (first : Option (List ℕ))
      → Progress gives start front first (known contents before) old
      → Broken gives start (front ++ bytes) first (known contents after) new.interpreter

-- whatever text was run, its last line is run too
pub record Finishes {M W : Type 0} (contents : W → Option (List ℕ)) (gives : M → List ℕ → Reply → M → Type 0)
    (old new : Running M) (before after : Told W) : Type 0 where
  pub answered : (start : M) (text : List ℕ) (first : Option (List ℕ))
      → Progress gives start text first (known contents before) old
      → (replies : List Reply) × AnswersAll gives start text replies new.interpreter
      × Appends first (known contents after) (replies_text replies)
      × (list_any is_refused replies ≡ new.has_refused)

-- whatever text was run, its last line is run too, and a write failed
pub record Unfinished {M W : Type 0} (contents : W → Option (List ℕ)) (gives : M → List ℕ → Reply → M → Type 0)
    (old new : Running M) (before after : Told W) : Type 0 where
  pub answered : (start : M) (text : List ℕ) (first : Option (List ℕ))
      → Progress gives start text first (known contents before) old
      → (replies : List Reply) × AnswersAll gives start text replies new.interpreter
      × AppendsFront first (known contents after) (replies_text replies)

-- ---- the input

-- so many bytes of the input were read and run
pub record HasRead {M R W : Type 0} (remaining : R → Option (List ℕ)) (contents : W → Option (List ℕ))
    (gives : M → List ℕ → Reply → M → Type 0) (old new : Running M) (input_old input_new : Told R)
    (before after : Told W) (count : ℕ) : Type 0 where
  pub text : List ℕ
  pub consumed : Consumes (known remaining input_old) (known remaining input_new) text
  pub counted : length text ≡ count
  pub within : count ≤ SCRIPT_LIMIT
  pub progress : Progress gives old.interpreter text (known contents before) (known contents after) new

-- the input was read to its end and run
pub record ReadsText {M R W : Type 0} (remaining : R → Option (List ℕ)) (contents : W → Option (List ℕ))
    (gives : M → List ℕ → Reply → M → Type 0) (old new : Running M) (input_old input_new : Told R)
    (before after : Told W) : Type 0 where
  pub count : ℕ
  pub read : HasRead remaining contents gives old new input_old input_new before after count
  pub at_end : IsAtEnd (known remaining input_new)

-- how a script ends that is stopped
abbrev pub status_of : Interruption → Status
status_of stop.TooLong = TooLong
status_of stop.Input = InputFault
status_of stop.Output = OutputFault
