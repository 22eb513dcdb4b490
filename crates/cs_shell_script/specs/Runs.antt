-- Scripts over any state: a text is split into lines, and these are answered in turn. What a line is answered is a
-- relation `gives` from a state and the line to the reply and the next state.
use Rattle.std.specs.Prelude.{◌≡◌, ◌≢◌, ℕ, ◌+◌, ◌≤◌, Bool, true, false, IsTrue, List, [], ◌∷◌, ◌++◌, length, Option}
use Rattle.std.specs.List.{flat_map, list_any, AllByRecursion}
use Rattle.std.specs.Io.KnownBytes.{Appends, Consumes, IsAtEnd}
use Rattle.cs_file_texts.specs.declared.told.Told.{Told}
use Rattle.cs_files.specs.Told.{has_failed, known}
use Rattle.cs_files.specs.Calls.{AppendsFront}
use Rattle.cs_shell_replies.specs.declared.refusal.Refusal.TheVariants.{ScriptTooLong}
use Rattle.cs_shell_script.specs.declared.script.Status.{Status}
use Rattle.cs_shell_script.specs.declared.script.Status.TheVariants.{Done, LinesRefused, TooLong, InputFault, OutputFault}
use Rattle.cs_shell_replies.specs.ErrorLines.{refusal_text}
use Rattle.cs_shell_replies.specs.Replies.{Reply, replies_text, is_refused}

-- ---- lines

-- a line with its line feed
abbrev pub ended : List ℕ → List ℕ
ended line = line ++ 10 ∷ []

abbrev pub HasNoFeed : List ℕ → Type 0
HasNoFeed line = AllByRecursion (λ b. b ≢ 10) line

-- a last line without a line feed counts if it has a byte
abbrev pub unended : List ℕ → List (List ℕ)
unended [] = []
unended (b ∷ bytes) = (b ∷ bytes) ∷ []

-- the text is these lines, each with a line feed, and then this without one
pub record Splits (text : List ℕ) (lines : List (List ℕ)) (last : List ℕ) : Type 0 where
  pub spelled : text ≡ flat_map ended lines ++ last
  pub no_feed : AllByRecursion HasNoFeed lines
  pub no_feed_last : HasNoFeed last

-- ---- answers

-- the replies to lines in turn, and the state after them
abbrev pub LinesGive : {S : Type 0} → (S → List ℕ → Reply → S → Type 0) → S → List (List ℕ) → List Reply → S → Type 0
LinesGive gives old [] [] new = new ≡ old
LinesGive {S} gives old (line ∷ lines) (reply ∷ replies) new =
    (mid : S) × gives old line reply mid × LinesGive gives mid lines replies new
LinesGive gives old [] (reply ∷ replies) new = ⊥
LinesGive gives old (line ∷ lines) [] new = ⊥

-- each line of the text that a line feed ends is answered, and the rest is not
pub record Answers {S : Type 0} (gives : S → List ℕ → Reply → S → Type 0) (start : S) (text : List ℕ)
    (replies : List Reply) (final : S) : Type 0 where
  pub lines : List (List ℕ)
  pub last : List ℕ
  pub splits : Splits text lines last
  pub given : LinesGive gives start lines replies final

-- each line of the text is answered, also a last one that no line feed ends
pub record AnswersAll {S : Type 0} (gives : S → List ℕ → Reply → S → Type 0) (start : S) (text : List ℕ)
    (replies : List Reply) (final : S) : Type 0 where
  pub lines : List (List ℕ)
  pub last : List ℕ
  pub splits : Splits text lines last
  pub given : LinesGive gives start (lines ++ unended last) replies final

-- the most bytes that a script has
abbrev pub SCRIPT_LIMIT : ℕ
SCRIPT_LIMIT = 16777216

-- ---- how a script ends whose text was read

-- the text is answered, and some line is refused or none
pub record EndsText {W S : Type 0} (contents : W → Option (List ℕ)) (gives : S → List ℕ → Reply → S → Type 0)
    (start final : S) (before after : Told W) (text : List ℕ) (some_refused : Bool) : Type 0 where
  pub short : length text ≤ SCRIPT_LIMIT
  pub replies : List Reply
  pub answers : AnswersAll gives start text replies final
  pub written : Appends (known contents before) (known contents after) (replies_text replies)
  pub refused : list_any is_refused replies ≡ some_refused

-- the lines that the text has are answered, and no more of it was read
pub record EndsFront {W S : Type 0} (contents : W → Option (List ℕ)) (gives : S → List ℕ → Reply → S → Type 0)
    (start final : S) (before after : Told W) (text : List ℕ) : Type 0 where
  pub short : length text ≤ SCRIPT_LIMIT
  pub replies : List Reply
  pub answers : Answers gives start text replies final
  pub written : Appends (known contents before) (known contents after) (replies_text replies)

-- the text is too long: the lines among its first bytes are answered
pub record Overruns {S : Type 0} (gives : S → List ℕ → Reply → S → Type 0) (start final : S) (text : List ℕ)
    (replies : List Reply) : Type 0 where
  pub front : List ℕ
  pub rest : List ℕ
  pub whole : text ≡ front ++ rest
  pub full : length front ≡ SCRIPT_LIMIT
  pub more : rest ≢ []
  pub answers : Answers gives start front replies final

-- what is printed for them, and that the text is too long
abbrev pub overrun_text : List Reply → List ℕ
overrun_text replies = replies_text replies ++ refusal_text ScriptTooLong

pub record EndsOverrun {W S : Type 0} (contents : W → Option (List ℕ)) (gives : S → List ℕ → Reply → S → Type 0)
    (start final : S) (before after : Told W) (text : List ℕ) : Type 0 where
  pub replies : List Reply
  pub overruns : Overruns gives start final text replies
  pub written : Appends (known contents before) (known contents after) (overrun_text replies)

-- a write failed, and this is left of the input: of what is printed for the lines that were answered a prefix is
-- written. A last line that no line feed ends is answered only at the end of the input
pub data EndsUnwritten {W S : Type 0} (contents : W → Option (List ℕ)) (gives : S → List ℕ → Reply → S → Type 0)
    (start final : S) (before after : Told W) (left : Option (List ℕ)) : List ℕ → Type 0 where
  at_line : (front rest : List ℕ) (replies : List Reply) → length front ≤ SCRIPT_LIMIT
      → Answers gives start front replies final
      → AppendsFront (known contents before) (known contents after) (replies_text replies)
      → EndsUnwritten contents gives start final before after left (front ++ rest)
  at_last_line : (text : List ℕ) (replies : List Reply) → length text ≤ SCRIPT_LIMIT → IsAtEnd left
      → AnswersAll gives start text replies final
      → AppendsFront (known contents before) (known contents after) (replies_text replies)
      → EndsUnwritten contents gives start final before after left text
  at_overrun : (text : List ℕ) (replies : List Reply) → Overruns gives start final text replies
      → AppendsFront (known contents before) (known contents after) (overrun_text replies)
      → EndsUnwritten contents gives start final before after left text

-- by its status, and what is left of the input
abbrev pub Ends : {W S : Type 0} → (W → Option (List ℕ)) → (S → List ℕ → Reply → S → Type 0) → Status → S → S
    → Told W → Told W → Option (List ℕ) → List ℕ → Type 0
Ends contents gives Done start final before after left text =
    EndsText contents gives start final before after text false
Ends contents gives LinesRefused start final before after left text =
    EndsText contents gives start final before after text true
Ends contents gives TooLong start final before after left text =
    EndsOverrun contents gives start final before after text
Ends contents gives InputFault start final before after left text =
    EndsFront contents gives start final before after text
Ends contents gives OutputFault start final before after left text =
    EndsUnwritten contents gives start final before after left text

-- the input is read to its end, unless something stopped the script
abbrev pub ReadsAll : Status → Option (List ℕ) → Type 0
ReadsAll Done left = IsAtEnd left
ReadsAll LinesRefused left = IsAtEnd left
ReadsAll _ left = Unit {0}

-- where a read or a write failed that ended a script, the flag of its stream is set
abbrev pub IsFlagged : {R W : Type 0} → Status → Told R → Told W → Type 0
IsFlagged InputFault input out = IsTrue (has_failed input)
IsFlagged OutputFault input out = IsTrue (has_failed out)
IsFlagged _ input out = Unit {0}

-- the script was run: its text is what was consumed, at most a byte more than a script has
pub record Runs {R W S : Type 0} (remaining : R → Option (List ℕ)) (contents : W → Option (List ℕ))
    (gives : S → List ℕ → Reply → S → Type 0) (status : Status) (start final : S) (input_before input_after : Told R)
    (before after : Told W) : Type 0 where
  pub text : List ℕ
  pub consumed : Consumes (known remaining input_before) (known remaining input_after) text
  pub bounded : length text ≤ SCRIPT_LIMIT + 1
  pub at_end : ReadsAll status (known remaining input_after)
  pub ended : Ends contents gives status start final before after (known remaining input_after) text
  pub flagged : IsFlagged status input_after after

-- the exit status of a script that ended so
abbrev pub exit_of : Status → ℕ
exit_of Done = 0
exit_of _ = 1

-- the input was run as a script, and this is the exit status
pub record RunsInput {R W S : Type 0} (remaining : R → Option (List ℕ)) (contents : W → Option (List ℕ))
    (gives : S → List ℕ → Reply → S → Type 0) (start : S) (exit : ℕ) (input_before input_after : Told R)
    (before after : Told W) : Type 0 where
  pub status : Status
  pub final : S
  pub exit_is : exit ≡ exit_of status
  pub runs : Runs remaining contents gives status start final input_before input_after before after
