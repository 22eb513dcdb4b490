-- What calls of a writer answer.
use Rattle.std.specs.Prelude.{◌≡◌, ℕ, ◌==◌, ◌&&◌, nat_lt, Bool, true, List, ◌++◌, length, Option}
use Rattle.std.specs.Prelude.{Result, Ok, Err, MatchResult, OnErr, IsTrue}
use Rattle.std.specs.Io.KnownBytes.{Appends}
use Rattle.cs_file_texts.specs.declared.told.Told.{Told}
use Rattle.cs_file_texts.specs.Told.{known, has_failed}

-- a write that is answered so failed, or took none of some bytes
abbrev pub is_failed_write : {E : Type 0} → Result ℕ E → List ℕ → Bool
is_failed_write (Ok count) bytes = (count == 0) && nat_lt 0 (length bytes)
is_failed_write (Err e) bytes = true

-- known bytes grow by some front of the text
abbrev pub AppendsFront : Option (List ℕ) → Option (List ℕ) → List ℕ → Type 0
AppendsFront old new text = (front : List ℕ) × (rest : List ℕ) × (text ≡ front ++ rest) × Appends old new front

-- what a call did that was to write a text: it is written at Ok, and some front of it at Err, where the writer's flag
-- is set
pub record Writes {W X E : Type 0} (contents : W → Option (List ℕ)) (result : Result X E) (old new : Told W)
    (text : List ℕ) : Type 0 where
  pub wrote : MatchResult result (λ _. Appends (known contents old) (known contents new) text)
      (λ _. AppendsFront (known contents old) (known contents new) text)
  pub flagged : OnErr result (IsTrue (has_failed new))
