-- Text that is gathered before it is written.
use Rattle.std.specs.Prelude.{◌≡◌, ℕ, List, ◌++◌, Option, Result, MatchResult, OnErr, IsTrue}
use Rattle.std.specs.Io.KnownBytes.{Appends}
use Rattle.cs_file_texts.specs.declared.told.Told.{Told}
use Rattle.cs_file_texts.specs.Told.{known, has_failed}

-- a prefix of the pending bytes and a text was written, and the rest is pending now
pub record Gathered {W : Type 0} (contents : W → Option (List ℕ)) (pending left : List ℕ) (old new : Told W)
    (text : List ℕ) : Type 0 where
  pub front : List ℕ
  pub split : pending ++ text ≡ front ++ left
  pub appended : Appends (known contents old) (known contents new) front

-- a prefix of the pending bytes and a text was written, and the rest is lost
pub record Interrupted {W : Type 0} (contents : W → Option (List ℕ)) (pending : List ℕ) (old new : Told W)
    (text : List ℕ) : Type 0 where
  pub front : List ℕ
  pub rest : List ℕ
  pub split : pending ++ text ≡ front ++ rest
  pub appended : Appends (known contents old) (known contents new) front

-- what a call did that was to gather a text: it is gathered at Ok, and interrupted at Err, where the writer's flag is
-- set
pub record Gathers {W X E : Type 0} (contents : W → Option (List ℕ)) (result : Result X E) (pending left : List ℕ)
    (old new : Told W) (text : List ℕ) : Type 0 where
  pub gathered : MatchResult result (λ _. Gathered contents pending left old new text)
      (λ _. Interrupted contents pending old new text)
  pub flagged : OnErr result (IsTrue (has_failed new))
