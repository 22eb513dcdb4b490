-- What an apply commits.
use Rattle.std.specs.Prelude.{ℕ, List}
use Rattle.cs_value.specs.State.{State, WrittenData}
use Rattle.cs_apply_conflict_kinds.specs.declared.conflict.Noop.{Noop}
use Rattle.cs_apply_engine.specs.declared.conflict.Met.{Met}
use Rattle.cs_apply_engine.specs.declared.running.Direction.{Direction}
use Rattle.cs_apply_engine.specs.Running.{Handler, AppliesWith}

-- an apply of the file makes this state
pub record AppliesInto (chooses : Handler) (noop : Noop) (file : List ℕ) (direction : Direction) (before after : State) :
    Type 0 where
  pub met : List Met
  pub skips : List (List ℕ)
  pub writes : List WrittenData
  pub passed : ℕ
  pub applies : AppliesWith chooses noop file direction before met skips writes passed after
