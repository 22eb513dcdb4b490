-- The answer to *limits*.
use Rattle.std.proofs.Common.{◌≡◌, ◌⊎◌, ◌<◌, inl, inr, ℕ, List, length, Vec, Global, Result, Ok, Err, IfErr, arith}
use Rattle.cs_calls_answers.specs.declared.answer.Refused.{Refused}
use Rattle.cs_calls_answers.specs.Refusals.{out_of_memory}
use Rattle.cs_calls_answers.specs.Spelling.{HasCounts, number_of, parts_of}
use Rattle.cs_calls_executor.specs.Calls.{IsTooLong, IsUnsent}
use Rattle.cs_calls.specs.Steps.{limits}

-- it is short
limits_short : IsTooLong limits → ⊥
unfolding HasCounts parts_of number_of
limits_short (inl uncounted) = uncounted tt
limits_short (inr long) = omega (arith, long)

-- so it is not sent for memory only
pub limits_unsent : (result : Result (Vec ℕ Global) Refused) → IfErr result (IsUnsent limits) → IfErr result (λ why. why ≡ out_of_memory)
limits_unsent (Ok bytes) unsent = tt
limits_unsent (Err why) (inl long) = absurd (limits_short long.1)
limits_unsent (Err why) (inr memory) = memory
