-- Refusals that name nothing.
use Rattle.std.specs.Prelude.{ℕ, None}
use Rattle.cs_calls_answers.specs.declared.answer.Refused.{Refused}

-- the refusal that has a code, and no part
abbrev pub plain_refusal : ℕ → Refused
plain_refusal code = record { code = code; table = None; column = None; key = None; detail = None }

-- 60 NoMemory
abbrev pub out_of_memory : Refused
out_of_memory = plain_refusal 60
