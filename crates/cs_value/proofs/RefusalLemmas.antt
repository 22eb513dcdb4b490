-- Refusals that are passed on.
use Rattle.std.proofs.Common.{Err}
use Rattle.cs_value.specs.declared.refusal.OrNoMemory.{OrNoMemory}
use Rattle.cs_value.specs.declared.refusal.OrNoMemory.TheVariants.{Fault, NoMemory}
use Rattle.cs_value.specs.Refusals.{Answers}

-- a refusal for memory passes on, and no other is one where something is wanted
pub Answers-err : {X Y F : Type 0} (e : OrNoMemory F) (P : X → Type 0) (Q : Y → Type 0) → Answers (Err e) P → Answers (Err e) Q
Answers-err (Fault f) P Q h = h
Answers-err NoMemory P Q h = tt
