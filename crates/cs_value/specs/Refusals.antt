-- What calls answer that can be refused memory.
use Rattle.std.specs.Prelude.{Result, Ok, Err}
use Rattle.cs_value.specs.declared.refusal.OrNoMemory.{OrNoMemory}
use Rattle.cs_value.specs.declared.refusal.OrNoMemory.TheVariants.{Fault, NoMemory}

-- what a fault has, or what the refusal of memory has
abbrev pub of_refusal : {F X : Type 0} → (F → X) → X → OrNoMemory F → X
of_refusal of_fault of_memory (Fault f) = of_fault f
of_refusal of_fault of_memory NoMemory = of_memory

-- this holds of the fault, or memory was refused
abbrev pub Refuses : {F : Type 0} → (F → Type 0) → OrNoMemory F → Type 0
Refuses Why (Fault f) = Why f
Refuses Why NoMemory = Unit {0}

-- this holds of what is answered, or memory was refused
abbrev pub Answers : {X F : Type 0} → Result X (OrNoMemory F) → (X → Type 0) → Type 0
Answers (Ok x) Wanted = Wanted x
Answers (Err (Fault f)) Wanted = ⊥
Answers (Err NoMemory) Wanted = Unit {0}
