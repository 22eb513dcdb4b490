-- Readers that stop where a line does not fit: what contracts of private functions say, here and in cs_shell_grammar.
use Rattle.std.specs.Prelude.{◌≡◌, Option, None, Some, Result, Ok, Err}
use Rattle.cs_value.specs.declared.refusal.OrNoMemory.{OrNoMemory}
use Rattle.cs_value.specs.declared.refusal.OrNoMemory.TheVariants as refusal
use Rattle.cs_shell_tokens.specs.declared.fault.TokenFault.{TokenFault}

-- why a reader stops: what it reads is not there, or memory was refused
abbrev pub Misfits : {Y : Type 0} → Option Y → OrNoMemory TokenFault → Type 0
Misfits read (refusal.Fault f) = read ≡ None
Misfits read refusal.NoMemory = Unit {0}

-- a reader's answer, against what there is to read
abbrev pub Reads : {X Y : Type 0} → Result X (OrNoMemory TokenFault) → (X → Y) → Option Y → Type 0
Reads (Ok x) view read = read ≡ Some (view x)
Reads (Err stop) view read = Misfits read stop

-- what is read after what was read
abbrev pub and_then : {X Y : Type 0} → Option X → (X → Option Y) → Option Y
and_then None next = None
and_then (Some x) next = next x
