-- What a caller in C sees of a few calls.
use Rattle.std.proofs.Common.{◌≡◌, [], ◌∷◌, refl, arith}
use Rattle.std.specs.Prelude.{pos}
use Rattle.cs_value.specs.declared.refusal.OrNoMemory.TheVariants.{Fault, NoMemory}
use Rattle.cs_wire_entries.specs.declared.fault.ReadFaultKind.TheVariants.{Truncated}
use Rattle.cs_files.specs.declared.fault.FileFault.TheVariants.{First, Second, Schema}
use Rattle.vollikash.specs.Answers.{Gives, Lacks, report_of}

-- two bytes in a buffer of three: the third is as it was
front_is_filled : Gives (λ bytes. bytes ≡ 1 ∷ 2 ∷ []) (7 ∷ 8 ∷ 9 ∷ []) (1 ∷ 2 ∷ 9 ∷ []) 2
front_is_filled = record { bytes = 1 ∷ 2 ∷ []; made = refl; fit = omega arith; stand = refl; counted = refl }

-- no byte in a buffer of one
nothing_is_given : Gives (λ bytes. bytes ≡ []) (7 ∷ []) (7 ∷ []) 0
nothing_is_given = record { bytes = []; made = refl; fit = omega arith; stand = refl; counted = refl }

-- two bytes are more than a buffer of one holds
buffer_is_short : Lacks (λ bytes. bytes ≡ 1 ∷ 2 ∷ []) (7 ∷ []) 2
buffer_is_short = record { bytes = 1 ∷ 2 ∷ []; made = refl; more = omega arith; counted = refl }

-- a file that ends at its byte 1, as the first and as the second
first_is_told : report_of (Fault (First (record { kind = Truncated; place = 1 }))) ≡ record { code = pos 1; file = pos 1; place = 1 }
first_is_told = refl

second_is_told : report_of (Fault (Second (record { kind = Truncated; place = 1 }))) ≡ record { code = pos 1; file = pos 2; place = 1 }
second_is_told = refl

-- the fourth table of the second file differs
table_is_told : report_of (Fault (Schema (record { place = 3 }))) ≡ record { code = pos 43; file = pos 2; place = 3 }
table_is_told = refl

-- memory is no file's fault
memory_is_told : report_of NoMemory ≡ record { code = pos 60; file = pos 0; place = 0 }
memory_is_told = refl
