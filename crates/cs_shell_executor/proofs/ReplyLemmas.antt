-- Lemmas on the replies to commands, with what calls ensure turned the way that they are stated.
use Rattle.std.proofs.Common.{◌≡◌, ◌⊎◌, inl, inr, ℕ, List, Some, Err}
use Rattle.hex.specs.Hex.{decode_of}
use Rattle.hex.specs.declared.error.FromHexError.{FromHexError}
use Rattle.hex.specs.declared.error.FromHexError.TheVariants as hex
use Rattle.std.specs.FinMap.{get}
use Rattle.cs_value.specs.declared.refusal.OrNoMemory.{OrNoMemory}
use Rattle.cs_value.specs.declared.refusal.OrNoMemory.TheVariants as tool
use Rattle.cs_value.specs.Refusals.{Refuses}
use Rattle.cs_wire_entries.specs.declared.fault.ReadFault.{ReadFault}
use Rattle.cs_wire.specs.ReadFaults.{ReadFails}
use Rattle.cs_files.specs.declared.fault.FileFault.{FileFault}
use Rattle.cs_files.specs.Files.{JoinFails}
use Rattle.cs_shell_grammar.specs.Commands.{Load, Invert, Concat, Dump}
use Rattle.cs_shell_replies.specs.ErrorLines.{of_hex, of_read, of_files}
use Rattle.cs_shell_replies.specs.Replies.{Refused}
use Rattle.cs_shell_executor.specs.LineAnswers.{SlotsGive, no_hex, not_inverted, not_joined, not_dumped, unable}
use Rattle.cs_shell_executor.specs.ShellState.{SlotMap}

-- digits that are not decoded
pub gives_not_loaded : (old : SlotMap) (slot digits : List ℕ) (e : FromHexError) → (e ≡ hex.OutOfMemory) ⊎ (decode_of digits ≡ Err e) → SlotsGive old (Load slot digits) (Refused (of_hex e)) old
gives_not_loaded old slot digits e (inl same) = rw same (unable old (Load slot digits))
gives_not_loaded old slot digits hex.OutOfMemory (inr is) = unable old (Load slot digits)
gives_not_loaded old slot digits (hex.InvalidHexCharacter c index) (inr is) = no_hex old slot digits _ is
gives_not_loaded old slot digits hex.OddLength (inr is) = no_hex old slot digits _ is
gives_not_loaded old slot digits hex.InvalidStringLength (inr is) = no_hex old slot digits _ is

-- a slot whose bytes are not inverted
pub gives_not_inverted : (old : SlotMap) (from into file : List ℕ) (fault : OrNoMemory ReadFault) → get old from ≡ Some file → Refuses (λ f. ReadFails file f.kind f.place) fault
    → SlotsGive old (Invert from into) (Refused (of_read fault)) old
gives_not_inverted old from into file (tool.Fault f) is why = not_inverted old from into file f is why
gives_not_inverted old from into file tool.NoMemory is why = unable old (Invert from into)

-- slots whose files are not joined
pub gives_not_joined : (old : SlotMap) (first second into file other : List ℕ) (fault : OrNoMemory FileFault) → get old first ≡ Some file → get old second ≡ Some other → Refuses (JoinFails file other) fault
    → SlotsGive old (Concat first second into) (Refused (of_files fault)) old
gives_not_joined old first second into file other (tool.Fault f) is other_is why = not_joined old first second into file other f is other_is why
gives_not_joined old first second into file other tool.NoMemory is other_is why = unable old (Concat first second into)

-- a slot whose bytes are no changeset's
pub gives_not_dumped : (old : SlotMap) (slot file : List ℕ) (fault : OrNoMemory ReadFault) → get old slot ≡ Some file → Refuses (λ f. ReadFails file f.kind f.place) fault
    → SlotsGive old (Dump slot) (Refused (of_read fault)) old
gives_not_dumped old slot file (tool.Fault f) is why = not_dumped old slot file f is why
gives_not_dumped old slot file tool.NoMemory is why = unable old (Dump slot)
