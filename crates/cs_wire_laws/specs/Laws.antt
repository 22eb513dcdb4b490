-- What holds of all bytes that are no changeset's file.
use Rattle.std.specs.Prelude.{◌≡◌, ℕ, List}
use Rattle.cs_value.specs.Value.{AreBytes}
use Rattle.cs_wire_entries.specs.declared.fault.ReadFault.{ReadFault}
use Rattle.cs_wire_entries.specs.Changeset.{IsAccepted}
use Rattle.cs_wire_entries.specs.ReadFaults.{ReadFails}

-- bytes have one fault at most
abbrev pub ReadFaultOnce : Type 0
ReadFaultOnce =
    (file : List ℕ) (one two : ReadFault) → ReadFails file one.kind one.place → ReadFails file two.kind two.place
    → one ≡ two

-- bytes that are no changeset's file have a fault
abbrev pub ReadFaultSome : Type 0
ReadFaultSome =
    (file : List ℕ) → AreBytes file → (IsAccepted file → ⊥)
    → (fault : ReadFault) × ReadFails file fault.kind fault.place
