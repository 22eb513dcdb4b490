-- What a reader finds where a part is to begin.
use Rattle.std.proofs.Common.{◌≡◌, ℕ}
use Rattle.cs_wire_entries.specs.declared.fault.ReadFaultKind.{ReadFaultKind}

-- the part, or a fault at a place
pub data Outcome : Type 0 where
  Passes : Outcome
  Fails : ReadFaultKind → ℕ → Outcome

-- there is one outcome at most
abbrev pub Once : (Outcome → Type 0) → Type 0
Once P = (a b : Outcome) → P a → P b → a ≡ b

pub fails_is : (k l : ReadFaultKind) (p q : ℕ) → Fails k p ≡ Fails l q → (k ≡ l) × (p ≡ q)
fails_is k l p q e = (cc, cc)

pub fails_not : (k : ReadFaultKind) (p : ℕ) → Fails k p ≡ Passes → ⊥
fails_not k p e = cc
