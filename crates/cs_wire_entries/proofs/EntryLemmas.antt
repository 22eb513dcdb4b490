-- Entries: their fields and keys.
use Rattle.std.proofs.Common.{◌≡◌, ℕ, zero, suc, ◌<◌, Bool, cond, List, [], ◌∷◌, ◌++◌, length, refl, sym, ap, arith, inl, inr}
use Rattle.std.specs.Prelude.{◌⊎◌}
use Rattle.cs_value.specs.declared.value.OwnedValue.{OwnedValue}
use Rattle.cs_value.specs.declared.value.OwnedField.{OwnedField}
use Rattle.cs_value.specs.Key.{row_key}
use Rattle.cs_value.specs.Spelling.{record_bytes, row_bytes}
use Rattle.cs_value.proofs.RowImages.{record_bytes-map}
use Rattle.cs_wire_entries.specs.declared.entry.Change.{Change}
use Rattle.cs_wire_entries.specs.declared.entry.Entry.{Entry}
use Rattle.cs_value.proofs.KeyedRows.{length-IsKeyedRow}
use Rattle.cs_wire_entries.specs.ReadFaults.{Stands}
use Rattle.cs_wire_entries.specs.declared.entry.Change.TheVariants.{Insert, Delete, Update}
use Rattle.cs_wire_entries.specs.Entry.{IsKeyedUpdate, IsChange, fields_of, operation, key_of, entry_bytes}

-- each record of an update has a field for each flag
pub length-IsKeyedUpdate : (flags : List ℕ) (old new : List OwnedField) → IsKeyedUpdate flags old new → (length flags ≡ length old) × (length flags ≡ length new)
length-IsKeyedUpdate [] [] [] h = (refl, refl)
length-IsKeyedUpdate [] [] (n ∷ new) h = absurd h
length-IsKeyedUpdate [] (o ∷ old) new h = absurd h
length-IsKeyedUpdate (zero ∷ flags) [] new h = absurd h
length-IsKeyedUpdate (suc flag ∷ flags) [] new h = absurd h
length-IsKeyedUpdate (zero ∷ flags) (o ∷ old) [] h = absurd h
length-IsKeyedUpdate (suc flag ∷ flags) (o ∷ old) [] h = absurd h
length-IsKeyedUpdate (zero ∷ flags) (o ∷ old) (n ∷ new) h =
    let others = length-IsKeyedUpdate flags old new h.1 in (ap suc others.0, ap suc others.1)
length-IsKeyedUpdate (suc flag ∷ flags) (o ∷ old) (n ∷ new) h =
    let others = length-IsKeyedUpdate flags old new h.1 in (ap suc others.0, ap suc others.1)

-- ---- what a change does, as a `match` on it says

-- it is the change of a whole row
abbrev pub IsOf : Change → List OwnedValue → Type 0
IsOf change row = (change ≡ Insert row) ⊎ (change ≡ Delete row)

pub length-IsOf : (flags : List ℕ) (change : Change) (row : List OwnedValue) → IsOf change row → IsChange flags change → length flags ≡ length row
length-IsOf flags change row (inl is) h = length-IsKeyedRow flags row (rw is at h).1
length-IsOf flags change row (inr is) h = length-IsKeyedRow flags row (rw is at h).1

pub key_of-IsOf : (flags : List ℕ) (change : Change) (row : List OwnedValue) → IsOf change row → row_key flags row ≡ key_of flags change
key_of-IsOf flags change row (inl is) = sym (ap (key_of flags) is)
key_of-IsOf flags change row (inr is) = sym (ap (key_of flags) is)

pub length-Update : (flags : List ℕ) (change : Change) (old new : List OwnedField) → change ≡ Update old new → IsChange flags change → length flags ≡ length old
length-Update flags change old new is h = (length-IsKeyedUpdate flags old new (rw is at h).2).0

-- the bytes of an insert and of a delete
pub entry_bytes-Insert : (entry : Entry) (row : List OwnedValue) → entry.change ≡ Insert row → (0x12 ∷ cond entry.indirect 1 0 ∷ []) ++ row_bytes row ≡ entry_bytes entry
unfolding entry_bytes
entry_bytes-Insert entry row is = rw (is, record_bytes-map) refl

pub entry_bytes-Delete : (entry : Entry) (row : List OwnedValue) → entry.change ≡ Delete row → (0x09 ∷ cond entry.indirect 1 0 ∷ []) ++ row_bytes row ≡ entry_bytes entry
unfolding entry_bytes
entry_bytes-Delete entry row is = rw (is, record_bytes-map) refl

-- the parts of an entry
pub entry_bytes-append : (entry : Entry) (rest : List ℕ) → entry_bytes entry ++ rest ≡ operation entry.change ∷ (cond entry.indirect 1 0 ∷ (record_bytes (fields_of entry.change) ++ rest))
unfolding entry_bytes
entry_bytes-append entry rest = refl

pub entry_bytes_some : (entry : Entry) → 0 < length (entry_bytes entry)
unfolding entry_bytes
entry_bytes_some entry = omega arith

pub Stands-entry : (file : List ℕ) (at to : ℕ) (indirect : Bool) (change : Change) (byte : ℕ) → operation change ≡ byte → Stands file at (byte ∷ cond indirect 1 0 ∷ record_bytes (fields_of change)) to
    → Stands file at (entry_bytes (record { indirect = indirect; change = change })) to
unfolding entry_bytes
Stands-entry file at to indirect change byte does stands = rw does stands

pub same_entry : (indirect : Bool) (change : Change) (entry : Entry) → indirect ≡ entry.indirect → change ≡ entry.change
    → ◌≡◌ {A = Entry} (record { indirect = indirect; change = change }) entry
same_entry indirect change entry p q = λ i. record { indirect = p i; change = q i }
