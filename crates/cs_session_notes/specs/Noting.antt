-- When reported writes can be noted.
use Rattle.std.specs.Prelude.{◌≡◌, ◌≢◌, ℕ, List, AllPairs, Option, IfSome}
use Rattle.std.specs.List.{AllByRecursion}
use Rattle.cs_value.specs.State.{IsRowAt, WrittenData}
use Rattle.cs_rows.specs.declared.fault.StoreError.TheVariants.{DamagedStore}
use Rattle.cs_session_notes.specs.declared.fault.SessionFault.{SessionFault}
use Rattle.cs_session_notes.specs.declared.fault.SessionFault.TheVariants.{Store}
use Rattle.cs_value.specs.declared.value.OwnedValue.{OwnedValue}
use Rattle.cs_session_notes.specs.FirstImages.{AttachedTable, Notes, writes_of}
use Rattle.cs_session_notes.specs.Images.{with_first}

-- the previous rows of the writes of a table fit it
abbrev pub HasFormers : List WrittenData → AttachedTable → Type 0
HasFormers written table =
    AllByRecursion (λ w. IfSome w.former (IsRowAt table.schema w.key)) (writes_of table.name written)

-- in each
abbrev pub AreFormers : Notes → List WrittenData → Type 0
AreFormers notes written = AllByRecursion (HasFormers written) notes

-- no two tables have one name
abbrev pub AreApart : Notes → Type 0
AreApart notes = AllPairs (λ s t. s.name ≢ t.name) notes

-- a row was read that no table can have
abbrev pub IsDamage : SessionFault → Type 0
IsDamage fault = fault ≡ Store DamagedStore

-- a row may be under the key in the table
abbrev pub Fits : AttachedTable → List ℕ → Option (List OwnedValue) → Type 0
Fits table key row = IfSome row (IsRowAt table.schema key)

-- the table with a key that was written
abbrev pub with_write : AttachedTable → List ℕ → Option (List OwnedValue) → AttachedTable
with_write table key row = record table { firsts = with_first table.firsts key row }
