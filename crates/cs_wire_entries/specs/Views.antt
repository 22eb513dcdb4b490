-- What the code keeps, as contracts see it.
use Rattle.std.specs.Prelude.{◌≡◌, ◌≢◌, ℕ, ◌<◌, List, length, map, Some, None, slice_get, All, HoldsAt}
use Rattle.std.specs.FinMap.{get}
use Rattle.cs_value.specs.Maps.{ByBytes}
use Rattle.cs_wire_entries.specs.declared.entry.Change.{Change}
use Rattle.cs_wire_entries.specs.declared.entry.Change.TheVariants as change
use Rattle.cs_wire_entries.specs.declared.entry.Entry.{Entry}
use Rattle.cs_wire_entries.specs.declared.entry.Operation.{Operation}
use Rattle.cs_wire_entries.specs.declared.entry.Operation.TheVariants.{Insert, Delete, Update}
use Rattle.cs_wire_entries.specs.Entry.{with_key, key_of}
use Rattle.cs_wire_entries.specs.Changeset.{GroupData}

-- the byte that says what an entry does
abbrev pub byte_of : Operation → ℕ
byte_of Insert = 0x12
byte_of Delete = 0x09
byte_of Update = 0x17

-- the key of each entry
abbrev pub group_keys : List ℕ → List Entry → List (List ℕ)
group_keys flags entries = map (λ e. key_of flags e.change) entries

-- the name of each group's table
abbrev pub group_names : List GroupData → List (List ℕ)
group_names groups = map (λ g. g.header.name) groups

-- the map has the index of each of the texts, and no other text
pub record IsIndex (indices : ByBytes ℕ) (texts : List (List ℕ)) : Type 0 where
  pub found : (text : List ℕ) (index : ℕ) → get indices text ≡ Some index → slice_get texts index ≡ Some text
  pub absent : (text : List ℕ) → get indices text ≡ None → All (λ t. t ≢ text) texts

-- the element at this index of the list has P
pub record IsIndexWhere {X : Type 0} (P : X → Type 0) (xs : List X) (index : ℕ) : Type 0 where
  pub within : index < length xs
  pub holds : HoldsAt P xs index

-- what undoes what an entry does
abbrev pub inverse_operation : Operation → Operation
inverse_operation Insert = Delete
inverse_operation Delete = Insert
inverse_operation Update = Update

-- what the code makes of an entry to undo it: what that is for is said by Inverse
abbrev pub inverse_change : List ℕ → Change → Change
inverse_change flags (change.Insert row) = change.Delete row
inverse_change flags (change.Delete row) = change.Insert row
inverse_change flags (change.Update old new) = change.Update (with_key flags old new) (with_key flags new old)

abbrev pub inverse_entry : List ℕ → Entry → Entry
inverse_entry flags entry = record { indirect = entry.indirect; change = inverse_change flags entry.change }
