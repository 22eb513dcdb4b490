-- The changes of a small file, and what spans show of it.
use Rattle.std.proofs.Common.{◌≡◌, ℕ, [], ◌∷◌, pos, Some, None, true, false, refl, arith, inl, inr}
use Rattle.cs_value.specs.declared.value.OwnedValue.TheVariants.{Int, Text, Null}
use Rattle.cs_value.specs.declared.value.OwnedField.TheVariants.{Undefined, Defined}
use Rattle.cs_wire_entries.specs.declared.entry.Change.{Change}
use Rattle.cs_wire_entries.specs.declared.entry.Entry.{Entry}
use Rattle.cs_wire_entries.specs.declared.entry.Change.TheVariants.{Insert, Delete, Update}
use Rattle.cs_wire_entries.specs.Changeset.{HeaderData}
use Rattle.cs_file_iterator.specs.declared.value.Side.TheVariants.{Old, New}
use Rattle.cs_file_iterator.specs.declared.change.ChangeSpan.{ChangeSpan}
use Rattle.cs_file_iterator.specs.Changes.{EndsName, changes_of}
use Rattle.cs_file_iterator.specs.Readable.{AddsChange}
use Rattle.cs_file_iterator.specs.Values.{ShowsField, field_on}

t : HeaderData
t = record { name = 116 ∷ []; flags = 1 ∷ 0 ∷ [] }

insert_is : Change
insert_is = Insert (Int (pos 1) ∷ Null ∷ [])

delete_is : Change
delete_is = Delete (Int (pos 2) ∷ Null ∷ [])

-- the changes of a table are in its order, each with its header
two_changes :
    changes_of (record {
      header = t;
      entries = record { indirect = false; change = insert_is } ∷ record { indirect = true; change = delete_is } ∷ [];
    } ∷ []) ≡ record { header = t; entry = record { indirect = false; change = insert_is } }
    ∷ record { header = t; entry = record { indirect = true; change = delete_is } } ∷ []
two_changes = refl

-- an insert has no value before it, and a delete none after it
fields_on_sides :
    (field_on Old (Insert (Int (pos 1) ∷ Null ∷ [])) 0 ≡ None)
    × (field_on New (Insert (Int (pos 1) ∷ Null ∷ [])) 1 ≡ Some (Defined Null))
    × (field_on New (Delete (Int (pos 2) ∷ Null ∷ [])) 0 ≡ None)
    -- an update has its key before it only
    × (field_on New (Update (Defined (Int (pos 1)) ∷ Defined Null ∷ []) (Undefined ∷ Defined (Int (pos 5)) ∷ [])) 0
    ≡ Some Undefined)
fields_on_sides = (refl, refl, refl, refl)

-- the text x lies at the second of three bytes
text_is_shown : ShowsField (9 ∷ 120 ∷ 9 ∷ []) (record { kind = pos 3; integer = pos 0; offset = 1; length = 1 }) (Defined (Text (120 ∷ [])))
text_is_shown = record { kind_is = refl; no_integer = refl; content = record { spelled = refl; within = omega arith } }

-- a name of one byte
abbrev name_at : ℕ → ChangeSpan
name_at name = record {
  name = name;
  name_length = 1;
  flags = 0;
  columns = 0;
  records = 0;
  records_length = 0;
  operation = pos 0;
  indirect = pos 0;
}

-- the name t lies at the first of two bytes, and a zero byte after it
name_ends : EndsName (116 ∷ 0 ∷ []) (name_at 0)
name_ends = record { within = omega arith; zero = refl }

-- at the end of the file no zero byte is after it
name_does_not_end : EndsName (0 ∷ 116 ∷ []) (name_at 1) → ⊥
name_does_not_end ends = omega (arith, ends.within)

-- the first change of a table, and one more of it, in which its key is twice
insert : Entry
insert = record { indirect = false; change = insert_is }

first_is_added : AddsChange [] (record { header = t; entry = insert }) (record { header = t; entries = insert ∷ [] } ∷ [])
first_is_added = inr refl

second_is_added : AddsChange (record { header = t; entries = insert ∷ [] } ∷ []) (record { header = t; entry = insert }) (record { header = t; entries = insert ∷ insert ∷ [] } ∷ [])
second_is_added = inl (record { closed = []; entries = insert ∷ []; before_is = refl; after_is = refl })
