-- The definitions in examples: the table t of two columns, with the first as its key.
use Rattle.std.proofs.Common.{◌≡◌, pos, Bool, true, false, List, [], ◌∷◌, map, codes, refl, zero, suc, arith}
use Rattle.std.specs.Prelude.{Option, Some, None}
use Rattle.std.proofs.lemmas.List.Elements.{All-nil}
use Rattle.cs_value.specs.declared.value.OwnedValue.{OwnedValue}
use Rattle.cs_value.specs.declared.value.OwnedValue.TheVariants.{Int, Text, Null}
use Rattle.cs_value.specs.declared.value.OwnedField.{OwnedField}
use Rattle.cs_value.specs.declared.value.OwnedField.TheVariants.{Undefined, Defined}
use Rattle.cs_value.specs.Spelling.{value_bytes, field_bytes}
use Rattle.cs_wire_entries.specs.declared.entry.Change.{Change}
use Rattle.cs_wire_entries.specs.declared.entry.Change.TheVariants.{Insert, Delete}
use Rattle.cs_wire_entries.specs.declared.entry.Entry.{Entry}
use Rattle.cs_wire.specs.Changeset.{HeaderData, GroupData}
use Rattle.cs_wire.proofs.Examples.{flags, x, y, row, update, idle_update, one_change, one_change_of, group}
use Rattle.cs_group.specs.declared.merging.Merged.{Merged}
use Rattle.cs_group.specs.declared.merging.Merged.TheVariants.{Keep, Becomes, Vanish}
use Rattle.cs_group.specs.Inverse.{IsInverse}
use Rattle.cs_group.specs.Net.{net_between}
use Rattle.cs_group.specs.Joining.{laid_over, merged, joined, key_marks, AgreesWith, AreJoinable, FirstClash}

-- the row (1, 'y')
abbrev later : List OwnedValue
later = Int (pos 1) ∷ y ∷ []

abbrev image : List OwnedValue → Option (List OwnedField)
image row = Some (map Defined row)

-- ---- net changes

net_changes :
    (net_between flags None (image row) ≡ Some (Insert row))
    × (net_between flags (image row) None ≡ Some (Delete row))
    × (net_between flags (image row) (image later) ≡ Some (update x y))
    × (net_between flags (image row) (image row) ≡ None)
    × (net_between flags None None ≡ None)
    -- 1 and '1' differ
    × (net_between flags (image (Int (pos 1) ∷ Int (pos 1) ∷ [])) (image (Int (pos 1) ∷ Text (codes "1") ∷ []))
    ≡ Some (update (Int (pos 1)) (Text (codes "1"))))
net_changes = (refl, refl, refl, refl, refl, refl)

-- ---- laid over

lays_what_it_defines : laid_over (Undefined ∷ Defined y ∷ []) (map Defined row) ≡ map Defined later
lays_what_it_defines = refl

-- ---- the nine cases

abbrev entry : Bool → Change → Entry
entry indirect change = record { indirect = indirect; change = change }

abbrev both : Change → Change → Merged
both first second = merged flags (entry true first) (entry true second)

abbrev one : Change → Change → Merged
one first second = merged flags (entry true first) (entry false second)

abbrev other : Change → Change → Merged
other first second = merged flags (entry false first) (entry true second)

inserted_first :
    (one (Insert row) (Insert later) ≡ Keep)
    × (both (Insert row) (update x y) ≡ Becomes (entry true (Insert later)))
    -- also if the second one has another previous value
    × (both (Insert row) (update Null y) ≡ Becomes (entry true (Insert later)))
    × (both (Insert row) (Delete row) ≡ Vanish)
inserted_first = (refl, refl, refl, refl)

updated_first :
    (one (update x y) (Insert row) ≡ Keep)
    × (both (update x y) (update y Null) ≡ Becomes (entry true (update x Null)))
    × (both (update x y) (update y x) ≡ Vanish)
    × (both (update x y) idle_update ≡ Becomes (entry true (update x y)))
    × (both idle_update idle_update ≡ Vanish)
    × (both (update x y) (Delete later) ≡ Becomes (entry true (Delete row)))
updated_first = (refl, refl, refl, refl, refl, refl)

deleted_first :
    (both (Delete row) (Insert later) ≡ Becomes (entry true (update x y)))
    × (both (Delete row) (Insert row) ≡ Vanish)
    × (one (Delete row) (update x y) ≡ Keep)
    × (one (Delete row) (Delete later) ≡ Keep)
deleted_first = (refl, refl, refl, refl)

-- a changed entry is indirect only where both were, also where the second one modifies nothing
indirect_where_both_were :
    (one (Insert row) idle_update ≡ Becomes (entry false (Insert row)))
    × (other (update x y) (Delete later) ≡ Becomes (entry false (Delete row)))
indirect_where_both_were = (refl, refl)

-- ---- changesets

-- another key, another table, and other flags that mark the same columns
abbrev second_row : List OwnedValue
second_row = Int (pos 2) ∷ x ∷ []

abbrev other_table : HeaderData
other_table = record { name = codes "u"; flags = flags }

abbrev marked : HeaderData
marked = record { name = codes "t"; flags = 2 ∷ 0 ∷ [] }

changesets_are_joined :
    (joined (one_change (Insert row)) (one_change (update x y)) ≡ one_change (Insert later))
    × (joined (one_change (Delete row)) (one_change (Insert row)) ≡ [])
    × (joined (one_change (update x y)) (one_change (Delete later)) ≡ one_change (Delete row))
    × (joined (one_change (Delete row)) (one_change (Insert later)) ≡ one_change (update x y))
    × (joined (one_change (update x y)) (one_change (update y x)) ≡ [])
    × (joined (one_change (Insert row)) (one_change (Insert row)) ≡ one_change (Insert row))
    -- another key and another table come after the first; the flags of the first file remain
    × (joined (one_change (Insert row)) (one_change (Insert second_row))
    ≡ group (Insert row ∷ Insert second_row ∷ []) ∷ [])
    × (joined (one_change (Insert row)) (one_change_of other_table (Insert row))
    ≡ record { header = record { name = codes "t"; flags = flags }; entries = entry false (Insert row) ∷ [] }
    ∷ record { header = other_table; entries = entry false (Insert row) ∷ [] } ∷ [])
    × (joined (one_change_of marked (Insert row)) (one_change (Insert second_row))
    ≡ record { header = marked; entries = entry false (Insert row) ∷ entry false (Insert second_row) ∷ [] } ∷ [])
unfolding value_bytes field_bytes
changesets_are_joined = (refl, refl, refl, refl, refl, refl, refl, refl, refl)

-- ---- tables that differ

-- the table t of three columns
abbrev pub wider : HeaderData
wider = record { name = codes "t"; flags = 1 ∷ 0 ∷ 0 ∷ [] }

abbrev pub wide : List GroupData
wide = one_change_of wider (Insert (Int (pos 1) ∷ Null ∷ Null ∷ []))

clashes : AgreesWith (one_change (Insert row)) (record { header = wider; entries = entry false (Insert (Int (pos 1) ∷ Null ∷ Null ∷ [])) ∷ [] }) → ⊥
clashes agrees =
    let same : key_marks flags ≡ key_marks wider.flags = agrees 0 (record { header = wider; entries = [] }) (omega arith) refl in
    absurd cc

pub first_clashes : FirstClash (one_change (Insert row)) wide 0
first_clashes = record { within = omega arith; before = All-nil (AgreesWith (one_change (Insert row))); clash = λ d. clashes }

-- those of one table and the same columns agree
pub one_table_agrees : (first second : Change) → AreJoinable (one_change first) (one_change second)
one_table_agrees first second zero d lt zero e e_lt same = refl
one_table_agrees first second zero d lt (suc j) e e_lt same = absurd (omega (arith, e_lt))
one_table_agrees first second (suc k) d lt j e e_lt same = absurd (omega (arith, lt))

-- ---- inverses

insert_and_delete : IsInverse (one_change (Insert row)) (one_change (Delete row))
insert_and_delete = (record { header = refl; entries = (record { indirect = refl; key = refl; image = refl }, tt) }, tt)

pub update_and_back : IsInverse (one_change (update x y)) (one_change (update y x))
update_and_back = (record { header = refl; entries = (record { indirect = refl; key = refl; image = refl }, tt) }, tt)
