-- What sessions remember and what they make of it, worked as examples: on the table t of columns a and b, of which a is
-- the key. Keys are those of integers: 0x01 and eight bytes.
use Rattle.std.proofs.Common.{◌≡◌, ◌≢◌, ℕ, pos, List, [], ◌∷◌, Option, Some, None, codes, refl}
use Rattle.cs_value.specs.declared.value.OwnedValue.{OwnedValue}
use Rattle.cs_value.specs.declared.value.OwnedValue.TheVariants.{Int}
use Rattle.cs_value.specs.State.{SchemaData, State, marks, WrittenData, row_at, rows_at}
use Rattle.cs_wire_entries.specs.declared.entry.Change.TheVariants.{Insert, Delete}
use Rattle.cs_wire.proofs.Examples.{flags, header, direct, x, y, row, update}
use Rattle.cs_session_notes.specs.FirstImages.{FirstImage, Notes, rewound, recorded, recorded_changes}

-- the keys 1 and 2
abbrev first_key : List ℕ
first_key = 1 ∷ 0 ∷ 0 ∷ 0 ∷ 0 ∷ 0 ∷ 0 ∷ 0 ∷ 1 ∷ []

abbrev second_key : List ℕ
second_key = 1 ∷ 0 ∷ 0 ∷ 0 ∷ 0 ∷ 0 ∷ 0 ∷ 0 ∷ 2 ∷ []

-- the rows (1, 'y') and (2, 'x')
abbrev later : List OwnedValue
later = Int (pos 1) ∷ y ∷ []

abbrev moved : List OwnedValue
moved = Int (pos 2) ∷ x ∷ []

abbrev schema : SchemaData
schema = record { columns = codes "a" ∷ codes "b" ∷ []; flags = flags; refuses = marks flags }

-- t is attached, with these first images
abbrev with_firsts : List FirstImage → Notes
with_firsts firsts = record { name = codes "t"; schema = schema; firsts = firsts } ∷ []

-- a written key of t, and the previous row
abbrev wrote : List ℕ → Option (List OwnedValue) → WrittenData
wrote key former = record { table = codes "t"; key = key; former = former }

abbrev stood : List ℕ → Option (List OwnedValue) → FirstImage
stood key former = record { key = key; row = former }

-- ---- a row that comes and goes

-- the insertion of (1, 'x'), the update to (1, 'y') and the deletion: the first row is noted once
noted_once : recorded (recorded (recorded (with_firsts []) (wrote first_key None ∷ [])) (wrote first_key (Some row) ∷ [])) (wrote first_key (Some later) ∷ [])
    ≡ with_firsts (stood first_key None ∷ [])
noted_once = refl

-- no row was there, and none is there
no_change : (state : State) → row_at state (codes "t") first_key ≡ None → recorded_changes (with_firsts (stood first_key None ∷ [])) state ≡ []
no_change state is = rw is refl

-- ---- a row that gets another key

-- the update of (1, 'x') to (2, 'x') writes both keys
both_noted : recorded (with_firsts []) (wrote first_key (Some row) ∷ wrote second_key None ∷ []) ≡ with_firsts (stood first_key (Some row) ∷ stood second_key None ∷ [])
both_noted = refl

-- it is the deletion of the one and the insertion of the other
key_changed : (state : State) → row_at state (codes "t") first_key ≡ None → row_at state (codes "t") second_key ≡ Some moved
    → recorded_changes (with_firsts (stood first_key (Some row) ∷ stood second_key None ∷ [])) state
    ≡ record { header = header; entries = direct (Delete row) ∷ direct (Insert moved) ∷ [] } ∷ []
key_changed state first second = rw (first, second) refl

-- ---- a row that is changed, and put back

-- the update of (1, 'x') to (1, 'y')
row_changed : (state : State) → row_at state (codes "t") first_key ≡ Some later
    → recorded_changes (with_firsts (stood first_key (Some row) ∷ [])) state ≡ record { header = header; entries = direct (update x y) ∷ [] } ∷ []
row_changed state is = rw is refl

-- a row that was deleted and inserted again gives no entry
row_again : (state : State) → row_at state (codes "t") first_key ≡ Some row → recorded_changes (with_firsts (stood first_key (Some row) ∷ [])) state ≡ []
row_again state is = rw is refl

-- ---- other tables

-- writes of a table that is not attached are not noted
other_table : recorded (with_firsts []) (record { table = codes "u"; key = first_key; former = None } ∷ []) ≡ with_firsts []
other_table = refl

-- ---- the rows from before

-- those of a table that was attached are its current ones
attached_alone : (state : State) → rewound (with_firsts []) state ≡ rows_at state (codes "t") ∷ []
attached_alone state = refl

-- so what is written to them without the session changes the rows from before
past_session : (old new : State) → rows_at old (codes "t") ≢ rows_at new (codes "t") → rewound (with_firsts []) old ≢ rewound (with_firsts []) new
past_session old new other = λ same. other (cc same)
