-- Notes that are merged: what a session notes of a transaction is noted in another session too. This project's own.
use Rattle.std.specs.Prelude.{◌≡◌, ◌⊎◌, ℕ, List, [], ◌∷◌, ◌++◌, map, All}
use Rattle.cs_value.specs.State.{State, WrittenData, rows_at}
use Rattle.cs_session_notes.specs.FirstImages.{AttachedTable, Notes, recorded, rewound}
use Rattle.cs_session_notes.specs.Noting.{AreApart}

-- the table, to which nothing was written
abbrev pub unwritten : AttachedTable → AttachedTable
unwritten table = record table { firsts = [] }

-- the keys that a table notes, as writes
abbrev pub noted_writes : AttachedTable → List WrittenData
noted_writes table = map (λ f. record { table = table.name; key = f.key; former = f.row }) table.firsts

-- and those of all tables
abbrev pub all_noted : Notes → List WrittenData
all_noted [] = []
all_noted (table ∷ notes) = noted_writes table ++ all_noted notes

-- a table of this name is attached
abbrev pub IsAttached : List ℕ → Notes → Type 0
IsAttached name [] = ⊥
IsAttached name (table ∷ notes) = (table.name ≡ name) ⊎ IsAttached name notes

-- ---- the laws

-- In the state `now` the notes `during` restore the rows that their tables have in `before`. Then notes whose tables are
-- all among these restore in `now`, with `during` merged, what they restored in `before`.
abbrev pub MergeRestores : Type 0
MergeRestores = (before now : State) (during notes : Notes) → AreApart during → All (λ t. IsAttached t.name during) notes
    → rewound during now ≡ map (λ t. rows_at before t.name) during → rewound (recorded notes (all_noted during)) now ≡ rewound notes before

-- To merge what the same tables noted of writes is to note the writes.
abbrev pub MergeNotes : Type 0
MergeNotes = (notes : Notes) (written : List WrittenData) → AreApart notes
    → recorded notes (all_noted (recorded (map unwritten notes) written)) ≡ recorded notes written
