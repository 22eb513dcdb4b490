-- Marks in a transaction: savepoints of one name, the newest last.
use Rattle.std.specs.Prelude.{◌≡◌, ℕ, false, List, [], ◌∷◌, ◌++◌, codes}
use Rattle.sqlite.specs.Effect.{Database}
use Rattle.sqlite.specs.State.{State, Savepoint}

-- the name of each mark
abbrev pub mark_name : List ℕ
mark_name = codes "call"

-- a mark that was set where this database was shown, in a transaction that was open already
abbrev pub mark_at : Database → Savepoint
mark_at db = record { name = mark_name; begins = false; db = db }

-- The newest mark was set where this database was shown, after these.
abbrev pub IsMarked : List Savepoint → Database → State → Type 0
IsMarked before db s = s.marks ≡ before ++ mark_at db ∷ []

-- there is such a mark
abbrev pub HasMark : State → Type 0
HasMark s = (before : List Savepoint) × (db : Database) × IsMarked before db s
