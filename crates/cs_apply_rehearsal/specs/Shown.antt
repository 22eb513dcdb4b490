-- What a transaction shows that went back.
use Rattle.std.specs.Prelude.{◌≡◌, true}
use Rattle.sqlite.specs.State.{State, Shows}

-- The transaction is open, and shows what it showed. What was committed stays, and so do its marks.
abbrev pub ShowsAgain : State → State → Type 0
ShowsAgain old new = Shows old new old.now old.committed true × (new.marks ≡ old.marks)
