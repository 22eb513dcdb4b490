-- Runs of the calls of a history, where only actions write the other tables, each from where the call before it has led.
use Rattle.std.specs.Prelude.{◌≡◌, ◌⊎◌, ◌++◌, ℕ, zero, suc, true, false, List, [], ◌∷◌}
use Rattle.cs_value.specs.State.{State}
use Rattle.cs_history.specs.Stored.{ActionData, done_actions, undone_actions}
use Rattle.cs_history.specs.Actions.{others, CanMove, LeadsApart, Acts, Forgets, Stays, UndoesLast, RedoesNext}

-- ---- histories that are sound

-- to revert these actions, one after another, meets no conflict and leads back to the origin
abbrev pub LeadsBack : List ℕ → State → List ActionData → State → Type 0
LeadsBack name origin [] now = now ≡ origin
LeadsBack name origin (action ∷ actions) now =
    (before : State) × LeadsApart name action.changeset before now × LeadsBack name origin actions before

-- to apply these, one after another, meets none
abbrev pub LeadsOn : List ℕ → List ActionData → State → Type 0
LeadsOn name [] now = Unit {0}
LeadsOn name (action ∷ actions) now =
    (after : State) × LeadsApart name action.changeset now after × LeadsOn name actions after

-- so it is with the actions of a history that are done, and with those that are undone
pub record IsSound (name : List ℕ) (origin state : State) : Type 0 where
  pub done : LeadsBack name origin (done_actions state name) (others state name)
  pub undone : LeadsOn name (undone_actions state name) (others state name)

-- ---- runs

-- an action is noted, or there was nothing to note; one is undone; one is done again; the oldest are forgotten; or a call
-- is refused
abbrev pub Step : List ℕ → State → State → Type 0
Step name m n = ((label : List ℕ) × (changeset : List ℕ) × (after : State) × Acts name label changeset m after n) ⊎ ((after : State) × Stays name m after n)
    ⊎ UndoesLast name m n ⊎ RedoesNext name m n ⊎ ((keep : ℕ) × (bytes : ℕ) × Forgets keep bytes name m n) ⊎ (n ≡ m)

abbrev pub Run : List ℕ → State → List State → Type 0
Run name m [] = Unit {0}
Run name m (n ∷ later) = Step name m n × Run name n later

abbrev pub ending : State → List State → State
ending m [] = m
ending m (n ∷ later) = ending n later

-- ---- the laws

-- a history without actions is sound
abbrev pub BeginsSound : Type 0
BeginsSound = (name : List ℕ) (state : State) → done_actions state name ≡ [] → undone_actions state name ≡ []
    → IsSound name (others state name) state

-- a run keeps it sound, from its beginning, or from a later one once actions were forgotten
abbrev pub RunsSound : Type 0
RunsSound = (name : List ℕ) (origin m : State) (later : List State) → IsSound name origin m → Run name m later
    → (beginning : State) × IsSound name beginning (ending m later)

-- in one that is sound, each action that is done can be undone in its turn, and each that is undone done again
abbrev pub MovesSound : Type 0
MovesSound = (name : List ℕ) (origin m : State) (action : ActionData) (rest : List ActionData) → IsSound name origin m
    → (done_actions m name ≡ action ∷ rest → CanMove true name m) × (undone_actions m name ≡ action ∷ rest → CanMove false name m)

-- Once the oldest are forgotten, it is sound from where these led: to revert them from there leads back to the former
-- beginning.
abbrev pub ForgetsSound : Type 0
ForgetsSound = (name : List ℕ) (origin m n : State) (keep bytes : ℕ) → IsSound name origin m → Forgets keep bytes name m n
    → (beginning : State) × (gone : List ActionData) × (done_actions m name ≡ done_actions n name ++ gone)
    × LeadsBack name origin gone beginning × IsSound name beginning n

-- the actions that are done say what the tables are
abbrev pub SameTables : Type 0
SameTables = (name : List ℕ) (origin m n : State) → IsSound name origin m → IsSound name origin n
    → done_actions m name ≡ done_actions n name → others m name ≡ others n name

-- two moments of a history with the same tables, but that of the history, and the same actions
pub record IsBack (name : List ℕ) (m n : State) : Type 0 where
  pub others : others n name ≡ others m name
  pub done : done_actions n name ≡ done_actions m name
  pub undone : undone_actions n name ≡ undone_actions m name

-- an undo restores the tables from before the action, and the actions that were done; the action is undone
pub record UndoesAct (name label changeset : List ℕ) (m back : State) : Type 0 where
  pub others : others back name ≡ others m name
  pub done : done_actions back name ≡ done_actions m name
  pub undone : undone_actions back name ≡ record { label = label; changeset = changeset } ∷ []

abbrev pub UndoRestores : Type 0
UndoRestores = (name label changeset : List ℕ) (m after n back : State) → Acts name label changeset m after n → UndoesLast name n back
    → UndoesAct name label changeset m back

-- and a redo restores all from before the undo
abbrev pub RedoRestores : Type 0
RedoRestores = (name : List ℕ) (origin m back on : State) → IsSound name origin m → UndoesLast name m back
    → RedoesNext name back on → IsBack name m on

-- so many undos, one after another, and so many redos
abbrev pub Undone : List ℕ → ℕ → State → State → Type 0
Undone name zero m back = back ≡ m
Undone name (suc count) m back = (next : State) × UndoesLast name m next × Undone name count next back

abbrev pub Redone : List ℕ → ℕ → State → State → Type 0
Redone name zero back on = on ≡ back
Redone name (suc count) back on = (last : State) × Redone name count back last × RedoesNext name last on

-- as many redos after some undos restore all from before them
abbrev pub ThereAndBack : Type 0
ThereAndBack = (name : List ℕ) (origin : State) (count : ℕ) (m back on : State) → IsSound name origin m → Undone name count m back
    → Redone name count back on → IsBack name m on
