-- The calls of a history that take no session.
use Rattle.std.specs.Prelude.{◌≡◌, ◌≢◌, ℕ, true, false, List, [], None}
use Rattle.std.specs.FinMap as map
use Rattle.cs_value.specs.State.{State}
use Rattle.cs_history.specs.declared.calling.HistoryCall.{HistoryCall}
use Rattle.cs_history.specs.declared.calling.HistoryCall.TheVariants.{Open, Undo, Redo, Forget}
use Rattle.cs_history.specs.Stored.{IsHistory, Opens, done_actions, undone_actions}
use Rattle.cs_history.specs.Actions.{CanMove, Forgets, RedoesNext, UndoesLast}

-- the tables before a call and after it
abbrev pub Does : HistoryCall → List ℕ → State → State → Type 0
Does Open name old new = Opens name old new
Does Undo name old new = UndoesLast name old new
Does Redo name old new = RedoesNext name old new
Does (Forget keep bytes) name old new = Forgets keep bytes name old new

-- no action is left for it
abbrev pub HasNone : HistoryCall → List ℕ → State → Type 0
HasNone Undo name now = done_actions now name ≡ []
HasNone Redo name now = undone_actions now name ≡ []
HasNone call name now = ⊥

-- the table is not a history; a call that opens one is refused so only if there is a table
abbrev pub IsForeign : HistoryCall → List ℕ → State → Type 0
IsForeign Open name now = (¬ IsHistory now name) × (map.get now name ≢ None)
IsForeign call name now = ¬ IsHistory now name

-- the changeset that it runs, if it runs one, leads back, or on
abbrev pub CanCall : HistoryCall → List ℕ → State → Type 0
CanCall Undo name now = CanMove true name now
CanCall Redo name now = CanMove false name now
CanCall call name now = Unit {0}
