-- What the calls of a history do.
use Rattle.std.specs.Prelude.{◌≡◌, ◌≢◌, ◌-◌, if◌then◌else◌, leb, ℕ, zero, suc, Bool, true, false, not, List, [], ◌∷◌, length, All, Some}
use Rattle.std.specs.FinMap as map
use Rattle.cs_value.specs.declared.value.OwnedValue.{OwnedValue}
use Rattle.cs_value.specs.State.{State, rows_at, schema_at}
use Rattle.cs_wire.specs.Changeset.{GroupData, file_bytes}
use Rattle.cs_apply_conflict_kinds.specs.declared.conflict.Noop.TheVariants.{Report}
use Rattle.cs_apply_engine.specs.declared.running.Direction.TheVariants.{Forward, Inverse}
use Rattle.cs_apply_engine.specs.Running.{AlwaysAborts, Leads}
use Rattle.cs_apply.specs.Crash.{AppliesInto}
use Rattle.cs_history.specs.Stored.{ActionData, IsHistory, actions_of, done_actions, undone_actions}

-- all tables but that of the history
abbrev pub others : State → List ℕ → State
others state name = map.remove state name

-- a changeset, which has no changes of this table, leads from tables to others without a conflict
pub record LeadsApart (name file : List ℕ) (before after : State) : Type 0 where
  pub leads : Leads file before after
  pub apart : All (λ g. g.header.name ≢ name) leads.changeset

-- ---- an action is noted

-- Its changeset leads from the tables before the action to those now, `old`. It is the last one that is done, and none
-- is undone any more.
pub record Acts (name label changeset : List ℕ) (before old new : State) : Type 0 where
  pub history : IsHistory old name
  pub leads : LeadsApart name changeset (others before name) (others old name)
  pub kept : rows_at before name ≡ rows_at old name
  pub same : others new name ≡ others old name
  pub schema : schema_at new name ≡ schema_at old name
  pub done : done_actions new name ≡ record { label = label; changeset = changeset } ∷ done_actions old name
  pub undone : undone_actions new name ≡ []

-- the tables are those from before, and nothing is noted
pub record Stays (name : List ℕ) (before old new : State) : Type 0 where
  pub history : IsHistory old name
  pub nothing : before ≡ old
  pub same : new ≡ old

-- if there are changes, they are noted, and the answer says whether there are
abbrev pub Notes : List ℕ → List ℕ → List GroupData → State → Bool → State → State → Type 0
Notes name label changes before true old new = (changes ≢ []) × Acts name label (file_bytes changes) before old new
Notes name label changes before false old new = (changes ≡ []) × Stays name before old new

-- ---- an action is undone, or done again

-- where the changeset of an action leads back to, or on to
abbrev pub Turns : Bool → List ℕ → List ℕ → State → State → Type 0
Turns true name file old reached = LeadsApart name file reached old
Turns false name file old reached = LeadsApart name file old reached

-- a changeset of a file is reverted, or else applied, without a conflict
abbrev pub Runs : Bool → List ℕ → State → State → Type 0
Runs true file old new = AppliesInto AlwaysAborts Report file Inverse old new
Runs false file old new = AppliesInto AlwaysAborts Report file Forward old new

-- The first action of those that are done is undone, or else the first of those that are undone is done again: its
-- changeset is reverted, or applied, and only the table of the history is written then. If the changeset leads back, or
-- on, without that table, the other tables are those to which it leads, and the action is the first one of the other
-- side.
pub record Moves (done : Bool) (name : List ℕ) (old new : State) : Type 0 where
  pub history : IsHistory old name
  pub action : ActionData
  pub rest : List ActionData
  pub first : actions_of done (rows_at old name) ≡ action ∷ rest
  pub mid : State
  pub ran : Runs done action.changeset old mid
  pub same : others new name ≡ others mid name
  pub schema : schema_at new name ≡ schema_at old name
  pub moved : (reached : State) → Turns done name action.changeset (others old name) reached
      → (others new name ≡ reached) × (actions_of done (rows_at new name) ≡ rest)
      × (actions_of (not done) (rows_at new name) ≡ action ∷ actions_of (not done) (rows_at old name))

-- there is such an action, and its changeset has led to the tables, or leads on
pub record CanMove (done : Bool) (name : List ℕ) (now : State) : Type 0 where
  pub action : ActionData
  pub rest : List ActionData
  pub first : actions_of done (rows_at now name) ≡ action ∷ rest
  pub reached : State
  pub turns : Turns done name action.changeset (others now name) reached

abbrev pub UndoesLast : List ℕ → State → State → Type 0
UndoesLast = Moves true

abbrev pub RedoesNext : List ℕ → State → State → Type 0
RedoesNext = Moves false

-- ---- the oldest actions are forgotten

-- The newest of actions, which come first: up to the one that would be one too many, or with which the changesets would
-- have too many bytes.
abbrev pub newest : ℕ → ℕ → List ActionData → List ActionData
newest keep bytes [] = []
newest zero bytes (action ∷ actions) = []
newest (suc keep) bytes (action ∷ actions) =
    if leb (length action.changeset) bytes then action ∷ newest keep (bytes - length action.changeset) actions else []

-- Of the actions that are done only the newest are left. Those that are undone, other tables, and each row that is left are
-- as they were.
pub record Forgets (keep bytes : ℕ) (name : List ℕ) (old new : State) : Type 0 where
  pub history : IsHistory old name
  pub schema : schema_at new name ≡ schema_at old name
  pub same : others new name ≡ others old name
  pub done : done_actions new name ≡ newest keep bytes (done_actions old name)
  pub undone : undone_actions new name ≡ undone_actions old name
  pub stay : (key : List ℕ) (row : List OwnedValue) → map.get (rows_at new name) key ≡ Some row
      → map.get (rows_at old name) key ≡ Some row
