-- Runs of a session on a store: what is done with both, one step after another, as SQLite's session extension and this
-- project's stores have it.
use Rattle.std.specs.Prelude.{◌≡◌, ◌≢◌, ◌⊎◌, ℕ, List, [], ◌∷◌, ◌++◌, All, AllPairs, Ok, map}
use Rattle.std.proofs.Common.{inl, inr}
use Rattle.cs_value.specs.State.{SchemaData, RowMap, State, rows_at}
use Rattle.cs_wire.specs.Changeset.{GroupData}
use Rattle.cs_rows.specs.declared.edit.Edit.{Edit}
use Rattle.cs_store.specs.Editing.{Declares}
use Rattle.cs_apply_conflict_kinds.specs.declared.conflict.Noop.{Noop}
use Rattle.cs_apply_conflict_kinds.specs.Applying.{Choices, IsAppliedUnder, written_under}
use Rattle.cs_session_notes.specs.FirstImages.{Notes, rewound, rewound_state, recorded}
use Rattle.cs_session_notes.specs.Attaching.{Attaches}
use Rattle.cs_session_notes.specs.Changes.{HasTables}
use Rattle.cs_session_notes.specs.Merging.{IsAttached, all_noted}
use Rattle.cs_session_notes.specs.Noting.{AreApart}
use Rattle.cs_session.specs.Recording.{Records}

-- the tables of the store, and what the session remembers
pub record Moment : Type 0 where
  pub state : State
  pub notes : Notes

-- each table of the session is there as it was attached, and no two have one name
pub record IsMoment (m : Moment) : Type 0 where
  pub has : HasTables m.state m.notes
  pub apart : AllPairs (λ s t. s.name ≢ t.name) m.notes

-- ---- steps

-- a table is declared
pub record DeclaresTable (m n : Moment) : Type 0 where
  pub name : List ℕ
  pub schema : SchemaData
  pub declared : Declares m.state name schema (Ok n.state)
  pub notes : n.notes ≡ m.notes

-- a table is attached
pub record AttachesTable (m n : Moment) : Type 0 where
  pub name : List ℕ
  pub attached : Attaches m.state name m.notes n.notes
  pub state : n.state ≡ m.state

-- an edit is carried out, and noted
pub record EditsRow (m n : Moment) : Type 0 where
  pub edit : Edit
  pub recorded : Records m.state edit m.notes n.state n.notes

-- a changeset is applied, with any choices at its conflicts, with or without its no-op entries, and noted
pub record AppliesChangeset (m n : Moment) : Type 0 where
  pub changeset : List GroupData
  pub noop : Noop
  pub choose : Choices
  pub applied : IsAppliedUnder noop m.state changeset choose n.state
  pub noted : n.notes ≡ recorded m.notes (written_under noop m.state changeset choose)

-- the session is undone
pub record UndoesAll (m n : Moment) : Type 0 where
  pub rewound : n.state ≡ rewound_state m.notes m.state
  pub notes : n.notes ≡ m.notes

-- notes are merged that restore the rows from before a transaction, as it is committed
pub record MergesNotes (m n : Moment) : Type 0 where
  pub during : Notes
  pub once : AreApart during
  pub covers : All (λ t. IsAttached t.name during) m.notes
  pub restored : rewound during n.state ≡ map (λ t. rows_at m.state t.name) during
  pub has : HasTables n.state m.notes
  pub noted : n.notes ≡ recorded m.notes (all_noted during)

-- a call is refused
pub record Refused (m n : Moment) : Type 0 where
  pub state : n.state ≡ m.state
  pub notes : n.notes ≡ m.notes

abbrev pub Step : Moment → Moment → Type 0
Step m n = AttachesTable m n ⊎ (DeclaresTable m n ⊎ (EditsRow m n ⊎ (AppliesChangeset m n ⊎ (UndoesAll m n ⊎ (MergesNotes m n ⊎ Refused m n)))))

-- ---- runs

-- one step after another, any number of them
abbrev pub Run : Moment → List Moment → Type 0
Run m [] = Unit {0}
Run m (n ∷ later) = Step m n × Run n later

abbrev pub ending : Moment → List Moment → Moment
ending m [] = m
ending m (n ∷ later) = ending n later

-- the rows of a table as it was attached, where the step attaches one
abbrev pub rows_attached : (m n : Moment) → Step m n → List RowMap
rows_attached m n (inl attaches) = rows_at m.state attaches.name ∷ []
rows_attached m n (inr other) = []

-- those of each table that a run attaches, in turn
abbrev pub all_attached : (m : Moment) (later : List Moment) → Run m later → List RowMap
all_attached m [] run = []
all_attached m (n ∷ later) run = rows_attached m n run.0 ++ all_attached n later run.1

-- ---- the law

-- at the end of a run the rows from before are those of its start, and for each table that was attached since those as
-- it was attached
pub record KeepsBefore (m : Moment) (later : List Moment) (run : Run m later) : Type 0 where
  pub is_moment : IsMoment (ending m later)
  pub before : rewound (ending m later).notes (ending m later).state ≡ rewound m.notes m.state ++ all_attached m later run
  pub undone : map (λ t. rows_at (rewound_state (ending m later).notes (ending m later).state) t.name) (ending m later).notes
      ≡ rewound m.notes m.state ++ all_attached m later run

abbrev pub RowsFromBefore : Type 0
RowsFromBefore = (m : Moment) (later : List Moment) → IsMoment m → (run : Run m later) → KeepsBefore m later run
