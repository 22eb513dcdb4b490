-- What an undo of a session does.
use Rattle.std.specs.Prelude.{◌≡◌, List, [], map}
use Rattle.cs_value.specs.State.{State, rows_at}
use Rattle.cs_wire.specs.Changeset.{GroupData, file_bytes}
use Rattle.cs_apply_conflict_kinds.specs.Applying.{Choices, IsClean, IsApplied}
use Rattle.cs_apply_engine.specs.declared.report.Report.{Report}
use Rattle.cs_apply_engine.specs.declared.running.Direction.TheVariants.{Inverse}
use Rattle.cs_apply_conflict_kinds.specs.declared.conflict.Noop.TheVariants as noop
use Rattle.cs_apply_engine.specs.Running.{Applies, AlwaysAborts, IsNoReadFault, directed}
use Rattle.cs_apply_engine.specs.Writes.{IsRunWrite}
use Rattle.cs_rows.specs.Rows.{Write}
use Rattle.cs_session_notes.specs.declared.fault.SessionFault.{SessionFault}
use Rattle.cs_session_notes.specs.declared.fault.SessionFault.TheVariants.{Apply}
use Rattle.cs_session_notes.specs.FirstImages.{Notes, rewound, rewound_state, recorded_changes}
use Rattle.cs_session_notes.specs.Changes.{HasTables}
use Rattle.cs_session.specs.Recording.{IsApplyRefusal, IsOfChangeset}

-- the changeset meets no conflict in the state with the rows from before, and makes this one of it
pub record LeadsBackTo (notes : Notes) (state : State) (changeset : List GroupData) : Type 0 where
  pub clean : IsClean (rewound_state notes state) changeset
  pub applied : (choose : Choices) → IsApplied (rewound_state notes state) changeset choose state

-- the inverse of the net changeset is applied without a conflict, and no table is passed over; then the attached tables
-- have the rows from before, and all else is as it was
pub record Undoes (notes : Notes) (old : State) (report : Report) (new : State) : Type 0 where
  pub attached : HasTables old notes
  pub applied : Applies AlwaysAborts noop.Report (file_bytes (recorded_changes notes old)) Inverse old report new
  pub no_conflict : report.conflicts.items ≡ []
  pub none_skipped : report.skipped.items ≡ []
  pub back : map (λ t. rows_at new t.name) notes ≡ rewound notes old
  pub rewound : new ≡ rewound_state notes old

-- an undo makes this state: the attached tables have the rows from before
abbrev pub UndoesInto : Notes → State → State → Type 0
UndoesInto notes old left = left ≡ rewound_state notes old

-- the write is that of an entry of the inverse of the net changeset, and each table is there as it was attached
abbrev pub IsUndoWrite : Notes → State → State → Write → Type 0
IsUndoWrite notes old held write = HasTables old notes × IsRunWrite (directed Inverse (recorded_changes notes old)) held write

-- what it may be refused with, whatever the disk returns
abbrev pub IsUndoRefusal : SessionFault → Type 0
IsUndoRefusal (Apply fault) = IsOfChangeset fault × IsNoReadFault fault
IsUndoRefusal fault = IsApplyRefusal fault
