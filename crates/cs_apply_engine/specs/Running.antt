-- What a run over rows does with a file: the interface of SQLite's session extension, under "sqlite3changeset_apply".
-- The order of refusals, and that a table may not be wider, are this project's own.
use Rattle.std.specs.Prelude.{◌≡◌, ◌⊎◌, ◌∷◌, ◌++◌, ℕ, Bool, true, false, List, Result, Ok, Err, length, map, All, string_bytes}
use Rattle.cs_value.specs.State.{State, WrittenData, IsState}
use Rattle.cs_wire.specs.Changeset.{GroupData, IsChangeset, file_bytes}
use Rattle.cs_wire.specs.ReadFaults.{ReadFails}
use Rattle.cs_rows.specs.declared.fault.StoreError.{StoreError}
use Rattle.cs_rows.specs.declared.fault.StoreError.TheVariants.{DamagedStore}
use Rattle.cs_rows.specs.Faults.{IsStoreFault}
use Rattle.cs_rows.specs.Faults as stores
use Rattle.cs_rows.specs.declared.fault.Cause.{Cause}
use Rattle.cs_rows.specs.Editing.{written_of}
use Rattle.cs_apply_conflict_kinds.specs.declared.conflict.Choice.{Choice}
use Rattle.cs_apply_conflict_kinds.specs.declared.conflict.Choice.TheVariants as choice
use Rattle.cs_apply_conflict_kinds.specs.declared.conflict.Noop.{Noop}
use Rattle.cs_group.specs.Inverse.{IsInverse, inverse_group}
use Rattle.cs_apply_conflict_kinds.specs.Conflicts.{ends}
use Rattle.cs_apply_conflict_kinds.specs.Applying.{MetData, Choices, FirstWider, NoneWider, IsClean, IsApplied}
use Rattle.cs_apply_conflict_kinds.specs.Applying.{IsAppliedUnder, met_under, skipped, written_under, ignored}
use Rattle.cs_apply_engine.specs.declared.conflict.Conflict.{Conflict}
use Rattle.cs_apply_engine.specs.declared.conflict.Met.{Met}
use Rattle.cs_apply_engine.specs.declared.report.Report.{Report}
use Rattle.cs_apply_engine.specs.declared.report.Summary.{Summary}
use Rattle.cs_apply_engine.specs.declared.tally.Tally.{Tally}
use Rattle.cs_apply_engine.specs.Tally.{Tallies}
use Rattle.cs_apply_engine.specs.declared.running.Direction.{Direction}
use Rattle.cs_apply_engine.specs.declared.running.Direction.TheVariants.{Forward, Inverse}
use Rattle.cs_apply_engine.specs.declared.fault.ApplyFault.{ApplyFault}
use Rattle.cs_apply_engine.specs.declared.fault.ApplyFault.TheVariants.{Read, Wider, Abort, Misuse, Store, NoMemory}
use Rattle.cs_apply_engine.specs.Report.{met_of}

-- what a handler may choose for a conflict
abbrev pub Handler : Type 1
Handler = Conflict → Choice → Type 0

-- a summary has what a report has, with the number of what was written
pub record Summarizes (summary : Summary) (report : Report) : Type 0 where
  pub conflicts : summary.conflicts ≡ report.conflicts
  pub skipped : summary.skipped ≡ report.skipped
  pub written : summary.written ≡ length report.written.items
  pub ignored : summary.ignored ≡ report.ignored

-- the file is read as this changeset: as its own, or as the inverse of that
abbrev pub IsReadAs : List ℕ → Direction → List GroupData → Type 0
IsReadAs file Forward changeset = IsChangeset changeset × (file ≡ file_bytes changeset)
IsReadAs file Inverse changeset = (read : List GroupData)
    × IsChangeset read × (file ≡ file_bytes read) × IsInverse read changeset × IsChangeset changeset

-- a changeset as it is run: as it is, or what undoes each of its entries
abbrev pub directed : Direction → List GroupData → List GroupData
directed Forward changeset = changeset
directed Inverse changeset = map inverse_group changeset

-- the handler chose so, and the run goes on
pub record GoesOn (chooses : Handler) (m : Met) : Type 0 where
  pub chosen : chooses m.conflict m.choice
  pub goes_on : ends m.conflict.kind m.choice ≡ false

-- a file is applied, with these conflicts, skipped tables, writes and count of ignored entries
pub record AppliesWith (chooses : Handler) (noop : Noop) (file : List ℕ) (direction : Direction) (old : State)
    (met : List Met) (skips : List (List ℕ)) (writes : List WrittenData) (passed : ℕ) (new : State) : Type 0 where
  pub changeset : List GroupData
  pub read : IsReadAs file direction changeset
  pub none_wider : NoneWider old changeset
  pub choose : Choices
  pub applied : IsAppliedUnder noop old changeset choose new
  pub conflicts : map met_of met ≡ met_under noop old changeset choose
  pub chosen : All (GoesOn chooses) met
  pub skipped : skips ≡ skipped old changeset
  pub written : writes ≡ written_under noop old changeset choose
  pub ignored : passed ≡ ignored noop old changeset

-- a file is applied, with what the report has
abbrev pub Applies : Handler → Noop → List ℕ → Direction → State → Report → State → Type 0
Applies chooses noop file direction old report new =
    AppliesWith chooses noop file direction old report.conflicts.items
    (map string_bytes report.skipped.items) (map written_of report.written.items) report.ignored new

-- a file is applied, with what the tally has
pub record AppliesTallied (chooses : Handler) (noop : Noop) (file : List ℕ) (direction : Direction) (old : State)
    (tally : Tally) (new : State) : Type 0 where
  pub writes : List WrittenData
  pub reported : Tallies tally.written writes
  pub applies : AppliesWith chooses noop file direction old tally.conflicts.items
      (map string_bytes tally.skipped.items) writes tally.ignored new

-- a file is applied, with what the summary has
pub record AppliesCounted (chooses : Handler) (noop : Noop) (file : List ℕ) (direction : Direction) (old : State)
    (summary : Summary) (new : State) : Type 0 where
  pub writes : List WrittenData
  pub counted : summary.written ≡ length writes
  pub applies : AppliesWith chooses noop file direction old summary.conflicts.items
      (map string_bytes summary.skipped.items) writes summary.ignored new

-- the conflict is one that a changeset meets under some choices, and this is the choice for it; for each conflict
-- before it the handler chose these choices, and the run went on
pub record IsReached (chooses : Handler) (noop : Noop) (old : State) (changeset : List GroupData) (last : Met) : Type 0 where
  pub choose : Choices
  pub earlier : List Met
  pub later : List MetData
  pub chosen : All (GoesOn chooses) earlier
  pub listed : met_under noop old changeset choose ≡ map met_of earlier ++ met_of last ∷ later

-- the run ends at a conflict, by what the handler chose for it
pub record EndsRun (chooses : Handler) (m : Met) : Type 0 where
  pub chosen : chooses m.conflict m.choice
  pub ends : ends m.conflict.kind m.choice ≡ true

-- so it ends at a conflict of a file
pub record EndsAt (chooses : Handler) (noop : Noop) (file : List ℕ) (direction : Direction) (old : State) (last : Met) : Type 0 where
  pub changeset : List GroupData
  pub read : IsReadAs file direction changeset
  pub none_wider : NoneWider old changeset
  pub reached : IsReached chooses noop old changeset last
  pub ended : EndsRun chooses last

pub record IsWider (file : List ℕ) (direction : Direction) (old : State) (place : ℕ) : Type 0 where
  pub changeset : List GroupData
  pub read : IsReadAs file direction changeset
  pub first : FirstWider old changeset place

-- why a file is not applied
abbrev pub Refuses : Handler → Noop → List ℕ → Direction → State → ApplyFault → Type 0
Refuses chooses noop file direction old (Read fault) = ReadFails file fault.kind fault.place
Refuses chooses noop file direction old (Wider place) = IsWider file direction old place
Refuses chooses noop file direction old (Abort conflict) =
    EndsAt chooses noop file direction old (record { conflict = conflict; choice = choice.Abort })
Refuses chooses noop file direction old (Misuse conflict) =
    EndsAt chooses noop file direction old (record { conflict = conflict; choice = choice.Replace })
Refuses chooses noop file direction old (Store error) = IsStoreFault error
Refuses chooses noop file direction old NoMemory = Unit {0}

-- the store refused, for such a reason
abbrev pub IsOfStore : (StoreError → Type 0) → ApplyFault → Type 0
IsOfStore Is (Store error) = Is error
IsOfStore Is fault = ⊥

-- If it is a StoreFault, `Fails` holds of its cause. Nothing is said of other faults.
abbrev pub IsCaused : (Cause → Type 0) → ApplyFault → Type 0
IsCaused Fails (Store error) = stores.IsCaused Fails error
IsCaused Fails fault = Unit {0}

-- memory ran out, or the database refused
abbrev pub IsResource : ApplyFault → Type 0
IsResource fault = (fault ≡ NoMemory) ⊎ IsOfStore IsStoreFault fault

-- what a run may be refused with by the store, whatever the disk returns
abbrev pub IsNamed : ApplyFault → Type 0
IsNamed (Store error) = (error ≡ DamagedStore) ⊎ IsStoreFault error
IsNamed fault = Unit {0}

-- The fault is not one of the rows: the run refuses the file, or ends at a conflict.
abbrev pub is_own : ApplyFault → Bool
is_own (Store error) = false
is_own NoMemory = false
is_own _ = true

-- The rows have answered each call of a run: it is accepted, or ends by itself.
abbrev pub is_answered : {X : Type 0} → Result X ApplyFault → Bool
is_answered (Ok x) = true
is_answered (Err fault) = is_own fault

-- it is no fault of reading
abbrev pub IsNoReadFault : ApplyFault → Type 0
IsNoReadFault (Read fault) = ⊥
IsNoReadFault fault = Unit {0}

-- the handler that aborts at each conflict
abbrev pub AlwaysAborts : Handler
AlwaysAborts conflict chosen = chosen ≡ choice.Abort

-- the changeset of a file leads from a state, whose tables are well formed, to another without a conflict
pub record Leads (file : List ℕ) (before after : State) : Type 0 where
  pub changeset : List GroupData
  pub is_changeset : IsChangeset changeset
  pub is_file : file ≡ file_bytes changeset
  pub is_state : IsState before
  pub clean : IsClean before changeset
  pub choose : Choices
  pub applied : IsApplied before changeset choose after
