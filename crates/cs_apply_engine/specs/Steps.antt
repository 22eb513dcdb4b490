-- How a run goes on, entry by entry. No public contract names this.
use Rattle.std.specs.Prelude.{◌≡◌, ◌⊎◌, ℕ, ◌+◌, length, Bool, true, false, List, [], ◌∷◌, ◌++◌, map, filter_map, All, Option, None, Some}
use Rattle.std.specs.List.{flat_map}
use Rattle.cs_value.specs.declared.value.OwnedValue.{OwnedValue}
use Rattle.cs_value.specs.State.{State, SchemaData, WrittenData, row_at, schema_at, with_row, without_row}
use Rattle.cs_wire_entries.specs.declared.entry.Change.{Change}
use Rattle.cs_wire.specs.Changeset.{HeaderData}
use Rattle.cs_wire.specs.Items.{FlaggedEntry}
use Rattle.cs_rows.specs.declared.fault.StoreError.TheVariants.{DamagedStore}
use Rattle.cs_rows.specs.Rows.{Write, puts_row, removes_row}
use Rattle.cs_apply_conflict_kinds.specs.declared.conflict.Kind.{Kind}
use Rattle.cs_apply_conflict_kinds.specs.declared.conflict.Choice.{Choice}
use Rattle.cs_apply_conflict_kinds.specs.declared.conflict.Choice.TheVariants as choice
use Rattle.cs_apply_conflict_kinds.specs.declared.conflict.Noop.{Noop}
use Rattle.cs_apply_conflict_kinds.specs.declared.conflict.Noop.TheVariants as noop
use Rattle.cs_apply_conflict_kinds.specs.Conflicts.{kinds_met, is_idle, is_overcome, is_carried_out}
use Rattle.cs_group.specs.Joining.{key_marks}
use Rattle.cs_apply_conflict_kinds.specs.Applying.{PlacedEntry, ConflictData, MetData, Choices, AreApplied, met_with, met_at, written_for, heeded_of, ignored_of}
use Rattle.cs_apply_engine.specs.declared.conflict.Conflict.{Conflict}
use Rattle.cs_apply_engine.specs.declared.conflict.Met.{Met}
use Rattle.cs_apply_engine.specs.declared.halt.Halt.{Halt}
use Rattle.cs_apply_engine.specs.declared.halt.Halt.TheVariants.{Aborted, Misused}
use Rattle.cs_apply_engine.specs.declared.fault.ApplyFault.{ApplyFault}
use Rattle.cs_apply_engine.specs.declared.fault.ApplyFault.TheVariants.{Abort, Misuse, Store}
use Rattle.cs_apply_engine.specs.declared.entry.Settled.{Settled}
use Rattle.cs_apply_engine.specs.declared.entry.Settled.TheVariants.{Carried, Passed, Ignored, Ended}
use Rattle.cs_apply_engine.specs.declared.tally.Tally.{Tally}
use Rattle.cs_apply_engine.specs.Tally.{Tallies}
use Rattle.cs_apply_engine.specs.Report.{conflict_of, met_of}
use Rattle.cs_apply_engine.specs.Running.{Handler, GoesOn, EndsRun, IsResource}

-- memory was refused, the database refused, or what it holds is damaged
abbrev pub IsStoreRefusal : ApplyFault → Type 0
IsStoreRefusal fault = IsResource fault ⊎ (fault ≡ Store DamagedStore)

-- the table is there, with these columns and this key
pub record HasTable (state : State) (header : HeaderData) : Type 0 where
  pub schema : SchemaData
  pub found : schema_at state header.name ≡ Some schema
  pub same : key_marks schema.flags ≡ key_marks header.flags

-- these entries are applied to a state, and the tally goes on with them
pub record Carries (chooses : Handler) (entries : List PlacedEntry) (before : State) (tally : Tally) (after : State)
    (next : Tally) : Type 0 where
  pub choose : Choices
  pub applied : AreApplied before entries choose after
  pub conflicts : map met_of next.conflicts.items
      ≡ map met_of tally.conflicts.items ++ flat_map (met_at before choose) entries
  pub chosen : All (GoesOn chooses) tally.conflicts.items → All (GoesOn chooses) next.conflicts.items
  pub written : (reported : List WrittenData) → Tallies tally.written reported
      → Tallies next.written (reported ++ filter_map (written_for before choose) entries)

-- the run ends at a conflict of one of these entries, and the tally has those before it
pub record Stops (chooses : Handler) (entries : List PlacedEntry) (before : State) (tally next : Tally) (last : Met) :
    Type 0 where
  pub choose : Choices
  pub later : List MetData
  pub chosen : All (GoesOn chooses) tally.conflicts.items → All (GoesOn chooses) next.conflicts.items
  pub listed : map met_of tally.conflicts.items ++ flat_map (met_at before choose) entries
      ≡ map met_of next.conflicts.items ++ met_of last ∷ later
  pub ended : EndsRun chooses last

-- the conflict at which it ended, with what was chosen
abbrev pub last_of : Halt → Met
last_of (Aborted conflict) = record { conflict = conflict; choice = choice.Abort }
last_of (Misused conflict) = record { conflict = conflict; choice = choice.Replace }

-- what a run that ended so is refused with
abbrev pub refusal_of : Halt → ApplyFault
refusal_of (Aborted conflict) = Abort conflict
refusal_of (Misused conflict) = Misuse conflict

-- the entry, with the table that it is of
abbrev pub placed_in_table : List ℕ → FlaggedEntry → PlacedEntry
placed_in_table table seen = record { table = table; flags = seen.flags; entry = seen.entry }

abbrev pub header_in : List ℕ → FlaggedEntry → HeaderData
header_in table seen = record { name = table; flags = seen.flags }

-- what an entry comes to: it is carried out or passed over, or ignored, or the run ends at it, and the rows are as they
-- were
abbrev pub ComesTo : Handler → Noop → PlacedEntry → State → Tally → State → Tally → Option Halt → Type 0
ComesTo chooses noop p before tally after next None =
    Carries chooses (heeded_of noop before (p ∷ [])) before tally after next
    × (next.ignored ≡ tally.ignored + length (ignored_of noop before (p ∷ [])))
ComesTo chooses noop p before tally after next (Some ending) =
    Stops chooses (heeded_of noop before (p ∷ [])) before tally next (last_of ending) × (after ≡ before)

-- a conflict is reported, with what the handler chose for it
pub record IsReported (chooses : Handler) (conflict : ConflictData) (conflicts next : List Met) (m : Met) : Type 0 where
  pub is : conflict_of m.conflict ≡ conflict
  pub goes_on : GoesOn chooses m
  pub grown : next ≡ conflicts ++ m ∷ []

-- what comes of a conflict that the handler was asked about: it is overcome, the entry is passed over, or the run ends
abbrev pub AnswersAs : Handler → ConflictData → List Met → List Met → Settled → Type 0
AnswersAs chooses conflict conflicts next Carried =
    (m : Met) × IsReported chooses conflict conflicts next m × (is_overcome m.conflict.kind m.choice ≡ true)
AnswersAs chooses conflict conflicts next Passed =
    (m : Met) × IsReported chooses conflict conflicts next m × (is_overcome m.conflict.kind m.choice ≡ false)
AnswersAs chooses conflict conflicts next Ignored = ⊥
AnswersAs chooses conflict conflicts next (Ended ending) =
    (conflict_of (last_of ending).conflict ≡ conflict) × EndsRun chooses (last_of ending) × (next ≡ conflicts)

-- what is chosen for the conflicts that an entry meets at a row, in turn, and the conflicts that are reported then
pub record Settles (chooses : Handler) (refused : Bool) (p : PlacedEntry) (row : Option (List OwnedValue))
    (conflicts next : List Met) (is_carried : Bool) : Type 0 where
  pub choose : Kind → Choice
  pub carried : is_carried ≡ is_carried_out (kinds_met refused p.entry.change row choose) choose
  pub reported : List Met
  pub grown : next ≡ conflicts ++ reported
  pub all_reported : met_with refused p row choose ≡ map met_of reported
  pub chosen : All (GoesOn chooses) reported

-- how the run ends at a conflict
abbrev pub halt_by : Conflict → Choice → Halt
halt_by conflict choice.Omit = Misused conflict
halt_by conflict choice.Replace = Misused conflict
halt_by conflict choice.Abort = Aborted conflict

-- the run ends at a conflict that the entry meets; those before it are reported
pub record EndsAtEntry (chooses : Handler) (refused : Bool) (p : PlacedEntry) (row : Option (List OwnedValue))
    (conflicts next : List Met) (last : Met) : Type 0 where
  pub choose : Kind → Choice
  pub reported : List Met
  pub grown : next ≡ conflicts ++ reported
  pub all_reported : met_with refused p row choose ≡ map met_of reported ++ met_of last ∷ []
  pub chosen : All (GoesOn chooses) reported
  pub ended : EndsRun chooses last

-- what is done where the run goes on
abbrev pub settled_as : Choice → Settled
settled_as choice.Omit = Passed
settled_as choice.Replace = Carried
settled_as choice.Abort = Passed

abbrev pub SettlesAs : Handler → Bool → PlacedEntry → Option (List OwnedValue) → List Met → List Met → Settled → Type 0
SettlesAs chooses refused p row conflicts next Carried = Settles chooses refused p row conflicts next true
SettlesAs chooses refused p row conflicts next Passed = Settles chooses refused p row conflicts next false
SettlesAs chooses refused p row conflicts next Ignored = next ≡ conflicts
SettlesAs chooses refused p row conflicts next (Ended ending) = EndsAtEntry chooses refused p row conflicts next (last_of ending)

-- the entry is a no-op at this row, or without a row, and is to be ignored
abbrev pub is_ignored : Noop → Bool → List ℕ → Change → Option (List OwnedValue) → Bool
is_ignored noop.Report refused flags change row = false
is_ignored noop.Ignore refused flags change row = is_idle refused flags change row

-- it is ignored
abbrev pub is_left_out : Settled → Bool
is_left_out Carried = false
is_left_out Passed = false
is_left_out Ignored = true
is_left_out (Ended ending) = false

-- the row is under the key, or none is
abbrev pub with_result : State → List ℕ → List ℕ → Option (List OwnedValue) → State
with_result state table key None = without_row state table key
with_result state table key (Some row) = with_row state table key row

-- An entry that meets no conflict where no row has its key leaves its row there, and none had the key. Or nothing
-- changes.
abbrev pub AddsEntry : State → List ℕ → List ℕ → Option Kind → Option (List OwnedValue) → Bool → State → Type 0
AddsEntry old table key kind row true new = (kind ≡ None) × (row_at old table key ≡ None) × (new ≡ with_result old table key row)
AddsEntry old table key kind row false new = new ≡ old

-- so the row is put, or removed
abbrev pub write_of : List ℕ → List ℕ → Option (List OwnedValue) → Write
write_of table key None = removes_row table key
write_of table key (Some row) = puts_row table key row

-- that is the write, with the tables as they were
abbrev pub IsResultWrite : State → List ℕ → List ℕ → Option (List OwnedValue) → State → Write → Type 0
IsResultWrite old table key row held write = (held ≡ old) × (write ≡ write_of table key row)
