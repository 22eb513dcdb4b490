-- What a changeset does to a state: the interface of SQLite's session extension, under "sqlite3changeset_apply".
use Rattle.std.specs.Prelude.{◌≡◌, ◌≢◌, ℕ, ◌<◌, Bool, not, if◌then◌else◌, List, [], length, map, take, All, HoldsAt}
use Rattle.std.specs.Prelude.{filter, filter_map, Option, None, Some, option_map, unwrap_or}
use Rattle.std.specs.List.{flat_map}
use Rattle.cs_value.specs.declared.value.OwnedValue.{OwnedValue}
use Rattle.cs_value.specs.State.{State, WrittenData, schema_at, row_at, written_at}
use Rattle.cs_wire_entries.specs.declared.entry.Entry.{Entry}
use Rattle.cs_wire.specs.Entry.{key_of}
use Rattle.cs_wire.specs.Changeset.{HeaderData, GroupData}
use Rattle.cs_apply_conflict_kinds.specs.declared.judging.Judgement.TheVariants.{Wider}
use Rattle.cs_apply_conflict_kinds.specs.declared.conflict.Kind.{Kind}
use Rattle.cs_apply_conflict_kinds.specs.declared.conflict.Choice.{Choice}
use Rattle.cs_apply_conflict_kinds.specs.declared.conflict.Choice.TheVariants.{Omit}
use Rattle.cs_apply_conflict_kinds.specs.declared.conflict.Noop.{Noop}
use Rattle.cs_apply_conflict_kinds.specs.declared.conflict.Noop.TheVariants.{Report, Ignore}
use Rattle.cs_apply_conflict_kinds.specs.Judging.{judged, is_skipped, is_compatible}
use Rattle.cs_apply_conflict_kinds.specs.Conflicts.{is_refused, conflict_kind, kinds_met, is_idle, is_carried_out}
use Rattle.cs_apply_conflict_kinds.specs.Conflicts.{entry_result}

-- ---- the entries of a changeset

-- an entry, with the table that it is of
pub record PlacedEntry : Type 0 where
  pub table : List ℕ
  pub flags : List ℕ
  pub entry : Entry

abbrev pub placed_by : HeaderData → Entry → PlacedEntry
placed_by header entry = record { table = header.name; flags = header.flags; entry = entry }

abbrev pub placed_in : GroupData → List PlacedEntry
placed_in group = map (placed_by group.header) group.entries

-- the entries of the groups, in the order of the file
abbrev pub placed : List GroupData → List PlacedEntry
placed groups = flat_map placed_in groups

-- the key of the row that the entry is of
abbrev pub placed_key : PlacedEntry → List ℕ
placed_key p = key_of p.flags p.entry.change

-- the current row with that key
abbrev pub current : State → PlacedEntry → Option (List OwnedValue)
current state p = row_at state p.table (placed_key p)

-- for each column of a table whether it refuses NULL; none where there is no such table
abbrev pub refuses_at : State → List ℕ → List Bool
refuses_at state table = unwrap_or (option_map (λ s. s.refuses) (schema_at state table)) []

-- the entry would leave NULL in a column of its table that refuses it
abbrev pub refused_at : State → PlacedEntry → Bool
refused_at state p = is_refused (refuses_at state p.table) p.flags p.entry.change

-- the entry is of another row than that of this table with this key
abbrev pub IsElsewhere : PlacedEntry → List ℕ → List ℕ → Type 0
IsElsewhere p table key = ¬ ((p.table ≡ table) × (placed_key p ≡ key))

-- ---- which of them are applied

-- the names of the tables that are skipped
abbrev pub skipped : State → List GroupData → List (List ℕ)
skipped state changeset = map (λ g. g.header.name) (filter (λ g. is_skipped (judged state g)) changeset)

-- the group at this place is the first whose table is wider
pub record FirstWider (state : State) (changeset : List GroupData) (place : ℕ) : Type 0 where
  pub within : place < length changeset
  pub before : All (λ g. judged state g ≢ Wider) (take place changeset)
  pub wider : HoldsAt (λ g. judged state g ≡ Wider) changeset place

-- no table is wider
abbrev pub NoneWider : State → List GroupData → Type 0
NoneWider state changeset = All (λ g. judged state g ≢ Wider) changeset

abbrev pub compatible_groups : State → List GroupData → List GroupData
compatible_groups state changeset = filter (λ g. is_compatible (judged state g)) changeset

-- the entries of the compatible tables, the only ones that are applied
abbrev pub applicable : State → List GroupData → List PlacedEntry
applicable state changeset = placed (compatible_groups state changeset)

-- ---- entries that change nothing

-- the entry is a no-op: it has a conflict, and the current row already agrees with its new row
abbrev pub is_idle_at : State → PlacedEntry → Bool
is_idle_at state p = is_idle (refused_at state p) p.flags p.entry.change (current state p)

-- the entries that are no-ops, if no-ops are to be ignored: no choice is asked for them, nothing is written, and only
-- their number is reported
abbrev pub ignored_of : Noop → State → List PlacedEntry → List PlacedEntry
ignored_of Report state entries = []
ignored_of Ignore state entries = filter (is_idle_at state) entries

-- the others
abbrev pub heeded_of : Noop → State → List PlacedEntry → List PlacedEntry
heeded_of Report state entries = entries
heeded_of Ignore state entries = filter (λ p. not (is_idle_at state p)) entries

-- the entries of a changeset that are applied, without those that are ignored
abbrev pub heeded : Noop → State → List GroupData → List PlacedEntry
heeded noop state changeset = heeded_of noop state (applicable state changeset)

-- how many entries of a changeset are ignored
abbrev pub ignored : Noop → State → List GroupData → ℕ
ignored noop state changeset = length (ignored_of noop state (applicable state changeset))

-- ---- conflicts

pub record ConflictData : Type 0 where
  pub kind : Kind
  pub table : List ℕ
  pub entry : Entry
  pub current : Option (List OwnedValue)

-- the conflict of an entry, if it has one
abbrev pub placed_kind : State → PlacedEntry → Option Kind
placed_kind state p = conflict_kind (refused_at state p) p.entry.change (current state p)

-- no table is wider, and no entry of a compatible one meets a conflict
pub record IsClean (state : State) (changeset : List GroupData) : Type 0 where
  pub none_wider : NoneWider state changeset
  pub no_conflict : All (λ p. placed_kind state p ≡ None) (applicable state changeset)

-- ---- what is chosen

-- a choice for each entry and kind of conflict, which matters where the entry meets that
abbrev pub Choices : Type 0
Choices = PlacedEntry → Kind → Choice

-- the kinds of the conflicts that an entry meets, one after another
abbrev pub placed_kinds : State → Choices → PlacedEntry → List Kind
placed_kinds state choose p = kinds_met (refused_at state p) p.entry.change (current state p) (choose p)

-- a conflict, and what was chosen for it
pub record MetData : Type 0 where
  pub conflict : ConflictData
  pub choice : Choice

-- the conflict of this kind that an entry meets, at this row or none
abbrev pub conflict_with : PlacedEntry → Option (List OwnedValue) → Kind → ConflictData
conflict_with p row kind = record { kind = kind; table = p.table; entry = p.entry; current = row }

-- the conflicts that an entry meets there, with the choices
abbrev pub met_with : Bool → PlacedEntry → Option (List OwnedValue) → (Kind → Choice) → List MetData
met_with refused p row choose =
    map (λ kind. record { conflict = conflict_with p row kind; choice = choose kind })
    (kinds_met refused p.entry.change row choose)

abbrev pub met_at : State → Choices → PlacedEntry → List MetData
met_at state choose p = met_with (refused_at state p) p (current state p) (choose p)

-- the conflicts of a changeset for which a choice is asked, with the choices, in the order of the file
abbrev pub met_under : Noop → State → List GroupData → Choices → List MetData
met_under noop state changeset choose = flat_map (met_at state choose) (heeded noop state changeset)

-- ---- the state afterwards

abbrev pub written_for : State → Choices → PlacedEntry → Option WrittenData
written_for state choose p =
    if is_carried_out (placed_kinds state choose p) (choose p) then Some (written_at state p.table (placed_key p)) else None

-- the keys of the entries that are carried out, in the order of the file, with the previous rows
abbrev pub written_under : Noop → State → List GroupData → Choices → List WrittenData
written_under noop state changeset choose = filter_map (written_for state choose) (heeded noop state changeset)

-- those where nothing is ignored
abbrev pub written : State → List GroupData → Choices → List WrittenData
written = written_under Report

-- what an entry leaves at its key, if there is an afterwards
abbrev pub placed_result : State → Choices → PlacedEntry → Option (Option (List OwnedValue))
placed_result state choose p = entry_result (refused_at state p) p.flags p.entry.change (current state p) (choose p)

-- a state that these entries make of another: it has the same tables, at the key of each entry the result of that
-- entry, and elsewhere the same rows
pub record AreApplied (old : State) (entries : List PlacedEntry) (choose : Choices) (new : State) : Type 0 where
  pub schemas : (table : List ℕ) → schema_at new table ≡ schema_at old table
  pub results : All (λ p. placed_result old choose p ≡ Some (current new p)) entries
  pub others : (table key : List ℕ) → All (λ p. IsElsewhere p table key) entries
      → row_at new table key ≡ row_at old table key

-- the state after the changeset: the rows at the keys of compatible groups are the results; an ignored entry leaves the
-- row
abbrev pub IsAppliedUnder : Noop → State → List GroupData → Choices → State → Type 0
IsAppliedUnder noop old changeset choose new = AreApplied old (heeded noop old changeset) choose new

-- that where nothing is ignored
abbrev pub IsApplied : State → List GroupData → Choices → State → Type 0
IsApplied = IsAppliedUnder Report

-- the choices do not matter if there is no conflict
abbrev pub omit_all : Choices
omit_all p kind = Omit
