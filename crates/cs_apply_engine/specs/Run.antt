-- Where a run is after the items so far. No public contract names this: Running says what it is for.
use Rattle.std.specs.Prelude.{◌≡◌, ◌≢◌, ◌+◌, ℕ, suc, List, [], ◌∷◌, ◌++◌, length, map, if◌then◌else◌, Option, None, Some, IfSome, option_map, Result, Ok, Err, string_bytes}
use Rattle.std.specs.List.{AllByRecursion}
use Rattle.std.specs.Rc.{rc_str_bytes}
use Rattle.cs_value.specs.State.{State, schema_at}
use Rattle.cs_wire_entries.specs.declared.entry.Entry.{Entry}
use Rattle.cs_wire.specs.Entry.{key_of}
use Rattle.cs_wire.specs.Changeset.{HeaderData, GroupData}
use Rattle.cs_wire.specs.Views.{inverse_entry}
use Rattle.cs_group.specs.Inverse.{inverse_group}
use Rattle.cs_apply_conflict_kinds.specs.declared.judging.Judgement.{Judgement}
use Rattle.cs_apply_conflict_kinds.specs.declared.judging.Judgement.TheVariants as judgement
use Rattle.cs_apply_conflict_kinds.specs.Judging.{judged, is_skipped}
use Rattle.cs_apply_conflict_kinds.specs.Judging as judging
use Rattle.cs_apply_conflict_kinds.specs.declared.conflict.Noop.{Noop}
use Rattle.cs_apply_conflict_kinds.specs.Applying.{heeded, ignored, refuses_at, skipped}
use Rattle.cs_apply_engine.specs.declared.halt.Halt.{Halt}
use Rattle.cs_apply_engine.specs.declared.fault.ApplyFault.{ApplyFault}
use Rattle.cs_apply_engine.specs.declared.fault.ApplyFault.TheVariants.{Wider}
use Rattle.cs_apply_engine.specs.declared.tally.Tally.{Tally}
use Rattle.cs_apply_engine.specs.Tally.{Tallies}
use Rattle.cs_apply_engine.specs.declared.run.Run.{Run}
use Rattle.cs_apply_engine.specs.declared.running.Direction.{Direction}
use Rattle.cs_apply_engine.specs.declared.running.Direction.TheVariants.{Forward, Inverse}
use Rattle.cs_apply_engine.specs.Running.{Handler}
use Rattle.cs_apply_engine.specs.Steps.{Carries, Stops, last_of, refusal_of}

-- a group as it is run, and an entry
abbrev pub directed_group : Direction → GroupData → GroupData
directed_group Forward group = group
directed_group Inverse group = inverse_group group

abbrev pub directed_entry : Direction → List ℕ → Entry → Entry
directed_entry Forward flags entry = entry
directed_entry Inverse flags entry = inverse_entry flags entry

-- the entries of a table, none yet at the start
abbrev pub group_of : HeaderData → List Entry → GroupData
group_of header entries = record { header = header; entries = entries }

-- a tally of a run that did nothing yet
pub record IsEmpty (r : Tally) : Type 0 where
  pub conflicts : r.conflicts.items ≡ []
  pub skipped : r.skipped.items ≡ []
  pub written : Tallies r.written []
  pub ignored : r.ignored ≡ 0

-- a run before the first item
pub record IsAtStart (run : Run) : Type 0 where
  pub tables : run.tables ≡ 0
  pub wider : run.wider ≡ None
  pub ended : run.ended ≡ None
  pub empty : IsEmpty run.tally

-- the place of the first table that is wider, by what was judged, if one is
abbrev pub first_wider : List Judgement → Option ℕ
first_wider [] = None
first_wider (judgement.Wider ∷ js) = Some 0
first_wider (judgement.Skipped ∷ js) = option_map suc (first_wider js)
first_wider (judgement.Compatible ∷ js) = option_map suc (first_wider js)

-- what became of the entries: all were carried out, passed over or ignored, or the run ended at one of them
abbrev pub CameTo : Handler → Noop → State → List GroupData → Tally → Tally → State → Option Halt → Type 0
CameTo chooses noop before groups start tally after None =
    Carries chooses (heeded noop before groups) before start after tally
    × (map string_bytes tally.skipped.items ≡ map string_bytes start.skipped.items ++ skipped before groups)
    × (tally.ignored ≡ start.ignored + ignored noop before groups)
CameTo chooses noop before groups start tally after (Some ending) =
    Stops chooses (heeded noop before groups) before start tally (last_of ending)

abbrev pub last_group : List GroupData → Option GroupData
last_group [] = None
last_group (group ∷ []) = Some group
last_group (group ∷ next ∷ groups) = last_group (next ∷ groups)

-- the table of the last of the groups is open, and judged, and which of its columns refuse NULL is known
abbrev pub HasOpen : State → List GroupData → Run → Type 0
HasOpen before groups run =
    IfSome (last_group groups) (λ g. (rc_str_bytes run.table ≡ g.header.name) × (run.judgement ≡ judged before g)
    × (run.refuses.items ≡ refuses_at before g.header.name))

-- so a run is past these groups: entries are judged only if no table is wider
pub record IsBehind (chooses : Handler) (before : State) (groups : List GroupData) (run : Run) (after : State) : Type 0 where
  pub start : Tally
  pub empty : IsEmpty start
  pub tables : run.tables ≡ length groups
  pub opened : HasOpen before groups run
  pub schemas : (table : List ℕ) → schema_at after table ≡ schema_at before table
  pub wider : run.wider ≡ first_wider (map (judged before) groups)
  pub came_to : run.wider ≡ None → CameTo chooses run.noop before groups start run.tally after run.ended

-- the first place is remembered
abbrev pub wider_then : Option ℕ → ℕ → Judgement → Option ℕ
wider_then (Some first) place j = Some first
wider_then None place judgement.Wider = Some place
wider_then None place judgement.Skipped = None
wider_then None place judgement.Compatible = None

-- a run goes on with a table
pub record TakesTable (state : State) (run : Run) (header : HeaderData) (next : Run) (after : State) : Type 0 where
  pub same : after ≡ state
  pub table : rc_str_bytes next.table ≡ header.name
  pub rules : next.refuses.items ≡ refuses_at state header.name
  pub judged : next.judgement
      ≡ judging.judgement header.flags (option_map (λ s. s.flags) (schema_at state header.name))
  pub tables : next.tables ≡ run.tables + 1
  pub wider : next.wider ≡ wider_then run.wider run.tables next.judgement
  pub ended : next.ended ≡ run.ended
  pub conflicts : next.tally.conflicts ≡ run.tally.conflicts
  pub written : next.tally.written ≡ run.tally.written
  pub ignored : next.tally.ignored ≡ run.tally.ignored
  pub noop : next.noop ≡ run.noop
  pub skipped : map string_bytes next.tally.skipped.items
      ≡ map string_bytes run.tally.skipped.items ++ (if is_skipped next.judgement then header.name ∷ [] else [])

-- entries of the table that is open are carried out: it is compatible, no table is wider, and no entry ended the run
pub record TakesEntries (run : Run) : Type 0 where
  pub compatible : run.judgement ≡ judgement.Compatible
  pub none_wider : run.wider ≡ None
  pub goes_on : run.ended ≡ None

-- an entry is of another row than those before it
pub record IsNewEntry (closed : List GroupData) (header : HeaderData) (entries : List Entry) (entry : Entry) : Type 0 where
  pub table : AllByRecursion (λ g. g.header.name ≢ header.name) closed
  pub key : AllByRecursion (λ d. key_of header.flags d.change ≢ key_of header.flags entry.change) entries

-- what a run comes to after the last item
abbrev pub outcome_of : Option ℕ → Option Halt → Tally → Result Tally ApplyFault
outcome_of (Some place) ended tally = Err (Wider place)
outcome_of None (Some ending) tally = Err (refusal_of ending)
outcome_of None None tally = Ok tally

abbrev pub answer_of : Run → Result Tally ApplyFault
answer_of run = outcome_of run.wider run.ended run.tally
