-- The row of an entry, in the table that is there.
use Rattle.std.proofs.Common.{◌≡◌, ◌≢◌, ℕ, Bool, true, false, true≢false, ◌&&◌, if◌then◌else◌, List, [], ◌∷◌, ◌++◌, Option, Some, None, is_some, option_map, append_assoc, refl, sym, ap, ap₂, ◌∙◌}
use Rattle.std.specs.Prelude.{IfSome}
use Rattle.std.proofs.lemmas.List.{append-nil}
use Rattle.std.proofs.lemmas.List.Elements.{All-nil, All-cons}
use Rattle.std.specs.Borrow.{Bor}
use Rattle.cs_value.specs.declared.value.OwnedValue.{OwnedValue}
use Rattle.cs_value.specs.Value.{IsRow}
use Rattle.cs_value.specs.Table.{IsKeyedRow}
use Rattle.cs_value.specs.Key.{row_key}
use Rattle.cs_value.specs.State.{SchemaData, TableData, State, Obeys}
use Rattle.cs_wire_entries.specs.declared.entry.Change.{Change}
use Rattle.cs_wire_entries.specs.declared.entry.Change.TheVariants.{Insert}
use Rattle.cs_wire.specs.Entry.{before_image}
use Rattle.cs_wire.specs.Changeset.{HeaderData}
use Rattle.cs_rows.specs.Rows.{Fits}
use Rattle.cs_rows.proofs.EditingLemmas.{fits_in}
use Rattle.cs_group.specs.Joining.{key_marks}
use Rattle.cs_apply_conflict_kinds.proofs.ConflictLemmas.{and_false}
use Rattle.cs_group.proofs.KeyPlaceLemmas.{fits_same, key_of_same}
use Rattle.cs_apply_conflict_kinds.specs.declared.conflict.Kind.{Kind}
use Rattle.cs_apply_conflict_kinds.specs.declared.conflict.Kind.TheVariants.{Data, NotFound, Conflict as KeyConflict, Constraint}
use Rattle.cs_apply_conflict_kinds.specs.declared.conflict.Choice.{Choice}
use Rattle.cs_apply_conflict_kinds.specs.declared.conflict.Choice.TheVariants as choice
use Rattle.cs_apply_conflict_kinds.specs.Conflicts.{kind_between, or_constraint, conflict_kind, kinds_from, kinds_met, ends, is_overcome, is_carried_out}
use Rattle.cs_apply_conflict_kinds.specs.Applying.{PlacedEntry, ConflictData, MetData, conflict_with, met_with, refuses_at}
use Rattle.cs_apply_engine.specs.declared.conflict.Conflict.{Conflict}
use Rattle.cs_apply_engine.specs.declared.conflict.Met.{Met}
use Rattle.cs_apply_engine.specs.declared.entry.Settled.{Settled}
use Rattle.cs_apply_engine.specs.declared.entry.Settled.TheVariants.{Carried, Passed, Ignored, Ended}
use Rattle.cs_apply_engine.specs.Report.{conflict_of, met_of}
use Rattle.cs_apply_engine.specs.Running.{Handler, GoesOn, EndsRun}
use Rattle.cs_apply_engine.specs.Steps.{HasTable, Settles, SettlesAs, EndsAtEntry, IsReported, AnswersAs, last_of, halt_by, settled_as}

-- a row of the table fits the flags of the changes
keyed_as : (state : State) (header : HeaderData) (key : List ℕ) (row : List OwnedValue) → HasTable state header → Fits state header.name key row → IsKeyedRow header.flags row
keyed_as state header key row has fits =
    let same : fits.table.schema ≡ has.schema = let e = sym (ap (option_map (λ (t : TableData). t.schema)) fits.found) ∙ has.found in cc in
    let places : key_marks fits.table.schema.flags ≡ key_marks header.flags = ap (λ (s : SchemaData). key_marks s.flags) same ∙ has.same in
    (fits_same fits.table.schema.flags header.flags (Insert row) places (fits.fit.values, fits.fit.keyed)).1

pub keyed_here : (state : State) (header : HeaderData) (key : List ℕ) (row : Option (Bor (List OwnedValue))) → HasTable state header → IfSome row (λ r. Fits state header.name key r.now) → IfSome row (λ r. IsKeyedRow header.flags r.now)
keyed_here state header key None has fits = tt
keyed_here state header key (Some row) has fits = keyed_as state header key row.now has fits

-- and obeys the rules of the table
obeys_as : (state : State) (name key : List ℕ) (row : List OwnedValue) → Fits state name key row → Obeys (refuses_at state name) row
obeys_as state name key row fits = rw (fits.found) (fits.fit.obeys)

pub kept_here : (state : State) (header : HeaderData) (key : List ℕ) (row : Option (Bor (List OwnedValue))) → HasTable state header → IfSome row (λ r. Fits state header.name key r.now)
    → IfSome row (λ r. IsKeyedRow header.flags r.now × Obeys (refuses_at state header.name) r.now)
kept_here state header key None has fits = tt
kept_here state header key (Some row) has fits = (keyed_as state header key row.now has fits, obeys_as state header.name key row.now fits)

-- and a row that fits the flags and obeys the rules may be in the table
pub fits_here : (state : State) (header : HeaderData) (key : List ℕ) (row : List OwnedValue) → HasTable state header → IsRow row → IsKeyedRow header.flags row → key ≡ row_key header.flags row
    → Obeys (refuses_at state header.name) row → Fits state header.name key row
fits_here state header key row has values keyed own obeys =
    let back = sym has.same in
    let rules : refuses_at state header.name ≡ has.schema.refuses = rw (has.found) refl in
    fits_in state header.name key row has.schema has.found (record {
      values = values;
      keyed = (fits_same header.flags has.schema.flags (Insert row) back (values, keyed)).1;
      obeys = rw rules at obeys;
      own = own ∙ key_of_same header.flags has.schema.flags (Insert row) back;
    })

-- ---- an entry that has no conflict without a row

-- where there is none
pub none_is : {X : Type 0} (o : Option X) → is_some o ≡ false → o ≡ None
none_is None none = refl
none_is (Some x) none = absurd (true≢false none)

-- no row is missed, and no rule is broken
kind_is : (refused : Bool) (kind : Option Kind) → or_constraint refused kind ≡ None → (kind ≢ Some NotFound) × (refused ≡ false)
kind_is true None none = absurd cc
kind_is false None none = (λ same. absurd cc, refl)
kind_is refused (Some kind) none = absurd cc

pub no_conflict : (refused : Bool) (change : Change) → conflict_kind refused change None ≡ None → (kind_between (before_image change) None ≢ Some NotFound) × (refused ≡ false)
no_conflict refused change none = kind_is refused (kind_between (before_image change) None) none

-- ---- a conflict, and what is chosen for it

-- what is overcome does not end the run
overcome_goes_on : (kind : Kind) (c : Choice) → is_overcome kind c ≡ true → ends kind c ≡ false
overcome_goes_on Data choice.Replace e = refl
overcome_goes_on KeyConflict choice.Replace e = refl
overcome_goes_on NotFound choice.Replace e = absurd (true≢false (sym e))
overcome_goes_on Constraint choice.Replace e = absurd (true≢false (sym e))
overcome_goes_on kind choice.Omit e = refl
overcome_goes_on kind choice.Abort e = absurd (true≢false (sym e))

-- so what ends it is not overcome
ends_not_overcome : (kind : Kind) (c : Choice) → ends kind c ≡ true → is_overcome kind c ≡ false
ends_not_overcome kind c e = at (is_overcome kind c) refl
  where
    at : (b : Bool) → is_overcome kind c ≡ b → b ≡ false
    at true is = absurd (true≢false (sym e ∙ overcome_goes_on kind c is))
    at false is = refl

-- nothing overcomes that a column refuses NULL
never_overcome : (c : Choice) → is_overcome Constraint c ≡ false
never_overcome choice.Omit = refl
never_overcome choice.Replace = refl
never_overcome choice.Abort = refl

-- nor that a row is missing
missing_stays : (c : Choice) → is_overcome NotFound c ≡ false
missing_stays choice.Omit = refl
missing_stays choice.Replace = refl
missing_stays choice.Abort = refl

-- ---- a handler that is asked

module _ (chooses : Handler) (data_is : ConflictData) (conflicts : List Met) (conflict : Conflict) (is : conflict_of conflict ≡ data_is) where
  -- the run ends in the way of the choice
  pub ended_as : (c : Choice) → ends conflict.kind c ≡ true → chooses conflict c → AnswersAs chooses data_is conflicts conflicts (Ended (halt_by conflict c))
  ended_as choice.Omit e chosen = absurd (true≢false (sym e))
  ended_as choice.Replace e chosen = (is, record { chosen = chosen; ends = e }, refl)
  ended_as choice.Abort e chosen = (is, record { chosen = chosen; ends = e }, refl)

  -- or goes on, and the conflict is reported
  pub told_as : (next : List Met) (kind : Kind) → conflict.kind ≡ kind → (c : Choice) → ends kind c ≡ false → chooses conflict c
      → next ≡ conflicts ++ record { conflict = conflict; choice = c } ∷ [] → AnswersAs chooses data_is conflicts next (settled_as c)
  told_as next kind same c e chosen grown = by kind c e (record { is = is; goes_on = record { chosen = chosen; goes_on = ap (λ (k : Kind). ends k c) same ∙ e }; grown = grown }) same
    where
      by : (kind : Kind) (c : Choice) → ends kind c ≡ false → IsReported chooses data_is conflicts next (record { conflict = conflict; choice = c }) → conflict.kind ≡ kind
          → AnswersAs chooses data_is conflicts next (settled_as c)
      by kind choice.Omit e reported same = (record { conflict = conflict; choice = choice.Omit }, reported, refl)
      by Data choice.Replace e reported same = (record { conflict = conflict; choice = choice.Replace }, reported, rw same refl)
      by NotFound choice.Replace e reported same = absurd (true≢false e)
      by KeyConflict choice.Replace e reported same = (record { conflict = conflict; choice = choice.Replace }, reported, rw same refl)
      by Constraint choice.Replace e reported same = absurd (true≢false e)
      by kind choice.Abort e reported same = absurd (true≢false e)

and_itself : (b : Bool) → (b && true) ≡ b
and_itself true = refl
and_itself false = refl

-- ---- an entry that meets no conflict

-- the same choice for each kind of conflict
abbrev always : Choice → Kind → Choice
always c kind = c

-- there is nothing to tell
pub settled_clean : (chooses : Handler) (refused : Bool) (p : PlacedEntry) (row : Option (List OwnedValue)) (conflicts : List Met) → conflict_kind refused p.entry.change row ≡ None
    → Settles chooses refused p row conflicts conflicts true
settled_clean chooses refused p row conflicts none = record {
  choose = always choice.Omit;
  carried = rw none refl;
  reported = [];
  grown = sym (append-nil conflicts);
  all_reported = rw none refl;
  chosen = All-nil (GoesOn chooses);
}

-- ---- an entry that meets one

-- a choice for that a column refuses NULL, and one for each other conflict
abbrev in_turn : Choice → Choice → Kind → Choice
in_turn first second Constraint = second
in_turn first second Data = first
in_turn first second NotFound = first
in_turn first second KeyConflict = first

module _ (chooses : Handler) (refused : Bool) (p : PlacedEntry) (row : Option (List OwnedValue)) (kind : Kind) (met : conflict_kind refused p.entry.change row ≡ Some kind) where
  -- it has only that conflict if it is not refused, or that is not overcome
  met_one : (choose : Kind → Choice) → (refused && is_overcome kind (choose kind)) ≡ false → kinds_met refused p.entry.change row choose ≡ kind ∷ []
  met_one choose only = ap (kinds_from refused choose) met ∙ rw only refl

  -- and otherwise the rule of a later column
  met_two : (choose : Kind → Choice) → refused ≡ true → is_overcome kind (choose kind) ≡ true → kinds_met refused p.entry.change row choose ≡ kind ∷ Constraint ∷ []
  met_two choose is_refused overcome = ap (kinds_from refused choose) met ∙ rw (is_refused, overcome) refl

  abbrev with_choice : Kind → Choice → MetData
  with_choice kind c = record { conflict = conflict_with p row kind; choice = c }

  -- a conflict that is reported has its kind
  kind_told : (m : Met) (k : Kind) → conflict_of m.conflict ≡ conflict_with p row k → m.conflict.kind ≡ k
  kind_told m k is = ap (λ (c : ConflictData). c.kind) is

  module _ (conflicts : List Met) where
    -- it is reported
    settled_one : (next : List Met) (m : Met) (carried : Bool) → IsReported chooses (conflict_with p row kind) conflicts next m → is_overcome m.conflict.kind m.choice ≡ carried
        → (refused && carried) ≡ false → Settles chooses refused p row conflicts next carried
    settled_one next m carried reported overcome only =
        let choose = always m.choice in
        let same : is_overcome kind m.choice ≡ carried = rw (kind_told m kind reported.is) at overcome in
        let kinds : kinds_met refused p.entry.change row choose ≡ kind ∷ [] = met_one choose (rw same only) in
        record {
          choose = choose;
          carried = rw (kinds, same) (sym (and_itself carried));
          reported = m ∷ [];
          grown = reported.grown;
          all_reported = rw kinds (ap (λ (c : ConflictData). record { conflict = c; choice = m.choice } ∷ []) (sym reported.is));
          chosen = All-cons (GoesOn chooses) m [] reported.goes_on (All-nil (GoesOn chooses));
        }

    -- or the run ends at it
    ended_first : (next : List Met) (last : Met) → conflict_of last.conflict ≡ conflict_with p row kind → EndsRun chooses last → next ≡ conflicts
        → EndsAtEntry chooses refused p row conflicts next last
    ended_first next last is ended same =
        let choose = always last.choice in
        let stays : is_overcome kind last.choice ≡ false = rw (kind_told last kind is) at (ends_not_overcome last.conflict.kind last.choice ended.ends) in
        let kinds : kinds_met refused p.entry.change row choose ≡ kind ∷ [] = met_one choose (rw stays (and_false refused)) in
        record {
          choose = choose;
          reported = [];
          grown = same ∙ sym (append-nil conflicts);
          all_reported = rw kinds (ap (λ (c : ConflictData). record { conflict = c; choice = last.choice } ∷ []) (sym is));
          chosen = All-nil (GoesOn chooses);
          ended = ended;
        }

    -- what comes of it, if there is no other conflict
    pub settled_first : (next : List Met) (settled : Settled) → AnswersAs chooses (conflict_with p row kind) conflicts next settled → (settled ≡ Carried → refused ≡ false)
        → SettlesAs chooses refused p row conflicts next settled
    settled_first next Carried h kept = settled_one next h.0 true h.1 h.2 (rw (kept refl) refl)
    settled_first next Passed h kept = settled_one next h.0 false h.1 h.2 (and_false refused)
    settled_first next Ignored h kept = absurd h
    settled_first next (Ended ending) h kept = ended_first next (last_of ending) h.0 h.1 h.2

    -- the first is overcome, so that it is another kind
    module _ (mid : List Met) (m : Met) (first : IsReported chooses (conflict_with p row kind) conflicts mid m) (overcome : is_overcome m.conflict.kind m.choice ≡ true) (is_refused : refused ≡ true) where
      overcome_here : is_overcome kind m.choice ≡ true
      overcome_here = rw (kind_told m kind first.is) at overcome

      chosen_here : (c : Choice) → in_turn m.choice c kind ≡ m.choice
      chosen_here c = by kind overcome_here
        where
          by : (k : Kind) → is_overcome k m.choice ≡ true → in_turn m.choice c k ≡ m.choice
          by Data e = refl
          by NotFound e = refl
          by KeyConflict e = refl
          by Constraint e = absurd (true≢false (sym e ∙ never_overcome m.choice))

      -- the two conflicts
      both_met : (n : Met) → conflict_of n.conflict ≡ conflict_with p row Constraint → met_with refused p row (in_turn m.choice n.choice) ≡ met_of m ∷ met_of n ∷ []
      both_met n is =
          let choose = in_turn m.choice n.choice in
          let same = chosen_here n.choice in
          let kinds : kinds_met refused p.entry.change row choose ≡ kind ∷ Constraint ∷ [] = met_two choose is_refused (rw same overcome_here) in
          rw kinds
          (ap₂ (λ (c d : ConflictData). record { conflict = c; choice = choose kind } ∷ record { conflict = d; choice = n.choice } ∷ []) (sym first.is) (sym is)
          ∙ ap (λ (c : Choice). record { conflict = conflict_of m.conflict; choice = c } ∷ met_of n ∷ []) same)

      -- what comes of the second
      settled_two : (next : List Met) (n : Met) (carried : Bool) → IsReported chooses (conflict_with p row Constraint) mid next n → is_overcome n.conflict.kind n.choice ≡ carried
          → Settles chooses refused p row conflicts next carried
      settled_two next n carried second over =
          let choose = in_turn m.choice n.choice in
          let same = chosen_here n.choice in
          let kinds : kinds_met refused p.entry.change row choose ≡ kind ∷ Constraint ∷ [] = met_two choose is_refused (rw same overcome_here) in
          let there : is_overcome Constraint n.choice ≡ carried = rw (kind_told n Constraint second.is) at over in
          record {
            choose = choose;
            carried = rw (kinds, same, overcome_here, there) (sym (and_itself carried));
            reported = m ∷ n ∷ [];
            grown = second.grown ∙ ap (λ (l : List Met). l ++ n ∷ []) first.grown ∙ append_assoc conflicts (m ∷ []) (n ∷ []);
            all_reported = both_met n second.is;
            chosen = All-cons (GoesOn chooses) m (n ∷ []) first.goes_on (All-cons (GoesOn chooses) n [] second.goes_on (All-nil (GoesOn chooses)));
          }

      pub settled_second : (next : List Met) (settled : Settled) → AnswersAs chooses (conflict_with p row Constraint) mid next settled → SettlesAs chooses refused p row conflicts next settled
      settled_second next Carried h = settled_two next h.0 true h.1 h.2
      settled_second next Passed h = settled_two next h.0 false h.1 h.2
      settled_second next Ignored h = absurd h
      settled_second next (Ended ending) h = record {
        choose = in_turn m.choice (last_of ending).choice;
        reported = m ∷ [];
        grown = h.2 ∙ first.grown;
        all_reported = both_met (last_of ending) h.0;
        chosen = All-cons (GoesOn chooses) m [] first.goes_on (All-nil (GoesOn chooses));
        ended = h.1;
      }

-- ---- an entry that is carried out

refused_stays : (found : Option Kind) (choose : Kind → Choice) → is_carried_out (kinds_from true choose (or_constraint true found)) choose ≡ false
refused_stays None choose = rw (never_overcome (choose Constraint)) refl
refused_stays (Some kind) choose = at (is_overcome kind (choose kind))
  where
    at : (b : Bool) → (b && is_carried_out (if b then Constraint ∷ [] else []) choose) ≡ false
    at true = rw (never_overcome (choose Constraint)) refl
    at false = refl

-- it is not refused, and its row is not missing
pub carried_out : (chooses : Handler) (refused : Bool) (p : PlacedEntry) (row : Option (List OwnedValue)) (conflicts next : List Met) → Settles chooses refused p row conflicts next true
    → (refused ≡ false) × (kind_between (before_image p.entry.change) row ≢ Some NotFound)
carried_out chooses refused p row conflicts next settles = (
  at refused settles.carried,
  λ missing.
      let passed : is_carried_out (kinds_met refused p.entry.change row settles.choose) settles.choose ≡ false = rw (missing, missing_stays (settles.choose NotFound)) refl in
      true≢false (settles.carried ∙ passed),
)
  where
    at : (refused : Bool) → true ≡ is_carried_out (kinds_met refused p.entry.change row settles.choose) settles.choose → refused ≡ false
    at true e = absurd (true≢false (e ∙ refused_stays (kind_between (before_image p.entry.change) row) settles.choose))
    at false e = refl
