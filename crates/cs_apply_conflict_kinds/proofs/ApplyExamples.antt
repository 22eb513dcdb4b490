-- What changesets do to tables, in examples: on the table t of columns a and b, with the key a.
use Rattle.std.proofs.Common.{◌≡◌, ◌≢◌, ℕ, suc, arith, pos, Bool, true, false, true≢false, not, cond, List, [], ◌∷◌, ◌++◌, map, length, filter_map, All, Option, Some, None, option_map, unwrap_or, codes, refl, sym, ap, ◌∙◌, subst}
use Rattle.std.specs.List.{cons_option, flat_map}
use Rattle.std.specs.Ordering.{nat_cmp, is_eq}
use Rattle.std.specs.Cmp.Lexicographic.{slice_cmp, nat_list_cmp_total}
use Rattle.std.specs.FinMap.{get, insert, empty, get-insert, get-empty}
use Rattle.std.proofs.lemmas.List.Elements.{All-nil}
use Rattle.cs_value.specs.declared.value.OwnedValue.{OwnedValue}
use Rattle.cs_value.specs.declared.value.OwnedField.TheVariants.{Undefined, Defined}
use Rattle.cs_value.specs.declared.value.OwnedValue.TheVariants.{Int, Text, Null}
use Rattle.cs_value.specs.Spelling.{value_bytes, field_bytes}
use Rattle.cs_value.specs.State.{SchemaData, IsRowAt, TableData, State, IsState, schema_at, row_at}
use Rattle.cs_value.proofs.Examples.{columns_are_schema}
use Rattle.cs_value.proofs.StateLemmas.{empty_table, table_insert, empty_state, state_insert}
use Rattle.cs_value.proofs.ByteMaps.{tied_bytes}
use Rattle.cs_wire_entries.specs.declared.entry.Change.{Change}
use Rattle.cs_wire_entries.specs.declared.entry.Change.TheVariants.{Insert, Delete, Update}
use Rattle.cs_wire.specs.Entry.{key_of}
use Rattle.cs_wire.specs.Changeset.{HeaderData, GroupData}
use Rattle.cs_wire.proofs.Examples.{one, flags, header, header_is, direct, group, one_change, one_change_of, x, y, row, row_is as row_has_values, row_is_keyed, update, idle_update, update_is_changeset}
use Rattle.cs_apply_conflict_kinds.specs.declared.judging.Judgement.{Judgement}
use Rattle.cs_apply_conflict_kinds.specs.declared.judging.Judgement.TheVariants.{Skipped, Wider, Compatible}
use Rattle.cs_apply_conflict_kinds.specs.declared.conflict.Kind.{Kind}
use Rattle.cs_apply_conflict_kinds.specs.declared.conflict.Kind.TheVariants.{Data, NotFound, Conflict, Constraint}
use Rattle.cs_apply_conflict_kinds.specs.declared.conflict.Choice.{Choice}
use Rattle.cs_apply_conflict_kinds.specs.declared.conflict.Choice.TheVariants.{Omit, Replace, Abort}
use Rattle.cs_apply_conflict_kinds.specs.declared.conflict.Noop.TheVariants.{Report, Ignore}
use Rattle.cs_group.specs.declared.merging.Merged.TheVariants.{Keep, Becomes}
use Rattle.cs_group.specs.Joining.{merged}
use Rattle.cs_apply_conflict_kinds.specs.Judging.{judgement, judged, is_skipped, is_compatible}
use Rattle.cs_apply_conflict_kinds.specs.Conflicts.{has_values, is_refused, conflict_kind, kinds_met, is_idle, row_after, is_carried_out, entry_result}
use Rattle.cs_apply_conflict_kinds.specs.Applying.{PlacedEntry, placed_by, placed, placed_result, current, refuses_at, refused_at, IsElsewhere, skipped, FirstWider, applicable, placed_kind, NoneWider, IsClean, Choices, met_with, met_at, met_under, written_for, written, written_under, ignored, ignored_of, heeded, heeded_of, AreApplied, IsApplied, omit_all}
use Rattle.cs_apply_conflict_kinds.proofs.ApplyLemmas.{applied_reverts}
use Rattle.cs_group.proofs.Examples.{update_and_back}

-- the rows (1, 'y') and (1, 'z')
abbrev later : List OwnedValue
later = Int (pos 1) ∷ y ∷ []

abbrev apart : List OwnedValue
apart = Int (pos 1) ∷ Text (codes "z") ∷ []

-- the row (2, 'q')
abbrev second_row : List OwnedValue
second_row = Int (pos 2) ∷ Text (codes "q") ∷ []

-- the row (1, NULL)
abbrev null_row : List OwnedValue
null_row = Int (pos 1) ∷ Null ∷ []

-- a row of three columns
abbrev wide : OwnedValue → List OwnedValue
wide middle = Int (pos 1) ∷ middle ∷ Text (codes "q") ∷ []

-- the update of 'x' to 'y' in the second of three columns
abbrev middle_update : Change
middle_update = Update (Defined (Int (pos 1)) ∷ Defined x ∷ Undefined ∷ []) (Undefined ∷ Defined y ∷ Undefined ∷ [])

-- the same choice for each kind of conflict
abbrev always : Choice → Kind → Choice
always choice kind = choice

-- the columns of t that refuse NULL, which are those of its key, and the columns of a table in which b refuses it too
abbrev refuses : List Bool
refuses = true ∷ false ∷ []

abbrev both_refuse : List Bool
both_refuse = true ∷ true ∷ []

-- ---- an entry and the row with its key

-- what a change meets in t, and what it leaves there
abbrev meets : Change → Option (List OwnedValue) → Option Kind
meets change row = conflict_kind (is_refused refuses flags change) change row

abbrev leaves : Change → Option (List OwnedValue) → (Kind → Choice) → Option (Option (List OwnedValue))
leaves change row choose = entry_result (is_refused refuses flags change) flags change row choose

-- the update of 'x' to 'y', its inverse, an update of 'x' to 'x' and one that modifies nothing meet no conflict at the
-- row that they say, and leave the new one, whatever the choice
update_meets : (choose : Kind → Choice) →
    (meets (update x y) (Some row) ≡ None)
    × (leaves (update x y) (Some row) choose ≡ Some (Some later))
    × (meets (update y x) (Some later) ≡ None)
    × (leaves (update y x) (Some later) choose ≡ Some (Some row))
    × (meets (update x x) (Some row) ≡ None)
    × (leaves (update x x) (Some row) choose ≡ Some (Some row))
    × (meets idle_update (Some row) ≡ None)
    × (row_after flags idle_update (Some row) ≡ Some row)
update_meets choose = (refl, refl, refl, refl, refl, refl, refl, refl)

-- if the row has another value, or there is no row, an update has a conflict
other_update_meets :
    (meets (update x y) (Some apart) ≡ Some Data)
    × (leaves (update x y) (Some apart) (always Replace) ≡ Some (Some later))
    × (meets idle_update None ≡ Some NotFound)
    × (meets (update x y) None ≡ Some NotFound)
    × (leaves (update x y) None (always Omit) ≡ Some None)
    -- NULL is such a value
    × (meets (update Null y) (Some null_row) ≡ None)
    × (meets (update Null y) (Some row) ≡ Some Data)
    -- the third column, which the update of the second does not say, stays
    × (conflict_kind false middle_update (Some (wide (Text (codes "z")))) ≡ Some Data)
    × (entry_result false (1 ∷ 0 ∷ 0 ∷ []) middle_update (Some (wide (Text (codes "z")))) (always Replace)
    ≡ Some (Some (wide y)))
other_update_meets = (refl, refl, refl, refl, refl, refl, refl, refl, refl)

insert_meets : (choose : Kind → Choice) →
    (meets (Insert second_row) None ≡ None)
    × (leaves (Insert second_row) None choose ≡ Some (Some second_row))
    -- (1, 'z') has the key of (1, 'x')
    × (meets (Insert row) (Some apart) ≡ Some Conflict)
    × (leaves (Insert row) (Some apart) (always Omit) ≡ Some (Some apart))
    × (leaves (Insert row) (Some apart) (always Replace) ≡ Some (Some row))
    × (leaves (Insert row) (Some apart) (always Abort) ≡ None)
insert_meets choose = (refl, refl, refl, refl, refl, refl)

delete_meets : (choose : Kind → Choice) →
    (leaves (Delete row) (Some row) choose ≡ Some None)
    -- if there is no row, there is nothing to replace
    × (meets (Delete row) None ≡ Some NotFound)
    × (leaves (Delete row) None (always Replace) ≡ None)
    × (leaves (Delete row) None (always Omit) ≡ Some None)
    -- (1, 'y') has another value
    × (meets (Delete row) (Some later) ≡ Some Data)
    × (leaves (Delete row) (Some later) (always Replace) ≡ Some None)
delete_meets choose = (refl, refl, refl, refl, refl, refl)

-- ---- a column that refuses NULL

-- what a change meets where b refuses NULL, one after another, and what it leaves there
abbrev meets_all : Change → Option (List OwnedValue) → (Kind → Choice) → List Kind
meets_all change row choose = kinds_met (is_refused both_refuse flags change) change row choose

abbrev leaves_all : Change → Option (List OwnedValue) → (Kind → Choice) → Option (Option (List OwnedValue))
leaves_all change row choose = entry_result (is_refused both_refuse flags change) flags change row choose

-- these choices replace a row, and pass over what breaks the rule
abbrev replace_row : Kind → Choice
replace_row Constraint = Omit
replace_row Conflict = Replace
replace_row Data = Replace
replace_row NotFound = Omit

-- an insert of (1, NULL) without a row breaks that rule; in t, where b may be NULL, it has no conflict
null_insert_meets :
    (meets_all (Insert null_row) None (always Replace) ≡ Constraint ∷ [])
    × (meets (Insert null_row) None ≡ None)
    -- it cannot be carried out all the same
    × (leaves_all (Insert null_row) None (always Omit) ≡ Some None)
    × (leaves_all (Insert null_row) None (always Replace) ≡ None)
    × (leaves_all (Insert null_row) None (always Abort) ≡ None)
    -- if (1, 'x') is there, it conflicts with that row, and in its place breaks the rule
    × (meets_all (Insert null_row) (Some row) (always Omit) ≡ Conflict ∷ [])
    × (meets_all (Insert null_row) (Some row) (always Replace) ≡ Conflict ∷ Constraint ∷ [])
    -- the choices for the two need not be one: where the second is passed over (1, 'x') stays
    × (leaves_all (Insert null_row) (Some row) replace_row ≡ Some (Some row))
null_insert_meets = (refl, refl, refl, refl, refl, refl, refl, refl)

-- an update of 'x' to NULL breaks the rule at (1, 'x'), and at (1, 'z') in place of the other value; without a row it
-- only finds none
null_update_meets :
    (meets_all (update x Null) (Some row) (always Replace) ≡ Constraint ∷ [])
    × (meets_all (update x Null) (Some apart) (always Omit) ≡ Data ∷ [])
    × (meets_all (update x Null) (Some apart) (always Replace) ≡ Data ∷ Constraint ∷ [])
    × (meets_all (update x Null) None (always Replace) ≡ NotFound ∷ [])
null_update_meets = (refl, refl, refl, refl)

-- an update that does not say b does not break it
idle_update_is_not_refused : (choose : Kind → Choice) → meets_all idle_update (Some row) choose ≡ []
idle_update_is_not_refused choose = refl

-- and a delete breaks none
deletes_break_none : (rules : List Bool) (old : List OwnedValue) → is_refused rules flags (Delete old) ≡ false
deletes_break_none rules old = refl

-- ---- changes that change nothing

-- a change is a no-op in t
abbrev idles : Change → Option (List OwnedValue) → Bool
idles change row = is_idle (is_refused refuses flags change) flags change row

-- an insert is a no-op at the row that it inserts, a delete without a row, and an update at the row that it makes
idle_changes :
    (idles (Insert row) (Some row) ≡ true)
    × (idles (Insert row) (Some apart) ≡ false)
    × (idles (Insert row) None ≡ false)
    × (idles (Delete row) None ≡ true)
    × (idles (Delete row) (Some later) ≡ false)
    × (idles (update x y) (Some later) ≡ true)
    × (idles (update x y) (Some row) ≡ false)
    × (idles (update x y) (Some apart) ≡ false)
    × (idles (update x y) None ≡ false)
    -- nor is an insert that a column refuses
    × (is_idle true flags (Insert null_row) None ≡ false)
idle_changes = (refl, refl, refl, refl, refl, refl, refl, refl, refl, refl)

-- ---- the columns of a group and of its table

tables_are_judged :
    (judgement flags None ≡ Skipped)
    -- a third column, which may be of the key
    × (judgement flags (Some (1 ∷ 0 ∷ 0 ∷ [])) ≡ Wider)
    × (judgement flags (Some (1 ∷ 0 ∷ 1 ∷ [])) ≡ Wider)
    -- another key, and no second column
    × (judgement flags (Some (0 ∷ 1 ∷ [])) ≡ Skipped)
    × (judgement flags (Some (1 ∷ [])) ≡ Skipped)
    × (judgement flags (Some flags) ≡ Compatible)
    -- any flag other than 0 marks a column of the key
    × ((mark : ℕ) → judgement (suc mark ∷ 0 ∷ []) (Some flags) ≡ Compatible)
tables_are_judged = (refl, refl, refl, refl, refl, refl, λ mark. refl)

-- ---- changesets and states

-- the key 1
abbrev key : List ℕ
key = 0x01 ∷ 0 ∷ 0 ∷ 0 ∷ 0 ∷ 0 ∷ 0 ∷ 0 ∷ 1 ∷ []

-- the columns of t, t with only this row, under the key 1, and the state with only that table, where these columns
-- refuse NULL
abbrev schema_by : List Bool → SchemaData
schema_by rules = record { columns = codes "a" ∷ codes "b" ∷ []; flags = flags; refuses = rules }

abbrev table_by : List Bool → List OwnedValue → TableData
table_by rules r = record { schema = schema_by rules; rows = insert empty key r }

abbrev state_by : List Bool → List OwnedValue → State
state_by rules r = insert empty (codes "t") (table_by rules r)

-- those where b may be NULL
abbrev schema : SchemaData
schema = schema_by refuses

abbrev state_of : List OwnedValue → State
state_of r = state_by refuses r

-- whether texts are one
abbrev is_text : List ℕ → List ℕ → Bool
is_text q k = is_eq (slice_cmp nat_cmp q k)

-- what a map of one entry has
single : {X : Type 0} (k : List ℕ) (v : X) (q : List ℕ) → get (insert (empty {K = List ℕ} {X = X} {R = slice_cmp nat_cmp}) k v) q ≡ cond (is_text q k) (Some v) None
single k v q = get-insert nat_list_cmp_total empty k v q ∙ ap (cond (is_text q k) (Some v)) (get-empty (slice_cmp nat_cmp) q)

-- what is looked up in a table, if there is one
abbrev schema_in : Option TableData → Option SchemaData
schema_in o = option_map (λ t. t.schema) o

abbrev row_in : Option TableData → List ℕ → Option (List OwnedValue)
row_in o q = get (unwrap_or (option_map (λ t. t.rows) o) empty) q

-- an entry of t
abbrev in_t : Change → PlacedEntry
in_t change = placed_by header (direct change)

-- what is said of a state, of its rules and of the row that an entry meets there
module _ (rules : List Bool) where
  -- the schemas of the state, and its rows
  schema_is : (r : List OwnedValue) (name : List ℕ) → schema_at (state_by rules r) name ≡ cond (is_text name (codes "t")) (Some (schema_by rules)) None
  schema_is r name = ap schema_in (single (codes "t") (table_by rules r) name) ∙ at (is_text name (codes "t"))
    where
      at : (b : Bool) → schema_in (cond b (Some (table_by rules r)) None) ≡ cond b (Some (schema_by rules)) None
      at true = refl
      at false = refl

  row_is : (r : List OwnedValue) (name q : List ℕ) → row_at (state_by rules r) name q ≡ cond (is_text name (codes "t")) (cond (is_text q key) (Some r) None) None
  row_is r name q = ap (λ o. row_in o q) (single (codes "t") (table_by rules r) name) ∙ at (is_text name (codes "t"))
    where
      at : (b : Bool) → row_in (cond b (Some (table_by rules r)) None) q ≡ cond b (cond (is_text q key) (Some r) None) None
      at true = single key r q
      at false = get-empty (slice_cmp nat_cmp) q

  -- changes of t are compatible
  t_is_compatible : (r : List OwnedValue) (change : Change) → judged (state_by rules r) (group (change ∷ [])) ≡ Compatible
  t_is_compatible r change = ap (λ (o : Option SchemaData). judgement flags (option_map (λ s. s.flags) o)) (schema_is r (codes "t"))

  t_is_applicable : (r : List OwnedValue) (change : Change) → applicable (state_by rules r) (one_change change) ≡ in_t change ∷ []
  t_is_applicable r change = ap (λ (j : Judgement). placed (cond (is_compatible j) (one_change change) [])) (t_is_compatible r change)

  -- a change of the row with key 1 meets it
  row_is_met : (r : List OwnedValue) (change : Change) → key_of flags change ≡ key → current (state_by rules r) (in_t change) ≡ Some r
  row_is_met r change same = ap (row_at (state_by rules r) (codes "t")) same ∙ row_is r (codes "t") key

  -- the columns of t are those
  rules_are : (r : List OwnedValue) → refuses_at (state_by rules r) (codes "t") ≡ rules
  rules_are r = ap (λ (o : Option SchemaData). unwrap_or (option_map (λ s. s.refuses) o) []) (schema_is r (codes "t"))

  -- so what is said of such a change, of the rules and of the row, is said of these
  module _ (r : List OwnedValue) (change : Change) (same : key_of flags change ≡ key) where
    in_state : {X : Type 0} (said : Bool → Option (List OwnedValue) → X)
        → said (refused_at (state_by rules r) (in_t change)) (current (state_by rules r) (in_t change)) ≡ said (is_refused rules flags change) (Some r)
    in_state said =
        ap (λ (found : List Bool). said (is_refused found flags change) (current (state_by rules r) (in_t change))) (rules_are r)
        ∙ ap (said (is_refused rules flags change)) (row_is_met r change same)

    -- as what it meets
    met_are : (choose : Choices) → met_under Report (state_by rules r) (one_change change) choose
        ≡ met_with (is_refused rules flags change) (in_t change) (Some r) (choose (in_t change)) ++ []
    met_are choose =
        ap (flat_map (met_at (state_by rules r) choose)) (t_is_applicable r change)
        ∙ in_state (λ refused row. met_with refused (in_t change) row (choose (in_t change)) ++ [])

-- no table is wider
none_wider : (r : List OwnedValue) (change : Change) → NoneWider (state_of r) (one_change change)
none_wider r change = one (λ g. judged (state_of r) g ≢ Wider) (group (change ∷ [])) (λ wider. let e = sym (t_is_compatible refuses r change) ∙ wider in cc)

-- the update of 'x' to 'y' meets no conflict where t has (1, 'x')
update_is_clean : IsClean (state_of row) (one_change (update x y))
unfolding value_bytes field_bytes
update_is_clean = record {
  none_wider = none_wider row (update x y);
  no_conflict = subst (All MeetsNone) (sym (t_is_applicable refuses row (update x y))) (one MeetsNone (in_t (update x y)) (in_state refuses row (update x y) refl (λ refused o. conflict_kind refused (update x y) o)));
}
  where
    MeetsNone : PlacedEntry → Type 0
    MeetsNone p = placed_kind (state_of row) p ≡ None

-- and makes the state in which t has (1, 'y')
update_is_applied : (choose : Choices) → IsApplied (state_of row) (one_change (update x y)) choose (state_of later)
unfolding value_bytes field_bytes
update_is_applied choose =
    subst (λ (ps : List PlacedEntry). AreApplied (state_of row) ps choose (state_of later)) (sym (t_is_applicable refuses row (update x y))) (record {
      schemas = λ table. schema_is refuses later table ∙ sym (schema_is refuses row table);
      results = one (λ p. placed_result (state_of row) choose p ≡ Some (current (state_of later) p)) (in_t (update x y)) result;
      others = λ table k elsewhere. row_is refuses later table k ∙ other table k (elsewhere 0 (in_t (update x y)) (omega arith)) (is_text table (codes "t")) (is_text k key) refl refl ∙ sym (row_is refuses row table k);
    })
  where
    result : placed_result (state_of row) choose (in_t (update x y)) ≡ Some (current (state_of later) (in_t (update x y)))
    result =
        in_state refuses row (update x y) refl (λ refused o. entry_result refused flags (update x y) o (choose (in_t (update x y))))
        ∙ ap Some (sym (row_is_met refuses later (update x y) refl))

    other : (table k : List ℕ) → IsElsewhere (in_t (update x y)) table k → (b c : Bool) → is_text table (codes "t") ≡ b → is_text k key ≡ c
        → cond b (cond c (Some later) None) None ≡ cond b (cond c (Some row) None) None
    other table k elsewhere true true t is = absurd (elsewhere (sym (tied_bytes table (codes "t") t), sym (tied_bytes k key is)))
    other table k elsewhere true false t is = refl
    other table k elsewhere false c t is = refl

-- the first is a state
row_stands : IsRowAt schema key row
unfolding value_bytes
row_stands = record { values = row_has_values; keyed = row_is_keyed; obeys = refl; own = refl }

state_is_one : IsState (state_of row)
state_is_one =
    state_insert empty (codes "t") (table_by refuses row) empty_state header_is.name
    (table_insert (record { schema = schema; rows = empty }) key row (empty_table schema (columns_are_schema false))
    row_stands)

-- in which the inverse meets no conflict, and from which it makes the first
update_is_undone : (choose : Choices) → IsClean (state_of later) (one_change (update y x)) × IsApplied (state_of later) (one_change (update y x)) choose (state_of row)
update_is_undone choose = applied_reverts (state_of row) (one_change (update x y)) (one_change (update y x)) omit_all choose (state_of later) state_is_one update_is_changeset update_and_back update_is_clean (update_is_applied omit_all)

-- the key 1 is reported as written, with the previous row
update_tells_former : (choose : Choices) → written (state_of row) (one_change (update x y)) choose ≡ record { table = codes "t"; key = key; former = Some row } ∷ []
unfolding value_bytes field_bytes
update_tells_former choose =
    ap (filter_map (written_for (state_of row) choose)) (t_is_applicable refuses row (update x y))
    ∙ in_state refuses row (update x y) refl (λ refused o.
    cons_option (cond (is_carried_out (kinds_met refused (update x y) o (choose (in_t (update x y)))) (choose (in_t (update x y)))) (Some (record { table = codes "t"; key = key; former = o })) None) [])

-- an insert of (1, 'x') where t has (1, 'z') meets that row
insert_meets_row : (choose : Choices) → met_under Report (state_of apart) (one_change (Insert row)) choose
    ≡ record {
      conflict = record { kind = Conflict; table = codes "t"; entry = direct (Insert row); current = Some apart };
      choice = choose (in_t (Insert row)) Conflict;
    } ∷ []
unfolding value_bytes field_bytes
insert_meets_row choose = met_are refuses apart (Insert row) refl choose

-- an insert of (1, NULL) where t has (1, 'x') and b refuses NULL meets that row, and in its place breaks the rule
insert_meets_two : met_under Report (state_by both_refuse row) (one_change (Insert null_row)) (λ p. always Replace)
    ≡ record {
      conflict = record { kind = Conflict; table = codes "t"; entry = direct (Insert null_row); current = Some row };
      choice = Replace;
    } ∷ record {
      conflict = record { kind = Constraint; table = codes "t"; entry = direct (Insert null_row); current = Some row };
      choice = Replace;
    } ∷ []
unfolding value_bytes field_bytes
insert_meets_two = met_are both_refuse row (Insert null_row) refl (λ p. always Replace)

-- the update of 'x' to 'y' is ignored where t has (1, 'y') already
update_is_ignored : ignored Ignore (state_of later) (one_change (update x y)) ≡ 1
unfolding value_bytes field_bytes
update_is_ignored =
    ap (λ (ps : List PlacedEntry). length (ignored_of Ignore (state_of later) ps)) (t_is_applicable refuses later (update x y))
    ∙ in_state refuses later (update x y) refl (λ refused o. length (cond (is_idle refused flags (update x y) o) (in_t (update x y) ∷ []) []))

-- where no-ops are reported, it is not
update_is_reported : ignored Report (state_of later) (one_change (update x y)) ≡ 0
update_is_reported = refl

-- an ignored update asks for no choice and writes nothing
none_is_heeded : heeded Ignore (state_of later) (one_change (update x y)) ≡ []
unfolding value_bytes field_bytes
none_is_heeded =
    ap (heeded_of Ignore (state_of later)) (t_is_applicable refuses later (update x y))
    ∙ in_state refuses later (update x y) refl (λ refused o. cond (not (is_idle refused flags (update x y) o)) (in_t (update x y) ∷ []) [])

ignored_meets_none : (choose : Choices) → met_under Ignore (state_of later) (one_change (update x y)) choose ≡ []
ignored_meets_none choose = ap (flat_map (met_at (state_of later) choose)) none_is_heeded

ignored_writes_none : (choose : Choices) → written_under Ignore (state_of later) (one_change (update x y)) choose ≡ []
ignored_writes_none choose = ap (filter_map (written_for (state_of later) choose)) none_is_heeded

-- the table t with only the column a
abbrev header_a : HeaderData
header_a = record { name = codes "t"; flags = 1 ∷ [] }

-- changes of only the column a find the table wider
a_alone_is_wider : FirstWider (state_of row) (one_change_of header_a (Insert (Int (pos 1) ∷ []))) 0
a_alone_is_wider = record {
  within = omega arith;
  before = All-nil (λ g. judged (state_of row) g ≢ Wider);
  wider = λ d. ap (λ (o : Option SchemaData). judgement header_a.flags (option_map (λ s. s.flags) o)) (schema_is refuses row (codes "t"));
}

-- ---- a table z that is not there

-- an insert of (1, 'x') into it
abbrev header_z : HeaderData
header_z = record { name = codes "z"; flags = flags }

abbrev group_z : GroupData
group_z = record { header = header_z; entries = direct (Insert row) ∷ [] }

-- it is passed over
z_is_skipped : judged (state_of row) group_z ≡ Skipped
z_is_skipped = ap (λ (o : Option SchemaData). judgement flags (option_map (λ s. s.flags) o)) (schema_is refuses row (codes "z"))

-- its name is reported
z_is_told : skipped (state_of row) (one_change_of header_z (Insert row)) ≡ codes "z" ∷ []
z_is_told = ap (λ (j : Judgement). map (λ g. g.header.name) (cond (is_skipped j) (group_z ∷ []) [])) z_is_skipped

-- and its changes meet no conflict
z_meets_none : (choose : Choices) → met_under Report (state_of row) (one_change_of header_z (Insert row)) choose ≡ []
z_meets_none choose = ap (λ (j : Judgement). flat_map (met_at (state_of row) choose) (placed (cond (is_compatible j) (group_z ∷ []) []))) z_is_skipped

-- ---- the join of two entries of one key

-- the insert of (1, 'x') and the update of 'x' to 'y' become the insert of (1, 'y'), which meets no conflict where the
-- first meets none, and leaves what the second leaves
joined_later :
    (merged flags (direct (Insert row)) (direct (update x y)) ≡ Becomes (direct (Insert later)))
    × (meets (Insert later) None ≡ None)
    × (row_after flags (Insert later) None ≡ row_after flags (update x y) (row_after flags (Insert row) None))
joined_later = (refl, refl, refl)

-- where the second meets a conflict the first stays
joined_first :
    (merged flags (direct (Insert row)) (direct (Insert later)) ≡ Keep)
    × (meets (Insert later) (row_after flags (Insert row) None) ≡ Some Conflict)
joined_first = (refl, refl)

-- and then leaves another row than both, the second in place of the previous one
joined_leaves_other : leaves (Insert later) (row_after flags (Insert row) None) (always Replace) ≢ Some (row_after flags (Insert row) None)
joined_leaves_other = λ e. true≢false (sym (ap (λ (o : Option (Option (List OwnedValue))). has_values (unwrap_or (unwrap_or o None) []) (map Defined row)) e))
