-- The law of net changes, line by line.
use Rattle.std.proofs.Common.{bytes_eq, ◌≡◌, ◌≢◌, inl, inr, ℕ, Bool, true, false, cond, not, List, [], ◌∷◌, map, Option, Some, None, option_map, Result, Ok, Err, refl, sym, ap, subst, ◌∙◌, arith}
use Rattle.std.specs.Prelude.{IfSome, unwrap_or}
use Rattle.std.specs.List.{AllByRecursion}
use Rattle.std.specs.FinMap.{get, empty, get-insert}
use Rattle.std.specs.Cmp.Lexicographic.{nat_list_cmp_total}
use Rattle.std.proofs.lemmas.Option.{none-some}
use Rattle.std.proofs.lemmas.List.Elements.{recursion_from_All, All-from_recursion, All-push}
use Rattle.std.proofs.lemmas.List.Quantifiers.{all_pairs_push}
use Rattle.cs_value.specs.declared.value.OwnedValue.{OwnedValue}
use Rattle.cs_value.specs.Key.{row_key}
use Rattle.cs_value.specs.State.{SchemaData, TableData, State, WrittenData, schema_at, rows_at, written_at, with_rows, with_table, with_row, without_row}
use Rattle.cs_value.proofs.ListLemmas.{PairsByRecursion, recursion_from_AllPairs, AllPairs-from_recursion}
use Rattle.cs_value.proofs.StateLemmas.{table_of_schema}
use Rattle.cs_rows.specs.declared.fault.StoreError.{StoreError}
use Rattle.cs_rows.specs.declared.fault.StoreError.TheVariants.{KeyTaken, NoRow}
use Rattle.cs_rows.proofs.WrittenRows.{same_schemas, rows_here, rows_other}
use Rattle.cs_store.specs.Editing.{Edited, row_fault, unless, has_row, when, inserted_in, moved, updated_in, deleted_in, found_table, inserted, updated, deleted}
use Rattle.cs_apply_conflict_kinds.specs.declared.conflict.Noop.{Noop}
use Rattle.cs_apply_conflict_kinds.specs.declared.conflict.Noop.TheVariants as noop
use Rattle.cs_apply_conflict_kinds.specs.Applying.{written_under}
use Rattle.cs_apply_conflict_kinds.proofs.ApplyLemmas.{written_tells}
use Rattle.cs_apply_engine.specs.declared.running.Direction.{Direction}
use Rattle.cs_apply_engine.specs.declared.running.Direction.TheVariants.{Forward, Inverse}
use Rattle.cs_apply_engine.specs.declared.report.Summary.{Summary}
use Rattle.cs_apply_engine.specs.Running.{Handler, AppliesCounted, AlwaysAborts}
use Rattle.cs_apply_engine.specs.Steps.{with_result}
use Rattle.cs_apply_engine.proofs.WriteLemmas.{result_schemas, result_elsewhere}
use Rattle.cs_session.proofs.RewoundLemmas.{other_name}
use Rattle.cs_shell_grammar.specs.Commands.{CommandData, AssignmentData}
use Rattle.cs_shell_columns.specs.Rows.{with_assigned}
use Rattle.cs_shell_replies.specs.Replies.{Reply}
use Rattle.cs_shell_executor.specs.ShellState.{SessionTable, SessionTables, ShellState, touch, written_to, put_back}
use Rattle.cs_shell_executor.specs.LineAnswers.{CreateGives, unknown_key, declared, not_declared, declared_schema, EditGives, UpdateGives, not_updated, no_row, updates_row, DeleteGives, not_deleted, deletes_row}
use Rattle.cs_shell_executor.specs.LineAnswers.{ApplyGives, applied, not_applied, ByKind, RevertGives, WithSlot, with_session, WithSession, OpenGives, AttachGives, attached, already, no_table, ChangesetGives, IsEmptyGives, UndoGives, CloseGives}
use Rattle.cs_shell_executor.specs.LineAnswers.{CommandGives, created, inserts, updates, deletes, selects, on_slots, applies, reverts, opens, attaches, changes, tells_empty, undoes, closes, unable, LineGives, not_text, nothing, malformed, answered, unanswered}
use Rattle.cs_shell_script.specs.Net.{IsTracked, AreTracked, HasNet, LinesLead, NetOfTouched}
use Rattle.cs_shell_script.proofs.NetLemmas.{OnlyWrites, touched_tracked, same_tracked, back_tracked, new_tracked}

-- ---- edits

-- an edit that is carried out changes no other rows than it reports
abbrev IfEdited : State → Result Edited StoreError → Type 0
IfEdited old (Ok done) = OnlyWrites old done.state done.written
IfEdited old (Err e) = Unit {0}

if_unless : (old : State) (refusal : Option StoreError) (next : Result Edited StoreError) → IfEdited old next → IfEdited old (unless refusal next)
if_unless old None next h = h
if_unless old (Some e) next h = tt

module _ (state : State) (name : List ℕ) (found : TableData) (is : get state name ≡ Some found) where
  -- one write
  one : (key : List ℕ) (row : Option (List OwnedValue)) → OnlyWrites state (with_result state name key row) (written_at state name key ∷ [])
  one key row = record {
    schemas = result_schemas state name found key row is;
    others = λ table q apart. result_elsewhere state name found key row is table q apart.0;
  }

  -- a row that gets another key
  two : (key next : List ℕ) (row : List OwnedValue)
      → OnlyWrites state (with_row (without_row state name key) name next row) (written_at state name key ∷ written_at state name next ∷ [])
  two key next row =
      let mid = without_row state name key in
      let mid_found = table_of_schema (get mid name) found.schema (result_schemas state name found key None is name ∙ ap (option_map (λ (t : TableData). t.schema)) is) in
      record {
        schemas = λ table. result_schemas mid name mid_found.0 next (Some row) mid_found.1 table ∙ result_schemas state name found key None is table;
        others = λ table q apart.
            result_elsewhere mid name mid_found.0 next (Some row) mid_found.1 table q apart.1.0 ∙ result_elsewhere state name found key None is table q apart.0;
      }

  insert_only : (row : List OwnedValue) → IfEdited state (inserted_in state name found row)
  insert_only row =
      let key = row_key found.schema.flags row in
      let done = Ok (record { state = with_row state name key row; written = written_at state name key ∷ [] }) in
      if_unless state (row_fault found.schema row) (unless (when (has_row state name key) KeyTaken) done)
      (if_unless state (when (has_row state name key) KeyTaken) done (one key (Some row)))

  delete_only : (key : List ℕ) → IfEdited state (deleted_in state name key)
  delete_only key = if_unless state (when (not (has_row state name key)) NoRow) (Ok (record { state = without_row state name key; written = written_at state name key ∷ [] })) (one key None)

  moves : (key next : List ℕ) (row : List OwnedValue) → IfEdited state (moved state name key next row)
  moves key next row =
      if_unless state (when (has_row state name next) KeyTaken)
      (Ok (record { state = with_row (without_row state name key) name next row; written = written_at state name key ∷ written_at state name next ∷ [] })) (two key next row)

  stays_or_moves : (b : Bool) (key next : List ℕ) (row : List OwnedValue)
      → IfEdited state (cond b (Ok (record { state = with_row state name key row; written = written_at state name key ∷ [] })) (moved state name key next row))
  stays_or_moves true key next row = one key (Some row)
  stays_or_moves false key next row = moves key next row

  update_only : (key : List ℕ) (row : List OwnedValue) → IfEdited state (updated_in state name found key row)
  update_only key row =
      let next = row_key found.schema.flags row in
      let done = cond (bytes_eq key next) (Ok (record { state = with_row state name key row; written = written_at state name key ∷ [] })) (moved state name key next row) in
      if_unless state (row_fault found.schema row) (unless (when (not (has_row state name key)) NoRow) done)
      (if_unless state (when (not (has_row state name key)) NoRow) done (stays_or_moves (bytes_eq key next) key next row))

in_found : (state : State) (o : Option TableData) (next : TableData → Result Edited StoreError) → ((found : TableData) → o ≡ Some found → IfEdited state (next found))
    → IfEdited state (found_table o next)
in_found state None next h = tt
in_found state (Some found) next h = h found refl

inserted_only : (state : State) (name : List ℕ) (row : List OwnedValue) → IfEdited state (inserted state name row)
inserted_only state name row = in_found state (get state name) _ (λ found is. insert_only state name found is row)

updated_only : (state : State) (name key : List ℕ) (row : List OwnedValue) → IfEdited state (updated state name key row)
updated_only state name key row = in_found state (get state name) _ (λ found is. update_only state name found is key row)

deleted_only : (state : State) (name key : List ℕ) → IfEdited state (deleted state name key)
deleted_only state name key = in_found state (get state name) _ (λ found is. delete_only state name found is key)

-- ---- applies

applied_only : (chooses : Handler) (noop : Noop) (file : List ℕ) (direction : Direction) (old new : State) (summary : Summary) (counts : AppliesCounted chooses noop file direction old summary new)
    → OnlyWrites old new counts.writes
applied_only chooses noop file direction old new summary counts =
    let done = counts.applies in
    let tells = written_tells noop old done.changeset done.choose new done.applied in
    rw done.written (record {
      schemas = done.applied.schemas;
      others = λ table key apart. tells.others table key (All-from_recursion (λ (w : WrittenData). ¬ ((w.table ≡ table) × (w.key ≡ key))) (written_under noop old done.changeset done.choose) apart);
    })

-- ---- the tables of a session

abbrev Apart : SessionTable → SessionTable → Type 0
Apart s t = s.name ≢ t.name

-- names stay
touched_apart : (written : List WrittenData) (s : SessionTable) (session : SessionTables) → AllByRecursion (Apart s) session → AllByRecursion (Apart (touch written s)) (map (touch written) session)
touched_apart written s [] apart = tt
touched_apart written s (t ∷ session) apart = (apart.0, touched_apart written s session apart.1)

all_apart : (written : List WrittenData) (session : SessionTables) → PairsByRecursion Apart session → PairsByRecursion Apart (map (touch written) session)
all_apart written [] apart = tt
all_apart written (t ∷ session) apart = (touched_apart written t session apart.0, all_apart written session apart.1)

all_touched : (old new : State) (written : List WrittenData) → OnlyWrites old new written → (session : SessionTables) → AllByRecursion (IsTracked old) session → AllByRecursion (IsTracked new) (map (touch written) session)
all_touched old new written only [] each = tt
all_touched old new written only (t ∷ session) each = (touched_tracked old new written only t each.0, all_touched old new written only session each.1)

-- writes are noted
writes_net : (old : ShellState) (new : State) (written : List WrittenData) → OnlyWrites old.tables new written → HasNet old → HasNet (written_to old new written)
writes_net old new written only is = at old.session is
  where
    at : (o : Option SessionTables) → IfSome o (AreTracked old.tables) → IfSome (option_map (map (touch written)) o) (AreTracked new)
    at None is = tt
    at (Some session) is = record {
      apart = AllPairs-from_recursion Apart (map (touch written) session) (all_apart written session (recursion_from_AllPairs Apart session is.apart));
      each = All-from_recursion (IsTracked new) (map (touch written) session) (all_touched old.tables new written only session (recursion_from_All (IsTracked old.tables) session is.each));
    }

-- ---- a table is declared

module _ (state : State) (name : List ℕ) (schema : SchemaData) (free : get state name ≡ None) where
  abbrev more : State
  more = with_table state name schema

  -- the others stay
  stays : (table : List ℕ) (s : SchemaData) → schema_at state table ≡ Some s → get more table ≡ get state table
  stays table s there = get-insert nat_list_cmp_total state name (record { schema = schema; rows = _ }) table ∙ rw (other_name table name apart) refl
    where
      apart : ¬ (name ≡ table)
      apart same = none-some s (sym (ap (option_map (λ (t : TableData). t.schema)) (subst (λ (n : List ℕ). get state n ≡ None) same free)) ∙ there)

  stays_tracked : (table : SessionTable) → IsTracked state table → IsTracked more table
  stays_tracked table is =
      let here = stays table.name table.schema is.found in
      same_tracked state more table (ap (option_map (λ (t : TableData). t.schema)) here) (ap (λ (o : Option TableData). unwrap_or (option_map (λ (t : TableData). t.rows) o) empty) here) is

  all_stay : (session : SessionTables) → AllByRecursion (IsTracked state) session → AllByRecursion (IsTracked more) session
  all_stay [] each = tt
  all_stay (t ∷ session) each = (stays_tracked t each.0, all_stay session each.1)

  declared_net : (o : Option SessionTables) → IfSome o (AreTracked state) → IfSome o (AreTracked more)
  declared_net None is = tt
  declared_net (Some session) is = record {
    apart = is.apart;
    each = All-from_recursion (IsTracked more) session (all_stay session (recursion_from_All (IsTracked state) session is.each));
  }

-- ---- the tables are put back

module _ (state : State) where
  back_schemas : (session : SessionTables) → AllByRecursion (IsTracked state) session → (name : List ℕ) → schema_at (put_back session state) name ≡ schema_at state name
  back_schemas [] each name = refl
  back_schemas (t ∷ session) each name =
      let there = table_of_schema (get (put_back session state) t.name) t.schema (back_schemas session each.1 t.name ∙ each.0.found) in
      same_schemas (put_back session state) t.name there.0 t.saved there.1 name ∙ back_schemas session each.1 name

  abbrev IsBack : State → SessionTable → Type 0
  IsBack new t = rows_at new t.name ≡ t.saved

  others_back : (t : SessionTable) (mid : State) (there : TableData) (is : get mid t.name ≡ Some there) (session : SessionTables) → AllByRecursion (Apart t) session
      → AllByRecursion (IsBack mid) session → AllByRecursion (IsBack (with_rows mid t.name t.saved)) session
  others_back t mid there is [] apart back = tt
  others_back t mid there is (s ∷ session) apart back = (
    rows_other mid t.name there t.saved is s.name (other_name s.name t.name apart.0) ∙ back.0,
    others_back t mid there is session apart.1 back.1,
  )

  all_back : (session : SessionTables) → AllByRecursion (IsTracked state) session → PairsByRecursion Apart session → AllByRecursion (IsBack (put_back session state)) session
  all_back [] each apart = tt
  all_back (t ∷ session) each apart =
      let mid = put_back session state in
      let there = table_of_schema (get mid t.name) t.schema (back_schemas session each.1 t.name ∙ each.0.found) in (
        rows_here mid t.name there.0 t.saved there.1,
        others_back t mid there.0 there.1 session apart.0 (all_back session each.1 apart.1),
      )

  each_back : (new : State) → ((name : List ℕ) → schema_at new name ≡ schema_at state name) → (session : SessionTables) → AllByRecursion (IsTracked state) session
      → AllByRecursion (IsBack new) session → AllByRecursion (IsTracked new) session
  each_back new schemas [] each back = tt
  each_back new schemas (t ∷ session) each back = (back_tracked state new t (schemas t.name) back.0 each.0, each_back new schemas session each.1 back.1)

  back_net : (session : SessionTables) → AreTracked state session → AreTracked (put_back session state) session
  back_net session is =
      let each = recursion_from_All (IsTracked state) session is.each in
      let new = put_back session state in
      record {
        apart = is.apart;
        each = All-from_recursion (IsTracked new) session (each_back new (back_schemas session each) session each (all_back session each (recursion_from_AllPairs Apart session is.apart)));
      }

-- ---- commands

-- nothing changed
same_net : (old new : ShellState) → HasNet old → new ≡ old → HasNet new
same_net old new is same = subst HasNet (sym same) is

create_net : (old new : ShellState) (name : List ℕ) (columns : List (List ℕ)) (refuses : List Bool) (keys : List (List ℕ)) (reply : Reply)
    → HasNet old → CreateGives old name columns refuses keys reply new → HasNet new
create_net old new name columns refuses keys reply is (unknown_key why) = is
create_net old new name columns refuses keys reply is (declared tables are done) =
    subst (λ (t : State). HasNet (record old { tables = t })) (sym done.2) (declared_net old.tables name (declared_schema columns refuses keys) done.1 old.session is)
create_net old new name columns refuses keys reply is (not_declared error are why) = is

edit_net : (old new : ShellState) (outcome : Result Edited StoreError) (reply : Reply) → IfEdited old.tables outcome → HasNet old → EditGives old outcome reply new → HasNet new
edit_net old new (Ok done) reply only is gives = same_net (written_to old done.state done.written) new (writes_net old done.state done.written only is) gives.1
edit_net old new (Err error) reply only is gives = same_net old new is gives.1

update_net : (old new : ShellState) (name : List ℕ) (sets conditions : List AssignmentData) (reply : Reply) → HasNet old → UpdateGives old name sets conditions reply new → HasNet new
update_net old new name sets conditions reply is (not_updated why finds) = is
update_net old new name sets conditions reply is (no_row target finds none) = is
update_net old new name sets conditions reply is (updates_row target row answer next finds there gives) =
    edit_net old next (updated old.tables name target.key (with_assigned sets target.schema.columns row)) answer (updated_only old.tables name target.key (with_assigned sets target.schema.columns row)) is gives

delete_net : (old new : ShellState) (name : List ℕ) (conditions : List AssignmentData) (reply : Reply) → HasNet old → DeleteGives old name conditions reply new → HasNet new
delete_net old new name conditions reply is (not_deleted why finds) = is
delete_net old new name conditions reply is (deletes_row target answer next finds gives) =
    edit_net old next (deleted old.tables name target.key) answer (deleted_only old.tables name target.key) is gives

apply_net : (old : ShellState) (chooses : Handler) (noop : Noop) (file : List ℕ) (direction : Direction) (new : ShellState) (reply : Reply) → HasNet old → ApplyGives old chooses noop file direction reply new → HasNet new
apply_net old chooses noop file direction new reply is (applied summary tables done) =
    writes_net old tables done.writes (applied_only chooses noop file direction old.tables tables summary done) is
apply_net old chooses noop file direction new reply is (not_applied fault why) = is

-- what is done with the bytes of a slot
slot_net : (old new : ShellState) (slot : List ℕ) (Gives : List ℕ → Reply → ShellState → Type 0) (reply : Reply) → ((file : List ℕ) → Gives file reply new → HasNet new)
    → HasNet old → WithSlot old slot Gives reply new → HasNet new
slot_net old new slot Gives reply goes is (inl empty) = same_net old new is empty.2
slot_net old new slot Gives reply goes is (inr filled) = goes filled.0 filled.2

-- what is done with the session
session_net : (old new : ShellState) (Gives : SessionTables → Reply → ShellState → Type 0) (reply : Reply) → ((session : SessionTables) → AreTracked old.tables session → Gives session reply new → HasNet new)
    → HasNet old → WithSession old Gives reply new → HasNet new
session_net old new Gives reply goes is (inl none) = same_net old new is none.2
session_net old new Gives reply goes is (inr some) =
    goes some.0 (subst (λ (o : Option SessionTables). IfSome o (AreTracked old.tables)) some.1 is) some.2

open_net : (old new : ShellState) (reply : Reply) → HasNet old → OpenGives old reply new → HasNet new
open_net old new reply is (inl opened) = same_net (with_session old (Some [])) new (record { apart = λ i j d lt within. absurd (omega arith); each = λ k d lt. absurd (omega arith) }) opened.2
open_net old new reply is (inr refused) = same_net old new is refused.2

attach_net : (old new : ShellState) (name : List ℕ) (session : SessionTables) (reply : Reply) → HasNet old → AreTracked old.tables session → AttachGives old name session reply new → HasNet new
attach_net old new name session reply before is (attached schema fresh there) = record {
  apart = all_pairs_push Apart session (record { name = name; schema = schema; saved = rows_at old.tables name; touched = [] }) is.apart fresh;
  each = All-push (IsTracked old.tables) session (record { name = name; schema = schema; saved = rows_at old.tables name; touched = [] }) is.each (new_tracked old.tables name schema there);
}
attach_net old new name session reply before is (already any) = before
attach_net old new name session reply before is (no_table fresh none) = before

undo_net : (old new : ShellState) (session : SessionTables) (reply : Reply) → old.session ≡ Some session → AreTracked old.tables session → UndoGives old session reply new → HasNet new
undo_net old new session reply opened is gives =
    same_net (record { tables = put_back session old.tables; slots = old.slots; session = old.session }) new
    (subst (λ (o : Option SessionTables). IfSome o (AreTracked (put_back session old.tables))) (sym opened) (back_net old.tables session is)) gives.1

command_net : (old new : ShellState) (command : CommandData) (reply : Reply) → HasNet old → CommandGives old command reply new → HasNet new
command_net old new command reply is (created name columns refuses keys answer next gives) = create_net old next name columns refuses keys answer is gives
command_net old new command reply is (inserts table values answer next gives) = edit_net old next (inserted old.tables table values) answer (inserted_only old.tables table values) is gives
command_net old new command reply is (updates table sets conditions answer next gives) = update_net old next table sets conditions answer is gives
command_net old new command reply is (deletes table conditions answer next gives) = delete_net old next table conditions answer is gives
command_net old new command reply is (selects table answer next gives) = same_net old next is gives.0
command_net old new command reply is (on_slots slotted answer slots gives) = is
command_net old new command reply is (applies slot on_data on_notfound on_conflict on_constraint noop answer next gives) =
    slot_net old next slot (λ file. ApplyGives old (ByKind on_data on_notfound on_conflict on_constraint) noop file Forward) answer
    (λ file given. apply_net old (ByKind on_data on_notfound on_conflict on_constraint) noop file Forward next answer is given) is gives
command_net old new command reply is (reverts slot answer next gives) =
    slot_net old next slot (RevertGives old) answer (λ file given. apply_net old AlwaysAborts noop.Report file Inverse next answer is given) is gives
command_net old new command reply is (opens answer next gives) = open_net old next answer is gives
command_net old new command reply is (attaches table answer next gives) =
    session_net old next (AttachGives old table) answer (λ session tracked given. attach_net old next table session answer is tracked given) is gives
command_net old new command reply is (changes slot answer next gives) =
    session_net old next (ChangesetGives old slot) answer (λ session tracked given. same_net _ next is given.1) is gives
command_net old new command reply is (tells_empty answer next gives) =
    session_net old next (IsEmptyGives old) answer (λ session tracked given. same_net old next is given.0) is gives
command_net old new command reply is (undoes answer next (inl none)) = same_net old next is none.2
command_net old new command reply is (undoes answer next (inr some)) =
    undo_net old next some.0 answer some.1 (subst (λ (o : Option SessionTables). IfSome o (AreTracked old.tables)) some.1 is) some.2
command_net old new command reply is (closes answer next gives) =
    session_net old next (CloseGives old) answer (λ session tracked given. same_net (with_session old None) next tt given.1) is gives
command_net old new command reply is (unable refused why resource) = is

-- ---- lines

line_net : (old new : ShellState) (line : List ℕ) (reply : Reply) → HasNet old → LineGives old line reply new → HasNet new
line_net old new line reply is (not_text state text bad) = is
line_net old new line reply is (nothing state text utf8 blank) = is
line_net old new line reply is (malformed state text fault utf8 some unspelled low high) = is
line_net old new line reply is (answered before text command answer after utf8 spelled gives) = command_net before after command answer is gives
line_net old new line reply is (unanswered state text why resource) = is

lines_net : (old new : ShellState) (lines : List (List ℕ)) → HasNet old → LinesLead old lines new → HasNet new
lines_net old new [] is lead = same_net old new is lead
lines_net old new (line ∷ lines) is lead = lines_net lead.1 new lines (line_net old lead.1 line lead.0 is lead.2) lead.3

start_net : (state : ShellState) → state.session ≡ None → HasNet state
start_net state none = subst (λ (o : Option SessionTables). IfSome o (AreTracked state.tables)) (sym none) tt

-- the net changes of a session are those of whole tables
pub net_of_touched : NetOfTouched
net_of_touched = record {
  start = start_net;
  line = line_net;
  lines = λ old new lines none lead. lines_net old new lines (start_net old none) lead;
}
