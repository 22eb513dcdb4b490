-- The join of the net changes from a state to a second, and from there to a third.
use Rattle.std.proofs.Common.{◌≡◌, ℕ, zero, suc, false, List, [], ◌∷◌, get_or, map, All, Option, Some, None, option_map, refl, sym, ap, ◌∙◌}
use Rattle.std.specs.Prelude.{IfSome}
use Rattle.std.specs.Cmp.Lexicographic.{pointwise}
use Rattle.std.proofs.lemmas.Option.{none-some, same_Some}
use Rattle.cs_value.specs.declared.value.OwnedValue.{OwnedValue}
use Rattle.cs_value.specs.declared.value.OwnedField.{OwnedField}
use Rattle.cs_value.specs.declared.value.OwnedField.TheVariants.{Undefined, Defined}
use Rattle.cs_value.specs.State.{SchemaData, State, IsState, schema_at, row_at}
use Rattle.cs_value.proofs.StateLemmas.{row_at_fits}
use Rattle.cs_wire_entries.specs.declared.entry.Change.{Change}
use Rattle.cs_wire_entries.specs.declared.entry.Change.TheVariants.{Insert, Delete, Update}
use Rattle.cs_wire_entries.specs.declared.entry.Entry.{Entry}
use Rattle.cs_wire.specs.Entry.{IsChange, with_key, before_image}
use Rattle.cs_wire.specs.Changeset.{HeaderData, GroupData, IsGroup, IsChangeset}
use Rattle.cs_apply_conflict_kinds.specs.declared.conflict.Kind.TheVariants.{NotFound, Conflict}
use Rattle.cs_group.specs.Net.{is_same, unless_same, by_flag, by_column, old_record, new_record, net_between, net_change, net_row_change, net_entry}
use Rattle.cs_apply_conflict_kinds.specs.Conflicts.{has_values, filled, kind_between, row_after}
use Rattle.cs_group.specs.Joining.{laid_over, joint_image, becomes, entry_key, table_name, with_text, outcome, left_of, joined_entry, joined_entries, some_group, joined_group, joined, key_marks, AreJoinable}
use Rattle.cs_apply_conflict_kinds.specs.JoinLaw.{entry_in, HasColumns, IsNetOf, JoinNets}
use Rattle.cs_group.proofs.ImageLemmas.{same_itself}
use Rattle.cs_apply_conflict_kinds.proofs.ConflictLemmas.{filled_row, all_values, no_data}
use Rattle.cs_apply_conflict_kinds.proofs.EntryJoinLemmas.{ColumnLeads, RowLeads, update_row, rows_lead, inserted_values, deleted_values, both_lead}
use Rattle.cs_group.proofs.FoundLemmas.{joined_found, found_joined}
use Rattle.cs_group.proofs.JoinLemmas.{key_of_fit, outcomes, both_second, group_outcomes}
use Rattle.cs_group.proofs.KeyPlaceLemmas.{IsRowUnder, row_under, row_under_same, key_of_same}
use Rattle.cs_apply_conflict_kinds.proofs.NetLemmas.{NetLeads, net_leads, values_are}
use Rattle.cs_group.proofs.TextLemmas.{with_text-found, with_text-same, joined-each}

-- ---- a column

-- fields that lead from a value to another are equal where these are
column_alike : (flag : ℕ) (b a : OwnedField) (v w : OwnedValue) → ColumnLeads flag b a v w → is_same b a ≡ is_same (Defined v) (Defined w)
column_alike zero Undefined Undefined v w h = rw (h, same_itself (Defined w)) refl
column_alike zero Undefined (Defined y) v w h = absurd h
column_alike zero (Defined x) Undefined v w h = absurd h
column_alike zero (Defined x) (Defined y) v w h = rw (h.0, h.1) refl
column_alike (suc flag) Undefined a v w h = absurd h
column_alike (suc flag) (Defined x) Undefined v w h = absurd h
column_alike (suc flag) (Defined x) (Defined y) v w h = rw (h.0, h.1, h.2) refl

-- the update between them has the same old field
old_column : (flag : ℕ) (b a : OwnedField) (v w : OwnedValue) → ColumnLeads flag b a v w
    → by_flag flag (unless_same b a b) b ≡ by_flag flag (unless_same (Defined v) (Defined w) (Defined v)) (Defined v)
old_column zero Undefined Undefined v w h = rw (h, same_itself (Defined w)) refl
old_column zero Undefined (Defined y) v w h = absurd h
old_column zero (Defined x) Undefined v w h = absurd h
old_column zero (Defined x) (Defined y) v w h = rw (h.0, h.1) refl
old_column (suc flag) Undefined a v w h = absurd h
old_column (suc flag) (Defined x) Undefined v w h = absurd h
old_column (suc flag) (Defined x) (Defined y) v w h = ap (λ (u : OwnedValue). Defined u) h.0

-- and the same new one
new_column : (flag : ℕ) (b a : OwnedField) (v w : OwnedValue) → ColumnLeads flag b a v w
    → by_flag flag (unless_same b a a) Undefined ≡ by_flag flag (unless_same (Defined v) (Defined w) (Defined w)) Undefined
new_column zero Undefined Undefined v w h = rw (h, same_itself (Defined w)) refl
new_column zero Undefined (Defined y) v w h = absurd h
new_column zero (Defined x) Undefined v w h = absurd h
new_column zero (Defined x) (Defined y) v w h = rw (h.0, h.1) refl
new_column (suc flag) b a v w h = refl

-- ---- a row

-- the images are equal where the rows are, and the update between them has the same records
abbrev NetAlike : List ℕ → List OwnedField → List OwnedField → List OwnedValue → List OwnedValue → Type 0
NetAlike flags before after row other =
    (pointwise is_same before after ≡ pointwise is_same (map Defined row) (map Defined other))
    × (old_record flags before after ≡ old_record flags (map Defined row) (map Defined other))
    × (new_record flags before after ≡ new_record flags (map Defined row) (map Defined other))

net_alike : (flags : List ℕ) (before after : List OwnedField) (row other : List OwnedValue) → RowLeads flags before after row other → NetAlike flags before after row other
net_alike [] [] [] [] [] h = (refl, refl, refl)
net_alike [] [] [] [] (w ∷ other) h = absurd h
net_alike [] [] [] (v ∷ row) other h = absurd h
net_alike [] [] (a ∷ after) row other h = absurd h
net_alike [] (b ∷ before) after row other h = absurd h
net_alike (flag ∷ flags) [] after row other h = absurd h
net_alike (flag ∷ flags) (b ∷ before) [] row other h = absurd h
net_alike (flag ∷ flags) (b ∷ before) (a ∷ after) [] other h = absurd h
net_alike (flag ∷ flags) (b ∷ before) (a ∷ after) (v ∷ row) [] h = absurd h
net_alike (flag ∷ flags) (b ∷ before) (a ∷ after) (v ∷ row) (w ∷ other) h =
    let rest = net_alike flags before after row other h.1 in
    (rw (column_alike flag b a v w h.0, rest.0) refl, rw (old_column flag b a v w h.0, rest.1) refl, rw (new_column flag b a v w h.0, rest.2) refl)

-- images that lead from a row to another have the net change of these
net_same : (flags : List ℕ) (before after : List OwnedField) (row other : List OwnedValue) → RowLeads flags before after row other
    → net_between flags (Some before) (Some after) ≡ net_row_change flags (Some row) (Some other)
net_same flags before after row other h =
    let alike = net_alike flags before after row other h in
    rw (alike.0, alike.1, alike.2) refl

-- ---- two changes

-- where both find what they say, their net change is that of the rows
both_net : (flags : List ℕ) (first second : Change) → IsChange flags first → IsChange flags second → (before : Option (List OwnedValue))
    → kind_between (before_image first) before ≡ None → kind_between (before_image second) (row_after flags first before) ≡ None
    → net_change flags (joint_image flags first second) ≡ net_row_change flags before (row_after flags second (row_after flags first before))
both_net flags (Insert row) (Insert other) p q before e f = absurd (none-some Conflict (sym f))
both_net flags (Insert row) (Delete other) p q None e f = refl
both_net flags (Insert row) (Delete other) p q (Some stood) e f = absurd (none-some Conflict (sym e))
both_net flags (Insert row) (Update old new) p q None e f =
    ap (λ (l : List OwnedValue). Some (Insert l)) (inserted_values flags row old new p.1 q.2 ∙ sym (values_are (filled (with_key flags old new) (filled (map Defined row) []))))
both_net flags (Insert row) (Update old new) p q (Some stood) e f = absurd (none-some Conflict (sym e))
both_net flags (Delete row) (Insert other) p q None e f = absurd (none-some NotFound (sym e))
both_net flags (Delete row) (Insert other) p q (Some stood) e f =
    let same = all_values stood row (no_data (has_values stood (map Defined row)) e) in
    rw (← same, filled_row other []) refl
both_net flags (Delete row) (Delete other) p q before e f = absurd (none-some NotFound (sym f))
both_net flags (Delete row) (Update old new) p q before e f = absurd (none-some NotFound (sym f))
both_net flags (Update old new) (Insert row) p q before e f = absurd (none-some Conflict (sym f))
both_net flags (Update old new) (Delete row) p q None e f = absurd (none-some NotFound (sym e))
both_net flags (Update old new) (Delete row) p q (Some stood) e f =
    let mid = filled (with_key flags old new) stood in
    let found : row ≡ mid = all_values mid row (no_data (has_values mid (map Defined row)) f) in
    ap (λ (l : List OwnedValue). Some (Delete l)) (deleted_values flags old new row stood p.2 q.1 (no_data (has_values stood old) e) found ∙ sym (values_are stood))
both_net flags (Update old new) (Update next last) p q None e f = absurd (none-some NotFound (sym e))
both_net flags (Update old new) (Update next last) p q (Some stood) e f =
    let mid = filled (with_key flags old new) stood in
    let one = update_row flags old new stood p.2 (no_data (has_values stood old) e) in
    let two = update_row flags next last mid q.2 (no_data (has_values mid next) f) in
    let both = rows_lead flags old (with_key flags old new) next (with_key flags next last) stood mid (filled (with_key flags next last) mid) one two in
    net_same flags (laid_over old next) (laid_over (with_key flags next last) (with_key flags old new)) stood (filled (with_key flags next last) mid) both

-- ---- two entries

-- a change, or none, as an entry
abbrev as_entry : Option Change → Option Entry
as_entry net = option_map (λ change. let e : Entry = record { indirect = false; change = change } in e) net

-- what is left of an entry whose change becomes this one, or none
left_net : (first : Entry) (net : Option Change) → left_of first (becomes false net) ≡ as_entry net
left_net first None = refl
left_net first (Some change) = refl

module _ (flags key : List ℕ) (before mid after : Option (List OwnedValue)) where
  -- the same of changes that are known to be these
  nets_join : (c d : Option Change) → net_row_change flags before mid ≡ c → net_row_change flags mid after ≡ d → NetLeads flags key before mid c → NetLeads flags key mid after d
      → joined_found (joined_entry flags) (as_entry c) (as_entry d) ≡ as_entry (net_row_change flags before after)
  nets_join None d c_is d_is one two = sym (ap as_entry (ap (λ (r : Option (List OwnedValue)). net_row_change flags r after) one ∙ d_is))
  nets_join (Some c) None c_is d_is one two = sym (ap as_entry (ap (net_row_change flags before) (sym two) ∙ c_is))
  nets_join (Some c) (Some d) c_is d_is one two =
      let met : kind_between (before_image d) (row_after flags c before) ≡ None = ap (kind_between (before_image d)) one.leaves ∙ two.finds in
      let left : row_after flags d (row_after flags c before) ≡ after = ap (row_after flags d) one.leaves ∙ two.leaves in
      let follow = (both_lead flags c d one.fits two.fits (one.same ∙ sym two.same) before one.finds met).0 in
      let net = both_net flags c d one.fits two.fits before one.finds met ∙ ap (net_row_change flags before) left in
      rw (follow, net) (left_net (record { indirect = false; change = c }) (net_row_change flags before after))

  -- the net changes of a row, to a second and from there to a third, make that to the third
  entries_join : IfSome before (IsRowUnder flags key) → IfSome mid (IsRowUnder flags key) → IfSome after (IsRowUnder flags key)
      → joined_found (joined_entry flags) (net_entry flags before mid) (net_entry flags mid after) ≡ net_entry flags before after
  entries_join b m a = nets_join (net_row_change flags before mid) (net_row_change flags mid after) refl refl (net_leads flags key before mid b m) (net_leads flags key mid after m a)

-- ---- flags with the same key places

-- what is made column by column
columns_same : (outside of_key : OwnedField → OwnedField → OwnedField) (f g : List ℕ) (before after : List OwnedField) → key_marks f ≡ key_marks g
    → by_column (λ flag b a. by_flag flag (outside b a) (of_key b a)) f before after ≡ by_column (λ flag b a. by_flag flag (outside b a) (of_key b a)) g before after
columns_same outside of_key [] [] before after e = refl
columns_same outside of_key [] (n ∷ g) before after e = absurd cc
columns_same outside of_key (m ∷ f) [] before after e = absurd cc
columns_same outside of_key (m ∷ f) (n ∷ g) [] after e = refl
columns_same outside of_key (m ∷ f) (n ∷ g) (b ∷ before) [] e = refl
columns_same outside of_key (zero ∷ f) (zero ∷ g) (b ∷ before) (a ∷ after) e =
    let rest : key_marks f ≡ key_marks g = cc in ap (λ (l : List OwnedField). outside b a ∷ l) (columns_same outside of_key f g before after rest)
columns_same outside of_key (suc m ∷ f) (suc n ∷ g) (b ∷ before) (a ∷ after) e =
    let rest : key_marks f ≡ key_marks g = cc in ap (λ (l : List OwnedField). of_key b a ∷ l) (columns_same outside of_key f g before after rest)
columns_same outside of_key (zero ∷ f) (suc n ∷ g) (b ∷ before) (a ∷ after) e = absurd cc
columns_same outside of_key (suc m ∷ f) (zero ∷ g) (b ∷ before) (a ∷ after) e = absurd cc

-- the net change of a row is the same
net_row_change_same : (f g : List ℕ) (before after : Option (List OwnedValue)) → key_marks f ≡ key_marks g → net_row_change f before after ≡ net_row_change g before after
net_row_change_same f g None None e = refl
net_row_change_same f g None (Some after) e = refl
net_row_change_same f g (Some before) None e = refl
net_row_change_same f g (Some before) (Some after) e =
    let b = map Defined before in
    let a = map Defined after in
    rw (columns_same (λ x y. unless_same x y x) (λ x y. x) f g b a e, columns_same (λ x y. unless_same x y y) (λ x y. Undefined) f g b a e) refl

net_entry_same : (f g : List ℕ) (before after : Option (List OwnedValue)) → key_marks f ≡ key_marks g → net_entry f before after ≡ net_entry g before after
net_entry_same f g before after e = ap as_entry (net_row_change_same f g before after e)

-- and the row under a key, if there is one, does so too
rows_same : (f g key : List ℕ) (row : Option (List OwnedValue)) → key_marks f ≡ key_marks g → IfSome row (IsRowUnder f key) → IfSome row (IsRowUnder g key)
rows_same f g key None e is = tt
rows_same f g key (Some row) e is = row_under_same f g key row e is

-- ---- two groups

-- of a group, if it has an entry, that of a key
some_group_entry : (key : List ℕ) (header : HeaderData) (entries : List Entry) → entry_in key (some_group header entries) ≡ with_text (entry_key header.flags) entries key
some_group_entry key header [] = refl
some_group_entry key header (e ∷ entries) = refl

-- what two groups of the same columns have of a key together
groups_join : (key : List ℕ) (g h : GroupData) → IsGroup g → IsGroup h → key_marks h.header.flags ≡ key_marks g.header.flags
    → entry_in key (joined_group g (Some h)) ≡ joined_found (joined_entry g.header.flags) (entry_in key (Some g)) (entry_in key (Some h))
groups_join key g h p q agree =
    let flags = g.header.flags in
    let keeps : All (λ e. IfSome (outcome (entry_key flags) (joined_entry flags) h.entries e) (λ z. entry_key flags z ≡ entry_key flags e)) g.entries =
    λ k d lt. let e = get_or g.entries k d in
    key_of_fit flags (entry_key flags e) (outcome (entry_key flags) (joined_entry flags) h.entries e) (outcomes g h p q agree k d lt) in
    some_group_entry key g.header (joined_entries flags g.entries h.entries)
    ∙ found_joined (entry_key flags) key (joined_entry flags) g.entries h.entries keeps p.once
    ∙ ap (joined_found (joined_entry flags) (with_text (entry_key flags) g.entries key))
    (sym (with_text-same (entry_key h.header.flags) (entry_key flags) (λ e. key_of_same h.header.flags flags e.change agree) h.entries key))

-- an entry, or none, stays what it is where there is no other
alone : (flags : List ℕ) (found : Option Entry) → found ≡ joined_found (joined_entry flags) found None
alone flags None = refl
alone flags (Some e) = refl

-- ---- the tables of two changesets

-- a group has the key places of its table
places_of : (state : State) (name : List ℕ) (schema : SchemaData) (group : GroupData) → schema_at state name ≡ Some schema → HasColumns state group → group.header.name ≡ name
    → key_marks group.header.flags ≡ key_marks schema.flags
places_of state name schema group found has named =
    let same = same_Some has.schema schema (sym has.found ∙ ap (schema_at state) named ∙ found) in
    has.same ∙ ap (λ (s : SchemaData). key_marks s.flags) same

module _ (flags key : List ℕ) (before mid after : Option (List OwnedValue)) (b : IfSome before (IsRowUnder flags key)) (m : IfSome mid (IsRowUnder flags key)) (a : IfSome after (IsRowUnder flags key)) where
  -- under flags with the same key places
  found_join : (f : List ℕ) → key_marks f ≡ key_marks flags → (first second : Option Entry) → first ≡ net_entry flags before mid → second ≡ net_entry flags mid after
      → joined_found (joined_entry f) first second ≡ net_entry flags before after
  found_join f e first second one two =
      rw (one ∙ sym (net_entry_same f flags before mid e), two ∙ sym (net_entry_same f flags mid after e))
      (entries_join f key before mid after (rows_same flags f key before (sym e) b) (rows_same flags f key mid (sym e) m) (rows_same flags f key after (sym e) a)
      ∙ net_entry_same f flags before after e)

  -- what two groups of a table, or none, have of a key together
  tables_join : (g h : Option GroupData) → IfSome g (λ g. IsGroup g × (key_marks g.header.flags ≡ key_marks flags)) → IfSome h (λ h. IsGroup h × (key_marks h.header.flags ≡ key_marks flags))
      → entry_in key g ≡ net_entry flags before mid → entry_in key h ≡ net_entry flags mid after → entry_in key (joined_found joined_group g h) ≡ net_entry flags before after
  tables_join None h p q one two = found_join flags refl None (entry_in key h) one two
  tables_join (Some g) None p q one two = alone g.header.flags (entry_in key (Some g)) ∙ found_join g.header.flags p.1 (entry_in key (Some g)) None one two
  tables_join (Some g) (Some h) p q one two = groups_join key g h p.0 q.0 (q.1 ∙ sym p.1) ∙ found_join g.header.flags p.1 (entry_in key (Some g)) (entry_in key (Some h)) one two

-- ---- the changesets

-- what is found of a table has its key places
found_places : (state : State) (name : List ℕ) (schema : SchemaData) (changeset : List GroupData) → schema_at state name ≡ Some schema → IsChangeset changeset → All (HasColumns state) changeset
    → IfSome (with_text table_name changeset name) (λ g. IsGroup g × (key_marks g.header.flags ≡ key_marks schema.flags))
found_places state name schema changeset found is has =
    turned (with_text table_name changeset name) (with_text-found table_name (λ g. IsGroup g × HasColumns state g) changeset name (λ k d lt. (is.each k d lt, has k d lt)))
  where
    turned : (o : Option GroupData) → IfSome o (λ g. (IsGroup g × HasColumns state g) × (g.header.name ≡ name)) → IfSome o (λ g. IsGroup g × (key_marks g.header.flags ≡ key_marks schema.flags))
    turned None h = tt
    turned (Some g) h = (h.0.0, places_of state name schema g found h.0.1 h.1)

-- a group, if it has an entry, has the columns of its header
some_group_columns : (state : State) (group : GroupData) (entries : List Entry) → HasColumns state group → IfSome (some_group group.header entries) (HasColumns state)
some_group_columns state group [] has = tt
some_group_columns state group (e ∷ entries) has = record { schema = has.schema; found = has.found; same = has.same }

-- what becomes of a group has the columns of the group
joined_columns : (state : State) (group : GroupData) (other : Option GroupData) → HasColumns state group → IfSome (joined_group group other) (HasColumns state)
joined_columns state group None has = has
joined_columns state group (Some other) has = some_group_columns state group (joined_entries group.header.flags group.entries other.entries) has

module _ (first second : List GroupData) (p : IsChangeset first) (q : IsChangeset second) (joinable : AreJoinable first second) (old mid new : State)
    (schemas : (table : List ℕ) → schema_at mid table ≡ schema_at old table) (one : IsNetOf old mid first) (two : IsNetOf mid new second) where
  -- the tables of both
  both_columns : All (HasColumns old) (joined first second)
  both_columns = joined-each table_name joined_group first second (HasColumns old)
      (λ k d lt. let g = get_or first k d in joined_columns old g (with_text table_name second g.header.name) (one.tables k d lt))
      (λ k d lt. let h = get_or second k d in let has = two.tables k d lt in
      record { schema = has.schema; found = sym (schemas h.header.name) ∙ has.found; same = has.same })

  -- the group of a table is made of those of both
  joined_table : (name : List ℕ) → with_text table_name (joined first second) name ≡ joined_found joined_group (with_text table_name first name) (with_text table_name second name)
  joined_table name =
      let keeps : All (λ g. IfSome (outcome table_name joined_group second g) (λ z. table_name z ≡ table_name g)) first =
      λ k d lt. let g = get_or first k d in both_second (outcome table_name joined_group second g) g.header.name (group_outcomes first second p q joinable k d lt) in
      found_joined table_name name joined_group first second keeps p.once

  -- the join of both has the net changes of both together
  joined_net : IsState old → IsState mid → IsState new → ((table : List ℕ) → schema_at new table ≡ schema_at old table) → IsNetOf old new (joined first second)
  joined_net old_is mid_is new_is others = record {
    tables = both_columns;
    entries = λ name key schema found.
        let in_mid = schemas name ∙ found in
        let in_new = others name ∙ found in
        ap (entry_in key) (joined_table name)
        ∙ tables_join schema.flags key (row_at old name key) (row_at mid name key) (row_at new name key)
        (row_under schema key (row_at old name key) (row_at_fits old name schema old_is found key))
        (row_under schema key (row_at mid name key) (row_at_fits mid name schema mid_is in_mid key))
        (row_under schema key (row_at new name key) (row_at_fits new name schema new_is in_new key))
        (with_text table_name first name) (with_text table_name second name)
        (found_places old name schema first found p one.tables) (found_places mid name schema second in_mid q two.tables)
        (one.entries name key schema found) (two.entries name key schema in_mid);
  }

-- where the first goes from a state to a second, and the second from there on
pub join_nets : JoinNets
join_nets first second join p q is old mid new old_is mid_is new_is schemas others one two =
    rw (is.is_joined) (joined_net first second p q is.joinable old mid new schemas one two old_is mid_is new_is others)
