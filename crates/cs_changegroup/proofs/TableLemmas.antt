-- The tables of a concatenation, and its groups.
use Rattle.std.proofs.Common.{◌≡◌, ◌≢◌, ℕ, suc, ◌+◌, ◌<◌, ◌≤◌, List, [], ◌∷◌, ◌++◌, length, length-append, map, get_or, set, take, drop, All, AllPairs, Option, Some, None, inl, inr, refl, sym, ap, subst, ◌∙◌, append_assoc, append-nil, arith}
use Rattle.std.specs.Prelude.{IfSome, filter_map}
use Rattle.std.specs.List.{AllZip, cons_option}
use Rattle.std.proofs.lemmas.Grind.{flat_map-append}
use Rattle.std.proofs.lemmas.List.{get_or-map, get_or-take, get_or_at, get_or_default, length-take, map-append, map-set, set-get_or, set_at, take_all, take_more}
use Rattle.std.proofs.lemmas.List.Elements.{All-append, All-cons, filter_map-append}
use Rattle.cs_wire_entries.specs.declared.entry.Entry.{Entry}
use Rattle.cs_wire.specs.Changeset.{GroupData, HeaderData, IsChangeset, IsHeader, file_bytes, group_bytes}
use Rattle.cs_file_scan.specs.Chains.{ChainsData}
use Rattle.cs_file_scan.specs.Distinct.{number_of}
use Rattle.cs_files.specs.Writing.{some_bytes}
use Rattle.cs_group.specs.Joining.{Agrees, AgreesWith, AreJoinable, joined, joined_entries, joined_group, key_marks, some_group, table_name, with_text}
use Rattle.cs_wire.specs.Entry.{key_of}
use Rattle.cs_group.proofs.KeyPlaceLemmas.{key_of_same}
use Rattle.cs_group.proofs.TextLemmas.{joined-each}
use Rattle.cs_changegroup.specs.Slots.{AddsEntries, AddsGroups, AreOnce, AreSlots, AreTables, HasPushedTable, IsNewest, IsPartner, IsTarget, IsViewOf, KeptTable, NoneLives, OpensTable, TableView, TablesView, groups_of, header_at, if_some, kept_name, live_entries, no_view}
use Rattle.cs_changegroup.proofs.LivingLemmas.{lives_joined, lives_pushed, lives_split, newest_gone, once_pushed, once_set, others_before, others_behind, others_live}
use Rattle.cs_changegroup.proofs.OneByOneLemmas.{Others, joined-more}
use Rattle.cs_changegroup.proofs.SlotLemmas.{AllZip-at, AllZip-length, AllZip-more, AllZip-set, none_lives, some_lives_here}

abbrev pub no_table : KeptTable
no_table = record { header = record { name = []; flags = [] }; entries = [] }

-- a group has the name of its table
named_as : (header : HeaderData) (entries : List Entry) → IfSome (some_group header entries) (λ g. table_name g ≡ header.name)
named_as header [] = tt
named_as header (entry ∷ entries) = refl

pub own_name : (table : KeptTable) → IfSome (if_some table) (λ g. table_name g ≡ kept_name table)
own_name table = named_as table.header (live_entries table.entries)

-- the group of a table that has entries
abbrev pub group_of : KeptTable → GroupData
group_of table = record { header = table.header; entries = live_entries table.entries }

pub some_is : (header : HeaderData) (entries : List Entry) → 0 < length entries → some_group header entries ≡ Some (record { header = header; entries = entries })
some_is header [] some = absurd (omega (arith, some))
some_is header (entry ∷ entries) some = refl

module _ (files : List ℕ) (view : TablesView) (kept : List KeptTable) (are : AreTables files view kept) where
  pub tables_count : length view.tables ≡ length kept
  tables_count = AllZip-length (IsViewOf files) view.tables kept are.tables

  module _ (index : ℕ) (within : index < length kept) where
    pub tables_long : index < length view.tables
    tables_long = omega (arith, within, tables_count)

    pub view_there : (v : TableView) (d : KeptTable) → IsViewOf files (get_or view.tables index v) (get_or kept index d)
    view_there v d = AllZip-at (IsViewOf files) view.tables kept index v d are.tables within

    pub name_there : (d : KeptTable) → (header_at view index).name ≡ kept_name (get_or kept index d)
    name_there d = ap (λ (h : HeaderData). h.name) (view_there no_view d).header

  -- the last table of a name, by whether it has entries
  module _ (name : List ℕ) where
    pub no_partner : IsNewest kept_name name kept None → IsPartner kept name None
    no_partner newest = newest_gone if_some kept_name name kept None are.once newest tt

    module _ (index : ℕ) (newest : IsNewest kept_name name kept (Some index)) (v : TableView) (v_is : v ≡ get_or view.tables index v) where
      it : KeptTable
      it = get_or kept index no_table

      slots_it : AreSlots files v (get_or kept index no_table).entries
      slots_it = subst (λ (t : TableView). AreSlots files t (get_or kept index no_table).entries) (sym v_is) (view_there index newest.0.within v no_table).slots

      pub empty_partner : v.vanished ≡ length v.slots → IsPartner kept name None
      empty_partner none =
          newest_gone if_some kept_name name kept (Some index) are.once newest
          (λ d. ap if_some (get_or_default kept index d no_table newest.0.within) ∙ ap (some_group (get_or kept index no_table).header) (none_lives files v (get_or kept index no_table).entries slots_it none))

      pub some_partner : (v.vanished ≡ length v.slots → ⊥) → IsPartner kept name (Some index)
      some_partner some = (
        get_or kept index no_table,
        newest.0.within,
        get_or_default kept index no_table (get_or kept index no_table) newest.0.within,
        newest.0.holds no_table,
        some_lives_here files v (get_or kept index no_table).entries slots_it some,
      )

-- ---- whether the columns of a table agree

module _ (kept : List KeptTable) (group : GroupData) where
  pub unknown_agrees : NoneLives if_some kept_name kept group.header.name → AgreesWith (groups_of kept) group
  unknown_agrees none k d lt same = absurd (others_live if_some kept_name table_name own_name group.header.name kept none k d lt same)

  module _ (index : ℕ) (table : KeptTable) (once : AreOnce if_some kept_name kept) (within : index < length kept) (there : table ≡ get_or kept index table) (some : 0 < length (live_entries table.entries)) (named : kept_name table ≡ group.header.name) where
    abbrev known : GroupData
    known = group_of table

    abbrev front : List GroupData
    front = filter_map if_some (take index kept)

    abbrev back : List GroupData
    back = filter_map if_some (drop (suc index) kept)

    counts : if_some table ≡ Some (group_of table)
    counts = some_is table.header (live_entries table.entries) some

    split : groups_of kept ≡ filter_map if_some (take index kept) ++ group_of table ∷ filter_map if_some (drop (suc index) kept)
    split = lives_split if_some kept_name table_name own_name kept index table (group_of table) once within there counts

    away : (groups : List GroupData) → Others table_name (kept_name table) groups → All (Agrees group) groups
    away groups others k d lt same = absurd (others k d lt (same ∙ sym named))

    pub known_agrees : key_marks table.header.flags ≡ key_marks group.header.flags → AgreesWith (groups_of kept) group
    known_agrees same = rw split (All-append (Agrees group) front (group_of table ∷ back)
        (away front (others_before if_some kept_name table_name own_name kept index table (group_of table) once within there counts))
        (All-cons (Agrees group) (group_of table) back (λ e. same) (away back (others_behind if_some kept_name table_name own_name kept index table (group_of table) once within there counts))))

    pub agrees_known : AgreesWith (groups_of kept) group → key_marks table.header.flags ≡ key_marks group.header.flags
    agrees_known all =
        let whole : All (Agrees group) (front ++ group_of table ∷ back) = rw split at all in
        let at : get_or (front ++ group_of table ∷ back) (length front) group ≡ group_of table = get_or_at front (group_of table) back group (length front) refl in
        let so : Agrees group (group_of table) = rw at at (whole (length front) group (omega (arith, length-append front (group_of table ∷ back)))) in
        so named

-- ---- a new table

module _ (files : List ℕ) (old new : TablesView) (kept : List KeptTable) (are : AreTables files old kept) (header : HeaderData) (is_header : IsHeader header) (pushed : HasPushedTable old new header) (group : GroupData) (same : header ≡ group.header)
    (none : NoneLives if_some kept_name kept group.header.name) where
  pub pushed_opens : (index : ℕ) → index ≡ length old.tables → OpensTable files kept group new index
  pushed_opens index at = record {
    opened = kept ++ fresh ∷ [];
    are_tables = record {
      tables = rw pushed.tables (AllZip-more (IsViewOf files) old.tables kept pushed.table fresh are.tables view_of);
      numbers = pushed.names ∙ ap (λ (l : List ℕ). l ++ number_of header.name ∷ []) are.numbers ∙ ap (λ (h : HeaderData). map (λ t. number_of (kept_name t)) kept ++ number_of h.name ∷ []) same ∙ sym (map-append (λ t. number_of (kept_name t)) kept (fresh ∷ []));
      once = once_pushed if_some kept_name kept fresh are.once none;
    };
    table = fresh;
    within = omega (arith, long, length-append kept (fresh ∷ []));
    there = sym (get_or_at kept fresh [] fresh index (sym long));
    is_target = inr (refl, long, refl, none);
  }
    where
      fresh : KeptTable
      fresh = record { header = group.header; entries = [] }

      long : index ≡ length kept
      long = at ∙ AllZip-length (IsViewOf files) old.tables kept are.tables

      view_of : IsViewOf files pushed.table fresh
      view_of = record {
        header = pushed.header_is ∙ same;
        is_header = subst IsHeader same is_header;
        slots = record {
          slots = rw pushed.slots tt;
          numbers = pushed.numbers;
          once = λ i j d lt within. absurd (omega (arith, within));
          vanished = omega (arith, pushed.vanished);
        };
      }

-- ---- a table to which entries are added

joined_new_entries : (flags : List ℕ) (entries : List Entry) → joined_entries flags [] entries ≡ entries
joined_new_entries flags [] = refl
joined_new_entries flags (entry ∷ entries) = ap (λ (es : List Entry). entry ∷ es) (joined_new_entries flags entries)

module _ (files : List ℕ) (kept : List KeptTable) (group : GroupData) (view new : TablesView) (index : ℕ) (once : AreOnce if_some kept_name kept) (some : 0 < length group.entries) (opens : OpensTable files kept group view index) (v w : TableView)
    (v_is : v ≡ get_or view.tables index v) (header : w.header ≡ v.header) (tables : new.tables ≡ set view.tables index w) (names : new.names ≡ view.names) (adds : AddsEntries files v w group.entries) where
  abbrev table : KeptTable
  table = opens.table

  viewed : IsViewOf files v opens.table
  viewed =
      subst (IsViewOf files v) (sym opens.there)
      (subst (λ (t : TableView). IsViewOf files t (get_or opens.opened index opens.table)) (sym v_is) (AllZip-at (IsViewOf files) view.tables opens.opened index v opens.table opens.are_tables.tables opens.within))

  abbrev grown : KeptTable
  grown = record { header = opens.table.header; entries = (adds opens.table.entries viewed.slots).0 }

  view_of : IsViewOf files w grown
  view_of = record { header = header ∙ viewed.header; is_header = viewed.is_header; slots = (adds opens.table.entries viewed.slots).1 }

  live_is : live_entries grown.entries ≡ joined_entries opens.table.header.flags (live_entries opens.table.entries) group.entries
  live_is = (adds opens.table.entries viewed.slots).2 ∙ ap (λ (h : HeaderData). joined_entries h.flags (live_entries opens.table.entries) group.entries) viewed.header

  same_numbers : map (λ t. number_of (kept_name t)) (set opens.opened index grown) ≡ map (λ t. number_of (kept_name t)) opens.opened
  same_numbers =
      map-set (λ t. number_of (kept_name t)) opens.opened index grown
      ∙ ap (λ (n : ℕ). set (map (λ t. number_of (kept_name t)) opens.opened) index n)
      (ap (λ (t : KeptTable). number_of (kept_name t)) opens.there ∙ sym (get_or-map (λ t. number_of (kept_name t)) opens.opened index opens.table (number_of (kept_name opens.table)) opens.within))
      ∙ set-get_or (map (λ t. number_of (kept_name t)) opens.opened) index (number_of (kept_name opens.table))

  added : AreOnce if_some kept_name (set opens.opened index grown) → groups_of (set opens.opened index grown) ≡ joined (groups_of kept) (group ∷ []) → AddsGroups files kept (group ∷ []) new
  added once_now groups_are = (
    set opens.opened index grown,
    record {
      tables = subst (λ (ts : List TableView). AllZip (IsViewOf files) ts (set opens.opened index grown)) (sym tables) (AllZip-set (IsViewOf files) view.tables opens.opened index w grown opens.are_tables.tables view_of);
      numbers = ap (λ (c : ChainsData). c.numbers) names ∙ opens.are_tables.numbers ∙ sym same_numbers;
      once = once_now;
    },
    groups_are,
  )

  pub adds_group : AddsGroups files kept (group ∷ []) new
  adds_group = by opens.is_target
    where
      by : IsTarget kept opens.opened group opens.table index → AddsGroups files kept (group ∷ []) new
      by (inl (same, lives, named)) =
          let counts = some_is opens.table.header (live_entries opens.table.entries) lives in
          added
          (once_set if_some kept_name opens.opened index opens.table grown (group_of opens.table) opens.are_tables.once opens.within opens.there counts refl)
          (lives_joined if_some kept_name table_name own_name joined_group (λ (g : GroupData). refl) opens.opened index opens.table grown (group_of opens.table) group opens.are_tables.once opens.within opens.there counts (sym named) (ap (some_group opens.table.header) live_is)
          ∙ ap (λ (ts : List KeptTable). joined (groups_of ts) (group ∷ [])) same)
      by (inr (more, at, fresh, none)) =
          let set_is : set opens.opened index grown ≡ kept ++ grown ∷ [] = ap (λ (ts : List KeptTable). set ts index grown) more ∙ set_at kept opens.table [] grown index (sym at) in
          let entries_are : live_entries grown.entries ≡ group.entries = live_is ∙ ap (λ (t : KeptTable). joined_entries t.header.flags (live_entries t.entries) group.entries) fresh ∙ joined_new_entries group.header.flags group.entries in
          let head : opens.table.header ≡ group.header = ap (λ (t : KeptTable). t.header) fresh in
          let counts : if_some grown ≡ Some group = ap (some_group opens.table.header) entries_are ∙ ap (λ (h : HeaderData). some_group h group.entries) head ∙ some_is group.header group.entries some in
          added
          (rw set_is (once_pushed if_some kept_name kept grown once (subst (λ (h : HeaderData). NoneLives if_some kept_name kept h.name) (sym head) none)))
          (rw set_is (lives_pushed if_some kept_name table_name own_name joined_group (λ (g : GroupData). refl) kept grown group none counts))

-- ---- tables one by one

joined_named : (group : GroupData) (found : Option GroupData) → IfSome (joined_group group found) (λ z. table_name z ≡ table_name group)
joined_named group None = refl
joined_named group (Some second) = named_as group.header (joined_entries group.header.flags group.entries second.entries)

joined_agrees : (other group : GroupData) (found : Option GroupData) → Agrees other group → IfSome (joined_group group found) (Agrees other)
joined_agrees other group None agrees = agrees
joined_agrees other group (Some second) agrees = by (joined_entries group.header.flags group.entries second.entries)
  where
    by : (entries : List Entry) → IfSome (some_group group.header entries) (Agrees other)
    by [] = tt
    by (entry ∷ entries) = agrees

module _ (groups others : List GroupData) (index : ℕ) (within : index < length others) (is : IsChangeset others) (joinable : AreJoinable groups others) (group : GroupData) (group_is : group ≡ get_or others index group) where
  here : (d : GroupData) → get_or others index d ≡ group
  here d = get_or_default others index d group within ∙ sym group_is

  apart : Others table_name (table_name group) (take index others)
  apart k d lt same =
      let k_lt : k < index = omega (arith, lt, length-take index others, within) in
      is.once k index d k_lt within (ap table_name (sym (get_or-take index others k d k_lt)) ∙ same ∙ ap table_name (sym (here d)))

  pub joined_next : joined groups (take (index + 1) others) ≡ joined (joined groups (take index others)) (group ∷ [])
  joined_next =
      ap (joined groups) (take_more others index group within ∙ ap (λ (g : GroupData). take index others ++ g ∷ []) (here group))
      ∙ joined-more table_name joined_group (λ (g : GroupData). refl) groups (take index others) group (λ k d lt. joined_named (get_or groups k d) (with_text table_name (take index others) (table_name (get_or groups k d)))) apart

  pub next_agrees : AgreesWith (joined groups (take index others)) group
  next_agrees =
      joined-each table_name joined_group groups (take index others) (Agrees group)
      (λ k d lt. joined_agrees group (get_or groups k d) (with_text table_name (take index others) (table_name (get_or groups k d))) (subst (λ (g : GroupData). Agrees g (get_or groups k d)) (here group) (joinable index group within k d lt)))
      (λ k d lt same. absurd (apart k d lt same))

-- ---- tables that are written

module _ (files : List ℕ) (view : TablesView) (kept : List KeptTable) (are : AreTables files view kept) where
  module _ (index : ℕ) (within : index < length view.tables) (out now : List ℕ) (so_far : now ≡ out ++ file_bytes (groups_of (take index kept))) (v : TableView) (v_is : v ≡ get_or view.tables index v) where
    in_kept : index < length kept
    in_kept = omega (arith, within, tables_count files view kept are)

    pub view_in : IsViewOf files v (get_or kept index no_table)
    view_in = subst (λ (t : TableView). IsViewOf files t (get_or kept index no_table)) (sym v_is) (view_there files view kept are index in_kept v no_table)

    pub table_written : (written : List ℕ) → written ≡ now ++ some_bytes group_bytes (some_group v.header (live_entries (get_or kept index no_table).entries)) → written ≡ out ++ file_bytes (groups_of (take (index + 1) kept))
    table_written written is =
        is ∙ ap (λ (h : HeaderData). now ++ some_bytes group_bytes (some_group h (live_entries (get_or kept index no_table).entries))) view_in.header
        ∙ ap (λ (l : List ℕ). l ++ some_bytes group_bytes (if_some (get_or kept index no_table))) so_far
        ∙ append_assoc out (file_bytes (groups_of (take index kept))) (some_bytes group_bytes (if_some (get_or kept index no_table)))
        ∙ ap (λ (l : List ℕ). out ++ (file_bytes (groups_of (take index kept)) ++ l)) (by (if_some (get_or kept index no_table)))
        ∙ ap (λ (l : List ℕ). out ++ l) (sym (flat_map-append group_bytes (groups_of (take index kept)) (cons_option (if_some (get_or kept index no_table)) [])))
        ∙ ap (λ (gs : List GroupData). out ++ file_bytes gs) (sym (filter_map-append if_some (take index kept) (get_or kept index no_table ∷ [])) ∙ ap groups_of (sym (take_more kept index no_table in_kept)))
      where
        by : (o : Option GroupData) → some_bytes group_bytes o ≡ file_bytes (cons_option o [])
        by None = refl
        by (Some g) = sym (append-nil (group_bytes g))

  pub all_tables : (index : ℕ) → length view.tables ≤ index → groups_of (take index kept) ≡ groups_of kept
  all_tables index le = ap groups_of (take_all index kept (omega (arith, le, tables_count files view kept are)))

-- keys that differ differ under flags with the same key marks
pub apart_under : (f g : List ℕ) (entries : List Entry) → key_marks f ≡ key_marks g → AllPairs (λ d e. key_of f d.change ≢ key_of f e.change) entries → AllPairs (λ d e. key_of g d.change ≢ key_of g e.change) entries
apart_under f g entries same once = λ i j d lt within e. once i j d lt within (key_of_same f g (get_or entries i d).change same ∙ e ∙ sym (key_of_same f g (get_or entries j d).change same))
