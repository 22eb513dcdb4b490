-- What a changeset does to a state, table by table and key by key.
use Rattle.std.proofs.Common.{◌≡◌, ◌≢◌, ℕ, Bool, true, false, true≢false, cond, List, [], ◌∷◌, ◌++◌, get_or, map, All, Option, Some, None, refl, sym, ap, ◌∙◌, subst}
use Rattle.std.specs.Prelude.{IfSome}
use Rattle.std.specs.List.{AllByRecursion}
use Rattle.std.proofs.lemmas.Option.{none-some}
use Rattle.std.proofs.lemmas.List.Elements.{recursion_from_All, All-from_recursion}
use Rattle.cs_value.specs.State.{State, Obeys, schema_at, row_at}
use Rattle.cs_value.proofs.ListLemmas.{AllByRecursion-append, AllByRecursion-map}
use Rattle.cs_wire_entries.specs.declared.entry.Entry.{Entry}
use Rattle.cs_wire.specs.Entry.{IsEntry, before_image, after_image, key_of}
use Rattle.cs_wire.specs.Changeset.{HeaderData, GroupData, IsChangeset}
use Rattle.cs_apply_conflict_kinds.specs.declared.conflict.Kind.TheVariants.{NotFound}
use Rattle.cs_apply_conflict_kinds.specs.declared.judging.Judgement.TheVariants.{Wider}
use Rattle.cs_apply_conflict_kinds.specs.Judging.{judged, is_compatible}
use Rattle.cs_apply_conflict_kinds.specs.Conflicts.{kind_between, row_after}
use Rattle.cs_group.specs.Joining.{entry_key, table_name, with_text}
use Rattle.cs_apply_conflict_kinds.specs.Applying.{PlacedEntry, placed_by, placed_in, placed, placed_key, current, refuses_at, refused_at, IsElsewhere, compatible_groups, applicable, placed_kind, placed_result, Choices, IsClean, IsApplied}
use Rattle.cs_apply_conflict_kinds.proofs.ApplyLemmas.{by_place, left_row, refuses_same}
use Rattle.cs_apply_conflict_kinds.proofs.ConflictLemmas.{meets_none, between}
use Rattle.cs_apply_conflict_kinds.proofs.EntryJoinLemmas.{LeadsFrom, LeftLeads}
use Rattle.cs_apply_conflict_kinds.proofs.RuleLemmas.{RowsObey, found_obeys, found_kept, left_obeys}
use Rattle.cs_group.proofs.TextLemmas.{with_text-at, with_text-new, with_text-found}

-- a group does this to the rows of its table
pub record GroupLeads (old new : State) (name : List ℕ) (group : GroupData) : Type 0 where
  pub named : group.header.name ≡ name
  pub not_wider : judged old group ≢ Wider
  pub applied : is_compatible (judged old group) ≡ true → (key : List ℕ)
      → LeftLeads group.header.flags (row_at old name key) (row_at new name key) (with_text (entry_key group.header.flags) group.entries key)
  pub passed : is_compatible (judged old group) ≡ false → (key : List ℕ) → row_at old name key ≡ row_at new name key

-- and where there is no group of a table, its rows stay
abbrev pub TableLeads : State → State → List ℕ → Option GroupData → Type 0
TableLeads old new name None = (key : List ℕ) → row_at old name key ≡ row_at new name key
TableLeads old new name (Some group) = GroupLeads old new name group

-- the changeset leads from a state to another
pub record ChangesetLeads (old new : State) (changeset : List GroupData) : Type 0 where
  pub schemas : (table : List ℕ) → schema_at new table ≡ schema_at old table
  pub tables : (name : List ℕ) → TableLeads old new name (with_text table_name changeset name)

-- ---- the entries that are applied, by their groups

module _ (state : State) (P : PlacedEntry → Type 0) where
  -- each entry of the group, if it is applied
  abbrev pub EachOf : GroupData → Type 0
  EachOf group = is_compatible (judged state group) ≡ true → AllByRecursion (λ e. P (placed_by group.header e)) group.entries

  of_placed : (header : HeaderData) (es : List Entry) (tail : List PlacedEntry) → AllByRecursion P (map (placed_by header) es ++ tail)
      → AllByRecursion (λ e. P (placed_by header e)) es × AllByRecursion P tail
  of_placed header [] tail each = (tt, each)
  of_placed header (e ∷ es) tail each = let others = of_placed header es tail each.1 in ((each.0, others.0), others.1)

  applicable_of : (gs : List GroupData) → AllByRecursion EachOf gs → AllByRecursion P (applicable state gs)
  applicable_of [] each = tt
  applicable_of (g ∷ gs) each = at (is_compatible (judged state g)) refl (applicable_of gs each.1)
    where
      at : (b : Bool) → is_compatible (judged state g) ≡ b → AllByRecursion P (applicable state gs)
          → AllByRecursion P (placed (cond b (g ∷ compatible_groups state gs) (compatible_groups state gs)))
      at true is others = AllByRecursion-append P (placed_in g) (applicable state gs) (AllByRecursion-map P (placed_by g.header) g.entries (each.0 is)) others
      at false is others = others

  of_applicable : (gs : List GroupData) → AllByRecursion P (applicable state gs) → AllByRecursion EachOf gs
  of_applicable [] each = tt
  of_applicable (g ∷ gs) each = at (is_compatible (judged state g)) refl each (of_applicable gs)
    where
      at : (b : Bool) → is_compatible (judged state g) ≡ b → AllByRecursion P (placed (cond b (g ∷ compatible_groups state gs) (compatible_groups state gs)))
          → (AllByRecursion P (applicable state gs) → AllByRecursion EachOf gs) → AllByRecursion EachOf (g ∷ gs)
      at true is each others = let parts = of_placed g.header g.entries (applicable state gs) each in ((λ also. parts.0), others parts.1)
      at false is each others = ((λ also. absurd (true≢false (sym also ∙ is))), others each)

  -- what is said of each entry that is applied is said group by group
  pub all_applicable : (gs : List GroupData) → All EachOf gs → All P (applicable state gs)
  all_applicable gs each = All-from_recursion P (applicable state gs) (applicable_of gs (recursion_from_All EachOf gs each))

  pub applicable_each : (gs : List GroupData) → All P (applicable state gs) → All EachOf gs
  applicable_each gs each = All-from_recursion EachOf gs (of_applicable gs (recursion_from_All P (applicable state gs) each))

-- ---- what a changeset does that is applied without a conflict

-- an entry leads from the row with its key to the row afterwards
abbrev pub EntryLeads : State → State → PlacedEntry → Type 0
EntryLeads old new p = LeadsFrom p.flags p.entry.change (current old p) (current new p)

module _ (old new : State) (changeset : List GroupData) (is : IsChangeset changeset) where
  -- each entry that is applied fits the columns of its table
  entries_fit : All (λ p. IsEntry p.flags p.entry) (applicable old changeset)
  entries_fit = all_applicable old (λ p. IsEntry p.flags p.entry) changeset (λ k d lt compatible.
      let group = get_or changeset k d in recursion_from_All (IsEntry group.header.flags) group.entries (is.each k d lt).each)

  module _ (name key : List ℕ) where
    -- no entry is of the row
    abbrev IsAbsent : Option GroupData → Type 0
    IsAbsent None = Unit {0}
    IsAbsent (Some group) = is_compatible (judged old group) ≡ true → All (λ e. key_of group.header.flags e.change ≢ key) group.entries

    elsewhere : (found : Option GroupData) → with_text table_name changeset name ≡ found → IsAbsent found → All (λ p. IsElsewhere p name key) (applicable old changeset)
    elsewhere found found_is absent = all_applicable old (λ p. IsElsewhere p name key) changeset (λ k d lt compatible.
        let group = get_or changeset k d in
        recursion_from_All (λ e. IsElsewhere (placed_by group.header e) name key) group.entries (λ j e j_lt here.
        let one : found ≡ Some group = sym found_is ∙ with_text-at table_name changeset name k d is.once lt here.0 in
        subst IsAbsent one absent compatible j e j_lt here.1))

  module _ (choose : Choices) (clean : IsClean old changeset) (done : IsApplied old changeset choose new) where
    all_lead : All (EntryLeads old new) (applicable old changeset)
    all_lead k d lt =
        let ps = applicable old changeset in
        let p = get_or ps k d in
        let none : placed_kind old p ≡ None = clean.no_conflict k d lt in
        record { finds = (meets_none (refused_at old p) (kind_between (before_image p.entry.change) (current old p)) none).0; leaves = sym (left_row old new choose p none (done.results k d lt)) }

    -- and its rows obey the rules of their tables, where those of the state before do
    pub applied_obeys : RowsObey old → RowsObey new
    applied_obeys obey table key =
        let ps = applicable old changeset in
        let Kept = λ (p : PlacedEntry). IfSome (current new p) (Obeys (refuses_at old p.table)) in
        let each : All Kept ps =
        λ k d lt.
        let p = get_or ps k d in
        let none : placed_kind old p ≡ None = clean.no_conflict k d lt in
        let met = meets_none (refused_at old p) (kind_between (before_image p.entry.change) (current old p)) none in
        rw (left_row old new choose p none (done.results k d lt))
        (left_obeys (refuses_at old p.table) p.flags p.entry.change (current old p) (entries_fit k d lt) (λ e. none-some NotFound (sym met.0 ∙ e)) met.1
        (found_kept (refuses_at old p.table) p.flags p.entry.change (current old p) (entries_fit k d lt) met.0 (obey p.table (placed_key p)))) in
        rw (refuses_same old new done.schemas table)
        (by_place table key Kept ps (recursion_from_All Kept ps each) (λ p kept here. rw (here.0, here.1) at kept)
        (λ apart. rw (done.others table key (All-from_recursion (λ p. IsElsewhere p table key) ps apart)) (obey table key)))

    module _ (name : List ℕ) where
      -- at each key of a table whose group is applied
      key_leads : (group : GroupData) → with_text table_name changeset name ≡ Some group → group.header.name ≡ name
          → AllByRecursion (λ e. EntryLeads old new (placed_by group.header e)) group.entries → (key : List ℕ)
          → LeftLeads group.header.flags (row_at old name key) (row_at new name key) (with_text (entry_key group.header.flags) group.entries key)
      key_leads group group_is named each key =
          at (with_text key_of_entry group.entries key) refl (with_text-found key_of_entry (λ e. EntryLeads old new (placed_by group.header e)) group.entries key
          (All-from_recursion (λ e. EntryLeads old new (placed_by group.header e)) group.entries each))
        where
          key_of_entry : Entry → List ℕ
          key_of_entry = entry_key group.header.flags

          at : (found : Option Entry) → with_text key_of_entry group.entries key ≡ found → IfSome found (λ e. EntryLeads old new (placed_by group.header e) × (key_of_entry e ≡ key))
              → LeftLeads group.header.flags (row_at old name key) (row_at new name key) found
          at None none h = sym (done.others name key (elsewhere name key (Some group) group_is (λ compatible. with_text-new key_of_entry group.entries key none)))
          at (Some e) found_is h = rw (named, h.1) at h.0

      table_leads : (found : Option GroupData) → with_text table_name changeset name ≡ found
          → IfSome found (λ g. ((judged old g ≢ Wider) × EachOf old (EntryLeads old new) g) × (g.header.name ≡ name)) → TableLeads old new name found
      table_leads None none h = λ key. sym (done.others name key (elsewhere name key None none tt))
      table_leads (Some group) group_is h = record {
        named = h.1;
        not_wider = h.0.0;
        applied = λ compatible. key_leads group group_is h.1 (h.0.1 compatible);
        passed = λ skipped key. sym (done.others name key (elsewhere name key (Some group) group_is (λ compatible. absurd (true≢false (sym compatible ∙ skipped)))));
      }

    -- what is applied without a conflict leads to the state afterwards
    pub applied_leads : ChangesetLeads old new changeset
    applied_leads =
        let each = applicable_each old (EntryLeads old new) changeset all_lead in
        record {
          schemas = done.schemas;
          tables = λ name. table_leads name (with_text table_name changeset name) refl
              (with_text-found table_name (λ g. (judged old g ≢ Wider) × EachOf old (EntryLeads old new) g) changeset name (λ k d lt. (clean.none_wider k d lt, each k d lt)));
        }

  -- ---- what leads from a state to another is applied without a conflict

  module _ (leads : ChangesetLeads old new changeset) (obey : RowsObey new) where
    group_leads : All (λ g. GroupLeads old new g.header.name g) changeset
    group_leads k d lt =
        let group = get_or changeset k d in
        subst (TableLeads old new group.header.name) (with_text-at table_name changeset group.header.name k d is.once lt refl) (leads.tables group.header.name)

    entries_lead : All (EachOf old (EntryLeads old new)) changeset
    entries_lead k d lt compatible =
        let group = get_or changeset k d in
        let flags = group.header.flags in
        recursion_from_All (λ e. EntryLeads old new (placed_by group.header e)) group.entries (λ j e j_lt.
        let key = key_of flags (get_or group.entries j e).change in
        subst (LeftLeads flags (row_at old group.header.name key) (row_at new group.header.name key))
        (with_text-at (entry_key flags) group.entries key j e (is.each k d lt).once j_lt refl)
        ((group_leads k d lt).applied compatible key))

    -- an entry that leaves a row that obeys the rules is not refused
    none_meets : All (λ p. placed_kind old p ≡ None) (applicable old changeset)
    none_meets k d lt =
        let p = get_or (applicable old changeset) k d in
        let led = all_applicable old (EntryLeads old new) changeset entries_lead k d lt in
        let left = row_after p.flags p.entry.change (current old p) in
        let found = between p.flags p.entry.change (current old p) (entries_fit k d lt) led.finds in
        let rules = sym (refuses_same old new leads.schemas p.table) in
        let obeys : IfSome left (Obeys (refuses_at old p.table)) = rw (led.leaves, rules) (obey p.table (placed_key p)) in
        let kept : refused_at old p ≡ false = found_obeys (refuses_at old p.table) (after_image p.flags p.entry.change) left found.0 obeys in
        rw (kept, led.finds) refl

    results : (choose : Choices) → All (λ p. placed_result old choose p ≡ Some (current new p)) (applicable old changeset)
    results choose k d lt = rw (none_meets k d lt) (ap Some (all_applicable old (EntryLeads old new) changeset entries_lead k d lt).leaves)

    -- a row that no entry is of stays
    module _ (name key : List ℕ) where
      by_entry : (group : GroupData) → group.header.name ≡ name → (found : Option Entry)
          → IfSome found (λ e. IsElsewhere (placed_by group.header e) name key × (key_of group.header.flags e.change ≡ key))
          → LeftLeads group.header.flags (row_at old name key) (row_at new name key) found → row_at new name key ≡ row_at old name key
      by_entry group named None apart led = sym led
      by_entry group named (Some e) apart led = absurd (apart.0 (named, apart.1))

      by_group : (found : Option GroupData) → IfSome found (λ g. EachOf old (λ p. IsElsewhere p name key) g × (g.header.name ≡ name)) → TableLeads old new name found
          → row_at new name key ≡ row_at old name key
      by_group None apart led = sym (led key)
      by_group (Some group) apart led = at (is_compatible (judged old group)) refl
        where
          at : (b : Bool) → is_compatible (judged old group) ≡ b → row_at new name key ≡ row_at old name key
          at true compatible =
              by_entry group apart.1 (with_text (entry_key group.header.flags) group.entries key)
              (with_text-found (entry_key group.header.flags) (λ e. IsElsewhere (placed_by group.header e) name key) group.entries key
              (All-from_recursion (λ e. IsElsewhere (placed_by group.header e) name key) group.entries (apart.0 compatible)))
              (led.applied compatible key)
          at false skipped = sym (led.passed skipped key)

      stays : All (λ p. IsElsewhere p name key) (applicable old changeset) → row_at new name key ≡ row_at old name key
      stays apart =
          by_group (with_text table_name changeset name)
          (with_text-found table_name (EachOf old (λ p. IsElsewhere p name key)) changeset name (applicable_each old (λ p. IsElsewhere p name key) changeset apart))
          (leads.tables name)

    pub leads_applied : IsClean old changeset × ((any : Choices) → IsApplied old changeset any new)
    leads_applied = (
      record { none_wider = λ k d lt. (group_leads k d lt).not_wider; no_conflict = none_meets },
      λ any. record { schemas = leads.schemas; results = results any; others = stays },
    )
