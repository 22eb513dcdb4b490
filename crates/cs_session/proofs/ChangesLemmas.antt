-- The net changeset of a session, applied to the rows from before.
use Rattle.std.proofs.Common.{bytes_eq, ◌≡◌, ◌≢◌, ◌⊎◌, inl, inr, ℕ, zero, suc, Bool, true, false, cond, List, [], ◌∷◌, ◌++◌, length, map, filter_map, Option, Some, None, option_map, refl, sym, ap, ◌∙◌, subst}
use Rattle.std.specs.Prelude.{IfSome, unwrap_or, nat_lt}
use Rattle.std.specs.FinMap.{get}
use Rattle.std.proofs.Common.{arith}
use Rattle.std.proofs.lemmas.Bool.{le-ltb}
use Rattle.std.proofs.lemmas.List.Elements.{recursion_from_All, All-from_recursion}
use Rattle.std.specs.List.{AllByRecursion, cons_option}
use Rattle.std.specs.Cmp.Lexicographic.{same_text, other_text, nat_list_eq_equiv}
use Rattle.cs_value.specs.declared.value.OwnedValue.{OwnedValue}
use Rattle.cs_value.specs.State.{SchemaData, State, IsState, IsRowAt, Obeys, schema_at, row_at, rows_at}
use Rattle.cs_value.proofs.ListLemmas.{AllByRecursion-cons_option, PairsByRecursion, recursion_from_AllPairs, AllPairs-from_recursion}
use Rattle.cs_value.proofs.StateLemmas.{row_at_fits}
use Rattle.cs_wire_entries.specs.declared.entry.Change.{Change}
use Rattle.cs_wire_entries.specs.declared.entry.Entry.{Entry}
use Rattle.cs_wire.specs.Entry.{IsEntry, key_of, after_image}
use Rattle.cs_wire.specs.Changeset.{HeaderData, GroupData, IsGroup, IsChangeset}
use Rattle.cs_apply_conflict_kinds.specs.declared.judging.Judgement.TheVariants.{Wider, Compatible}
use Rattle.cs_apply_conflict_kinds.specs.Judging.{leads, judgement, judged}
use Rattle.cs_group.specs.Net.{net_row_change}
use Rattle.cs_apply_conflict_kinds.specs.Conflicts.{is_refused, row_after}
use Rattle.cs_apply_conflict_kinds.specs.Applying.{PlacedEntry, placed_by, placed, current, refuses_at, IsElsewhere, placed_kind, placed_result, compatible_groups, applicable, Choices, IsClean, IsApplied}
use Rattle.cs_group.specs.Inverse.{IsInverse}
use Rattle.cs_apply_conflict_kinds.proofs.ApplyLemmas.{applied_reverts}
use Rattle.cs_apply_conflict_kinds.proofs.ConflictLemmas.{between}
use Rattle.cs_group.proofs.KeyPlaceLemmas.{row_under}
use Rattle.cs_apply_conflict_kinds.proofs.NetLemmas.{NetLeads, net_leads}
use Rattle.cs_apply_conflict_kinds.proofs.RuleLemmas.{found_obeys}
use Rattle.cs_session_notes.specs.FirstImages.{FirstImage, AttachedTable, Notes, IsAttachedTable, IsNotes, HasAttached, first_at, entry_since, header_of, group_of, recorded_changes, rewound_state}
use Rattle.cs_session_notes.proofs.FirstLemmas.{put_all_at}
use Rattle.cs_session.proofs.RewoundLemmas.{rewound_schemas, rewound_is_state, rewound_elsewhere, IsRewound, rewound_here}

-- ---- the entry of a key

-- the first image is one of its table
pub record IsFirst (table : AttachedTable) (first : FirstImage) : Type 0 where
  pub fits : IfSome first.row (IsRowAt table.schema first.key)
  pub found : first_at table.firsts first.key ≡ Some first.row

-- the entry has no conflict in the state before, and leaves the current row
pub record LeadsBack (state before : State) (p : PlacedEntry) : Type 0 where
  pub no_conflict : placed_kind before p ≡ None
  pub leaves : row_after p.flags p.entry.change (current before p) ≡ current state p

-- a row that may be in a table obeys its rules
row_obeys : (schema : SchemaData) (key : List ℕ) (row : Option (List OwnedValue)) → IfSome row (IsRowAt schema key) → IfSome row (Obeys schema.refuses)
row_obeys schema key None is = tt
row_obeys schema key (Some row) is = is.obeys

module _ (state before : State) (table : AttachedTable) (has : schema_at before table.name ≡ Some table.schema)
    (held : (key : List ℕ) → IfSome (row_at state table.name key) (IsRowAt table.schema key))
    (rows : (q : List ℕ) → row_at before table.name q ≡ unwrap_or (first_at table.firsts q) (row_at state table.name q)) where
  abbrev flags : List ℕ
  flags = table.schema.flags

  -- what an entry of a key says, or that there is none
  record NetsKey (first : FirstImage) (entry : Entry) : Type 0 where
    fits : IsEntry flags entry
    same : key_of flags entry.change ≡ first.key
    leads : LeadsBack state before (placed_by (header_of table) entry)

  abbrev Nets : FirstImage → Option Entry → Type 0
  Nets first None = first.row ≡ row_at state table.name first.key
  Nets first (Some entry) = NetsKey first entry

  nets_change : (first : FirstImage) → IsFirst table first → (o : Option Change) → NetLeads flags first.key first.row (row_at state table.name first.key) o
      → Nets first (option_map (λ change. let e : Entry = record { indirect = false; change = change } in e) o)
  nets_change first is None same = same
  nets_change first is (Some change) leads =
      let there : row_at before table.name (key_of flags change) ≡ first.row =
      ap (row_at before table.name) leads.same ∙ rows first.key ∙ ap (λ (o : Option (Option (List OwnedValue))). unwrap_or o (row_at state table.name first.key)) is.found in
      let left = row_after flags change first.row in
      let found = between flags change first.row leads.fits leads.finds in
      let rules : refuses_at before table.name ≡ table.schema.refuses = ap (λ (o : Option SchemaData). unwrap_or (option_map (λ (s : SchemaData). s.refuses) o) []) has in
      let obeys : IfSome left (Obeys table.schema.refuses) = rw leads.leaves (row_obeys table.schema first.key (row_at state table.name first.key) (held first.key)) in
      let kept : is_refused (refuses_at before table.name) flags change ≡ false = rw rules (found_obeys table.schema.refuses (after_image flags change) left found.0 obeys) in
      record {
        fits = leads.fits;
        same = leads.same;
        leads = record {
          no_conflict = rw (kept, there, leads.finds) refl;
          leaves = ap (row_after flags change) there ∙ leads.leaves ∙ ap (row_at state table.name) (sym leads.same);
        };
      }

  nets : (first : FirstImage) → IsFirst table first → Nets first (entry_since state table first)
  nets first is =
      let now = row_at state table.name first.key in
      nets_change first is (net_row_change flags first.row now)
      (net_leads flags first.key first.row now (row_under table.schema first.key first.row is.fits) (row_under table.schema first.key now (held first.key)))

  -- ---- the entries of the table

  abbrev entries_of : List FirstImage → List Entry
  entries_of firsts = filter_map (entry_since state table) firsts

  abbrev Leads : Entry → Type 0
  Leads entry = LeadsBack state before (placed_by (header_of table) entry)

  all_lead : (firsts : List FirstImage) → AllByRecursion (IsFirst table) firsts → AllByRecursion Leads (entries_of firsts)
  all_lead [] is = tt
  all_lead (first ∷ firsts) is = at (entry_since state table first) (nets first is.0) (all_lead firsts is.1)
    where
      at : (o : Option Entry) → Nets first o → AllByRecursion Leads (entries_of firsts) → AllByRecursion Leads (cons_option o (entries_of firsts))
      at None net others = others
      at (Some entry) net others = (net.leads, others)

  -- a key without an entry has the first row
  no_entry : (q : List ℕ) (firsts : List FirstImage) → AllByRecursion (IsFirst table) firsts → AllByRecursion (λ e. ¬ (key_of flags e.change ≡ q)) (entries_of firsts)
      → unwrap_or (first_at firsts q) (row_at state table.name q) ≡ row_at state table.name q
  no_entry q [] is apart = refl
  no_entry q (first ∷ firsts) is apart =
      by_key (bytes_eq first.key q) refl (entry_since state table first) (nets first is.0) apart (no_entry q firsts is.1)
    where
      here : first.key ≡ q → (o : Option Entry) → Nets first o → AllByRecursion (λ e. ¬ (key_of flags e.change ≡ q)) (cons_option o (entries_of firsts)) → first.row ≡ row_at state table.name q
      here same None net left = net ∙ ap (row_at state table.name) same
      here same (Some entry) net left = absurd (left.0 (net.same ∙ same))

      others : (o : Option Entry) → AllByRecursion (λ e. ¬ (key_of flags e.change ≡ q)) (cons_option o (entries_of firsts)) → AllByRecursion (λ e. ¬ (key_of flags e.change ≡ q)) (entries_of firsts)
      others None left = left
      others (Some entry) left = left.1

      by_key : (b : Bool) → bytes_eq first.key q ≡ b → (o : Option Entry) → Nets first o → AllByRecursion (λ e. ¬ (key_of flags e.change ≡ q)) (cons_option o (entries_of firsts))
          → (AllByRecursion (λ e. ¬ (key_of flags e.change ≡ q)) (entries_of firsts) → unwrap_or (first_at firsts q) (row_at state table.name q) ≡ row_at state table.name q)
          → unwrap_or (cond b (Some first.row) (first_at firsts q)) (row_at state table.name q) ≡ row_at state table.name q
      by_key true same o net left next = here (same_text first.key q (sym same)) o net left
      by_key false same o net left next = next (others o left)

-- ---- the tables

-- the table is there, its keys are those of first images, and its rows before are those from before
pub record IsTracked (state before : State) (table : AttachedTable) : Type 0 where
  pub has : schema_at before table.name ≡ Some table.schema
  pub firsts : AllByRecursion (IsFirst table) table.firsts
  pub held : (key : List ℕ) → IfSome (row_at state table.name key) (IsRowAt table.schema key)
  pub rows : (q : List ℕ) → row_at before table.name q ≡ unwrap_or (first_at table.firsts q) (row_at state table.name q)

leads_itself : (flags : List ℕ) → leads flags flags ≡ true
leads_itself [] = refl
leads_itself (zero ∷ flags) = leads_itself flags
leads_itself (suc flag ∷ flags) = leads_itself flags

not_wider : (n : ℕ) → nat_lt n n ≡ false
not_wider n = le-ltb n n (omega arith)

judged_compatible : (before : State) (table : AttachedTable) (entries : List Entry) → schema_at before table.name ≡ Some table.schema
    → judged before (record { header = header_of table; entries = entries }) ≡ Compatible
judged_compatible before table entries has =
    ap (λ (o : Option SchemaData). judgement table.schema.flags (option_map (λ s. s.flags) o)) has
    ∙ rw (leads_itself table.schema.flags, not_wider (length table.schema.flags)) refl

module _ (state before : State) where
  tracked_has : (notes : Notes) → AllByRecursion (IsTracked state before) notes → AllByRecursion (HasAttached before) notes
  tracked_has [] tracked = tt
  tracked_has (table ∷ notes) tracked = (tracked.0.has, tracked_has notes tracked.1)

  -- the tables of the changes are there
  pub all_compatible : (notes : Notes) → AllByRecursion (HasAttached before) notes → AllByRecursion (λ g. judged before g ≡ Compatible) (recorded_changes notes state)
  all_compatible [] has = tt
  all_compatible (table ∷ notes) has = at (filter_map (entry_since state table) table.firsts) (all_compatible notes has.1)
    where
      at : (es : List Entry) → AllByRecursion (λ g. judged before g ≡ Compatible) (recorded_changes notes state)
          → AllByRecursion (λ g. judged before g ≡ Compatible) (cons_option (group_of (header_of table) es) (recorded_changes notes state))
      at [] others = others
      at (entry ∷ es) others = (judged_compatible before table (entry ∷ es) has.0, others)

  both_lead : (header : HeaderData) (es : List Entry) (tail : List PlacedEntry) → AllByRecursion (λ e. LeadsBack state before (placed_by header e)) es
      → AllByRecursion (LeadsBack state before) tail → AllByRecursion (LeadsBack state before) (map (placed_by header) es ++ tail)
  both_lead header [] tail first others = others
  both_lead header (e ∷ es) tail first others = (first.0, both_lead header es tail first.1 others)

  pub all_lead_back : (notes : Notes) → AllByRecursion (IsTracked state before) notes → AllByRecursion (LeadsBack state before) (placed (recorded_changes notes state))
  all_lead_back [] tracked = tt
  all_lead_back (table ∷ notes) tracked =
      at (filter_map (entry_since state table) table.firsts) (all_lead state before table tracked.0.has tracked.0.held tracked.0.rows table.firsts tracked.0.firsts) (all_lead_back notes tracked.1)
    where
      at : (es : List Entry) → AllByRecursion (λ e. LeadsBack state before (placed_by (header_of table) e)) es → AllByRecursion (LeadsBack state before) (placed (recorded_changes notes state))
          → AllByRecursion (LeadsBack state before) (placed (cons_option (group_of (header_of table) es) (recorded_changes notes state)))
      at [] first others = others
      at (entry ∷ es) first others = both_lead (header_of table) (entry ∷ es) (placed (recorded_changes notes state)) first others

  module _ (name q : List ℕ) where
    abbrev Elsewhere : PlacedEntry → Type 0
    Elsewhere p = IsElsewhere p name q

    apart_parts : (header : HeaderData) (es : List Entry) (tail : List PlacedEntry) → AllByRecursion Elsewhere (map (placed_by header) es ++ tail)
        → AllByRecursion (λ e. Elsewhere (placed_by header e)) es × AllByRecursion Elsewhere tail
    apart_parts header [] tail apart = (tt, apart)
    apart_parts header (e ∷ es) tail apart = let others = apart_parts header es tail apart.1 in ((apart.0, others.0), others.1)

    group_parts : (header : HeaderData) (es : List Entry) (groups : List GroupData) → AllByRecursion Elsewhere (placed (cons_option (group_of header es) groups))
        → AllByRecursion (λ e. Elsewhere (placed_by header e)) es × AllByRecursion Elsewhere (placed groups)
    group_parts header [] groups apart = (tt, apart)
    group_parts header (e ∷ es) groups apart = apart_parts header (e ∷ es) (placed groups) apart

    other_key : (table : AttachedTable) → table.name ≡ name → (es : List Entry) → AllByRecursion (λ e. Elsewhere (placed_by (header_of table) e)) es
        → AllByRecursion (λ e. ¬ (key_of table.schema.flags e.change ≡ q)) es
    other_key table is [] apart = tt
    other_key table is (e ∷ es) apart = ((λ key. apart.0 (is, key)), other_key table is es apart.1)

    -- a row without an entry was there before, or its table is not attached
    pub by_table : (notes : Notes) → AllByRecursion (IsTracked state before) notes → AllByRecursion Elsewhere (placed (recorded_changes notes state))
        → AllByRecursion (λ t. ¬ (t.name ≡ name)) notes ⊎ (row_at state name q ≡ row_at before name q)
    by_table [] tracked apart = inl tt
    by_table (table ∷ notes) tracked apart =
        let parts = group_parts (header_of table) (filter_map (entry_since state table) table.firsts) (recorded_changes notes state) apart in
        at (bytes_eq table.name name) refl parts.0 (by_table notes tracked.1 parts.1)
      where
        here : table.name ≡ name → AllByRecursion (λ e. Elsewhere (placed_by (header_of table) e)) (filter_map (entry_since state table) table.firsts)
            → row_at state name q ≡ row_at before name q
        here is apart =
            let none = no_entry state before table tracked.0.has tracked.0.held tracked.0.rows q table.firsts tracked.0.firsts (other_key table is (filter_map (entry_since state table) table.firsts) apart) in
            subst (λ (n : List ℕ). row_at state n q ≡ row_at before n q) is (sym (tracked.0.rows q ∙ none))

        at : (b : Bool) → bytes_eq table.name name ≡ b → AllByRecursion (λ e. Elsewhere (placed_by (header_of table) e)) (filter_map (entry_since state table) table.firsts)
            → AllByRecursion (λ t. ¬ (t.name ≡ name)) notes ⊎ (row_at state name q ≡ row_at before name q)
            → AllByRecursion (λ t. ¬ (t.name ≡ name)) (table ∷ notes) ⊎ (row_at state name q ≡ row_at before name q)
        at true same apart others = inr (here (same_text table.name name (sym same)) apart)
        at false same apart (inl others) = inl (other_text table.name name (sym same), others)
        at false same apart (inr is) = inr is

-- ---- the net changeset

found_itself : (first : FirstImage) (firsts : List FirstImage) → first_at (first ∷ firsts) first.key ≡ Some first.row
found_itself first firsts = rw (nat_list_eq_equiv.refl first.key) refl

found_behind : (first : FirstImage) (firsts others : List FirstImage) → AllByRecursion (λ f. first.key ≢ f.key) others
    → AllByRecursion (λ f. first_at firsts f.key ≡ Some f.row) others → AllByRecursion (λ f. first_at (first ∷ firsts) f.key ≡ Some f.row) others
found_behind first firsts [] apart found = tt
found_behind first firsts (f ∷ others) apart found = (at (bytes_eq first.key f.key) refl, found_behind first firsts others apart.1 found.1)
  where
    at : (b : Bool) → bytes_eq first.key f.key ≡ b → cond b (Some first.row) (first_at firsts f.key) ≡ Some f.row
    at true same = absurd (apart.0 (same_text first.key f.key (sym same)))
    at false same = found.0

all_found : (firsts : List FirstImage) → PairsByRecursion (λ f g. f.key ≢ g.key) firsts → AllByRecursion (λ f. first_at firsts f.key ≡ Some f.row) firsts
all_found [] apart = tt
all_found (first ∷ firsts) apart = (found_itself first firsts, found_behind first firsts firsts apart.0 (all_found firsts apart.1))

all_first : (table : AttachedTable) (firsts : List FirstImage) → AllByRecursion (λ f. IfSome f.row (IsRowAt table.schema f.key)) firsts
    → AllByRecursion (λ f. first_at table.firsts f.key ≡ Some f.row) firsts → AllByRecursion (IsFirst table) firsts
all_first table [] fits found = tt
all_first table (first ∷ firsts) fits found = (record { fits = fits.0; found = found.0 }, all_first table firsts fits.1 found.1)

filter_all : (before : State) (groups : List GroupData) → AllByRecursion (λ g. judged before g ≡ Compatible) groups → compatible_groups before groups ≡ groups
filter_all before [] h = refl
filter_all before (g ∷ groups) h = rw (h.0) (ap (λ (gs : List GroupData). g ∷ gs) (filter_all before groups h.1))

module _ (state : State) (notes : Notes) (is_state : IsState state) (are_notes : IsNotes notes) (has : AllByRecursion (HasAttached state) notes) where
  abbrev before : State
  before = rewound_state notes state

  abbrev changes : List GroupData
  changes = recorded_changes notes state

  tracked : (ts : Notes) → AllByRecursion IsAttachedTable ts → AllByRecursion (HasAttached state) ts → AllByRecursion (IsRewound state before) ts → AllByRecursion (IsTracked state before) ts
  tracked [] each there rewinds = tt
  tracked (table ∷ ts) each there rewinds = (
    record {
      has = rewound_schemas state notes has table.name ∙ there.0;
      firsts = all_first table table.firsts (recursion_from_All (λ (f : FirstImage). IfSome f.row (IsRowAt table.schema f.key)) table.firsts each.0.rows)
          (all_found table.firsts (recursion_from_AllPairs (λ (f g : FirstImage). f.key ≢ g.key) table.firsts each.0.once));
      held = row_at_fits state table.name table.schema is_state there.0;
      rows = λ q. ap (λ m. get m q) rewinds.0 ∙ put_all_at table.firsts (rows_at state table.name) q;
    },
    tracked ts each.1 there.1 rewinds.1,
  )

  all_tracked : AllByRecursion (IsTracked state before) notes
  all_tracked =
      tracked notes (recursion_from_All IsAttachedTable notes are_notes.each) has
      (rewound_here state notes has (recursion_from_AllPairs (λ (s t : AttachedTable). s.name ≢ t.name) notes are_notes.once))

  all_apply : applicable before changes ≡ placed changes
  all_apply = ap placed (filter_all before changes (all_compatible state before notes (tracked_has state before notes all_tracked)))

  none_meets : (ps : List PlacedEntry) → AllByRecursion (LeadsBack state before) ps → AllByRecursion (λ p. placed_kind before p ≡ None) ps
  none_meets [] leads = tt
  none_meets (p ∷ ps) leads = (leads.0.no_conflict, none_meets ps leads.1)

  results : (choose : Choices) (ps : List PlacedEntry) → AllByRecursion (LeadsBack state before) ps → AllByRecursion (λ p. placed_result before choose p ≡ Some (current state p)) ps
  results choose [] leads = tt
  results choose (p ∷ ps) leads = (rw (leads.0.no_conflict) (ap Some leads.0.leaves), results choose ps leads.1)

  none_wide : (groups : List GroupData) → AllByRecursion (λ g. judged before g ≡ Compatible) groups → AllByRecursion (λ g. judged before g ≢ Wider) groups
  none_wide [] h = tt
  none_wide (g ∷ groups) h = ((λ wide. apart (sym h.0 ∙ wide)), none_wide groups h.1)
    where
      apart : Compatible ≡ Wider → ⊥
      apart e = cc

  by_notes : (table key : List ℕ) → AllByRecursion (λ t. ¬ (t.name ≡ table)) notes ⊎ (row_at state table key ≡ row_at before table key) → row_at state table key ≡ row_at before table key
  by_notes table key (inl elsewhere) = sym (ap (λ m. get m key) (rewound_elsewhere state notes has table elsewhere))
  by_notes table key (inr is) = is

  -- the rows from before meet no conflict with it
  pub changes_clean : IsClean before changes
  changes_clean = record {
    none_wider = All-from_recursion (λ (g : GroupData). judged before g ≢ Wider) changes (none_wide changes (all_compatible state before notes (tracked_has state before notes all_tracked)));
    no_conflict = rw all_apply (All-from_recursion (λ p. placed_kind before p ≡ None) (placed changes) (none_meets (placed changes) (all_lead_back state before notes all_tracked)));
  }

  -- and with it they become the current rows
  pub changes_applied : (choose : Choices) → IsApplied before changes choose state
  changes_applied choose = rw all_apply (record {
    schemas = λ table. sym (rewound_schemas state notes has table);
    results = All-from_recursion _ (placed changes) (results choose (placed changes) (all_lead_back state before notes all_tracked));
    others = λ table key apart. by_notes table key
        (by_table state before table key notes all_tracked (recursion_from_All (λ (p : PlacedEntry). IsElsewhere p table key) (placed changes) apart));
  })

  -- ---- it is a changeset

  abbrev Keys : AttachedTable → Entry → Entry → Type 0
  Keys table d e = key_of table.schema.flags d.change ≢ key_of table.schema.flags e.change

  module _ (table : AttachedTable) (is : IsTracked state before table) where
    all_fit : (firsts : List FirstImage) → AllByRecursion (IsFirst table) firsts → AllByRecursion (IsEntry table.schema.flags) (filter_map (entry_since state table) firsts)
    all_fit [] first = tt
    all_fit (f ∷ firsts) first = at (entry_since state table f) (nets state before table is.has is.held is.rows f first.0) (all_fit firsts first.1)
      where
        at : (o : Option Entry) → Nets state before table is.has is.held is.rows f o → AllByRecursion (IsEntry table.schema.flags) (filter_map (entry_since state table) firsts)
            → AllByRecursion (IsEntry table.schema.flags) (cons_option o (filter_map (entry_since state table) firsts))
        at None net others = others
        at (Some entry) net others = (net.fits, others)

    -- none of the others has its key
    other_keys : (key : List ℕ) (firsts : List FirstImage) → AllByRecursion (IsFirst table) firsts → AllByRecursion (λ f. key ≢ f.key) firsts
        → AllByRecursion (λ e. key ≢ key_of table.schema.flags e.change) (filter_map (entry_since state table) firsts)
    other_keys key [] first apart = tt
    other_keys key (f ∷ firsts) first apart = at (entry_since state table f) (nets state before table is.has is.held is.rows f first.0) (other_keys key firsts first.1 apart.1)
      where
        at : (o : Option Entry) → Nets state before table is.has is.held is.rows f o → AllByRecursion (λ e. key ≢ key_of table.schema.flags e.change) (filter_map (entry_since state table) firsts)
            → AllByRecursion (λ e. key ≢ key_of table.schema.flags e.change) (cons_option o (filter_map (entry_since state table) firsts))
        at None net others = others
        at (Some entry) net others = ((λ same. apart.0 (same ∙ net.same)), others)

    keys_apart : (firsts : List FirstImage) → AllByRecursion (IsFirst table) firsts → PairsByRecursion (λ f g. f.key ≢ g.key) firsts
        → PairsByRecursion (Keys table) (filter_map (entry_since state table) firsts)
    keys_apart [] first apart = tt
    keys_apart (f ∷ firsts) first apart =
        at (entry_since state table f) (nets state before table is.has is.held is.rows f first.0) (other_keys f.key firsts first.1 apart.0) (keys_apart firsts first.1 apart.1)
      where
        moved : (key : List ℕ) (es : List Entry) → key ≡ f.key → AllByRecursion (λ e. f.key ≢ key_of table.schema.flags e.change) es
            → AllByRecursion (λ e. key ≢ key_of table.schema.flags e.change) es
        moved key es same others = subst (λ (k : List ℕ). AllByRecursion (λ e. k ≢ key_of table.schema.flags e.change) es) (sym same) others

        at : (o : Option Entry) → Nets state before table is.has is.held is.rows f o → AllByRecursion (λ e. f.key ≢ key_of table.schema.flags e.change) (filter_map (entry_since state table) firsts)
            → PairsByRecursion (Keys table) (filter_map (entry_since state table) firsts) → PairsByRecursion (Keys table) (cons_option o (filter_map (entry_since state table) firsts))
        at None net others rest = rest
        at (Some entry) net others rest = (moved (key_of table.schema.flags entry.change) (filter_map (entry_since state table) firsts) net.same others, rest)

    group_is : IsAttachedTable table → (entries : List Entry) → AllByRecursion (IsEntry table.schema.flags) entries → PairsByRecursion (Keys table) entries
        → IfSome (group_of (header_of table) entries) IsGroup
    group_is attached [] fit apart = tt
    group_is attached (entry ∷ entries) fit apart = record {
      header = record { name = attached.named; flags = attached.schema.flags };
      some = omega arith;
      each = All-from_recursion (IsEntry table.schema.flags) (entry ∷ entries) fit;
      once = AllPairs-from_recursion (Keys table) (entry ∷ entries) apart;
    }

    pub table_group : IsAttachedTable table → IfSome (group_of (header_of table) (filter_map (entry_since state table) table.firsts)) IsGroup
    table_group attached =
        group_is attached (filter_map (entry_since state table) table.firsts) (all_fit table.firsts is.firsts)
        (keys_apart table.firsts is.firsts (recursion_from_AllPairs (λ (f g : FirstImage). f.key ≢ g.key) table.firsts attached.once))

  all_groups : (ts : Notes) → AllByRecursion IsAttachedTable ts → AllByRecursion (IsTracked state before) ts → AllByRecursion IsGroup (recorded_changes ts state)
  all_groups [] each is = tt
  all_groups (table ∷ ts) each is =
      AllByRecursion-cons_option IsGroup (group_of (header_of table) (filter_map (entry_since state table) table.firsts)) (recorded_changes ts state)
      (table_group table is.0 each.0) (all_groups ts each.1 is.1)

  other_names : (name : List ℕ) (ts : Notes) → AllByRecursion (λ t. name ≢ t.name) ts → AllByRecursion (λ g. name ≢ g.header.name) (recorded_changes ts state)
  other_names name [] apart = tt
  other_names name (table ∷ ts) apart = at (filter_map (entry_since state table) table.firsts) (other_names name ts apart.1)
    where
      at : (es : List Entry) → AllByRecursion (λ g. name ≢ g.header.name) (recorded_changes ts state)
          → AllByRecursion (λ g. name ≢ g.header.name) (cons_option (group_of (header_of table) es) (recorded_changes ts state))
      at [] others = others
      at (entry ∷ es) others = (apart.0, others)

  names_apart : (ts : Notes) → PairsByRecursion (λ s t. s.name ≢ t.name) ts → PairsByRecursion (λ g h. g.header.name ≢ h.header.name) (recorded_changes ts state)
  names_apart [] apart = tt
  names_apart (table ∷ ts) apart = at (filter_map (entry_since state table) table.firsts) (other_names table.name ts apart.0) (names_apart ts apart.1)
    where
      at : (es : List Entry) → AllByRecursion (λ g. table.name ≢ g.header.name) (recorded_changes ts state) → PairsByRecursion (λ g h. g.header.name ≢ h.header.name) (recorded_changes ts state)
          → PairsByRecursion (λ g h. g.header.name ≢ h.header.name) (cons_option (group_of (header_of table) es) (recorded_changes ts state))
      at [] others rest = rest
      at (entry ∷ es) others rest = (others, rest)

  -- a table once, and in it a key once
  pub changes_are : IsChangeset changes
  changes_are = record {
    each = All-from_recursion IsGroup changes (all_groups notes (recursion_from_All IsAttachedTable notes are_notes.each) all_tracked);
    once = AllPairs-from_recursion (λ (g h : GroupData). g.header.name ≢ h.header.name) changes
        (names_apart notes (recursion_from_AllPairs (λ (s t : AttachedTable). s.name ≢ t.name) notes are_notes.once));
  }

  -- ---- its inverse

  -- the rows from before are those of a state
  pub before_is : IsState before
  before_is = rewound_is_state state is_state notes (recursion_from_All IsAttachedTable notes are_notes.each) has

  -- has no conflict with the current rows, and with it they become those from before
  pub inverse_rewinds : (inverse : List GroupData) (choose : Choices) → IsInverse changes inverse → IsClean state inverse × IsApplied state inverse choose before
  inverse_rewinds inverse choose undoes = applied_reverts before changes inverse choose choose state before_is changes_are undoes changes_clean (changes_applied choose)
