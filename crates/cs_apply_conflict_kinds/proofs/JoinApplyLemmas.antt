-- A join does what both of its changesets do in turn.
use Rattle.std.proofs.Common.{◌≡◌, ℕ, Bool, true, false, List, [], ◌∷◌, get_or, All, Option, Some, None, option_map, refl, sym, ap, ◌∙◌, subst}
use Rattle.std.specs.Prelude.{IfSome}
use Rattle.cs_value.specs.declared.value.OwnedValue.{OwnedValue}
use Rattle.cs_value.specs.State.{SchemaData, State, schema_at, row_at}
use Rattle.cs_wire_entries.specs.declared.entry.Entry.{Entry}
use Rattle.cs_wire.specs.Entry.{IsEntry}
use Rattle.cs_wire.specs.Changeset.{HeaderData, GroupData, IsGroup, IsChangeset}
use Rattle.cs_apply_conflict_kinds.specs.Judging.{judged, is_compatible}
use Rattle.cs_group.specs.Joining.{entry_key, table_name, with_text, outcome, joined_entry, joined_entries, some_group, joined_group, joined, key_marks, Agrees, AgreesWith, AreJoinable}
use Rattle.cs_apply_conflict_kinds.specs.JoinLaw.{JoinApplies}
use Rattle.cs_apply_conflict_kinds.proofs.EntryJoinLemmas.{LeftLeads, merged_leads}
use Rattle.cs_group.proofs.FoundLemmas.{joined_found, found_joined}
use Rattle.cs_group.proofs.JoinLemmas.{key_of_fit, others_fit, outcomes, both_second, group_outcomes}
use Rattle.cs_apply_conflict_kinds.proofs.JudgingLemmas.{judgement_same}
use Rattle.cs_group.proofs.KeyPlaceLemmas.{key_of_same, after_image_same}
use Rattle.cs_apply_conflict_kinds.proofs.RuleLemmas.{rows_obey}
use Rattle.cs_apply_conflict_kinds.proofs.TableLemmas.{GroupLeads, TableLeads, ChangesetLeads, applied_obeys, applied_leads, leads_applied}
use Rattle.cs_group.proofs.TextLemmas.{with_text-found, with_text-same}

-- ---- the entries of one key

-- under flags with the same key places an entry does the same
led_same : (f g : List ℕ) (before after : Option (List OwnedValue)) (found : Option Entry) → key_marks f ≡ key_marks g → LeftLeads f before after found → LeftLeads g before after found
led_same f g before after None e led = led
led_same f g before after (Some entry) e led = record {
  finds = led.finds;
  leaves = rw (sym (after_image_same f g entry.change e)) led.leaves;
}

module _ (flags key : List ℕ) (before mid after : Option (List OwnedValue)) where
  -- the entry fits, and is of the key
  abbrev IsOf : Entry → Type 0
  IsOf e = IsEntry flags e × (entry_key flags e ≡ key)

  -- what two entries make together does what both do in turn, and so does a single one
  entries_lead : (first second : Option Entry) → IfSome first IsOf → IfSome second IsOf
      → LeftLeads flags before mid first → LeftLeads flags mid after second → LeftLeads flags before after (joined_found (joined_entry flags) first second)
  entries_lead None None p q one two = one ∙ two
  entries_lead None (Some f) p q one two = rw one two
  entries_lead (Some e) None p q one two = rw (sym two) one
  entries_lead (Some e) (Some f) p q one two =
      merged_leads flags e f p.0 q.0 (p.1 ∙ sym q.1) before mid after one two

-- ---- the entries of one table

module _ (first second : GroupData) (p : IsGroup first) (q : IsGroup second) (agree : key_marks second.header.flags ≡ key_marks first.header.flags) where
  abbrev flags : List ℕ
  flags = first.header.flags

  -- at a key
  group_entries_lead : (key : List ℕ) (before mid after : Option (List OwnedValue))
      → LeftLeads flags before mid (with_text (entry_key flags) first.entries key)
      → LeftLeads second.header.flags mid after (with_text (entry_key second.header.flags) second.entries key)
      → LeftLeads flags before after (with_text (entry_key flags) (joined_entries flags first.entries second.entries) key)
  group_entries_lead key before mid after one two =
      let keeps : All (λ e. IfSome (outcome (entry_key flags) (joined_entry flags) second.entries e) (λ z. entry_key flags z ≡ entry_key flags e)) first.entries =
      λ k d lt. let e = get_or first.entries k d in
      key_of_fit flags (entry_key flags e) (outcome (entry_key flags) (joined_entry flags) second.entries e) (outcomes first second p q agree k d lt) in
      let there = with_text (entry_key flags) second.entries key in
      let two_here : LeftLeads flags mid after there =
      led_same second.header.flags flags mid after there agree
      (subst (LeftLeads second.header.flags mid after)
      (with_text-same (entry_key second.header.flags) (entry_key flags) (λ e. key_of_same second.header.flags flags e.change agree) second.entries key) two) in
      rw (found_joined (entry_key flags) key (joined_entry flags) first.entries second.entries keeps p.once)
      (entries_lead flags key before mid after (with_text (entry_key flags) first.entries key) there
      (with_text-found (entry_key flags) (IsEntry flags) first.entries key p.each)
      (with_text-found (entry_key flags) (IsEntry flags) second.entries key (others_fit first second p q agree)) one two_here)

-- ---- the tables

module _ (old mid new : State) (schemas : (table : List ℕ) → schema_at mid table ≡ schema_at old table) where
  -- groups of one table that agree are judged alike
  judged_alike : (name : List ℕ) (g h : GroupData) → g.header.name ≡ name → h.header.name ≡ name → key_marks h.header.flags ≡ key_marks g.header.flags → judged mid h ≡ judged old g
  judged_alike name g h g_is h_is agree =
      rw (g_is, h_is, schemas name) (judgement_same h.header.flags g.header.flags (option_map (λ (s : SchemaData). s.flags) (schema_at old name)) agree)

  module _ (name : List ℕ) where
    -- a group, if it has an entry
    some_leads : (header : HeaderData) (entries : List Entry) → GroupLeads old new name (record { header = header; entries = entries }) → TableLeads old new name (some_group header entries)
    some_leads header [] led = at (is_compatible (judged old (record { header = header; entries = [] }))) refl
      where
        at : (b : Bool) → is_compatible (judged old (record { header = header; entries = [] })) ≡ b → (key : List ℕ) → row_at old name key ≡ row_at new name key
        at true compatible = led.applied compatible
        at false skipped = led.passed skipped
    some_leads header (e ∷ entries) led = led

    -- a group of only the second
    second_leads : (h : GroupData) → ((key : List ℕ) → row_at old name key ≡ row_at mid name key) → GroupLeads mid new name h → GroupLeads old new name h
    second_leads h one two =
        let alike : judged mid h ≡ judged old h = judged_alike name h h two.named two.named refl in
        record {
          named = two.named;
          not_wider = λ wide. two.not_wider (alike ∙ wide);
          applied = λ compatible key. rw (one key) (two.applied (ap is_compatible alike ∙ compatible) key);
          passed = λ skipped key. one key ∙ two.passed (ap is_compatible alike ∙ skipped) key;
        }

    -- a group of only the first
    first_leads : (g : GroupData) → GroupLeads old mid name g → ((key : List ℕ) → row_at mid name key ≡ row_at new name key) → GroupLeads old new name g
    first_leads g one two = record {
      named = one.named;
      not_wider = one.not_wider;
      applied = λ compatible key. rw (sym (two key)) (one.applied compatible key);
      passed = λ skipped key. one.passed skipped key ∙ two key;
    }

    -- a group of each
    both_lead : (g h : GroupData) → IsGroup g → IsGroup h → key_marks h.header.flags ≡ key_marks g.header.flags → GroupLeads old mid name g → GroupLeads mid new name h
        → GroupLeads old new name (record { header = g.header; entries = joined_entries g.header.flags g.entries h.entries })
    both_lead g h p q agree one two =
        let alike : judged mid h ≡ judged old g = judged_alike name g h one.named two.named agree in
        record {
          named = one.named;
          not_wider = one.not_wider;
          applied = λ compatible key.
              group_entries_lead g h p q agree key (row_at old name key) (row_at mid name key) (row_at new name key)
              (one.applied compatible key) (two.applied (ap is_compatible alike ∙ compatible) key);
          passed = λ skipped key. one.passed skipped key ∙ two.passed (ap is_compatible alike ∙ skipped) key;
        }

    module _ (first : List GroupData) where
      -- what the two changesets have of a table
      tables_lead : (g h : Option GroupData) → with_text table_name first name ≡ g → IfSome g (λ g. IsGroup g × (g.header.name ≡ name))
          → IfSome h (λ h. (IsGroup h × AgreesWith first h) × (h.header.name ≡ name)) → TableLeads old mid name g → TableLeads mid new name h
          → TableLeads old new name (joined_found joined_group g h)
      tables_lead None None found p q one two = λ key. one key ∙ two key
      tables_lead None (Some h) found p q one two = second_leads h one two
      tables_lead (Some g) None found p q one two = first_leads g one two
      tables_lead (Some g) (Some h) found p q one two =
          let agrees : Agrees h g × (g.header.name ≡ name) = rw found at (with_text-found table_name (Agrees h) first name q.0.1) in
          some_leads g.header (joined_entries g.header.flags g.entries h.entries)
          (both_lead g h p.0 q.0.0 (sym (agrees.0 (p.1 ∙ sym q.1))) one two)

-- ---- the changesets

joined_leads : (first second : List GroupData) → IsChangeset first → IsChangeset second → AreJoinable first second → (old mid new : State)
    → ChangesetLeads old mid first → ChangesetLeads mid new second → ChangesetLeads old new (joined first second)
joined_leads first second p q joinable old mid new one two = record {
  schemas = λ table. two.schemas table ∙ one.schemas table;
  tables = λ name.
      let keeps : All (λ g. IfSome (outcome table_name joined_group second g) (λ z. table_name z ≡ table_name g)) first =
      λ k d lt. let g = get_or first k d in both_second (outcome table_name joined_group second g) g.header.name (group_outcomes first second p q joinable k d lt) in
      rw (found_joined table_name name joined_group first second keeps p.once)
      (tables_lead old mid new one.schemas name first (with_text table_name first name) (with_text table_name second name) refl
      (with_text-found table_name IsGroup first name p.each)
      (with_text-found table_name (λ h. IsGroup h × AgreesWith first h) second name (λ k d lt. (q.each k d lt, joinable k d lt)))
      (one.tables name) (two.tables name));
}

-- where both apply without a conflict
pub join_applies : JoinApplies
join_applies first second join p q is old mid new choose again old_is clean done also next =
    let mid_obey = applied_obeys old mid first p choose clean done (rows_obey old old_is) in
    let leads = joined_leads first second p q is.joinable old mid new
    (applied_leads old mid first p choose clean done) (applied_leads mid new second q again also next) in
    leads_applied old new join is.is_changeset (rw (is.is_joined) leads) (applied_obeys mid new second q again also next mid_obey)
