-- Changesets that have no changes of a table, with and without that table.
use Rattle.std.proofs.Common.{◌≡◌, ◌≢◌, ◌⊎◌, inl, inr, ℕ, Bool, true, false, cond, nat_eq, List, [], ◌∷◌, All, Option, Some, None, option_map, refl, sym, ap, subst, ◌∙◌}
use Rattle.std.specs.Prelude.{unwrap_or}
use Rattle.std.specs.List.{AllByRecursion}
use Rattle.std.specs.Ordering.{nat_cmp, is_eq}
use Rattle.std.specs.Cmp.Lexicographic.{slice_cmp, nat_list_cmp_total, pointwise, same_text, other_text}
use Rattle.std.specs.FinMap.{get, insert, empty, get-insert, get-remove}
use Rattle.std.proofs.lemmas.List.Elements.{recursion_from_All, All-from_recursion}
use Rattle.std.proofs.lemmas.Option.{none-some}
use Rattle.cs_value.specs.declared.value.OwnedValue.{OwnedValue}
use Rattle.cs_value.specs.State.{SchemaData, TableData, State, IsState, schema_at, rows_at, row_at}
use Rattle.cs_value.proofs.ByteMaps.{same_maps, self_tied, tied_bytes}
use Rattle.cs_value.proofs.StateLemmas.{each_remove, state_insert}
use Rattle.cs_value.specs.State.{IsNamedTable}
use Rattle.cs_wire.specs.Changeset.{GroupData}
use Rattle.cs_wire.specs.Laws.{ChangesetFiles}
use Rattle.cs_apply_conflict_kinds.specs.declared.conflict.Noop.TheVariants.{Report as Reported}
use Rattle.cs_apply_conflict_kinds.specs.declared.judging.Judgement.TheVariants.{Wider}
use Rattle.cs_apply_conflict_kinds.specs.Judging.{judgement, judged}
use Rattle.cs_apply_conflict_kinds.specs.Conflicts.{is_refused}
use Rattle.cs_apply_conflict_kinds.specs.Applying.{PlacedEntry, Choices, placed, placed_key, current, refused_at, compatible_groups, applicable, placed_kind, placed_result, IsElsewhere, IsClean, IsApplied, AreApplied}
use Rattle.cs_apply_conflict_kinds.proofs.ApplyLemmas.{applied_once, left_row}
use Rattle.cs_apply_engine.specs.Running.{Leads}
use Rattle.cs_apply_engine.proofs.RunLemmas.{other_tables}
use Rattle.cs_session.proofs.RewoundLemmas.{other_name}
use Rattle.cs_history.specs.Actions.{others, LeadsApart}

-- ---- what a clean changeset makes, whatever is chosen

chosen_again : (s t : State) (choose again : Choices) (ps : List PlacedEntry) → AllByRecursion (λ p. placed_kind s p ≡ None) ps → AllByRecursion (λ p. placed_result s choose p ≡ Some (current t p)) ps
    → AllByRecursion (λ p. placed_result s again p ≡ Some (current t p)) ps
chosen_again s t choose again [] none results = tt
chosen_again s t choose again (p ∷ ps) none results =
    (rw none.0 (ap Some (sym (left_row s t choose p none.0 results.0))), chosen_again s t choose again ps none.1 results.1)

pub applied_again : (s t : State) (changeset : List GroupData) (choose again : Choices) → IsClean s changeset → IsApplied s changeset choose t → IsApplied s changeset again t
applied_again s t changeset choose again clean applied =
    let ps = applicable s changeset in
    record {
      schemas = applied.schemas;
      results = All-from_recursion _ ps (chosen_again s t choose again ps (recursion_from_All _ ps clean.no_conflict) (recursion_from_All _ ps applied.results));
      others = applied.others;
    }

-- the file leads to one state only
pub leads_once : ChangesetFiles → (file : List ℕ) (s t u : State) → Leads file s t → Leads file s u → t ≡ u
leads_once law file s t u one two =
    let same : two.changeset ≡ one.changeset = law two.changeset one.changeset two.is_changeset one.is_changeset (sym two.is_file ∙ one.is_file) in
    let again : IsApplied s one.changeset two.choose u = subst (λ (c : List GroupData). IsApplied s c two.choose u) same two.applied in
    applied_once Reported s one.changeset two.choose t u (applied_again s t one.changeset one.choose two.choose one.clean one.applied) again

module _ (name : List ℕ) where
  by_name : (table : List ℕ) → (table ≡ name) ⊎ (¬ (table ≡ name))
  by_name table = at (pointwise nat_eq table name) refl
    where
      at : (b : Bool) → b ≡ pointwise nat_eq table name → (table ≡ name) ⊎ (¬ (table ≡ name))
      at true is = inl (same_text table name is)
      at false is = inr (other_text table name is)

  -- the states have the same tables but that of the name
  abbrev pub Agrees : State → State → Type 0
  Agrees s t = (table : List ℕ) → ¬ (table ≡ name) → get s table ≡ get t table

  pub others_agree : (s : State) → Agrees (others s name) s
  others_agree s table apart = get-remove nat_list_cmp_total s name table ∙ ap (λ (b : Bool). cond b None (get s table)) (other_name table name (λ is. apart (sym is)))

  pub gone : (s : State) → get (others s name) name ≡ None
  gone s = get-remove nat_list_cmp_total s name name ∙ ap (λ (b : Bool). cond b None (get s name)) (self_tied name)

  others_state : (s : State) → IsState s → IsState (others s name)
  others_state s is = each_remove IsNamedTable s name is

  -- ---- what the entries of other tables meet

  module _ (s t : State) (agrees : Agrees s t) where
    judged_same : (g : GroupData) → ¬ (g.header.name ≡ name) → judged s g ≡ judged t g
    judged_same g apart =
        ap (λ (o : Option TableData). judgement g.header.flags (option_map (λ (s : SchemaData). s.flags) (option_map (λ (t : TableData). t.schema) o))) (agrees g.header.name apart)

    groups_same : (gs : List GroupData) → AllByRecursion (λ g. g.header.name ≢ name) gs → compatible_groups s gs ≡ compatible_groups t gs
    groups_same [] apart = refl
    groups_same (g ∷ gs) apart = rw (judged_same g apart.0, groups_same gs apart.1) refl

    none_wider : (gs : List GroupData) → AllByRecursion (λ g. g.header.name ≢ name) gs → AllByRecursion (λ g. judged s g ≢ Wider) gs → AllByRecursion (λ g. judged t g ≢ Wider) gs
    none_wider [] apart none = tt
    none_wider (g ∷ gs) apart none = (λ is. none.0 (judged_same g apart.0 ∙ is), none_wider gs apart.1 none.1)

    current_same : (p : PlacedEntry) → p.table ≢ name → current s p ≡ current t p
    current_same p apart = ap (λ (o : Option TableData). get (unwrap_or (option_map (λ (t : TableData). t.rows) o) empty) (placed_key p)) (agrees p.table apart)

    refused_same : (p : PlacedEntry) → p.table ≢ name → refused_at s p ≡ refused_at t p
    refused_same p apart =
        ap (λ (o : Option TableData). is_refused (unwrap_or (option_map (λ (s : SchemaData). s.refuses) (option_map (λ (t : TableData). t.schema) o)) []) p.flags p.entry.change) (agrees p.table apart)

    kind_same : (p : PlacedEntry) → p.table ≢ name → placed_kind s p ≡ placed_kind t p
    kind_same p apart = rw (refused_same p apart, current_same p apart) refl

    result_same : (choose : Choices) (p : PlacedEntry) → p.table ≢ name → placed_result s choose p ≡ placed_result t choose p
    result_same choose p apart = rw (refused_same p apart, current_same p apart) refl

    kinds_same : (ps : List PlacedEntry) → AllByRecursion (λ p. p.table ≢ name) ps → AllByRecursion (λ p. placed_kind s p ≡ None) ps → AllByRecursion (λ p. placed_kind t p ≡ None) ps
    kinds_same [] apart none = tt
    kinds_same (p ∷ ps) apart none = (sym (kind_same p apart.0) ∙ none.0, kinds_same ps apart.1 none.1)

    clean_same : (gs : List GroupData) → AllByRecursion (λ g. g.header.name ≢ name) gs → IsClean s gs → IsClean t gs
    clean_same gs apart clean =
        let ps = applicable s gs in
        let met = kinds_same ps (other_tables s name gs apart) (recursion_from_All _ ps clean.no_conflict) in
        record {
          none_wider = All-from_recursion _ gs (none_wider gs apart (recursion_from_All _ gs clean.none_wider));
          no_conflict = subst (λ (qs : List PlacedEntry). All (λ p. placed_kind t p ≡ None) qs) (ap placed (groups_same gs apart)) (All-from_recursion _ ps met);
        }

  -- ---- what they make

  module _ (s t u v : State) (before : Agrees s t) (after : Agrees u v) (here : get v name ≡ get t name) where
    results_same : (choose : Choices) (ps : List PlacedEntry) → AllByRecursion (λ p. p.table ≢ name) ps → AllByRecursion (λ p. placed_result s choose p ≡ Some (current u p)) ps
        → AllByRecursion (λ p. placed_result t choose p ≡ Some (current v p)) ps
    results_same choose [] apart results = tt
    results_same choose (p ∷ ps) apart results =
        (sym (result_same s t before choose p apart.0) ∙ results.0 ∙ ap Some (current_same u v after p apart.0), results_same choose ps apart.1 results.1)

    made : (choose : Choices) (ps : List PlacedEntry) → AllByRecursion (λ p. p.table ≢ name) ps → AreApplied s ps choose u → AreApplied t ps choose v
    made choose ps apart applied = record {
      schemas = λ table. elim (by_name table) [
        | inl is ↦ ap (λ (n : List ℕ). schema_at v n) is ∙ ap (option_map (λ (t : TableData). t.schema)) here ∙ ap (λ (n : List ℕ). schema_at t n) (sym is)
        | inr other ↦ ap (option_map (λ (t : TableData). t.schema)) (sym (after table other)) ∙ applied.schemas table ∙ ap (option_map (λ (t : TableData). t.schema)) (before table other)
      ];
      results = All-from_recursion _ ps (results_same choose ps apart (recursion_from_All _ ps applied.results));
      others = λ table key elsewhere. elim (by_name table) [
        | inl is ↦ ap (λ (n : List ℕ). row_at v n key) is ∙ ap (row_in key) here ∙ ap (λ (n : List ℕ). row_at t n key) (sym is)
        | inr other ↦ ap (row_in key) (sym (after table other)) ∙ applied.others table key elsewhere ∙ ap (row_in key) (before table other)
      ];
    }
      where
        row_in : List ℕ → Option TableData → Option (List OwnedValue)
        row_in key o = get (unwrap_or (option_map (λ (t : TableData). t.rows) o) empty) key

    pub leads_same : (file : List ℕ) → IsState t → (leads : Leads file s u) → All (λ g. g.header.name ≢ name) leads.changeset → Leads file t v
    leads_same file is leads apart =
        let gs = leads.changeset in
        let avoid = recursion_from_All (λ (g : GroupData). g.header.name ≢ name) gs apart in
        record {
          changeset = gs;
          is_changeset = leads.is_changeset;
          is_file = leads.is_file;
          is_state = is;
          clean = clean_same s t before gs avoid leads.clean;
          choose = leads.choose;
          applied = subst (λ (ps : List PlacedEntry). AreApplied t ps leads.choose v) (ap placed (groups_same s t before gs avoid))
              (made leads.choose (applicable s gs) (other_tables s name gs avoid) leads.applied);
        }

  -- ---- without the table, and with it

  pub leads_apart : (file : List ℕ) (s u : State) (leads : Leads file s u) → All (λ g. g.header.name ≢ name) leads.changeset → LeadsApart name file (others s name) (others u name)
  unfolding leads_same
  leads_apart file s u leads apart = record {
    leads = leads_same s (others s name) u (others u name) (λ table other. sym (others_agree s table other)) (λ table other. sym (others_agree u table other)) (gone u ∙ sym (gone s))
        file (others_state s leads.is_state) leads apart;
    apart = apart;
  }

  -- the rows of the table stay
  pub rows_stay : (file : List ℕ) (s u : State) (leads : Leads file s u) → All (λ g. g.header.name ≢ name) leads.changeset → rows_at s name ≡ rows_at u name
  rows_stay file s u leads apart =
      let gs = leads.changeset in
      let ps = applicable s gs in
      let other = other_tables s name gs (recursion_from_All (λ (g : GroupData). g.header.name ≢ name) gs apart) in
      same_maps (rows_at s name) (rows_at u name) (λ key. sym (leads.applied.others name key (All-from_recursion _ ps (elsewhere key ps other))))
    where
      elsewhere : (key : List ℕ) (ps : List PlacedEntry) → AllByRecursion (λ p. p.table ≢ name) ps → AllByRecursion (λ p. IsElsewhere p name key) ps
      elsewhere key [] other = tt
      elsewhere key (p ∷ ps) other = (λ here. other.0 here.0, elsewhere key ps other.1)

  module _ (s : State) (table : TableData) (none : get s name ≡ None) where
    -- tables with that of the name, which they did not have
    abbrev pub joined : State
    joined = insert s name table

    joined_get : (q : List ℕ) → get joined q ≡ cond (is_eq (slice_cmp nat_cmp q name)) (Some table) (get s q)
    joined_get q = get-insert nat_list_cmp_total s name table q

    joined_here : get joined name ≡ Some table
    joined_here = joined_get name ∙ ap (λ (b : Bool). cond b (Some table) (get s name)) (self_tied name)

    joined_agrees : Agrees s joined
    joined_agrees q other = sym (joined_get q ∙ ap (λ (b : Bool). cond b (Some table) (get s q)) (other_name q name (λ is. other (sym is))))

    joined_others : others joined name ≡ s
    joined_others = same_maps (others joined name) s (λ q. get-remove nat_list_cmp_total joined name q ∙ ap (cond (is_eq (slice_cmp nat_cmp q name)) None) (joined_get q) ∙ at q (is_eq (slice_cmp nat_cmp q name)) refl)
      where
        at : (q : List ℕ) (b : Bool) → is_eq (slice_cmp nat_cmp q name) ≡ b → cond b None (cond b (Some table) (get s q)) ≡ get s q
        at q true is = sym (ap (get s) (tied_bytes q name is) ∙ none)
        at q false is = refl

  no_schema : (o : Option TableData) → option_map (λ (t : TableData). t.schema) o ≡ None → o ≡ None
  no_schema None is = refl
  no_schema (Some t) is = absurd (none-some t.schema (sym is))

  -- what leads to the other tables of a state leads to that state
  pub leads_here : (file : List ℕ) (before now : State) (table : TableData) → IsState now → get now name ≡ Some table → LeadsApart name file before (others now name)
      → (from : State) × Leads file from now × (others from name ≡ before) × (get from name ≡ get now name)
  leads_here file before now table is found it =
      let none : get before name ≡ None = no_schema (get before name) (sym (it.leads.applied.schemas name) ∙ ap (option_map (λ (t : TableData). t.schema)) (gone now)) in
      let from = joined before table none in (
        from,
        leads_same before from (others now name) now (joined_agrees before table none) (others_agree now) (found ∙ sym (joined_here before table none))
            file (state_insert before name table it.leads.is_state (is name table found).named (is name table found).is_table) it.leads it.apart,
        joined_others before table none,
        joined_here before table none ∙ sym found,
      )

  -- and what leads on from them leads on from that state
  pub leads_from : (file : List ℕ) (now after : State) (table : TableData) → IsState now → get now name ≡ Some table → LeadsApart name file (others now name) after
      → (reached : State) × Leads file now reached × (others reached name ≡ after) × (get reached name ≡ get now name)
  leads_from file now after table is found it =
      let none : get after name ≡ None = no_schema (get after name) (it.leads.applied.schemas name ∙ ap (option_map (λ (t : TableData). t.schema)) (gone now)) in
      let reached = joined after table none in (
        reached,
        leads_same (others now name) now after reached (others_agree now) (joined_agrees after table none) (joined_here after table none ∙ sym found)
            file is it.leads it.apart,
        joined_others after table none,
        joined_here after table none ∙ sym found,
      )
