-- Changesets and the states that they make.
use Rattle.std.proofs.Common.{◌≡◌, ◌≢◌, inl, inr, ◌⊎◌, ℕ, Bool, true, false, cond, if◌then◌else◌, nat_eq, List, [], ◌∷◌, ◌++◌, map, filter_map, All, Option, Some, None, option_map, refl, sym, ap, ◌∙◌}
use Rattle.std.specs.Prelude.{unwrap_or}
use Rattle.std.specs.List.{AllByRecursion, AllZip, cons_option, flat_map}
use Rattle.std.specs.FinMap.{get, empty}
use Rattle.std.specs.Cmp.Lexicographic.{pointwise, same_text, other_text}
use Rattle.std.proofs.lemmas.List.Elements.{recursion_from_All, All-from_recursion}
use Rattle.std.proofs.lemmas.Option.{none-some}
use Rattle.cs_value.specs.State.{SchemaData, TableData, State, WrittenData, schema_at, row_at, written_at}
use Rattle.cs_value.proofs.ByteMaps.{same_maps}
use Rattle.cs_wire_entries.specs.declared.entry.Entry.{Entry}
use Rattle.cs_wire.specs.Entry.{IsEntry, before_image}
use Rattle.cs_wire.specs.Changeset.{HeaderData, GroupData, ImageData, IsGroup}
use Rattle.cs_wire.specs.Inverse.{IsInverseEntry, IsInverseGroup}
use Rattle.cs_apply_conflict_kinds.specs.declared.judging.Judgement.TheVariants.{Wider}
use Rattle.cs_apply_conflict_kinds.specs.Judging.{judgement, judged, is_compatible}
use Rattle.cs_apply_conflict_kinds.specs.Conflicts.{kind_between, row_after, is_carried_out, is_ended}
use Rattle.cs_apply_conflict_kinds.specs.Applying.{PlacedEntry, placed_by, placed_in, placed, placed_key, current, refuses_at, refused_at, IsElsewhere, compatible_groups, applicable, heeded, placed_kind, placed_kinds, Choices, met_at, written_for, written_under, placed_result}
use Rattle.cs_apply_conflict_kinds.specs.Laws.{AppliedOnce, AppliedReverts, WrittenTells}
use Rattle.cs_apply_conflict_kinds.proofs.ConflictLemmas.{meets_none, undone}
use Rattle.cs_apply_conflict_kinds.proofs.RuleLemmas.{RowsObey, rows_obey, found_obeys}
use Rattle.std.proofs.lemmas.Option.{same_Some}

-- ---- by the place of a row

module _ (table key : List ℕ) where
  abbrev IsHere : PlacedEntry → Type 0
  IsHere p = (p.table ≡ table) × (placed_key p ≡ key)

  is_here : (p : PlacedEntry) → IsHere p ⊎ IsElsewhere p table key
  is_here p = at (pointwise nat_eq p.table table) (pointwise nat_eq (placed_key p) key) refl refl
    where
      at : (a b : Bool) → a ≡ pointwise nat_eq p.table table → b ≡ pointwise nat_eq (placed_key p) key → IsHere p ⊎ IsElsewhere p table key
      at true true is same = inl (same_text p.table table is, same_text (placed_key p) key same)
      at true false is same = inr (λ here. other_text (placed_key p) key same here.1)
      at false b is same = inr (λ here. other_text p.table table is here.0)

  -- what is said of each entry says something of the row, and so does that no entry is of it
  pub by_place : {Q : Type 0} (P : PlacedEntry → Type 0) (ps : List PlacedEntry) → AllByRecursion P ps → ((p : PlacedEntry) → P p → IsHere p → Q)
      → (AllByRecursion (λ p. IsElsewhere p table key) ps → Q) → Q
  by_place P [] each here elsewhere = elsewhere tt
  by_place {Q} P (p ∷ ps) each here elsewhere = at (is_here p) (λ apart. by_place P ps each.1 here (λ others. elsewhere (apart, others)))
    where
      at : IsHere p ⊎ IsElsewhere p table key → (IsElsewhere p table key → Q) → Q
      at (inl is) next = here p each.0 is
      at (inr apart) next = next apart

-- the row of an entry is that of its table with its key
at_place : (state other : State) (p : PlacedEntry) (table key : List ℕ) → current state p ≡ current other p → p.table ≡ table → placed_key p ≡ key
    → row_at state table key ≡ row_at other table key
at_place state other p table key e is same = rw (is, same) at e

-- ---- states with the same tables and rows

same_table : (s t : Option TableData) → option_map (λ (t : TableData). t.schema) s ≡ option_map (λ (t : TableData). t.schema) t
    → ((key : List ℕ) → get (unwrap_or (option_map (λ (t : TableData). t.rows) s) empty) key ≡ get (unwrap_or (option_map (λ (t : TableData). t.rows) t) empty) key) → s ≡ t
same_table None None e rows = refl
same_table None (Some t) e rows = absurd (none-some t.schema e)
same_table (Some s) None e rows = absurd (none-some s.schema (sym e))
same_table (Some s) (Some t) e rows =
    let schema : s.schema ≡ t.schema = same_Some s.schema t.schema e in
    let held : s.rows ≡ t.rows = same_maps s.rows t.rows rows in
    ap Some (λ i. record { schema = schema i; rows = held i })

same_state : (state other : State) → ((table : List ℕ) → schema_at state table ≡ schema_at other table)
    → ((table key : List ℕ) → row_at state table key ≡ row_at other table key) → state ≡ other
same_state state other schemas rows = same_maps state other (λ table. same_table (get state table) (get other table) (schemas table) (rows table))

-- ---- one state only

pub applied_once : AppliedOnce
applied_once noop old changeset choose new other p q =
    same_state new other (λ table. p.schemas table ∙ sym (q.schemas table)) (λ table key.
    let ps = heeded noop old changeset in
    let same : All (λ p. current new p ≡ current other p) ps = λ k d lt. same_Some _ _ (sym (p.results k d lt) ∙ q.results k d lt) in
    by_place table key (λ p. current new p ≡ current other p) ps (recursion_from_All _ ps same) (λ p e here. at_place new other p table key e here.0 here.1) (λ elsewhere.
    let all = All-from_recursion (λ p. IsElsewhere p table key) ps elsewhere in
    p.others table key all ∙ sym (q.others table key all)))

-- ---- what is reported of written keys

module _ (old new : State) (choose : Choices) where
  -- of the keys of these entries
  told_of : (ps : List PlacedEntry) → AllByRecursion (λ (w : WrittenData). row_at old w.table w.key ≡ w.former) (filter_map (written_for old choose) ps)
  told_of [] = tt
  told_of (p ∷ ps) = at (is_carried_out (placed_kinds old choose p) (choose p)) (told_of ps)
    where
      at : (b : Bool) → AllByRecursion (λ (w : WrittenData). row_at old w.table w.key ≡ w.former) (filter_map (written_for old choose) ps)
          → AllByRecursion (λ (w : WrittenData). row_at old w.table w.key ≡ w.former) (cons_option (if b then Some (written_at old p.table (placed_key p)) else None) (filter_map (written_for old choose) ps))
      at true others = (refl, others)
      at false others = others

  abbrev NotWritten : List ℕ → List ℕ → WrittenData → Type 0
  NotWritten table key w = ¬ ((w.table ≡ table) × (w.key ≡ key))

  -- what an entry leaves that is not carried out
  stays : (p : PlacedEntry) → is_carried_out (placed_kinds old choose p) (choose p) ≡ false → placed_result old choose p ≡ Some (current new p) → current new p ≡ current old p
  stays p passed e = at (is_ended (placed_kinds old choose p) (choose p)) (rw passed at e)
    where
      at : (b : Bool) → (if b then None else Some (current old p)) ≡ Some (current new p) → current new p ≡ current old p
      at true e = absurd (none-some (current new p) e)
      at false e = same_Some _ _ (sym e)

  other_rows : (table key : List ℕ) (ps : List PlacedEntry) → AllByRecursion (λ p. placed_result old choose p ≡ Some (current new p)) ps
      → AllByRecursion (NotWritten table key) (filter_map (written_for old choose) ps) → (AllByRecursion (λ p. IsElsewhere p table key) ps → row_at new table key ≡ row_at old table key)
      → row_at new table key ≡ row_at old table key
  other_rows table key [] results untold others = others tt
  other_rows table key (p ∷ ps) results untold others =
      at (is_carried_out (placed_kinds old choose p) (choose p)) refl untold (λ apart left. other_rows table key ps results.1 left (λ rest. others (apart, rest)))
    where
      Left : Type 0
      Left = AllByRecursion (NotWritten table key) (filter_map (written_for old choose) ps)

      Same : Type 0
      Same = row_at new table key ≡ row_at old table key

      found : is_carried_out (placed_kinds old choose p) (choose p) ≡ false → IsHere table key p ⊎ IsElsewhere p table key → Left → (IsElsewhere p table key → Left → Same) → Same
      found is (inl here) left next = at_place new old p table key (stays p is results.0) here.0 here.1
      found is (inr apart) left next = next apart left

      at : (b : Bool) → is_carried_out (placed_kinds old choose p) (choose p) ≡ b
          → AllByRecursion (NotWritten table key) (cons_option (if b then Some (written_at old p.table (placed_key p)) else None) (filter_map (written_for old choose) ps)) → (IsElsewhere p table key → Left → Same) → Same
      at true is left next = next left.0 left.1
      at false is left next = found is (is_here table key p) left next

pub written_tells : WrittenTells
written_tells noop old changeset choose new is =
    let ps = heeded noop old changeset in
    record {
      told = All-from_recursion _ (written_under noop old changeset choose) (told_of old new choose ps);
      others = λ table key untold.
          other_rows old new choose table key ps (recursion_from_All _ ps is.results) (recursion_from_All _ (written_under noop old changeset choose) untold) (λ rest.
          is.others table key (All-from_recursion _ ps rest));
    }

-- ---- what undoes a changeset

-- an entry, and the one that undoes it
record Undoes (p q : PlacedEntry) : Type 0 where
  table : q.table ≡ p.table
  flags : q.flags ≡ p.flags
  inverse : IsInverseEntry p.flags p.entry q.entry
  fits : IsEntry p.flags p.entry

AllZip-append : {X Y : Type 0} (R : X → Y → Type 0) (xs ws : List X) (ys zs : List Y) → AllZip R xs ys → AllZip R ws zs → AllZip R (xs ++ ws) (ys ++ zs)
AllZip-append R [] ws [] zs p q = q
AllZip-append R [] ws (y ∷ ys) zs p q = absurd p
AllZip-append R (x ∷ xs) ws [] zs p q = absurd p
AllZip-append R (x ∷ xs) ws (y ∷ ys) zs p q = (p.0, AllZip-append R xs ws ys zs p.1 q)

undoes_entries : (header other : HeaderData) (es is : List Entry) → other ≡ header → AllByRecursion (IsEntry header.flags) es → AllZip (IsInverseEntry header.flags) es is
    → AllZip Undoes (map (placed_by header) es) (map (placed_by other) is)
undoes_entries header other [] [] same fits h = tt
undoes_entries header other [] (i ∷ is) same fits h = absurd h
undoes_entries header other (e ∷ es) [] same fits h = absurd h
undoes_entries header other (e ∷ es) (i ∷ is) same fits h = (
  record { table = ap (λ (h : HeaderData). h.name) same; flags = ap (λ (h : HeaderData). h.flags) same; inverse = h.0; fits = fits.0 },
  undoes_entries header other es is same fits.1 h.1,
)

undoes_groups : (gs hs : List GroupData) → AllByRecursion IsGroup gs → AllZip IsInverseGroup gs hs → AllZip Undoes (placed gs) (placed hs)
undoes_groups [] [] each h = tt
undoes_groups [] (i ∷ hs) each h = absurd h
undoes_groups (g ∷ gs) [] each h = absurd h
undoes_groups (g ∷ gs) (i ∷ hs) each h =
    AllZip-append Undoes (placed_in g) (placed gs) (placed_in i) (placed hs)
    (undoes_entries g.header i.header g.entries i.entries h.0.header (recursion_from_All (IsEntry g.header.flags) g.entries each.0.each) h.0.entries)
    (undoes_groups gs hs each.1 h.1)

module _ (old new : State) (schemas : (table : List ℕ) → schema_at new table ≡ schema_at old table) where
  -- the tables are judged alike
  pub judged_same : (g h : GroupData) → h.header ≡ g.header → judged new h ≡ judged old g
  judged_same g h same =
      ap (λ (k : HeaderData). judgement k.flags (option_map (λ (s : SchemaData). s.flags) (schema_at new k.name))) same
      ∙ ap (λ (o : Option SchemaData). judgement g.header.flags (option_map (λ (s : SchemaData). s.flags) o)) (schemas g.header.name)

  none_wider : (gs hs : List GroupData) → AllZip IsInverseGroup gs hs → AllByRecursion (λ g. judged old g ≢ Wider) gs → AllByRecursion (λ g. judged new g ≢ Wider) hs
  none_wider [] [] h none = tt
  none_wider [] (i ∷ hs) h none = absurd h
  none_wider (g ∷ gs) [] h none = absurd h
  none_wider (g ∷ gs) (i ∷ hs) h none = (λ is. none.0 (sym (judged_same g i h.0.header) ∙ is), none_wider gs hs h.1 none.1)

  compatible_same : (gs hs : List GroupData) → AllByRecursion IsGroup gs → AllZip IsInverseGroup gs hs
      → AllByRecursion IsGroup (compatible_groups old gs) × AllZip IsInverseGroup (compatible_groups old gs) (compatible_groups new hs)
  compatible_same [] [] each h = (tt, tt)
  compatible_same [] (i ∷ hs) each h = absurd h
  compatible_same (g ∷ gs) [] each h = absurd h
  compatible_same (g ∷ gs) (i ∷ hs) each h = rw (judged_same g i h.0.header) (at (is_compatible (judged old g)) (compatible_same gs hs each.1 h.1))
    where
      at : (b : Bool) → AllByRecursion IsGroup (compatible_groups old gs) × AllZip IsInverseGroup (compatible_groups old gs) (compatible_groups new hs)
          → AllByRecursion IsGroup (cond b (g ∷ compatible_groups old gs) (compatible_groups old gs))
          × AllZip IsInverseGroup (cond b (g ∷ compatible_groups old gs) (compatible_groups old gs)) (cond b (i ∷ compatible_groups new hs) (compatible_groups new hs))
      at true others = ((each.0, others.0), (h.0, others.1))
      at false others = others

-- if no entry has a conflict, none is reported
pub none_met : (state : State) (choose : Choices) (ps : List PlacedEntry) → AllByRecursion (λ p. placed_kind state p ≡ None) ps → flat_map (met_at state choose) ps ≡ []
none_met state choose [] h = refl
none_met state choose (p ∷ ps) h = rw (h.0) (none_met state choose ps h.1)

-- an entry that meets no conflict leaves what it says
pub left_row : (old new : State) (choose : Choices) (p : PlacedEntry) → placed_kind old p ≡ None → placed_result old choose p ≡ Some (current new p)
    → current new p ≡ row_after p.flags p.entry.change (current old p)
left_row old new choose p none e = same_Some _ _ (sym (rw none at e))

-- what is said of columns is the same of states with the same schemas
pub refuses_same : (old new : State) → ((table : List ℕ) → schema_at new table ≡ schema_at old table) → (table : List ℕ) → refuses_at new table ≡ refuses_at old table
refuses_same old new schemas table = ap (λ (o : Option SchemaData). unwrap_or (option_map (λ (s : SchemaData). s.refuses) o) []) (schemas table)

module _ (old new : State) (choose again : Choices) (obey : RowsObey old) (schemas : (table : List ℕ) → schema_at new table ≡ schema_at old table) where
  undone_at : (p q : PlacedEntry) → Undoes p q → placed_kind old p ≡ None → placed_result old choose p ≡ Some (current new p)
      → (placed_kind new q ≡ None) × (placed_result new again q ≡ Some (current old q)) × ((table key : List ℕ) → IsElsewhere q table key → IsElsewhere p table key)
  undone_at p q is none result =
      let left = left_row old new choose p none result in
      let key : placed_key q ≡ placed_key p = rw is.flags is.inverse.key in
      let here : (s : State) → current s q ≡ current s p = λ s. rw (is.table, key) refl in
      let after = ap (λ (i : ImageData). i.after) is.inverse.image in
      let found = (meets_none (refused_at old p) (kind_between (before_image p.entry.change) (current old p)) none).0 in
      let both = undone p.flags p.entry.change q.entry.change (current old p) is.fits (ap (λ (i : ImageData). i.before) is.inverse.image) after found in
      let now : current new q ≡ row_after p.flags p.entry.change (current old p) = here new ∙ left in
      let rules : refuses_at new q.table ≡ refuses_at old p.table = rw is.table (refuses_same old new schemas p.table) in
      let kept : refused_at new q ≡ false =
      rw (rules, is.flags, after) (found_obeys (refuses_at old p.table) (before_image p.entry.change) (current old p) found (obey p.table (placed_key p))) in
      let kind : placed_kind new q ≡ None = rw (kept, now, both.0) refl in
      let back : row_after q.flags q.entry.change (current new q) ≡ current old q =
      ap (λ (f : List ℕ). row_after f q.entry.change (current new q)) is.flags ∙ ap (row_after p.flags q.entry.change) now ∙ both.1 ∙ sym (here old) in
      (kind, rw kind (ap Some back), λ table name elsewhere h. elsewhere (is.table ∙ h.0, key ∙ h.1))

  undone_all : (ps qs : List PlacedEntry) → AllZip Undoes ps qs → AllByRecursion (λ p. placed_kind old p ≡ None) ps → AllByRecursion (λ p. placed_result old choose p ≡ Some (current new p)) ps
      → AllByRecursion (λ q. placed_kind new q ≡ None) qs × AllByRecursion (λ q. placed_result new again q ≡ Some (current old q)) qs
      × ((table key : List ℕ) → AllByRecursion (λ q. IsElsewhere q table key) qs → AllByRecursion (λ p. IsElsewhere p table key) ps)
  undone_all [] [] h none results = (tt, tt, λ table key all. tt)
  undone_all [] (q ∷ qs) h none results = absurd h
  undone_all (p ∷ ps) [] h none results = absurd h
  undone_all (p ∷ ps) (q ∷ qs) h none results =
      let first = undone_at p q h.0 none.0 results.0 in
      let others = undone_all ps qs h.1 none.1 results.1 in
      ((first.0, others.0), (first.1, others.1), λ table key all. (first.2 table key all.0, others.2 table key all.1))

pub applied_reverts : AppliedReverts
applied_reverts old changeset inverse choose again new old_is is undoes clean applied =
    let ps = applicable old changeset in
    let qs = applicable new inverse in
    let groups = compatible_same old new applied.schemas changeset inverse (recursion_from_All IsGroup changeset is.each) undoes in
    let zip : AllZip Undoes ps qs = undoes_groups (compatible_groups old changeset) (compatible_groups new inverse) groups.0 groups.1 in
    let all = undone_all old new choose again (rows_obey old old_is) applied.schemas ps qs zip (recursion_from_All _ ps clean.no_conflict) (recursion_from_All _ ps applied.results) in (
      record {
        none_wider = All-from_recursion _ inverse (none_wider old new applied.schemas changeset inverse undoes (recursion_from_All _ changeset clean.none_wider));
        no_conflict = All-from_recursion _ qs all.0;
      },
      record {
        schemas = λ table. sym (applied.schemas table);
        results = All-from_recursion _ qs all.1;
        others = λ table key elsewhere.
            sym (applied.others table key (All-from_recursion _ ps (all.2 table key (recursion_from_All _ qs elsewhere))));
      },
    )
