-- Entries that are no-ops, and those of them that are ignored.
use Rattle.std.proofs.Common.{◌≡◌, ◌≢◌, ◌↔◌, ℕ, zero, suc, Bool, true, false, true≢false, cond, not, ◌&&◌, if◌then◌else◌, List, [], ◌∷◌, ◌++◌, map, filter, Option, Some, None, refl, sym, ap, ◌∙◌, arith}
use Rattle.std.specs.Prelude.{is_some}
use Rattle.std.specs.List.{AllByRecursion}
use Rattle.std.proofs.lemmas.Option.{none-some, same_Some}
use Rattle.std.proofs.lemmas.List.Elements.{recursion_from_All, All-from_recursion, All-filter}
use Rattle.std.proofs.lemmas.List.Kept.{AllPairs-filter}
use Rattle.cs_value.specs.declared.value.OwnedValue.{OwnedValue}
use Rattle.cs_value.specs.declared.value.OwnedField.{OwnedField}
use Rattle.cs_value.specs.declared.value.OwnedField.TheVariants.{Undefined, Defined}
use Rattle.cs_value.specs.Value.{IsRow, IsRecord}
use Rattle.cs_value.specs.Table.{IsKeyedRow}
use Rattle.cs_value.specs.Key.{row_key, image_key}
use Rattle.cs_value.specs.Spelling.{value_bytes, field_bytes}
use Rattle.cs_value.specs.State.{State, has_null, Obeys}
use Rattle.cs_value.proofs.ListLemmas.{AllByRecursion-append, AllByRecursion-map, AllByRecursion-weaker, PairsByRecursion, recursion_from_AllPairs}
use Rattle.cs_value.proofs.Spellings.{field_spellings}
use Rattle.cs_wire_entries.specs.declared.entry.Change.TheVariants.{Insert, Delete, Update}
use Rattle.cs_wire_entries.specs.declared.entry.Entry.{Entry}
use Rattle.cs_wire.specs.Entry.{IsChange, IsKeyedUpdate, key_of, with_key}
use Rattle.cs_wire.specs.Changeset.{HeaderData, GroupData, IsChangeset, IsGroup}
use Rattle.cs_apply_conflict_kinds.specs.declared.conflict.Kind.TheVariants.{Data}
use Rattle.cs_apply_conflict_kinds.specs.declared.conflict.Noop.TheVariants.{Report, Ignore}
use Rattle.cs_apply_conflict_kinds.specs.Judging.{judged, is_compatible}
use Rattle.cs_group.specs.Net.{is_same}
use Rattle.cs_apply_conflict_kinds.specs.Conflicts.{has_values, is_refused, or_constraint, conflict_kind, is_idle}
use Rattle.cs_apply_conflict_kinds.specs.Applying.{PlacedEntry, placed_by, placed_in, placed, placed_key, current, IsElsewhere, compatible_groups, applicable, is_idle_at, ignored_of}
use Rattle.cs_apply_conflict_kinds.specs.Laws.{IdleCases, IgnoredStand}
use Rattle.cs_group.proofs.ImageLemmas.{same_itself}
use Rattle.cs_apply_conflict_kinds.proofs.ConflictLemmas.{and_false, has_its_values, all_values}
use Rattle.cs_apply_conflict_kinds.proofs.RuleLemmas.{image_obeys}

-- ---- which changes are no-ops

-- a change that leaves another row is none
not_idle : (b : Bool) → (b && false) ≡ true → ⊥
not_idle b e = true≢false (sym e ∙ and_false b)

idle_deleted : (refused : Bool) (flags : List ℕ) (old : List OwnedValue) (row : Option (List OwnedValue)) → (is_idle refused flags (Delete old) row ≡ true) ↔ (row ≡ None)
idle_deleted refused flags old None = ((λ _. refl), (λ _. refl))
idle_deleted refused flags old (Some row) =
    ((λ e. absurd (not_idle (is_some (conflict_kind refused (Delete old) (Some row))) e)), (λ e. absurd (none-some row (sym e))))

idle_inserted : (refused : Bool) (flags : List ℕ) (new : List OwnedValue) (row : Option (List OwnedValue)) → (is_idle refused flags (Insert new) row ≡ true) ↔ (row ≡ Some new)
idle_inserted refused flags new None = ((λ e. absurd (not_idle (is_some (conflict_kind refused (Insert new) None)) e)), (λ e. absurd (none-some new e)))
idle_inserted refused flags new (Some row) = ((λ e. ap Some (sym (all_values row new e))), (λ e. let same = same_Some row new e in rw same (has_its_values new)))

-- the row with the key of an update has the values of its key columns
has_key : (flags : List ℕ) (old new : List OwnedField) (row : List OwnedValue) → IsRecord old → IsKeyedUpdate flags old new → IsRow row → IsKeyedRow flags row
    → row_key flags row ≡ image_key flags old → has_values row (with_key flags old new) ≡ has_values row new
unfolding value_bytes field_bytes
has_key [] [] [] [] fits paired values keyed same = refl
has_key [] [] [] (value ∷ row) fits paired values keyed same = absurd keyed
has_key [] [] (n ∷ new) row fits paired values keyed same = absurd paired
has_key [] (o ∷ old) new row fits paired values keyed same = absurd paired
has_key (flag ∷ flags) [] new row fits paired values keyed same = absurd paired
has_key (flag ∷ flags) (o ∷ old) [] row fits paired values keyed same = absurd paired
has_key (flag ∷ flags) (o ∷ old) (n ∷ new) [] fits paired values keyed same = absurd keyed
has_key (zero ∷ flags) (o ∷ old) (Undefined ∷ new) (value ∷ row) fits paired values keyed same = has_key flags old new row fits.1 paired.1 values.1 keyed same
has_key (zero ∷ flags) (o ∷ old) (Defined w ∷ new) (value ∷ row) fits paired values keyed same =
    ap (λ (b : Bool). is_same (Defined w) (Defined value) && b) (has_key flags old new row fits.1 paired.1 values.1 keyed same)
has_key (suc flag ∷ flags) (Undefined ∷ old) (n ∷ new) (value ∷ row) fits paired values keyed same = absurd paired.0
has_key (suc flag ∷ flags) (Defined v ∷ old) (Defined w ∷ new) (value ∷ row) fits paired values keyed same = absurd paired.0
has_key (suc flag ∷ flags) (Defined v ∷ old) (Undefined ∷ new) (value ∷ row) fits paired values keyed same =
    let both = field_spellings (Defined value) (Defined v) _ _ values.0 fits.0 same in
    let here : is_same (Defined v) (Defined value) ≡ true = ap (is_same (Defined v)) both.0 ∙ same_itself (Defined v) in
    rw here (has_key flags old new row fits.1 paired.1 values.1 keyed.1 both.1)

-- a row that has the values of an update that would break the rules has broken them itself
idle_updated : (refuses : List Bool) (flags : List ℕ) (old new : List OwnedField) (row : List OwnedValue) → IsChange flags (Update old new)
    → IsRow row → IsKeyedRow flags row → Obeys refuses row → row_key flags row ≡ image_key flags old
    → is_idle (is_refused refuses flags (Update old new)) flags (Update old new) (Some row) ≡ (not (has_values row old) && has_values row new)
idle_updated refuses flags old new row fits values keyed obeys same =
    let image = with_key flags old new in
    at (has_values row old) (has_null refuses image) (has_values row image) (λ has. image_obeys refuses row image has obeys)
    ∙ ap (λ (b : Bool). not (has_values row old) && b) (has_key flags old new row fits.0 fits.2 values keyed same)
  where
    at : (b refused has : Bool) → (has ≡ true → refused ≡ false) → (is_some (or_constraint refused (if b then None else Some Data)) && has) ≡ (not b && has)
    at false refused has kept = refl
    at true false has kept = refl
    at true true false kept = refl
    at true true true kept = absurd (true≢false (kept refl))

pub idle_cases : IdleCases
idle_cases = record {
  deleted = idle_deleted;
  inserted = idle_inserted;
  updated = idle_updated;
  missing = λ refused flags old new. refl;
}

-- ---- entries of other rows

-- two entries are of different rows
abbrev Apart : PlacedEntry → PlacedEntry → Type 0
Apart p q = IsElsewhere q p.table (placed_key p)

flip : (p q : PlacedEntry) → Apart p q → Apart q p
flip p q apart here = apart (sym here.0, sym here.1)

pairs_append : (ps qs : List PlacedEntry) → PairsByRecursion Apart ps → PairsByRecursion Apart qs → AllByRecursion (λ p. AllByRecursion (Apart p) qs) ps
    → PairsByRecursion Apart (ps ++ qs)
pairs_append [] qs first second across = second
pairs_append (p ∷ ps) qs first second across =
    (AllByRecursion-append (Apart p) ps qs first.0 across.0, pairs_append ps qs first.1 second across.1)

-- those of a group
group_apart : (header : HeaderData) (es : List Entry) → PairsByRecursion (λ d e. key_of header.flags d.change ≢ key_of header.flags e.change) es
    → PairsByRecursion Apart (map (placed_by header) es)
group_apart header [] each = tt
group_apart header (e ∷ es) each =
    (AllByRecursion-map (Apart (placed_by header e)) (placed_by header) es (AllByRecursion-weaker _ _ (λ d other here. other (sym here.1)) es each.0), group_apart header es each.1)

-- and those of groups of other names
other_names : (name : List ℕ) (gs : List GroupData) → AllByRecursion (λ g. name ≢ g.header.name) gs → AllByRecursion (λ q. name ≢ q.table) (placed gs)
other_names name [] each = tt
other_names name (g ∷ gs) each =
    AllByRecursion-append (λ q. name ≢ q.table) (placed_in g) (placed gs) (AllByRecursion-map (λ q. name ≢ q.table) (placed_by g.header) g.entries (same g.entries)) (other_names name gs each.1)
  where
    same : (es : List Entry) → AllByRecursion (λ e. name ≢ g.header.name) es
    same [] = tt
    same (e ∷ es) = (each.0, same es)

across : (g : GroupData) (es : List Entry) (qs : List PlacedEntry) → AllByRecursion (λ q. g.header.name ≢ q.table) qs
    → AllByRecursion (λ p. AllByRecursion (Apart p) qs) (map (placed_by g.header) es)
across g [] qs other = tt
across g (e ∷ es) qs other = (AllByRecursion-weaker _ (Apart (placed_by g.header e)) (λ q apart here. apart (sym here.0)) qs other, across g es qs other)

placed_apart : (gs : List GroupData) → PairsByRecursion (λ g h. g.header.name ≢ h.header.name) gs → AllByRecursion IsGroup gs → PairsByRecursion Apart (placed gs)
placed_apart [] names each = tt
placed_apart (g ∷ gs) names each =
    pairs_append (placed_in g) (placed gs) (group_apart g.header g.entries (recursion_from_AllPairs _ g.entries each.0.once)) (placed_apart gs names.1 each.1)
    (across g g.entries (placed gs) (other_names g.header.name gs names.0))

applicable_apart : (state : State) (changeset : List GroupData) → IsChangeset changeset → PairsByRecursion Apart (applicable state changeset)
applicable_apart state changeset is =
    let takes = λ (g : GroupData). is_compatible (judged state g) in
    placed_apart (compatible_groups state changeset)
    (recursion_from_AllPairs _ (filter takes changeset) (AllPairs-filter (λ g h. g.header.name ≢ h.header.name) takes changeset is.once))
    (recursion_from_All IsGroup (filter takes changeset) (All-filter takes IsGroup changeset is.each))

-- ---- the rows of entries that are ignored

module _ (state : State) where
  -- of the entries that are not no-ops
  abbrev Others : List PlacedEntry → List PlacedEntry
  Others ps = filter (λ q. not (is_idle_at state q)) ps

  abbrev AwayFrom : List PlacedEntry → PlacedEntry → Type 0
  AwayFrom ps p = is_idle_at state p ≡ true → AllByRecursion (Apart p) (Others ps)

  others_of : (P : PlacedEntry → Type 0) (ps : List PlacedEntry) → AllByRecursion P ps → AllByRecursion P (Others ps)
  others_of P [] each = tt
  others_of P (p ∷ ps) each = at (not (is_idle_at state p)) (others_of P ps each.1)
    where
      at : (b : Bool) → AllByRecursion P (Others ps) → AllByRecursion P (cond b (p ∷ Others ps) (Others ps))
      at true others = (each.0, others)
      at false others = others

  one_more : (p : PlacedEntry) (ps : List PlacedEntry) (q : PlacedEntry) → Apart p q → AwayFrom ps q → AwayFrom (p ∷ ps) q
  one_more p ps q apart away idle = at (not (is_idle_at state p)) (away idle)
    where
      at : (b : Bool) → AllByRecursion (Apart q) (Others ps) → AllByRecursion (Apart q) (cond b (p ∷ Others ps) (Others ps))
      at true others = (flip p q apart, others)
      at false others = others

  all_more : (p : PlacedEntry) (ps qs : List PlacedEntry) → AllByRecursion (Apart p) qs → AllByRecursion (AwayFrom ps) qs → AllByRecursion (AwayFrom (p ∷ ps)) qs
  all_more p ps [] apart away = tt
  all_more p ps (q ∷ qs) apart away = (one_more p ps q apart.0 away.0, all_more p ps qs apart.1 away.1)

  all_away : (ps : List PlacedEntry) → PairsByRecursion Apart ps → AllByRecursion (AwayFrom ps) ps
  all_away [] pairs = tt
  all_away (p ∷ ps) pairs = ((λ idle. rw idle (others_of (Apart p) ps pairs.0)), all_more p ps ps pairs.0 (all_away ps pairs.1))

  idle_each : (P : PlacedEntry → Type 0) (ps : List PlacedEntry) → AllByRecursion (λ p. is_idle_at state p ≡ true → P p) ps → AllByRecursion P (filter (is_idle_at state) ps)
  idle_each P [] each = tt
  idle_each P (p ∷ ps) each = at (is_idle_at state p) refl (idle_each P ps each.1)
    where
      at : (b : Bool) → is_idle_at state p ≡ b → AllByRecursion P (filter (is_idle_at state) ps) → AllByRecursion P (cond b (p ∷ filter (is_idle_at state) ps) (filter (is_idle_at state) ps))
      at true idle others = (each.0 idle, others)
      at false idle others = others

pub ignored_stand : IgnoredStand
ignored_stand Report old changeset choose new is applied = λ k d lt. absurd (omega (arith, lt))
ignored_stand Ignore old changeset choose new is applied =
    let ps = applicable old changeset in
    let stands = λ (p : PlacedEntry) (away : AwayFrom old ps p) (idle : is_idle_at old p ≡ true).
    applied.others p.table (placed_key p) (All-from_recursion (λ q. IsElsewhere q p.table (placed_key p)) (Others old ps) (away idle)) in
    All-from_recursion (λ p. current new p ≡ current old p) (ignored_of Ignore old ps)
    (idle_each old (λ p. current new p ≡ current old p) ps (AllByRecursion-weaker _ (λ p. is_idle_at old p ≡ true → current new p ≡ current old p) stands ps (all_away old ps (applicable_apart old changeset is))))
