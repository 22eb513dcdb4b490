-- No two entries of a changeset are the same one, and no two conflicts of a rehearsal are the same.
use Rattle.std.proofs.Common.{◌≢◌, Bool, true, false, cond, not, List, [], ◌∷◌, ◌++◌, map, filter, Option, None, Some, sym, ap, subst, ◌∙◌}
use Rattle.std.specs.List.{AllByRecursion, flat_map}
use Rattle.std.proofs.lemmas.List.Elements.{recursion_from_All}
use Rattle.cs_value.specs.State.{State}
use Rattle.cs_value.proofs.ListLemmas.{AllByRecursion-append, AllByRecursion-map, AllByRecursion-weaker, PairsByRecursion, recursion_from_AllPairs}
use Rattle.cs_wire_entries.specs.declared.entry.Entry.{Entry}
use Rattle.cs_wire.specs.Entry.{key_of}
use Rattle.cs_wire.specs.Changeset.{HeaderData, GroupData, IsChangeset, IsGroup}
use Rattle.cs_apply_conflict_kinds.specs.declared.conflict.Kind.{Kind}
use Rattle.cs_apply_conflict_kinds.specs.declared.conflict.Kind.TheVariants.{Data, NotFound, Conflict, Constraint}
use Rattle.cs_apply_conflict_kinds.specs.declared.conflict.Noop.{Noop}
use Rattle.cs_apply_conflict_kinds.specs.declared.conflict.Noop.TheVariants.{Report, Ignore}
use Rattle.cs_apply_conflict_kinds.specs.Conflicts.{conflict_kind, kinds_from}
use Rattle.cs_apply_conflict_kinds.specs.Judging.{judged, is_compatible}
use Rattle.cs_apply_conflict_kinds.specs.Applying.{PlacedEntry, ConflictData, conflict_with, current, heeded, heeded_of, is_idle_at, compatible_groups, met_at, placed, placed_by, placed_in, placed_kinds, refused_at}
use Rattle.cs_apply_rehearsal.specs.Choosing.{IsSame}
use Rattle.cs_apply_rehearsal.specs.Found.{IsOf}
use Rattle.cs_apply_rehearsal.specs.Rehearsing.{rehearsing, replace_or_omit}
use Rattle.cs_apply_rehearsal.proofs.AlongLemmas.{conflicts_in, of_entries-cons, own_of}
use Rattle.cs_apply_rehearsal.proofs.ComingLemmas.{AreOthers}

-- ---- pairs

pairs_append : {X : Type 0} (R : X → X → Type 0) (ps qs : List X) → PairsByRecursion R ps → PairsByRecursion R qs → AllByRecursion (λ p. AllByRecursion (R p) qs) ps → PairsByRecursion R (ps ++ qs)
pairs_append R [] qs first second across = second
pairs_append R (p ∷ ps) qs first second across = (AllByRecursion-append (R p) ps qs first.0 across.0, pairs_append R ps qs first.1 second across.1)

all_filter : {X : Type 0} (P : X → Type 0) (takes : X → Bool) (xs : List X) → AllByRecursion P xs → AllByRecursion P (filter takes xs)
all_filter P takes [] each = tt
all_filter P takes (x ∷ xs) each = at (takes x) (all_filter P takes xs each.1)
  where
    at : (b : Bool) → AllByRecursion P (filter takes xs) → AllByRecursion P (cond b (x ∷ filter takes xs) (filter takes xs))
    at true others = (each.0, others)
    at false others = others

pairs_filter : {X : Type 0} (R : X → X → Type 0) (takes : X → Bool) (xs : List X) → PairsByRecursion R xs → PairsByRecursion R (filter takes xs)
pairs_filter R takes [] each = tt
pairs_filter R takes (x ∷ xs) each = at (takes x) (pairs_filter R takes xs each.1)
  where
    at : (b : Bool) → PairsByRecursion R (filter takes xs) → PairsByRecursion R (cond b (x ∷ filter takes xs) (filter takes xs))
    at true others = (all_filter (R x) takes xs each.0, others)
    at false others = others

-- ---- entries

group_others : (header : HeaderData) (es : List Entry) → PairsByRecursion (λ d e. key_of header.flags d.change ≢ key_of header.flags e.change) es → PairsByRecursion AreOthers (map (placed_by header) es)
group_others header [] each = tt
group_others header (e ∷ es) each = (
  AllByRecursion-map (AreOthers (placed_by header e)) (placed_by header) es
      (AllByRecursion-weaker _ _ (λ d other here. other (ap (λ (x : Entry). key_of header.flags x.change) here.1)) es each.0),
  group_others header es each.1,
)

other_names : (name : List _) (gs : List GroupData) → AllByRecursion (λ g. name ≢ g.header.name) gs → AllByRecursion (λ (q : PlacedEntry). name ≢ q.table) (placed gs)
other_names name [] each = tt
other_names name (g ∷ gs) each =
    AllByRecursion-append (λ (q : PlacedEntry). name ≢ q.table) (placed_in g) (placed gs) (AllByRecursion-map (λ (q : PlacedEntry). name ≢ q.table) (placed_by g.header) g.entries (same g.entries)) (other_names name gs each.1)
  where
    same : (es : List Entry) → AllByRecursion (λ (e : Entry). name ≢ g.header.name) es
    same [] = tt
    same (e ∷ es) = (each.0, same es)

across : (g : GroupData) (es : List Entry) (qs : List PlacedEntry) → AllByRecursion (λ (q : PlacedEntry). g.header.name ≢ q.table) qs → AllByRecursion (λ p. AllByRecursion (AreOthers p) qs) (map (placed_by g.header) es)
across g [] qs other = tt
across g (e ∷ es) qs other = (AllByRecursion-weaker _ (AreOthers (placed_by g.header e)) (λ q apart here. apart here.0) qs other, across g es qs other)

groups_others : (gs : List GroupData) → PairsByRecursion (λ g h. g.header.name ≢ h.header.name) gs → AllByRecursion IsGroup gs → PairsByRecursion AreOthers (placed gs)
groups_others [] names each = tt
groups_others (g ∷ gs) names each =
    pairs_append AreOthers (placed_in g) (placed gs) (group_others g.header g.entries (recursion_from_AllPairs _ g.entries each.0.once)) (groups_others gs names.1 each.1)
    (across g g.entries (placed gs) (other_names g.header.name gs names.0))

module _ (changeset : List GroupData) (is : IsChangeset changeset) where
  names : PairsByRecursion (λ g h. g.header.name ≢ h.header.name) changeset
  names = recursion_from_AllPairs _ changeset is.once

  groups : AllByRecursion IsGroup changeset
  groups = recursion_from_All IsGroup changeset is.each

  pub placed_others : PairsByRecursion AreOthers (placed changeset)
  placed_others = groups_others changeset names groups

  pub heeded_others : (noop : Noop) (state : State) → PairsByRecursion AreOthers (heeded noop state changeset)
  heeded_others noop state = at noop
    where
      takes : GroupData → Bool
      takes g = is_compatible (judged state g)

      applied : PairsByRecursion AreOthers (placed (compatible_groups state changeset))
      applied = groups_others (compatible_groups state changeset) (pairs_filter _ (λ g. is_compatible (judged state g)) changeset names) (all_filter IsGroup (λ g. is_compatible (judged state g)) changeset groups)

      at : (noop : Noop) → PairsByRecursion AreOthers (heeded_of noop state (placed (compatible_groups state changeset)))
      at Report = applied
      at Ignore = pairs_filter AreOthers (λ p. not (is_idle_at state p)) (placed (compatible_groups state changeset)) applied

-- ---- conflicts

abbrev pub Differ : ConflictData → ConflictData → Type 0
Differ a b = ¬ IsSame a b

module _ (state : State) where
  abbrev pub rehearsed : List PlacedEntry → List ConflictData
  rehearsed ps = conflicts_in (flat_map (met_at state rehearsing) ps)

  -- the conflicts of other entries are of none of these
  away : (p : PlacedEntry) (ps : List PlacedEntry) → AllByRecursion (AreOthers p) ps → AllByRecursion (λ c. ¬ IsOf c p) (rehearsed ps)
  away p [] others = tt
  away p (q ∷ qs) others =
      subst (AllByRecursion (λ c. ¬ IsOf c p)) (sym (of_entries-cons state rehearsing q qs))
      (AllByRecursion-append (λ c. ¬ IsOf c p) (conflicts_in (met_at state rehearsing q)) (rehearsed qs)
      (AllByRecursion-weaker (λ c. IsOf c q) (λ c. ¬ IsOf c p) (λ c own here. others.0 (here.table ∙ sym own.table, here.entry ∙ sym own.entry)) (conflicts_in (met_at state rehearsing q)) (own_of state rehearsing q (placed_kinds state rehearsing q)))
      (away p qs others.1))

  -- those of one entry differ in their kinds
  own_differ : (p : PlacedEntry) (refused : Bool) (o : Option Kind)
      → PairsByRecursion Differ (conflicts_in (map (λ kind. record { conflict = conflict_with p (current state p) kind; choice = replace_or_omit kind }) (kinds_from refused replace_or_omit o)))
  own_differ p refused None = tt
  own_differ p false (Some kind) = (tt, tt)
  own_differ p true (Some Data) = (((λ same. let e = same.kind in cc), tt), (tt, tt))
  own_differ p true (Some Conflict) = (((λ same. let e = same.kind in cc), tt), (tt, tt))
  own_differ p true (Some NotFound) = (tt, tt)
  own_differ p true (Some Constraint) = (tt, tt)

  pub rehearsed_differ : (ps : List PlacedEntry) → PairsByRecursion AreOthers ps → PairsByRecursion Differ (rehearsed ps)
  rehearsed_differ [] apart = tt
  rehearsed_differ (p ∷ ps) apart =
      subst (PairsByRecursion Differ) (sym (of_entries-cons state rehearsing p ps))
      (pairs_append Differ (conflicts_in (met_at state rehearsing p)) (rehearsed ps) (own_differ p (refused_at state p) (conflict_kind (refused_at state p) p.entry.change (current state p))) (rehearsed_differ ps apart.1)
      (AllByRecursion-weaker (λ c. IsOf c p) (λ c. AllByRecursion (Differ c) (rehearsed ps))
      (λ c own. AllByRecursion-weaker (λ d. ¬ IsOf d p) (Differ c) (λ d other same. other (record { table = own.table ∙ same.table; entry = own.entry ∙ same.entry })) (rehearsed ps) (away p ps apart.0))
      (conflicts_in (met_at state rehearsing p)) (own_of state rehearsing p (placed_kinds state rehearsing p))))
