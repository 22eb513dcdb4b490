-- Entries that are ignored, and the others.
use Rattle.std.proofs.Common.{◌≡◌, Bool, true, false, cond, not, ◌+◌, List, [], ◌∷◌, ◌++◌, length, length-append, filter, ℕ, Option, None, refl, ap, ap₂, ◌∙◌}
use Rattle.std.specs.List.{AllByRecursion}
use Rattle.std.proofs.lemmas.List.{nil_from_length}
use Rattle.std.proofs.lemmas.List.Elements.{filter-append}
use Rattle.cs_value.specs.declared.value.OwnedValue.{OwnedValue}
use Rattle.cs_value.specs.State.{State}
use Rattle.cs_value.proofs.ListLemmas.{AllByRecursion-weaker}
use Rattle.cs_wire_entries.specs.declared.entry.Change.{Change}
use Rattle.cs_apply_conflict_kinds.specs.declared.conflict.Noop.{Noop}
use Rattle.cs_apply_conflict_kinds.specs.declared.conflict.Noop.TheVariants.{Report as Reported, Ignore}
use Rattle.cs_apply_conflict_kinds.specs.Conflicts.{conflict_kind, is_idle}
use Rattle.cs_apply_engine.specs.Steps.{is_ignored}
use Rattle.cs_apply_conflict_kinds.specs.Applying.{PlacedEntry, placed_key, current, refused_at, IsElsewhere, is_idle_at, heeded_of, ignored_of}
use Rattle.cs_apply_engine.proofs.StepLemmas.{Apart}

-- ---- one entry after others

pub heeded_more : (noop : Noop) (s : State) (ps qs : List PlacedEntry) → heeded_of noop s (ps ++ qs) ≡ heeded_of noop s ps ++ heeded_of noop s qs
heeded_more Reported s ps qs = refl
heeded_more Ignore s ps qs = filter-append (λ p. not (is_idle_at s p)) ps qs

pub ignored_more : (noop : Noop) (s : State) (ps qs : List PlacedEntry) → length (ignored_of noop s (ps ++ qs)) ≡ length (ignored_of noop s ps) + length (ignored_of noop s qs)
ignored_more Reported s ps qs = refl
ignored_more Ignore s ps qs = ap length (filter-append (is_idle_at s) ps qs) ∙ length-append (filter (is_idle_at s) ps) (filter (is_idle_at s) qs)

-- where there is none
pub heeded_none : (noop : Noop) (s : State) → heeded_of noop s [] ≡ []
heeded_none Reported s = refl
heeded_none Ignore s = refl

pub ignored_none : (noop : Noop) (s : State) → length (ignored_of noop s []) ≡ 0
ignored_none Reported s = refl
ignored_none Ignore s = refl

-- ---- one entry

-- without a conflict it is not ignored
pub heeded_clean : (noop : Noop) (refused : Bool) (flags : List ℕ) (change : Change) (row : Option (List OwnedValue)) → conflict_kind refused change row ≡ None → is_ignored noop refused flags change row ≡ false
heeded_clean Reported refused flags change row none = refl
heeded_clean Ignore refused flags change row none = rw none refl

module _ (s : State) (p : PlacedEntry) where
  -- it is ignored
  pub left_out : (noop : Noop) → is_ignored noop (refused_at s p) p.flags p.entry.change (current s p) ≡ true → (heeded_of noop s (p ∷ []) ≡ []) × (length (ignored_of noop s (p ∷ [])) ≡ 1)
  left_out Reported e = absurd (cc)
  left_out Ignore e = (rw e refl, rw e refl)

  -- or it is not
  pub left_in : (noop : Noop) → is_ignored noop (refused_at s p) p.flags p.entry.change (current s p) ≡ false → (heeded_of noop s (p ∷ []) ≡ p ∷ []) × (length (ignored_of noop s (p ∷ [])) ≡ 0)
  left_in Reported e = (refl, refl)
  left_in Ignore e = (rw e refl, rw e refl)

  -- it is so in each state with its row and the rules of its table
  module _ (t : State) (same : current t p ≡ current s p) (rules : refused_at t p ≡ refused_at s p) where
    pub heeded_same : (noop : Noop) → heeded_of noop t (p ∷ []) ≡ heeded_of noop s (p ∷ [])
    heeded_same Reported = refl
    heeded_same Ignore = ap₂ (λ (refused : Bool) (row : Option (List OwnedValue)). cond (not (is_idle refused p.flags p.entry.change row)) (p ∷ []) []) rules same

    pub ignored_same : (noop : Noop) → length (ignored_of noop t (p ∷ [])) ≡ length (ignored_of noop s (p ∷ []))
    ignored_same Reported = refl
    ignored_same Ignore = ap₂ (λ (refused : Bool) (row : Option (List OwnedValue)). length (cond (is_idle refused p.flags p.entry.change row) (p ∷ []) [])) rules same

-- ---- what holds of each entry

heeded_each : (noop : Noop) (s : State) (P : PlacedEntry → Type 0) (ps : List PlacedEntry) → AllByRecursion P ps → AllByRecursion P (heeded_of noop s ps)
heeded_each Reported s P ps each = each
heeded_each Ignore s P [] each = tt
heeded_each Ignore s P (p ∷ ps) each = at (not (is_idle_at s p)) (heeded_each Ignore s P ps each.1)
  where
    at : (b : Bool) → AllByRecursion P (filter (λ p. not (is_idle_at s p)) ps)
        → AllByRecursion P (cond b (p ∷ filter (λ p. not (is_idle_at s p)) ps) (filter (λ p. not (is_idle_at s p)) ps))
    at true others = (each.0, others)
    at false others = others

-- entries of other rows
abbrev AwayFrom : List PlacedEntry → PlacedEntry → Type 0
AwayFrom ps q = AllByRecursion (λ p. IsElsewhere p q.table (placed_key q)) ps

pub heeded_before : (noop : Noop) (s : State) (ps qs : List PlacedEntry) → Apart ps qs → Apart (heeded_of noop s ps) qs
heeded_before noop s ps qs apart = AllByRecursion-weaker (AwayFrom ps) (AwayFrom (heeded_of noop s ps)) (λ q away. heeded_each noop s (λ p. IsElsewhere p q.table (placed_key q)) ps away) qs apart

pub heeded_behind : (noop : Noop) (s : State) (ps qs : List PlacedEntry) → Apart ps qs → Apart ps (heeded_of noop s qs)
heeded_behind noop s ps qs apart = heeded_each noop s (AwayFrom ps) qs apart

-- ---- where none is ignored

all_heeded : (s : State) (ps : List PlacedEntry) → filter (is_idle_at s) ps ≡ [] → filter (λ p. not (is_idle_at s p)) ps ≡ ps
all_heeded s [] none = refl
all_heeded s (p ∷ ps) none = at (is_idle_at s p) none (all_heeded s ps)
  where
    at : (b : Bool) → cond b (p ∷ filter (is_idle_at s) ps) (filter (is_idle_at s) ps) ≡ [] → (filter (is_idle_at s) ps ≡ [] → filter (λ q. not (is_idle_at s q)) ps ≡ ps)
        → cond (not b) (p ∷ filter (λ q. not (is_idle_at s q)) ps) (filter (λ q. not (is_idle_at s q)) ps) ≡ p ∷ ps
    at true none others = absurd (cc)
    at false none others = ap (λ (l : List PlacedEntry). p ∷ l) (others none)

pub heeded_all : (noop : Noop) (s : State) (ps : List PlacedEntry) → length (ignored_of noop s ps) ≡ 0 → heeded_of noop s ps ≡ ps
heeded_all Reported s ps none = refl
heeded_all Ignore s ps none = all_heeded s ps (nil_from_length (filter (is_idle_at s) ps) none)
