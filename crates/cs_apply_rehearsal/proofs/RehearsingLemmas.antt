-- Where the choices are those of a rehearsal, so are the conflicts.
use Rattle.std.proofs.Common.{◌≡◌, Bool, true, false, ◌&&◌, if◌then◌else◌, List, [], ◌∷◌, ◌++◌, map, Option, None, Some, refl, ap, ap₂, ◌∙◌}
use Rattle.std.specs.List.{AllByRecursion, flat_map}
use Rattle.cs_value.specs.declared.value.OwnedValue.{OwnedValue}
use Rattle.cs_value.specs.State.{State}
use Rattle.cs_value.proofs.ListLemmas.{AllByRecursion-append_left, AllByRecursion-append_right}
use Rattle.cs_apply_conflict_kinds.specs.declared.conflict.Kind.{Kind}
use Rattle.cs_apply_conflict_kinds.specs.declared.conflict.Kind.TheVariants.{Constraint}
use Rattle.cs_apply_conflict_kinds.specs.declared.conflict.Choice.{Choice}
use Rattle.cs_apply_conflict_kinds.specs.Conflicts.{conflict_kind, is_overcome, kinds_from}
use Rattle.cs_apply_conflict_kinds.specs.Applying.{PlacedEntry, MetData, Choices, conflict_with, current, met_at, refused_at}
use Rattle.cs_apply_rehearsal.specs.Rehearsing.{rehearsing, replace_or_omit}

-- the choice is that of a rehearsal
abbrev pub IsRehearsed : MetData → Type 0
IsRehearsed m = m.choice ≡ replace_or_omit m.conflict.kind

module _ (p : PlacedEntry) (row : Option (List OwnedValue)) (choose : Kind → Choice) where
  abbrev met_as : Kind → Choice → MetData
  met_as kind choice = record { conflict = conflict_with p row kind; choice = choice }

  second_same : (b : Bool) → AllByRecursion IsRehearsed (map (λ kind. met_as kind (choose kind)) (if b then Constraint ∷ [] else []))
      → map (λ kind. met_as kind (choose kind)) (if b then Constraint ∷ [] else []) ≡ map (λ kind. met_as kind (replace_or_omit kind)) (if b then Constraint ∷ [] else [])
  second_same true each = ap (λ (c : Choice). met_as Constraint c ∷ []) each.0
  second_same false each = refl

  kinds_same : (refused : Bool) (o : Option Kind) → AllByRecursion IsRehearsed (map (λ kind. met_as kind (choose kind)) (kinds_from refused choose o))
      → map (λ kind. met_as kind (choose kind)) (kinds_from refused choose o) ≡ map (λ kind. met_as kind (replace_or_omit kind)) (kinds_from refused replace_or_omit o)
  kinds_same refused None each = refl
  kinds_same refused (Some kind) each =
      ap (λ (c : Choice). met_as kind c ∷ map (λ kind. met_as kind (choose kind)) (if refused && is_overcome kind (choose kind) then Constraint ∷ [] else [])) each.0
      ∙ ap (λ (l : List MetData). met_as kind (replace_or_omit kind) ∷ l) (second_same (refused && is_overcome kind (choose kind)) each.1)
      ∙ ap (λ (c : Choice). met_as kind (replace_or_omit kind) ∷ map (λ kind. met_as kind (replace_or_omit kind)) (if refused && is_overcome kind c then Constraint ∷ [] else [])) each.0

pub met_same : (state : State) (choose : Choices) (ps : List PlacedEntry) → AllByRecursion IsRehearsed (flat_map (met_at state choose) ps)
    → flat_map (met_at state choose) ps ≡ flat_map (met_at state rehearsing) ps
met_same state choose [] each = refl
met_same state choose (p ∷ ps) each =
    ap₂ (λ (l m : List MetData). l ++ m)
    (kinds_same p (current state p) (choose p) (refused_at state p) (conflict_kind (refused_at state p) p.entry.change (current state p)) (AllByRecursion-append_left IsRehearsed (met_at state choose p) (flat_map (met_at state choose) ps) each))
    (met_same state choose ps (AllByRecursion-append_right IsRehearsed (met_at state choose p) (flat_map (met_at state choose) ps) each))
