-- The groups and entries of a changeset, one after another.
use Rattle.std.proofs.Common.{◌≡◌, ◌≢◌, ℕ, zero, suc, ◌≤◌, Bool, true, false, true≢false, cond, if◌then◌else◌, nat_lt, List, [], ◌∷◌, ◌++◌, length, map, filter, Option, Some, None, option_map, refl, sym, ap, ◌∙◌, arith}
use Rattle.std.specs.List.{AllByRecursion, flat_map}
use Rattle.std.proofs.lemmas.Bool.{ltb-false}
use Rattle.std.proofs.lemmas.List.{map-append}
use Rattle.std.proofs.lemmas.List.Elements.{filter-append}
use Rattle.std.proofs.lemmas.Grind.{flat_map-append}
use Rattle.cs_value.specs.State.{SchemaData, State, schema_at}
use Rattle.cs_value.proofs.ListLemmas.{AllByRecursion-append, AllByRecursion-map, AllByRecursion-weaker}
use Rattle.cs_wire.specs.Changeset.{HeaderData, GroupData}
use Rattle.cs_apply_conflict_kinds.specs.declared.judging.Judgement.TheVariants.{Skipped, Wider, Compatible}
use Rattle.cs_group.specs.Joining.{key_marks}
use Rattle.cs_apply_conflict_kinds.specs.Judging.{leads, judgement, judged, is_compatible, is_skipped}
use Rattle.cs_apply_conflict_kinds.specs.Applying.{placed_by, placed_in, placed, compatible_groups, applicable, skipped}
use Rattle.cs_apply_engine.specs.Steps.{HasTable}

-- ---- the table of a group

same_places : (flags table : List ℕ) → leads flags table ≡ true → length table ≤ length flags → key_marks table ≡ key_marks flags
same_places [] [] e le = refl
same_places [] (t ∷ table) e le = absurd (omega (arith, le))
same_places (f ∷ flags) [] e le = absurd (true≢false (sym e))
same_places (zero ∷ flags) (zero ∷ table) e le = ap (λ (l : List Bool). false ∷ l) (same_places flags table e (omega (arith, le)))
same_places (zero ∷ flags) (suc t ∷ table) e le = absurd (true≢false (sym e))
same_places (suc f ∷ flags) (zero ∷ table) e le = absurd (true≢false (sym e))
same_places (suc f ∷ flags) (suc t ∷ table) e le = ap (λ (l : List Bool). true ∷ l) (same_places flags table e (omega (arith, le)))

compatible_places : (flags table : List ℕ) → judgement flags (Some table) ≡ Compatible → key_marks table ≡ key_marks flags
compatible_places flags table e = at (leads flags table) (nat_lt (length flags) (length table)) refl refl e
  where
    at : (a b : Bool) → leads flags table ≡ a → nat_lt (length flags) (length table) ≡ b → (if a then (if b then Wider else Compatible) else Skipped) ≡ Compatible → key_marks table ≡ key_marks flags
    at true true p q e = absurd (cc)
    at true false p q e = same_places flags table p (ltb-false (length flags) (length table) q)
    at false b p q e = absurd (cc)

pub has_table : (state : State) (group : GroupData) → judged state group ≡ Compatible → HasTable state group.header
has_table state group e = at (schema_at state group.header.name) refl e
  where
    at : (o : Option SchemaData) → schema_at state group.header.name ≡ o → judgement group.header.flags (option_map (λ (s : SchemaData). s.flags) o) ≡ Compatible → HasTable state group.header
    at None is e = absurd (cc)
    at (Some schema) is e = record { schema = schema; found = is; same = compatible_places group.header.flags schema.flags e }

-- a run leaves it there
pub table_stays : (state next : State) (header : HeaderData) → ((table : List ℕ) → schema_at next table ≡ schema_at state table) → HasTable state header → HasTable next header
table_stays state next header same has = record { schema = has.schema; found = same header.name ∙ has.found; same = has.same }

-- ---- lists

pub each_map : {X Y : Type 0} (f : X → Y) (P : X → Type 0) (Q : Y → Type 0) (xs : List X) → ((x : X) → P x → Q (f x)) → AllByRecursion P xs → AllByRecursion Q (map f xs)
each_map f P Q xs h each = AllByRecursion-map Q f xs (AllByRecursion-weaker P (λ x. Q (f x)) h xs each)

-- ---- one more group of a changeset

pub applicable_more : (state : State) (gs hs : List GroupData) → applicable state (gs ++ hs) ≡ applicable state gs ++ applicable state hs
applicable_more state gs hs = ap (flat_map placed_in) (filter-append (λ g. is_compatible (judged state g)) gs hs) ∙ flat_map-append placed_in (compatible_groups state gs) (compatible_groups state hs)

pub skipped_more : (state : State) (gs hs : List GroupData) → skipped state (gs ++ hs) ≡ skipped state gs ++ skipped state hs
skipped_more state gs hs = ap (map name_of) (filter-append (λ g. is_skipped (judged state g)) gs hs) ∙ map-append name_of (filter (λ g. is_skipped (judged state g)) gs) (filter (λ g. is_skipped (judged state g)) hs)
  where
    name_of : GroupData → List ℕ
    name_of g = g.header.name

each_same : {X : Type 0} {P : Type 0} (xs : List X) → P → AllByRecursion (λ x. P) xs
each_same [] p = tt
each_same (x ∷ xs) p = (p, each_same xs p)

-- entries of tables with other names
pub other_tables : (state : State) (name : List ℕ) (gs : List GroupData) → AllByRecursion (λ g. g.header.name ≢ name) gs → AllByRecursion (λ p. p.table ≢ name) (applicable state gs)
other_tables state name [] h = tt
other_tables state name (g ∷ gs) h = at (is_compatible (judged state g)) (other_tables state name gs h.1)
  where
    at : (b : Bool) → AllByRecursion (λ p. p.table ≢ name) (applicable state gs) → AllByRecursion (λ p. p.table ≢ name) (placed (cond b (g ∷ compatible_groups state gs) (compatible_groups state gs)))
    at true others =
        AllByRecursion-append (λ p. p.table ≢ name) (placed_in g) (applicable state gs)
        (each_map (placed_by g.header) (λ e. g.header.name ≢ name) (λ p. p.table ≢ name) g.entries (λ e apart. apart) (each_same g.entries h.0)) others
    at false others = others
