-- What is noted of writes is well formed.
use Rattle.std.proofs.Common.{bytes_eq, ◌≡◌, ◌≢◌, ◌⊎◌, inl, inr, ℕ, Bool, true, false, cond, List, [], ◌∷◌, ◌++◌, Option, Some, refl, sym, subst}
use Rattle.std.specs.Prelude.{IfSome, is_some}
use Rattle.std.specs.List.{AllByRecursion}
use Rattle.std.specs.Cmp.Lexicographic.{other_text}
use Rattle.std.proofs.lemmas.List.Elements.{recursion_from_All, All-from_recursion}
use Rattle.cs_value.specs.declared.value.OwnedValue.{OwnedValue}
use Rattle.cs_value.specs.State.{SchemaData, State, WrittenData, IsState, IsRowAt, row_at}
use Rattle.cs_value.proofs.ListLemmas.{AllByRecursion-map, AllByRecursion-push, AllByRecursion-weaker, PairsByRecursion, recursion_from_AllPairs, AllPairs-from_recursion}
use Rattle.cs_value.proofs.StateLemmas.{row_at_fits}
use Rattle.cs_apply_conflict_kinds.specs.Laws.{TellsFormer}
use Rattle.cs_session_notes.specs.FirstImages.{FirstImage, AttachedTable, Notes, IsAttachedTable, IsNotes, HasAttached, first_at, noted, writes_of, noted_in, recorded}
use Rattle.cs_session_notes.specs.Noting.{HasFormers, AreFormers}
use Rattle.cs_session_notes.proofs.FirstLemmas.{told_of}

-- ---- keys

-- a key without a first image is not there
absent : (firsts : List FirstImage) (q : List ℕ) → is_some (first_at firsts q) ≡ false → AllByRecursion (λ f. f.key ≢ q) firsts
absent [] q e = tt
absent (f ∷ firsts) q e = at (bytes_eq f.key q) refl e (absent firsts q)
  where
    at : (b : Bool) → bytes_eq f.key q ≡ b → is_some (cond b (Some f.row) (first_at firsts q)) ≡ false → (is_some (first_at firsts q) ≡ false → AllByRecursion (λ g. g.key ≢ q) firsts)
        → AllByRecursion (λ g. g.key ≢ q) (f ∷ firsts)
    at true same e next = absurd (let apart : true ≡ false = e in cc)
    at false same e next = (other_text f.key q (sym same), next e)

abbrev ApartKeys : List FirstImage → Type 0
ApartKeys firsts = PairsByRecursion (λ f g. f.key ≢ g.key) firsts

key_behind : (firsts : List FirstImage) (new : FirstImage) → ApartKeys firsts → AllByRecursion (λ f. f.key ≢ new.key) firsts → ApartKeys (firsts ++ new ∷ [])
key_behind [] new apart fresh = (tt, tt)
key_behind (f ∷ firsts) new apart fresh = (AllByRecursion-push (λ g. f.key ≢ g.key) firsts new apart.0 fresh.0, key_behind firsts new apart.1 fresh.1)

noted_apart : (firsts : List FirstImage) (written : List WrittenData) → ApartKeys firsts → ApartKeys (noted firsts written)
noted_apart firsts [] apart = apart
noted_apart firsts (w ∷ written) apart =
    at (is_some (first_at firsts w.key)) refl (noted_apart firsts written apart)
    (λ fresh. noted_apart (firsts ++ record { key = w.key; row = w.former } ∷ []) written (key_behind firsts (record { key = w.key; row = w.former }) apart fresh))
  where
    at : (b : Bool) → is_some (first_at firsts w.key) ≡ b → ApartKeys (noted firsts written)
        → (AllByRecursion (λ f. f.key ≢ w.key) firsts → ApartKeys (noted (firsts ++ record { key = w.key; row = w.former } ∷ []) written))
        → ApartKeys (cond b (noted firsts written) (noted (firsts ++ record { key = w.key; row = w.former } ∷ []) written))
    at true e here there = here
    at false e here there = there (absent firsts w.key e)

-- ---- rows

module _ (schema : SchemaData) where
  abbrev Fits : FirstImage → Type 0
  Fits f = IfSome f.row (IsRowAt schema f.key)

  noted_fits : (firsts : List FirstImage) (written : List WrittenData) → AllByRecursion Fits firsts → AllByRecursion (λ w. IfSome w.former (IsRowAt schema w.key)) written
      → AllByRecursion Fits (noted firsts written)
  noted_fits firsts [] each fit = each
  noted_fits firsts (w ∷ written) each fit =
      at (is_some (first_at firsts w.key)) (noted_fits firsts written each fit.1)
      (noted_fits (firsts ++ record { key = w.key; row = w.former } ∷ []) written (AllByRecursion-push Fits firsts (record { key = w.key; row = w.former }) each fit.0) fit.1)
    where
      at : (b : Bool) → AllByRecursion Fits (noted firsts written) → AllByRecursion Fits (noted (firsts ++ record { key = w.key; row = w.former } ∷ []) written)
          → AllByRecursion Fits (cond b (noted firsts written) (noted (firsts ++ record { key = w.key; row = w.former } ∷ []) written))
      at true here there = here
      at false here there = there

-- ---- tables

module _ (written : List WrittenData) where
  noted_table : (table : AttachedTable) → HasFormers written table → IsAttachedTable table → IsAttachedTable (noted_in written table)
  noted_table table formers is =
      let writes = writes_of table.name written in
      record {
        named = is.named;
        schema = is.schema;
        rows = All-from_recursion (Fits table.schema) (noted table.firsts writes)
            (noted_fits table.schema table.firsts writes (recursion_from_All (Fits table.schema) table.firsts is.rows) formers);
        once = AllPairs-from_recursion (λ (f g : FirstImage). f.key ≢ g.key) (noted table.firsts writes)
            (noted_apart table.firsts writes (recursion_from_AllPairs (λ (f g : FirstImage). f.key ≢ g.key) table.firsts is.once));
      }

  each_noted : (notes : Notes) → AreFormers notes written → AllByRecursion IsAttachedTable notes → AllByRecursion IsAttachedTable (recorded notes written)
  each_noted [] formers each = tt
  each_noted (table ∷ notes) formers each = (noted_table table formers.0 each.0, each_noted notes formers.1 each.1)

  pub names_stay : (notes : Notes) → PairsByRecursion (λ s t. s.name ≢ t.name) notes → PairsByRecursion (λ s t. s.name ≢ t.name) (recorded notes written)
  names_stay [] apart = tt
  names_stay (table ∷ notes) apart = (AllByRecursion-map (λ t. table.name ≢ t.name) (noted_in written) notes apart.0, names_stay notes apart.1)

  -- what is noted is well formed if the previous rows fit the tables
  pub recorded_are : (notes : Notes) → IsNotes notes → AreFormers notes written → IsNotes (recorded notes written)
  recorded_are notes is formers = record {
    each = All-from_recursion IsAttachedTable (recorded notes written) (each_noted notes formers (recursion_from_All IsAttachedTable notes is.each));
    once = AllPairs-from_recursion (λ (s t : AttachedTable). s.name ≢ t.name) (recorded notes written)
        (names_stay notes (recursion_from_AllPairs (λ (s t : AttachedTable). s.name ≢ t.name) notes is.once));
  }

-- ---- the former rows

module _ (old : State) (is_state : IsState old) where
  former_fits : (table : AttachedTable) → HasAttached old table → (writes : List WrittenData) → AllByRecursion (λ w. row_at old table.name w.key ≡ w.former) writes
      → AllByRecursion (λ w. IfSome w.former (IsRowAt table.schema w.key)) writes
  former_fits table has =
      AllByRecursion-weaker (λ w. row_at old table.name w.key ≡ w.former) (λ w. IfSome w.former (IsRowAt table.schema w.key)) (λ w told.
      subst (λ (o : Option (List OwnedValue)). IfSome o (IsRowAt table.schema w.key)) told (row_at_fits old table.name table.schema is_state has w.key))

  -- the rows of a state fit its tables
  pub tells_formers : (new : State) (written : List WrittenData) → TellsFormer old new written → (notes : Notes)
      → AllByRecursion (λ t. HasAttached old t ⊎ (writes_of t.name written ≡ [])) notes → AreFormers notes written
  tells_formers new written tells [] has = tt
  tells_formers new written tells (table ∷ notes) has = (at has.0, tells_formers new written tells notes has.1)
    where
      at : HasAttached old table ⊎ (writes_of table.name written ≡ []) → HasFormers written table
      at (inl there) = former_fits table there (writes_of table.name written)
          (told_of old table.name written (recursion_from_All (λ (w : WrittenData). row_at old w.table w.key ≡ w.former) written tells.told))
      at (inr none) = subst (λ (writes : List WrittenData). AllByRecursion (λ w. IfSome w.former (IsRowAt table.schema w.key)) writes) (sym none) tt

-- writes of one table are of no other
pub only_writes : (name other : List ℕ) (written : List WrittenData) → AllByRecursion (λ w. w.table ≡ name) written → bytes_eq name other ≡ false → writes_of other written ≡ []
only_writes name other [] all apart = refl
only_writes name other (w ∷ written) all apart = rw (all.0, apart) (only_writes name other written all.1 apart)
