-- Tables that are attached one after another, but for histories.
use Rattle.std.proofs.Common.{◌≡◌, ◌⊎◌, inl, inr, ℕ, List, [], ◌∷◌, ◌++◌, None, refl, arith}
use Rattle.std.proofs.lemmas.Grind.{common_steps}
use Rattle.std.specs.Prelude.{All, Any, slice_index_or}
use Rattle.std.proofs.lemmas.List.Elements.{All-append, All-cons, All-nil}
use Rattle.std.proofs.lemmas.List.Quantifiers.{Any-push}
use Rattle.cs_value.specs.State.{State, schema_at}
use Rattle.cs_session_notes.specs.FirstImages.{AttachedTable, Notes}
use Rattle.cs_history.specs.Stored.{IsHistory}
use Rattle.cs_history.specs.Watching.{IsWatched, MayAttach, Watches}
use Rattle.std.specs.FinMap as map

-- a name is that of a history, of no table, or of a table that is attached
abbrev pub Covered : State → Notes → List ℕ → Type 0
Covered tables notes name = (IsHistory tables name ⊎ (schema_at tables name ≡ None)) ⊎ Any (λ t. t.name ≡ name) notes

-- of the names so far each is that of a history, of no table, or of a table that is attached
pub record WatchesNames (tables : State) (names : List (List ℕ)) (notes : Notes) : Type 0 where
  pub each : All (IsWatched tables) notes
  pub all : All (Covered tables notes) names

any_more : {X : Type 0} (P : X → Type 0) (xs ys : List X) → Any P xs → Any P (xs ++ ys)
any_more P xs ys a = (a.0, a.1, grind (arith, common_steps, a.2), grind (arith, common_steps, a.2, a.3), a.4)

covered_more : (tables : State) (old more : Notes) (name : List ℕ) → Covered tables old name → Covered tables (old ++ more) name
covered_more tables old more name (inl other) = inl other
covered_more tables old more name (inr there) = inr (any_more (λ t. t.name ≡ name) old more there)

one : {X : Type 0} (P : X → Type 0) (x : X) → P x → All P (x ∷ [])
one P x p = All-cons P x [] p (All-nil P)

pub watches_none : (tables : State) → WatchesNames tables [] []
watches_none tables = record { each = All-nil (IsWatched tables); all = All-nil _ }

pub watches_next : (tables : State) (names : List (List ℕ)) (name : List ℕ) (old new : Notes) → WatchesNames tables names old → MayAttach tables name old new → WatchesNames tables (names ++ name ∷ []) new
watches_next tables names name old new it (inl none) = record {
  each = rw none.1 it.each;
  all = All-append (Covered tables new) names (name ∷ []) (rw none.1 it.all) (one (Covered tables new) name (inl none.0));
}
watches_next tables names name old new it (inr attached) =
    let table : AttachedTable = record { name = name; schema = attached.1.schema; firsts = [] } in
    record {
      each = rw attached.1.is (All-append (IsWatched tables) old (table ∷ []) it.each (one (IsWatched tables) table (record { there = attached.1.found; other = attached.0; fresh = refl })));
      all = rw attached.1.is (All-append (Covered tables (old ++ table ∷ [])) names (name ∷ []) (λ k d below. covered_more tables old (table ∷ []) (slice_index_or names k d) (it.all k d below))
          (one (Covered tables (old ++ table ∷ [])) name (inr (Any-push (λ t. t.name ≡ name) old table refl))));
    }

-- if each name is one of a table
pub watches_all : (tables : State) (notes : Notes) → WatchesNames tables (map.keys tables) notes → Watches tables notes
watches_all tables notes it = record { each = it.each; all = it.all }
