-- Noting in the tables that are attached, as the code does it.
use Rattle.std.proofs.Common.{◌≡◌, ◌⊎◌, inl, inr, List, [], ◌∷◌, ◌++◌, map, refl, ap, ◌∙◌}
use Rattle.std.proofs.lemmas.List.{append-nil}
use Rattle.std.specs.List.{AllByRecursion}
use Rattle.cs_session_notes.specs.declared.attached.Attached.{Attached}
use Rattle.cs_session_notes.specs.Views.{attached_of, kept_of, HasNonePending}

-- a refusal for something that does not hold is one for what it follows from
pub still_fails : {A B P Q : Type 0} → (Q → P) → A ⊎ (B × ¬ P) → A ⊎ (B × ¬ Q)
still_fails f (inl a) = inl a
still_fails f (inr fails) = inr (fails.0, λ q. fails.1 (f q))

-- where nothing is noted since, what is kept is all
pub settled_kept : (tables : List Attached) → AllByRecursion HasNonePending tables → map attached_of tables ≡ map kept_of tables
settled_kept [] none_pending = refl
settled_kept (table ∷ tables) none_pending =
    let here : table.firsts.kept ++ table.firsts.pending ≡ table.firsts.kept = ap (λ (l : List _). table.firsts.kept ++ l) none_pending.0 ∙ append-nil table.firsts.kept in
    cc (here, settled_kept tables none_pending.1)
