-- What calls keep of a connection: its content, and what a crash leaves.
use Rattle.std.proofs.Common.{◌≡◌, Bool, true, false, not, IsTrue, inl, inr, refl, sym, ◌∙◌, true≢false, arith}
use Rattle.sqlite_trees.specs.Tree.{Trees}
use Rattle.sqlite.specs.State.{State, KeepsCommit, Survives}
use Rattle.sqlite.proofs.StateLemmas.{survives_weaker, survives_then}
use Rattle.cs_store_sql.specs.Records.{Rests, GoesOn, IsUndone, KeepsContent, KeepsCrash}

-- ---- nothing is done

-- a crash leaves what it left
pub crash_itself : {s : State} → KeepsCrash s s
crash_itself {s} = record {
  clean = omega arith;
  counts = omega arith;
  limit = refl;
  closes = λ clean k. inl k;
  shield = λ k. k;
  crash = λ clean db k. inl k;
}

pub crash_weaker : (old new : State) (May : Trees → Type 0) → KeepsCrash old new → Survives old new May
crash_weaker old new May = survives_weaker old new _ May (λ clean db none. absurd none)

-- one call that commits nothing after another
pub crash_then : (a b c : State) → KeepsCrash a b → KeepsCrash b c → KeepsCrash a c
crash_then a b c = survives_then a b c (λ _. ⊥) (λ _. ⊥) (λ _. ⊥) (λ clean db none. none) (λ clean db none. none)

pub idle_survives : (s : State) (May : Trees → Type 0) → Survives s s May
idle_survives s May = crash_weaker s s May (crash_itself {s = s})

-- outside a transaction, where what is shown was committed, all is as after a rollback
pub idle_undone : (s : State) → s.in_transaction ≡ false → (IsTrue s.is_open → s.now ≡ s.committed) → IsUndone s s
idle_undone s closed settled = record { autocommit = closed; was_open = λ k. k; now = settled; committed = λ k. refl }

-- ---- a call that changes nothing, or takes the database back

-- outside a transaction, where what is shown was committed, it keeps both
pub rests_keeps_content : (old new : State) → Rests old new → old.in_transaction ≡ false → (IsTrue old.is_open → old.now ≡ old.committed) → KeepsContent old new
rests_keeps_content old new (inl same) closed settled = record {
  was_open = λ k. same.0.was_open;
  mode = same.0.mode;
  inside = λ k was. same.0.is_open;
  now = λ k. same.0.now_is;
  committed = λ k. same.0.committed_is;
}
rests_keeps_content old new (inr undone) closed settled = record {
  was_open = undone.was_open;
  mode = undone.autocommit ∙ sym closed;
  inside = λ k was. absurd (true≢false (sym k ∙ undone.autocommit));
  now = λ k. (undone.undone k).0 ∙ sym (settled (undone.was_open k));
  committed = λ k. (undone.undone k).1;
}

-- what was committed stays
pub rests_commit : (old new : State) → Rests old new → KeepsCommit old new
rests_commit old new (inl same) = record { was_open = λ k. same.0.was_open; committed = λ k. same.0.committed_is }
rests_commit old new (inr undone) = record { was_open = undone.was_open; committed = λ k. (undone.undone k).1 }

-- as it does where the transaction goes on, and where nothing is done
pub on_commit : (old new : State) → GoesOn old new → KeepsCommit old new
on_commit old new on = record { was_open = λ k. on.was_open; committed = λ k. on.committed_is }

pub commit_itself : (s : State) → KeepsCommit s s
commit_itself s = record { was_open = λ k. k; committed = λ k. refl }

-- ---- autocommit

-- a connection that is not in autocommit is in a transaction
pub in_transaction : (b : Bool) → false ≡ not b → IsTrue b
in_transaction true e = refl
in_transaction false e = absurd (true≢false (sym e))

-- and one that is in autocommit is in none
pub in_autocommit : (b : Bool) → true ≡ not b → b ≡ false
in_autocommit true e = absurd (true≢false e)
in_autocommit false e = refl
