-- A call that begins a batch, works in it, and ends it.
use Rattle.std.proofs.Common.{◌≡◌, true≢false, Result, Ok, Err, IsTrue, refl, sym, subst, ◌∙◌}
use Rattle.std.specs.Result.{is_ok}
use Rattle.sqlite_trees.specs.declared.store.Store.{Ghosts}
use Rattle.sqlite_trees.specs.Tree.{Trees}
use Rattle.sqlite.specs.Held.{Held, state}
use Rattle.sqlite.specs.State.{State, HasCleanDisk, Survives}
use Rattle.cs_value.specs.State as tables
use Rattle.cs_store_sql.specs.Records.{IsUndone, KeepsContent, KeepsCrash, KeepsOthers}
use Rattle.cs_store_sql.proofs.ContentLemmas.{crash_itself}
use Rattle.cs_store_tables.specs.Crash.{CanBegin, IsAtomic, LeavesOnly, MayLeave}
use Rattle.cs_store_tables.specs.Laws.{was_clean}
use Rattle.cs_store_tables.specs.Store.{Begins, Ends, KeepsStore, tables_in}
use Rattle.cs_store_tables.proofs.StoreLemmas.{undone_batch}
use Rattle.cs_store.specs.Transacts.{Transacts}
use Rattle.cs_store.proofs.CrashLemmas.{dropped_atomic, idle_atomic, left_new, made_atomic, made_others, refused_stands}

-- a call that passes on what it calls
pub transacts_on : {X Y E F : Type 0} (Commits : tables.State → Type 0) (old new : State) (one : Result X E) (other : Result Y F) → is_ok one ≡ is_ok other → Transacts Commits old new one → Transacts Commits old new other
transacts_on Commits old new (Ok x) (Ok y) same it = record {
  at_rest = it.at_rest;
  others = it.others;
  kept = λ clean. tt;
  atomic = it.atomic;
  left = it.left;
  stands = tt;
}
transacts_on Commits old new (Err e) (Err f) same it = record {
  at_rest = λ clean. tt;
  others = λ clean. tt;
  kept = it.kept;
  atomic = it.atomic;
  left = tt;
  stands = it.stands;
}
transacts_on Commits old new (Ok x) (Err f) same it = absurd (true≢false same)
transacts_on Commits old new (Err e) (Ok y) same it = absurd (true≢false (sym same))

module _ {S : Type 0} (g : Ghosts S) (settled : (s : S) (trees : Trees) → IsTrue (g.view s).is_open → g.recovers s trees → trees ≡ (g.view s).committed)
    (stays : (s : S) → IsTrue (g.view s).is_open → g.recovers s (g.view s).committed) (old new : Held S)
    (last : IsTrue (state g old).is_open → LeavesOnly (λ left. left ≡ tables_in (state g old).committed) (state g old)) where
  -- a call that is refused, and commits nothing or what it may
  pub refused_transacts : {X E : Type 0} (e : E) (Commits : tables.State → Type 0) → IsAtomic CanBegin Commits (state g old) (state g new) → (HasCleanDisk (state g new) → KeepsContent (state g old) (state g new))
      → Transacts {X = X} Commits (state g old) (state g new) (Err e)
  refused_transacts {X} e Commits atomic kept = record {
    at_rest = λ clean. tt;
    others = λ clean. tt;
    kept = kept;
    atomic = atomic;
    left = tt;
    stands = refused_stands g settled stays old new last {X = X} (Err e) CanBegin Commits atomic kept;
  }

  -- its batch does not begin
  pub unbegun_transacts : {X E : Type 0} (e : E) (Commits : tables.State → Type 0) → KeepsCrash (state g old) (state g new) → (HasCleanDisk (state g new) → KeepsContent (state g old) (state g new))
      → Transacts {X = X} Commits (state g old) (state g new) (Err e)
  unbegun_transacts e Commits keeps kept = refused_transacts e Commits (idle_atomic (state g old) (state g new) last CanBegin Commits keeps) kept

  -- it does nothing
  pub unmoved_transacts : {X E : Type 0} (e : E) (Commits : tables.State → Type 0) → state g new ≡ state g old → Transacts {X = X} Commits (state g old) (state g new) (Err e)
  unmoved_transacts e Commits same =
      unbegun_transacts e Commits (subst (KeepsCrash (state g old)) (sym same) crash_itself)
      (λ clean. subst (KeepsContent (state g old)) (sym same) (record { was_open = λ is. is; mode = refl; inside = λ inside is_open. is_open; now = λ is. refl; committed = λ is. refl }))

  module _ (begun mid : State) (begins : HasCleanDisk begun → Begins (state g old) begun) (starts : KeepsCrash (state g old) begun) (keeps : KeepsStore begun mid) where
    undone : (HasCleanDisk (state g new) → HasCleanDisk mid) → (HasCleanDisk (state g new) → IsUndone mid (state g new)) → HasCleanDisk (state g new) → KeepsContent (state g old) (state g new)
    undone was undo clean = undone_batch (state g old) begun mid (state g new) begins keeps (was clean) (undo clean)

    -- a call is refused in its batch, which is dropped
    pub dropped_transacts : {X E : Type 0} (e : E) (Commits : tables.State → Type 0) → KeepsCrash mid (state g new) → (HasCleanDisk (state g new) → IsUndone mid (state g new))
        → Transacts {X = X} Commits (state g old) (state g new) (Err e)
    dropped_transacts e Commits drops undo =
        refused_transacts e Commits (dropped_atomic (state g old) begun mid (state g new) last starts keeps Commits drops) (undone (was_clean mid (state g new) drops) undo)

    module _ (Makes : tables.State → tables.State → Type 0) (made : HasCleanDisk mid → Makes (tables_in begun.now) (tables_in mid.now)) (commits : Survives mid (state g new) (MayLeave (λ t. t ≡ tables_in mid.now))) where
      atomic : IsAtomic CanBegin (Makes (tables_in (state g old).now)) (state g old) (state g new)
      atomic = made_atomic (state g old) begun mid (state g new) last starts keeps Makes begins made commits

      -- its commit fails
      pub uncommitted_transacts : {X E : Type 0} (e : E) → (HasCleanDisk (state g new) → IsUndone mid (state g new)) → Transacts {X = X} (Makes (tables_in (state g old).now)) (state g old) (state g new) (Err e)
      uncommitted_transacts e undo = refused_transacts e (Makes (tables_in (state g old).now)) atomic (undone (was_clean mid (state g new) commits) undo)

      -- it commits
      pub committed_transacts : {X E : Type 0} (x : X) → (HasCleanDisk (state g new) → Ends mid (state g new)) → (HasCleanDisk (state g new) → KeepsOthers mid.committed (state g new).now)
          → LeavesOnly (λ left. left ≡ tables_in mid.now) (state g new) → Transacts {E = E} (Makes (tables_in (state g old).now)) (state g old) (state g new) (Ok x)
      committed_transacts x ends others leaves = record {
        at_rest = λ clean. let shown = (ends clean).shown in record { is_open = shown.is_open; autocommit = shown.mode; committed = shown.committed_is ∙ sym shown.now_is };
        others = λ clean. made_others (state g old) begun mid (state g new) begins keeps commits clean (ends clean) (others clean);
        kept = λ clean. tt;
        atomic = atomic;
        left = left_new mid (state g new) ends leaves;
        stands = tt;
      }
