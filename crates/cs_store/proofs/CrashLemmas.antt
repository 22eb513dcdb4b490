-- What a crash leaves of a batch, and of a call that does nothing.
use Rattle.std.proofs.Common.{◌≡◌, ◌⊎◌, inl, inr, false, IsTrue, Result, Ok, Err, OnOk, OnErr, refl, sym, ap, subst, ◌∙◌}
use Rattle.sqlite_trees.specs.Tree.{Trees}
use Rattle.sqlite_trees.specs.declared.store.Store.{Ghosts}
use Rattle.sqlite.specs.Effect.{Database}
use Rattle.sqlite.specs.Held.{Held, state}
use Rattle.sqlite.specs.State.{State, HasCleanDisk, KeepsCommit, Shows, Survives}
use Rattle.sqlite.proofs.StateLemmas.{survives_then, survives_weaker}
use Rattle.cs_value.specs.State as tables
use Rattle.cs_rows.specs.declared.fault.StoreError.{StoreError}
use Rattle.cs_store_sql.specs.Records.{IsUndone, KeepsContent, KeepsCrash, KeepsOthers}
use Rattle.cs_store_tables.specs.Store.{HoldsState, HoldsTables, IsStore, IsSound, IsInside, KeepsStore, Begins, Ends, tables_in}
use Rattle.cs_store_tables.specs.Crash.{MayLeave, LeavesOnly, LeavesTakenOver, CanBegin, IsAtomic}
use Rattle.cs_store_tables.specs.Laws.{was_clean}
use Rattle.cs_store_sql.proofs.ContentLemmas.{crash_then, crash_weaker}
use Rattle.cs_store_tables.proofs.WriteLemmas.{may_leave, shows_state}

-- ---- what is committed

-- of those tables something else holds
pub leaves_weaker : (P Q : tables.State → Type 0) → ((t : tables.State) → P t → Q t) → (trees : Trees) → MayLeave P trees → MayLeave Q trees
leaves_weaker P Q f trees may = record { schema = may.schema; store = may.store; tables = f (tables_in (record { schema = may.schema; trees = trees })) may.tables }

-- a transaction of a sound store commits the tables that it shows
pub commits_tables : (old new : State) → IsSound old → Survives old new (λ db. (db ≡ old.now.trees) × IsTrue old.in_transaction) → Survives old new (MayLeave (λ t. t ≡ tables_in old.now))
commits_tables old new sound commits =
    survives_weaker old new _ (MayLeave (λ t. t ≡ tables_in old.now))
    (λ clean db made. may_leave old (λ t. t ≡ tables_in old.now) db (shows_state old sound made.1 (was_clean old new commits clean)) refl made.0) commits

-- ---- a batch that begins on a store, and writes

-- it begins with the tables that the store held
pub begun_tables : (old begun mid : State) → (HasCleanDisk begun → Begins old begun) → KeepsStore begun mid → HasCleanDisk mid → tables_in begun.now ≡ tables_in old.now
begun_tables old begun mid begins keeps clean = ap (λ (db : Database). tables_in db) (begins (was_clean begun mid keeps.crash clean)).shown.now_is

-- what it makes of them, a call that ends with its commit makes of those that the store held
pub made_tables : (old begun mid new : State) (Makes : tables.State → tables.State → Type 0) {May : Trees → Type 0} → (HasCleanDisk begun → Begins old begun) → KeepsStore begun mid → Survives mid new May
    → (HasCleanDisk mid → Makes (tables_in begun.now) (tables_in mid.now)) → (HasCleanDisk new → Ends mid new) → HasCleanDisk new → Makes (tables_in old.now) (tables_in new.now)
made_tables old begun mid new Makes begins keeps survives made ends clean =
    let mid_clean = was_clean mid new survives clean in
    subst (Makes (tables_in old.now)) (ap (λ (db : Database). tables_in db) (sym (ends clean).shown.now_is))
    (subst (λ before. Makes before (tables_in mid.now)) (begun_tables old begun mid begins keeps mid_clean) (made mid_clean))

-- and commits all else as it was
pub made_others : (old begun mid new : State) {May : Trees → Type 0} → (HasCleanDisk begun → Begins old begun) → KeepsStore begun mid → Survives mid new May → HasCleanDisk new → Ends mid new → KeepsOthers mid.committed new.now
    → KeepsOthers old.now new.now
made_others old begun mid new begins keeps survives clean ends others =
    let mid_clean = was_clean mid new survives clean in
    let began = begins (was_clean begun mid keeps.crash mid_clean) in
    subst (λ db. KeepsOthers db new.now) ((keeps.commit mid_clean).committed ends.shown.was_open ∙ began.shown.committed_is ∙ sym began.settled) others

pub ended_others : {X : Type 0} (result : Result X StoreError) (old new : State) → IsStore old → OnOk result (IsTrue old.in_transaction × Shows old new old.now old.now false) → OnOk result (KeepsOthers old.committed new.now)
ended_others (Ok x) old new store ends = subst (KeepsOthers old.committed) (sym ends.1.now_is) (store.others ends.1.was_open)
ended_others (Err e) old new store ends = tt

module _ (old begun mid new : State) (begins : KeepsCrash old begun) (keeps : KeepsStore begun mid) where
  -- while it lasts it commits nothing
  inside : KeepsCrash old mid
  inside = crash_then old begun mid begins keeps.crash

  -- one whose commit is tried commits the tables that it shows then
  pub committed_survives : (Holds : tables.State → Type 0) → Survives mid new (MayLeave (λ t. t ≡ tables_in mid.now)) → (HasCleanDisk mid → Holds (tables_in mid.now))
      → Survives old new (MayLeave Holds)
  committed_survives Holds commits shows =
      survives_then old mid new (λ _. ⊥) (MayLeave (λ t. t ≡ tables_in mid.now)) (MayLeave Holds) (λ clean db none. absurd none)
      (λ clean db may. leaves_weaker (λ t. t ≡ tables_in mid.now) Holds (λ t same. subst Holds (sym same) (shows (was_clean mid new commits clean))) db may) inside commits

  -- and so what the batch made of the tables that the store held
  pub made_survives : (Makes : tables.State → tables.State → Type 0) → (HasCleanDisk begun → Begins old begun) → (HasCleanDisk mid → Makes (tables_in begun.now) (tables_in mid.now))
      → Survives mid new (MayLeave (λ t. t ≡ tables_in mid.now)) → Survives old new (MayLeave (Makes (tables_in old.now)))
  made_survives Makes begun_as made commits =
      committed_survives (Makes (tables_in old.now)) commits (λ clean. subst (λ t. Makes t (tables_in mid.now)) (begun_tables old begun mid begun_as keeps clean) (made clean))

-- ---- what is left of a store that is open

-- trees that are those of a database with a state are a store with its tables
holds_left : (db : Database) (trees : Trees) → HoldsState db → trees ≡ db.trees → MayLeave (λ left. left ≡ tables_in db) trees
holds_left db trees holds same = subst (MayLeave (λ left. left ≡ tables_in db)) (sym same) (record { schema = db.schema; store = holds; tables = refl })

-- a call that commits only where it could start commits nothing where it could not
pub unstarted_keeps : (Starts : Type 0) (old new : State) (May : Trees → Type 0) → Survives old new May → (HasCleanDisk new → (trees : Trees) → May trees → Starts) → ¬ Starts → KeepsCrash old new
unstarted_keeps Starts old new May survives starts none = survives_weaker old new May (λ _. ⊥) (λ clean trees made. none (starts clean trees made)) survives

-- a batch that has ended leaves what it showed, which the store shows now
pub left_new : (mid new : State) → (HasCleanDisk new → Ends mid new) → LeavesOnly (λ left. left ≡ tables_in mid.now) new → LeavesOnly (λ left. left ≡ tables_in new.now) new
left_new mid new ends leaves clean trees may =
    leaves_weaker (λ left. left ≡ tables_in mid.now) (λ left. left ≡ tables_in new.now) (λ t same. same ∙ ap (λ (db : Database). tables_in db) (sym (ends clean).shown.now_is)) trees (leaves clean trees may)

-- ---- what is left at the end of a call that commits

module _ (old new : State) (last : IsTrue old.is_open → LeavesOnly (λ left. left ≡ tables_in old.committed) old) (Starts : State → Type 0) (Commits : tables.State → Type 0) where
  -- the last commit, or what the call commits
  pub commit_atomic : Survives old new (MayLeave Commits) → (¬ Starts old → KeepsCrash old new) → IsAtomic Starts Commits old new
  commit_atomic survives unstarted = record {
    survives = survives;
    opened = λ is_open clean trees may. elim (survives.crash clean trees may) [
      | inl was ↦ leaves_weaker _ (λ left. (left ≡ tables_in old.committed) ⊎ Commits left) (λ t same. inl same) trees (last is_open (was_clean old new survives clean) trees was)
      | inr made ↦ leaves_weaker _ (λ left. (left ≡ tables_in old.committed) ⊎ Commits left) (λ t it. inr it) trees made
    ];
    unstarted = unstarted;
  }

  -- only that, if it commits nothing
  pub idle_atomic : KeepsCrash old new → IsAtomic Starts Commits old new
  idle_atomic keeps = commit_atomic (crash_weaker old new (MayLeave Commits) keeps) (λ none. keeps)

-- of what is committed something else holds
pub atomic_weaker : (Starts : State → Type 0) (P Q : tables.State → Type 0) (old new : State) → ((t : tables.State) → P t → Q t) → IsAtomic Starts P old new → IsAtomic Starts Q old new
atomic_weaker Starts P Q old new f is = record {
  survives = survives_weaker old new (MayLeave P) (MayLeave Q) (λ clean. leaves_weaker P Q f) is.survives;
  opened = λ is_open clean trees may.
      leaves_weaker (λ left. (left ≡ tables_in old.committed) ⊎ P left) (λ left. (left ≡ tables_in old.committed) ⊎ Q left)
      (λ t it. elim it [ inl same ↦ inl same | inr made ↦ inr (f t made) ]) trees (is.opened is_open clean trees may);
  unstarted = is.unstarted;
}

module _ (old begun mid new : State) (last : IsTrue old.is_open → LeavesOnly (λ left. left ≡ tables_in old.committed) old)
    (begins : KeepsCrash old begun) (keeps : KeepsStore begun mid) where
  -- a batch that is dropped commits nothing
  pub dropped_atomic : (Commits : tables.State → Type 0) → KeepsCrash mid new → IsAtomic CanBegin Commits old new
  dropped_atomic Commits drops = idle_atomic old new last CanBegin Commits (crash_then old mid new (inside old begun mid new begins keeps) drops)

  -- one whose commit is tried may commit what it made of the tables that the store held
  pub made_atomic : (Makes : tables.State → tables.State → Type 0) → (HasCleanDisk begun → Begins old begun) → (HasCleanDisk mid → Makes (tables_in begun.now) (tables_in mid.now))
      → Survives mid new (MayLeave (λ t. t ≡ tables_in mid.now)) → IsAtomic CanBegin (Makes (tables_in old.now)) old new
  made_atomic Makes begun_as made commits =
      let survives = made_survives old begun mid new begins keeps Makes begun_as made commits in
      commit_atomic old new last CanBegin (Makes (tables_in old.now)) survives
      (unstarted_keeps (CanBegin old) old new _ survives (λ clean trees it.
      let began = begun_as (was_clean begun mid keeps.crash (was_clean mid new commits clean)) in
      record { is_open = began.shown.was_open; autocommit = began.autocommit }))

-- ---- what is left of a database that is adopted, by the law of what holds it

-- its last commit, or a store with the tables that it held
pub taken_over : {S : Type 0} (g : Ghosts S) → ((s : S) (trees : Trees) → IsTrue (g.view s).is_open → g.recovers s trees → trees ≡ (g.view s).committed) → (old new : Held S)
    → Survives (state g old) (state g new) (MayLeave (HoldsTables (state g old).now)) → (¬ CanBegin (state g old) → KeepsCrash (state g old) (state g new)) → LeavesTakenOver (state g old) (state g new)
taken_over g settled old new survives unstarted = record {
  opened = λ is_open clean trees may. elim (survives.crash clean trees may) [ inl was ↦ inl (settled old.store trees is_open was) | inr made ↦ inr made ];
  unstarted = unstarted;
}

-- ---- what is left of a store, by the law of what holds its database

module _ {S : Type 0} (g : Ghosts S) (settled : (s : S) (trees : Trees) → IsTrue (g.view s).is_open → g.recovers s trees → trees ≡ (g.view s).committed) (h : Held S) (sound : IsSound (state g h)) where
  -- its last commit
  pub leaves_commit : IsTrue (state g h).is_open → LeavesOnly (λ left. left ≡ tables_in (state g h).committed) (state g h)
  leaves_commit is_open clean trees may = holds_left (state g h).committed trees ((sound clean).committed is_open) (settled h.store trees is_open may)

  -- the end of a transaction leaves that, or the tables that it showed
  pub ended_atomic : (new : State) → Survives (state g h) new (λ db. (db ≡ (state g h).now.trees) × IsTrue (state g h).in_transaction)
      → IsAtomic IsInside (λ left. left ≡ tables_in (state g h).now) (state g h) new
  ended_atomic new survives =
      commit_atomic (state g h) new leaves_commit IsInside _ (commits_tables (state g h) new sound survives)
      (unstarted_keeps (IsInside (state g h)) (state g h) new _ survives (λ clean trees made.
      record { is_open = (sound (was_clean (state g h) new survives clean)).open_inside made.1; inside = made.1 }))

  -- and once they are, only these are left
  pub ended_left : {X : Type 0} (result : Result X StoreError) (May : Trees → Type 0) (new : Held S) → Survives (state g h) (state g new) May
      → (HasCleanDisk (state g new) → OnOk result (IsTrue (state g h).in_transaction × Shows (state g h) (state g new) (state g h).now (state g h).now false))
      → OnOk result (LeavesOnly (λ left. left ≡ tables_in (state g h).now) (state g new))
  ended_left (Ok x) May new survives committed = λ clean trees may.
      let ends = committed clean in
      holds_left (state g h).now trees (shows_state (state g h) sound ends.0 (was_clean (state g h) (state g new) survives clean))
      (settled new.store trees ends.1.is_open may ∙ ap (λ (db : Database). db.trees) ends.1.committed_is)
  ended_left (Err e) May new survives committed = tt

  -- a batch that has begun leaves what the store shows, and nothing else
  pub begun_left : (begun : Held S) → KeepsCrash (state g h) (state g begun) → (HasCleanDisk (state g begun) → Begins (state g h) (state g begun))
      → LeavesOnly (λ left. left ≡ tables_in (state g h).now) (state g begun)
  begun_left begun keeps begins clean trees may =
      let began = begins clean in
      holds_left (state g h).now trees ((sound (was_clean (state g h) (state g begun) keeps clean)).now began.shown.was_open)
      (settled begun.store trees began.shown.is_open may ∙ ap (λ (db : Database). db.trees) (began.shown.committed_is ∙ sym began.settled))

-- ---- what is left after a refusal

module _ {S : Type 0} (g : Ghosts S) (settled : (s : S) (trees : Trees) → IsTrue (g.view s).is_open → g.recovers s trees → trees ≡ (g.view s).committed)
    (stays : (s : S) → IsTrue (g.view s).is_open → g.recovers s (g.view s).committed) (old new : Held S)
    (last : IsTrue (state g old).is_open → LeavesOnly (λ left. left ≡ tables_in (state g old).committed) (state g old)) where
  -- a store that is still open leaves the last commit, if that stays
  last_stands : (HasCleanDisk (state g new) → HasCleanDisk (state g old)) → (HasCleanDisk (state g new) → KeepsCommit (state g old) (state g new))
      → IsTrue (state g new).is_open → LeavesOnly (λ left. left ≡ tables_in (state g old).committed) (state g new)
  last_stands was keeps is_open clean trees may =
      let kept = keeps clean in
      let was_open = kept.was_open is_open in
      subst (MayLeave (λ left. left ≡ tables_in (state g old).committed)) (sym (settled new.store trees is_open may ∙ ap (λ (db : Database). db.trees) (kept.committed is_open)))
      (last was_open (was clean) (state g old).committed.trees (stays old.store was_open))

  -- where a call that commits is refused
  pub refused_stands : {X E : Type 0} (result : Result X E) (Starts : State → Type 0) (Commits : tables.State → Type 0) → IsAtomic Starts Commits (state g old) (state g new)
      → (HasCleanDisk (state g new) → OnErr result (KeepsContent (state g old) (state g new)))
      → OnErr result (IsTrue (state g new).is_open → LeavesOnly (λ left. left ≡ tables_in (state g old).committed) (state g new))
  refused_stands (Ok x) Starts Commits is kept = tt
  refused_stands (Err e) Starts Commits is kept =
      last_stands (was_clean (state g old) (state g new) is.survives) (λ clean. let content = kept clean in record { was_open = content.was_open; committed = content.committed })

  -- where a batch is not committed
  pub undone_stands : {X E : Type 0} (result : Result X E) (Starts : State → Type 0) (Commits : tables.State → Type 0) → IsAtomic Starts Commits (state g old) (state g new)
      → (HasCleanDisk (state g new) → OnErr result (IsUndone (state g old) (state g new)))
      → OnErr result (IsTrue (state g new).is_open → LeavesOnly (λ left. left ≡ tables_in (state g old).committed) (state g new))
  undone_stands (Ok x) Starts Commits is undone = tt
  undone_stands (Err e) Starts Commits is undone =
      last_stands (was_clean (state g old) (state g new) is.survives) (λ clean. let back = undone clean in record { was_open = back.was_open; committed = back.committed })
