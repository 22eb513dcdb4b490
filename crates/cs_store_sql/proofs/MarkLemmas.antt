-- What SAVEPOINT, RELEASE and ROLLBACK TO do with marks, whatever the schema.
use Rattle.std.proofs.Common.{◌≡◌, ◌≢◌, ◌⊎◌, ◌+◌, inl, inr, ℕ, List, [], ◌∷◌, ◌++◌, length, map, take, slice_get, slice_index_or, Some, not, true, false, codes, Ok, Err, IsTrue, refl, sym, subst, ◌∙◌, arith}
use Rattle.std.proofs.lemmas.Bool.{both_ways, cases_lt}
use Rattle.std.proofs.lemmas.List.{length-append, take_all, take_at}
use Rattle.sqlite_trees.specs.Sound.{same_name}
use Rattle.sqlite_trees.specs.Tree.{Trees}
use Rattle.sqlite_schema.specs.declared.schema.Schema.{Schema}
use Rattle.sqlite_schema.specs.declared.command.Command.{Command}
use Rattle.sqlite_schema.specs.declared.command.Command.TheVariants.{Savepoint as Save, Release, RollbackTo}
use Rattle.sqlite_tied.specs.Compute.{everything}
use Rattle.sqlite.specs.declared.error.Error.{Error}
use Rattle.sqlite.specs.declared.error.Error.TheVariants.{SqliteFailure}
use Rattle.sqlite.specs.declared.error.ErrorCode.TheVariants.{OutOfMemory}
use Rattle.sqlite.specs.Effect.{Database}
use Rattle.sqlite.specs.Given.{IsPlain}
use Rattle.sqlite.specs.Listing.{understood}
use Rattle.sqlite.specs.State.{State, Savepoint, HasCleanDisk, Shows, Survives, Executes, CommitsBy, IsMisplaced, IsNewestNamed, IsUnnamed, names_in, begins_at}
use Rattle.sqlite.proofs.StateLemmas.{survives_weaker}
use Rattle.sqlite.proofs.Callers.{command_of, runs_as}
use Rattle.cs_store_sql.specs.Records.{IsUndone, KeepsCrash}
use Rattle.cs_store_sql.specs.Failing.{HasDiskFailed}
use Rattle.cs_store_sql.specs.Marks.{mark_name, mark_at, IsMarked, HasMark}
use Rattle.cs_store_sql.proofs.ContentLemmas.{crash_then}
use Rattle.cs_store_sql.proofs.ReadFailures.{disk_from}
use Rattle.cs_store_sql.proofs.StatementLemmas.{IsWhole, by_disk, commits_as, fails_as, undone_by}

abbrev pub mark_text : List ℕ
mark_text = codes "SAVEPOINT call"

abbrev pub release_text : List ℕ
release_text = codes "RELEASE call"

abbrev pub back_text : List ℕ
back_text = codes "ROLLBACK TO call"

-- ---- what the texts mean

module _ (schema : Schema) where
  mark_is : command_of (understood schema mark_text) ≡ Save mark_name
  unfolding understood everything
  mark_is = refl

  mark_plain : IsPlain (understood schema mark_text)
  unfolding understood everything
  mark_plain = (refl, refl)

  mark_whole : IsWhole mark_text 0 (understood schema mark_text)
  unfolding understood everything
  mark_whole = (omega arith, refl, refl)

  release_is : command_of (understood schema release_text) ≡ Release mark_name
  unfolding understood everything
  release_is = refl

  release_plain : IsPlain (understood schema release_text)
  unfolding understood everything
  release_plain = (refl, refl)

  release_whole : IsWhole release_text 0 (understood schema release_text)
  unfolding understood everything
  release_whole = (omega arith, refl, refl)

  back_is : command_of (understood schema back_text) ≡ RollbackTo mark_name
  unfolding understood everything
  back_is = refl

  back_plain : IsPlain (understood schema back_text)
  unfolding understood everything
  back_plain = (refl, refl)

  back_whole : IsWhole back_text 0 (understood schema back_text)
  unfolding understood everything
  back_whole = (omega arith, refl, refl)

-- ---- the newest mark

-- what the last of a list has
last_mapped : {X Y : Type 0} (f : X → Y) (xs : List X) (x : X) (d : Y) → slice_index_or (map f (xs ++ x ∷ [])) (length xs) d ≡ f x
last_mapped f [] x d = refl
last_mapped f (y ∷ ys) x d = last_mapped f ys x d

last_is : {X : Type 0} (xs : List X) (x : X) → slice_get (xs ++ x ∷ []) (length xs) ≡ Some x
last_is [] x = refl
last_is (y ∷ ys) x = last_is ys x

length_mapped : {X Y : Type 0} (f : X → Y) (xs : List X) (x : X) → length (map f (xs ++ x ∷ [])) ≡ length xs + 1
length_mapped f [] x = refl
length_mapped f (y ∷ ys) x = omega (arith, length_mapped f ys x)

take_each : {X : Type 0} (xs : List X) (x : X) → take (length xs + 1) (xs ++ x ∷ []) ≡ xs ++ x ∷ []
take_each xs x = take_all (length xs + 1) (xs ++ x ∷ []) (omega (arith, length-append xs (x ∷ [])))

own_name : same_name mark_name mark_name ≡ true
unfolding same_name
own_name = refl

module _ (before : List Savepoint) (db : Database) (s : State) (marked : IsMarked before db s) where
  -- it has the name
  newest_named : same_name (slice_index_or (names_in s) (length before) []) mark_name ≡ true
  newest_named = rw (marked, last_mapped (λ (p : Savepoint). p.name) before (mark_at db) []) own_name

  newest_within : length (names_in s) ≡ length before + 1
  newest_within = rw (marked, length_mapped (λ (p : Savepoint). p.name) before (mark_at db)) refl

  -- so the newest of the name is it
  newest_at : (at : ℕ) → IsNewestNamed (names_in s) mark_name at → at ≡ length before
  newest_at at newest = elim (cases_lt at (length before)) [
    | inl lower ↦ absurd (both_ways _ (newest.last (length before) lower (omega (arith, newest_within))) newest_named)
    | inr upper ↦ omega (arith, newest.within, newest_within, upper)
  ]

  -- it did not begin the transaction
  begins_not : (at : ℕ) → IsNewestNamed (names_in s) mark_name at → begins_at s at ≡ false
  begins_not at newest = rw (newest_at at newest, marked) (last_mapped (λ (p : Savepoint). p.begins) before (mark_at db) false)

  -- and there is one of the name
  is_named : (name : List ℕ) → mark_name ≡ name → ¬ IsUnnamed (names_in s) name
  is_named name same none = both_ways _ (subst (λ n. same_name (slice_index_or (names_in s) (length before) []) n ≡ false) (sym same) (none (length before) (omega (arith, newest_within)))) newest_named

  in_place : (command : Command) (e : Error) → (command ≡ Release mark_name) ⊎ (command ≡ RollbackTo mark_name) → ¬ IsMisplaced s command e
  in_place command e is (inl other) = elim is [
    | inl release ↦ elim other.1 [ inl begins ↦ let no = begins.0 in cc | inr (inl commits, out) ↦ cc | inr (inr rolls_back, out) ↦ cc ]
    | inr back ↦ elim other.1 [ inl begins ↦ let no = begins.0 in cc | inr (inl commits, out) ↦ cc | inr (inr rolls_back, out) ↦ cc ]
  ]
  in_place command e is (inr (why, name, names, none)) =
      let same : mark_name ≡ name = elim is [
        | inl release ↦ elim names [ inl its ↦ cc | inr other ↦ absurd (cc) ]
        | inr back ↦ elim names [ inl other ↦ absurd (cc) | inr its ↦ cc ]
      ] in
      is_named name same none

-- ---- what is marked, dropped and undone

module _ (old new : State) where
  -- SAVEPOINT marks the content that is shown
  pub marks : (count : ℕ) → IsTrue old.in_transaction → Executes mark_text [] old new (Ok count) → IsTrue old.in_transaction × Shows old new old.now old.committed true × IsMarked old.marks old.now new
  marks count inside h =
      let ran = runs_as mark_text [] old new old.now.schema refl (Save mark_name) (mark_is old.now.schema) (mark_plain old.now.schema) count h in
      (inside, ran.0.0, subst (λ mode. new.marks ≡ old.marks ++ record { name = mark_name; begins = not mode; db = old.now } ∷ []) inside ran.0.2)

  -- it is never out of place
  save_in_place : (e : Error) → ¬ IsMisplaced old (Save mark_name) e
  save_in_place e (inl (why, inl begins)) = let no = begins.0 in cc
  save_in_place e (inl (why, inr (inl commits, out))) = cc
  save_in_place e (inl (why, inr (inr rolls_back, out))) = cc
  save_in_place e (inr (why, name, inl release, none)) = cc
  save_in_place e (inr (why, name, inr back, none)) = cc

  -- if it fails, the last commit stays
  pub mark_undone : (e : Error) → Executes mark_text [] old new (Err e) → IsUndone old new
  mark_undone e h =
      elim (fails_as mark_text [] old.now.schema (Save mark_name) (mark_is old.now.schema) (mark_plain old.now.schema) (λ none. none) refl old new e refl (mark_whole old.now.schema) h) [
        | inl back ↦ undone_by old new back.3
        | inr misplaced ↦ absurd (save_in_place e misplaced.0)
      ]

  -- by the disk, or for memory
  pub mark_fails : (e : Error) → e ≢ SqliteFailure OutOfMemory → Executes mark_text [] old new (Err e) → HasDiskFailed old new e
  mark_fails e other h =
      elim (fails_as mark_text [] old.now.schema (Save mark_name) (mark_is old.now.schema) (mark_plain old.now.schema) (λ none. none) refl old new e refl (mark_whole old.now.schema) h) [
        | inl fails ↦ by_disk old new e _ (λ big. let refused = big.2 in cc) other fails
        | inr misplaced ↦ absurd (save_in_place e misplaced.0)
      ]

  -- and it commits nothing
  pub mark_keeps_crash : Survives old new (CommitsBy mark_text [] old) → KeepsCrash old new
  mark_keeps_crash = survives_weaker old new _ (λ _. ⊥) (λ clean db by.
      elim (commits_as mark_text [] old.now.schema (Save mark_name) (mark_is old.now.schema) (mark_plain old.now.schema) old db refl by) [
        | inl (inl ends, at) ↦ absurd (cc)
        | inl (inr ends, at) ↦ absurd (let is = ends.2 in cc)
        | inr writes ↦ absurd (let refused = writes.3 in cc)
      ])

  module _ (before : List Savepoint) (db : Database) (marked : IsMarked before db old) where
    -- RELEASE drops the newest mark
    pub releases : (count : ℕ) → Executes release_text [] old new (Ok count) → Shows old new old.now old.committed true × (new.marks ≡ before)
    releases count h =
        let ran = runs_as release_text [] old new old.now.schema refl (Release mark_name) (release_is old.now.schema) (release_plain old.now.schema) count h in
        elim ran.2 [
          | inl ends ↦ absurd (both_ways _ (begins_not before db old marked ran.0 ran.1) ends.0)
          | inr drops ↦ (drops.1.0, drops.1.2 ∙ rw (newest_at before db old marked ran.0 ran.1, marked) (take_at before (mark_at db ∷ []) (length before) refl))
        ]

    -- if it fails, the last commit stays
    pub release_undone : (e : Error) → Executes release_text [] old new (Err e) → IsUndone old new
    release_undone e h =
        elim (fails_as release_text [] old.now.schema (Release mark_name) (release_is old.now.schema) (release_plain old.now.schema) (λ none. none) refl old new e refl (release_whole old.now.schema) h) [
          | inl back ↦ undone_by old new back.3
          | inr misplaced ↦ absurd (in_place before db old marked (Release mark_name) e (inl refl) misplaced.0)
        ]

    -- by the disk, or for memory
    pub release_fails : (e : Error) → e ≢ SqliteFailure OutOfMemory → Executes release_text [] old new (Err e) → HasDiskFailed old new e
    release_fails e other h =
        elim (fails_as release_text [] old.now.schema (Release mark_name) (release_is old.now.schema) (release_plain old.now.schema) (λ none. none) refl old new e refl (release_whole old.now.schema) h) [
          | inl fails ↦ by_disk old new e _ (λ big. let refused = big.2 in cc) other fails
          | inr misplaced ↦ absurd (in_place before db old marked (Release mark_name) e (inl refl) misplaced.0)
        ]

    -- ROLLBACK TO takes the content back to that of the mark, which stays
    pub goes_back : (count : ℕ) → Executes back_text [] old new (Ok count) → Shows old new db old.committed true × IsMarked before db new
    goes_back count h =
        let ran = runs_as back_text [] old new old.now.schema refl (RollbackTo mark_name) (back_is old.now.schema) (back_plain old.now.schema) count h in
        let at = newest_at before db old marked ran.0 ran.1 in
        let found : slice_get old.marks ran.0 ≡ Some (mark_at db) = rw (at, marked) (last_is before (mark_at db)) in
        let it : ran.2.0 ≡ mark_at db = let both = sym ran.2.1 ∙ found in cc in (
          subst (λ (p : Savepoint). Shows old new p.db old.committed true) it ran.2.2,
          ran.2.4 ∙ rw (at, marked) (take_each before (mark_at db)),
        )

    -- if it fails, the last commit stays
    pub back_undone : (e : Error) → Executes back_text [] old new (Err e) → IsUndone old new
    back_undone e h =
        elim (fails_as back_text [] old.now.schema (RollbackTo mark_name) (back_is old.now.schema) (back_plain old.now.schema) (λ none. none) refl old new e refl (back_whole old.now.schema) h) [
          | inl back ↦ undone_by old new back.3
          | inr misplaced ↦ absurd (in_place before db old marked (RollbackTo mark_name) e (inr refl) misplaced.0)
        ]

    -- by the disk, or for memory
    pub back_fails : (e : Error) → e ≢ SqliteFailure OutOfMemory → Executes back_text [] old new (Err e) → HasDiskFailed old new e
    back_fails e other h =
        elim (fails_as back_text [] old.now.schema (RollbackTo mark_name) (back_is old.now.schema) (back_plain old.now.schema) (λ none. none) refl old new e refl (back_whole old.now.schema) h) [
          | inl fails ↦ by_disk old new e _ (λ big. let refused = big.2 in cc) other fails
          | inr misplaced ↦ absurd (in_place before db old marked (RollbackTo mark_name) e (inr refl) misplaced.0)
        ]

  -- RELEASE of a mark commits nothing
  never_commits : HasMark old → (db : Trees) → ¬ CommitsBy release_text [] old db
  never_commits (before, at, marked) db by =
      elim (commits_as release_text [] old.now.schema (Release mark_name) (release_is old.now.schema) (release_plain old.now.schema) old db refl by) [
        | inl (inl ends, same) ↦ cc
        | inl (inr ends, same) ↦
            let named : ends.0 ≡ mark_name = let is = ends.2 in cc in
            both_ways _ (begins_not before at old marked ends.1 (rw named at ends.3)) ends.4
        | inr writes ↦ let refused = writes.3 in cc
      ]

  pub release_keeps_crash : (HasCleanDisk old → HasMark old) → Survives old new (CommitsBy release_text [] old) → KeepsCrash old new
  release_keeps_crash has survives = survives_weaker old new _ (λ _. ⊥) (λ clean db by. never_commits (has (omega (arith, clean, survives.clean))) db by) survives

  -- nor does ROLLBACK TO
  pub back_keeps_crash : Survives old new (CommitsBy back_text [] old) → KeepsCrash old new
  back_keeps_crash = survives_weaker old new _ (λ _. ⊥) (λ clean db by.
      elim (commits_as back_text [] old.now.schema (RollbackTo mark_name) (back_is old.now.schema) (back_plain old.now.schema) old db refl by) [
        | inl (inl ends, at) ↦ absurd (cc)
        | inl (inr ends, at) ↦ absurd (let is = ends.2 in cc)
        | inr writes ↦ absurd (let refused = writes.3 in cc)
      ])

-- ---- back to the mark, and then without it

-- a rollback after what is shown is that of the last commit before it
undone_after : (old mid new : State) (db : Database) → Shows old mid db old.committed true → IsUndone mid new → IsUndone old new
undone_after old mid new db shown undone = record {
  autocommit = undone.autocommit;
  was_open = λ k. shown.was_open;
  now = λ k. undone.now k ∙ shown.committed_is;
  committed = λ k. undone.committed k ∙ shown.committed_is;
}

module _ (old mid new : State) (count : ℕ) where
  module _ (before : List Savepoint) (db : Database) (marked : IsMarked before db old) (first : Executes back_text [] old mid (Ok count)) where
    -- where both succeed, the content is that of the mark
    pub gone_back : (more : ℕ) → Executes release_text [] mid new (Ok more) → Shows old new db old.committed true × (new.marks ≡ before)
    gone_back more second =
        let went = goes_back old mid before db marked count first in
        let dropped = releases mid new before db went.1 more second in (
          record {
            was_open = went.0.was_open;
            is_open = dropped.0.is_open;
            now_is = dropped.0.now_is ∙ went.0.now_is;
            committed_is = dropped.0.committed_is ∙ went.0.committed_is;
            mode = dropped.0.mode;
          },
          dropped.1,
        )

    -- where the second fails, the transaction is rolled back
    pub not_gone_back : (e : Error) → Executes release_text [] mid new (Err e) → IsUndone old new
    not_gone_back e second =
        let went = goes_back old mid before db marked count first in
        undone_after old mid new db went.0 (release_undone mid new before db went.1 e second)

    -- by the disk, or for memory
    pub not_gone_back_fails : KeepsCrash old mid → (e : Error) → e ≢ SqliteFailure OutOfMemory → Executes release_text [] mid new (Err e) → HasDiskFailed old new e
    not_gone_back_fails crash e other second =
        let went = goes_back old mid before db marked count first in
        disk_from old mid new e crash went.0.is_open (release_fails mid new before db went.1 e other second)

  -- the mark stays for the second
  mark_stays : HasMark old → Executes back_text [] old mid (Ok count) → HasMark mid
  mark_stays (before, db, marked) first = (before, db, (goes_back old mid before db marked count first).1)

  -- and both commit nothing
  pub gone_back_keeps_crash : (HasCleanDisk old → HasMark old) → (HasCleanDisk mid → Executes back_text [] old mid (Ok count))
      → Survives old mid (CommitsBy back_text [] old) → Survives mid new (CommitsBy release_text [] mid) → KeepsCrash old new
  gone_back_keeps_crash has first one two =
      crash_then old mid new (back_keeps_crash old mid one)
      (release_keeps_crash mid new (λ clean. mark_stays (has (omega (arith, clean, one.clean))) (first clean)) two)
