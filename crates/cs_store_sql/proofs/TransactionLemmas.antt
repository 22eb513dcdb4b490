-- What BEGIN, COMMIT and ROLLBACK do, whatever the schema.
use Rattle.std.proofs.Common.{◌≡◌, ◌≢◌, ◌⊎◌, inl, inr, ℕ, List, [], true, false, codes, Ok, Err, Result, IsTrue, refl, arith}
use Rattle.std.proofs.lemmas.Bool.{both_ways}
use Rattle.sqlite_schema.specs.declared.schema.Schema.{Schema}
use Rattle.sqlite_schema.specs.declared.command.Command.{Command}
use Rattle.sqlite_schema.specs.declared.command.Command.TheVariants.{Begin, Commit, Rollback}
use Rattle.sqlite_tied.specs.Compute.{everything}
use Rattle.sqlite.specs.declared.error.Error.{Error}
use Rattle.sqlite.specs.declared.error.Error.TheVariants.{SqliteFailure}
use Rattle.sqlite.specs.declared.error.ErrorCode.TheVariants.{OutOfMemory}
use Rattle.sqlite.specs.Given.{IsPlain}
use Rattle.sqlite.specs.Listing.{understood}
use Rattle.sqlite.specs.State.{State, Shows, Survives, Executes, CommitsBy, IsMisplaced}
use Rattle.sqlite.proofs.StateLemmas.{survives_weaker}
use Rattle.sqlite.proofs.Callers.{command_of, runs_as}
use Rattle.cs_store_sql.specs.Records.{IsUndone, KeepsCrash}
use Rattle.cs_store_sql.specs.Failing.{HasDiskFailed}
use Rattle.cs_store_sql.proofs.StatementLemmas.{IsWhole, by_disk, commits_as, fails_as, undone_by}

abbrev begin_text : List ℕ
begin_text = codes "BEGIN"

abbrev commit_text : List ℕ
commit_text = codes "COMMIT"

abbrev roll_back_text : List ℕ
roll_back_text = codes "ROLLBACK"

-- what the texts mean
module _ (schema : Schema) where
  begin_is : command_of (understood schema begin_text) ≡ Begin
  unfolding understood everything
  begin_is = refl

  begin_plain : IsPlain (understood schema begin_text)
  unfolding understood everything
  begin_plain = (refl, refl)

  begin_whole : IsWhole begin_text 0 (understood schema begin_text)
  unfolding understood everything
  begin_whole = (omega arith, refl, refl)

  commit_is : command_of (understood schema commit_text) ≡ Commit
  unfolding understood everything
  commit_is = refl

  commit_plain : IsPlain (understood schema commit_text)
  unfolding understood everything
  commit_plain = (refl, refl)

  commit_whole : IsWhole commit_text 0 (understood schema commit_text)
  unfolding understood everything
  commit_whole = (omega arith, refl, refl)

  roll_back_is : command_of (understood schema roll_back_text) ≡ Rollback
  unfolding understood everything
  roll_back_is = refl

  roll_back_plain : IsPlain (understood schema roll_back_text)
  unfolding understood everything
  roll_back_plain = (refl, refl)

  roll_back_whole : IsWhole roll_back_text 0 (understood schema roll_back_text)
  unfolding understood everything
  roll_back_whole = (omega arith, refl, refl)

-- BEGIN is out of place where one is open
inside : (s : State) (e : Error) → IsMisplaced s Begin e → IsTrue s.in_transaction
inside s e (inl (_, inl begins)) = begins.1
inside s e (inl (_, inr (inl commits, _))) = absurd (cc)
inside s e (inl (_, inr (inr rolls_back, _))) = absurd (cc)
inside s e (inr named) = absurd (elim named.2 [ inl release ↦ cc | inr back ↦ cc ])

-- COMMIT and ROLLBACK are out of place where no transaction is open
outside : (s : State) (command : Command) (e : Error) → (command ≡ Commit) ⊎ (command ≡ Rollback) → IsMisplaced s command e → s.in_transaction ≡ false
outside s command e ends (inl (_, inl begins)) = absurd (let is = begins.0 in elim ends [ inl commits ↦ cc | inr rolls_back ↦ cc ])
outside s command e ends (inl (_, inr closed)) = closed.1
outside s command e ends (inr named) = absurd (elim ends [
  | inl commits ↦ elim named.2 [ inl release ↦ cc | inr back ↦ cc ]
  | inr rolls_back ↦ elim named.2 [ inl release ↦ cc | inr back ↦ cc ]
])

module _ (old new : State) where
  -- BEGIN begins a transaction on the current content
  pub begins : (count : ℕ) → Executes begin_text [] old new (Ok count) → (old.in_transaction ≡ false) × Shows old new old.now old.committed true
  begins count h =
      let ran = runs_as begin_text [] old new old.now.schema refl Begin (begin_is old.now.schema) (begin_plain old.now.schema) count h in
      (ran.0, ran.1)

  -- outside a transaction BEGIN fails only by the disk, or for memory
  pub begin_fails : old.in_transaction ≡ false → (e : Error) → e ≢ SqliteFailure OutOfMemory → Executes begin_text [] old new (Err e) → HasDiskFailed old new e
  begin_fails outside e other h =
      elim (fails_as begin_text [] old.now.schema Begin (begin_is old.now.schema) (begin_plain old.now.schema) (λ none. none) refl old new e refl (begin_whole old.now.schema) h) [
        | inl fails ↦ by_disk old new e _ (λ big. let refused = big.2 in cc) other fails
        | inr misplaced ↦ absurd (both_ways _ outside (inside old e misplaced.0))
      ]

  -- BEGIN commits nothing
  pub begin_keeps_crash : Survives old new (CommitsBy begin_text [] old) → KeepsCrash old new
  begin_keeps_crash = survives_weaker old new _ (λ _. ⊥) (λ clean db by.
      elim (commits_as begin_text [] old.now.schema Begin (begin_is old.now.schema) (begin_plain old.now.schema) old db refl by) [
        | inl (inl ends, at) ↦ absurd (cc)
        | inl (inr ends, at) ↦ absurd (let is = ends.2 in cc)
        | inr writes ↦ absurd (let refused = writes.3 in cc)
      ])

  -- COMMIT commits the current content
  pub commits : (count : ℕ) → Executes commit_text [] old new (Ok count) → IsTrue old.in_transaction × Shows old new old.now old.now false
  commits count h =
      let ran = runs_as commit_text [] old new old.now.schema refl Commit (commit_is old.now.schema) (commit_plain old.now.schema) count h in
      (ran.0, ran.1)

  -- if it fails, the last commit stays
  pub commit_undone : IsTrue old.in_transaction → (e : Error) → Executes commit_text [] old new (Err e) → IsUndone old new
  commit_undone inside e h =
      elim (fails_as commit_text [] old.now.schema Commit (commit_is old.now.schema) (commit_plain old.now.schema) (λ none. none) refl old new e refl (commit_whole old.now.schema) h) [
        | inl back ↦ undone_by old new back.3
        | inr misplaced ↦ absurd (both_ways _ (outside old Commit e (inl refl) misplaced.0) inside)
      ]

  -- inside a transaction COMMIT fails only by the disk, or for memory
  pub commit_fails : IsTrue old.in_transaction → (e : Error) → e ≢ SqliteFailure OutOfMemory → Executes commit_text [] old new (Err e) → HasDiskFailed old new e
  commit_fails inside e other h =
      elim (fails_as commit_text [] old.now.schema Commit (commit_is old.now.schema) (commit_plain old.now.schema) (λ none. none) refl old new e refl (commit_whole old.now.schema) h) [
        | inl fails ↦ by_disk old new e _ (λ big. let refused = big.2 in cc) other fails
        | inr misplaced ↦ absurd (both_ways _ (outside old Commit e (inl refl) misplaced.0) inside)
      ]

  -- it commits the current content, and nothing else
  pub commit_survives : IsTrue old.in_transaction → Survives old new (CommitsBy commit_text [] old) → Survives old new (λ db. (db ≡ old.now.trees) × IsTrue old.in_transaction)
  commit_survives inside = survives_weaker old new _ (λ db. (db ≡ old.now.trees) × IsTrue old.in_transaction) (λ clean db by.
      elim (commits_as commit_text [] old.now.schema Commit (commit_is old.now.schema) (commit_plain old.now.schema) old db refl by) [
        | inl ends ↦ (ends.1, inside)
        | inr writes ↦ absurd (let refused = writes.3 in cc)
      ])

  -- ROLLBACK inside a transaction leaves the last commit, however it ends
  pub roll_back_undone : IsTrue old.in_transaction → (r : Result ℕ Error) → Executes roll_back_text [] old new r → IsUndone old new
  roll_back_undone inside (Ok count) h =
      undone_by old new (runs_as roll_back_text [] old new old.now.schema refl Rollback (roll_back_is old.now.schema) (roll_back_plain old.now.schema) count h).1
  roll_back_undone inside (Err e) h =
      elim (fails_as roll_back_text [] old.now.schema Rollback (roll_back_is old.now.schema) (roll_back_plain old.now.schema) (λ none. none) refl old new e refl (roll_back_whole old.now.schema) h) [
        | inl back ↦ undone_by old new back.3
        | inr misplaced ↦ absurd (both_ways _ (outside old Rollback e (inr refl) misplaced.0) inside)
      ]

  -- ROLLBACK commits nothing
  pub roll_back_keeps_crash : Survives old new (CommitsBy roll_back_text [] old) → KeepsCrash old new
  roll_back_keeps_crash = survives_weaker old new _ (λ _. ⊥) (λ clean db by.
      elim (commits_as roll_back_text [] old.now.schema Rollback (roll_back_is old.now.schema) (roll_back_plain old.now.schema) old db refl by) [
        | inl (inl ends, at) ↦ absurd (cc)
        | inl (inr ends, at) ↦ absurd (let is = ends.2 in cc)
        | inr writes ↦ absurd (let refused = writes.3 in cc)
      ])
