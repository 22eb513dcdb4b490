-- Why a statement that writes a record fails, and what it makes.
use Rattle.std.proofs.Common.{◌≡◌, ◌≢◌, inl, inr, ℕ, Bool, true, false, true≢false, List, length, None, Ok, Err, IsTrue, refl, sym, ap, subst, ◌∙◌}
use Rattle.std.proofs.lemmas.Bool.{cases_Bool}
use Rattle.sqlite_trees.specs.declared.error.StoreError.TheVariants as store
use Rattle.sqlite_schema.specs.declared.schema.Schema.{Schema}
use Rattle.sqlite_schema.specs.declared.command.Command.{Command}
use Rattle.sqlite_schema.specs.declared.command.Command.TheVariants.{Begin, Commit, Rollback, Release, RollbackTo}
use Rattle.sqlite_resolve.specs.declared.compiled.Compiled.{Compiled}
use Rattle.sqlite.specs.declared.error.Error.{Error}
use Rattle.sqlite.specs.declared.error.Error.TheVariants.{SqliteFailure}
use Rattle.sqlite.specs.declared.error.ErrorCode.TheVariants.{OutOfMemory}
use Rattle.sqlite.specs.Clock.{timed}
use Rattle.sqlite.specs.Does.{Tally, Does}
use Rattle.sqlite.specs.Listing.{understood}
use Rattle.sqlite.specs.State.{State, Executes, ExecutesIn, IsNotRun, IsMisplaced, Runs, RunsCommand, mode_of, shows_rows, text_of}
use Rattle.cs_store_sql.specs.Failing.{Statement, puts, replaces, removes, takes, text_in, params_in, FailsAt, StatementEnds, CannotWrite}
use Rattle.cs_store_sql.specs.Records.{DeclaresRecords}
use Rattle.cs_store_sql.proofs.QueryTexts.{understood_is}
use Rattle.cs_store_sql.proofs.StatementLemmas.{IsWhole, is_statement, by_disk, quiet_is}
use Rattle.cs_store_sql.proofs.WriteLemmas.{command_in, is_command, is_quiet, writes_so}

-- only a command that begins or ends a part of a transaction can be misplaced, and it is none
abbrev is_mark : Command → Bool
is_mark Begin = true
is_mark Commit = true
is_mark Rollback = true
is_mark (Release name) = true
is_mark (RollbackTo name) = true
is_mark _ = false

misplaced_mark : (at : State) (command : Command) (e : Error) → IsMisplaced at command e → is_mark command ≡ true
misplaced_mark at command e (inl (is, inl (same, inside))) = ap is_mark same
misplaced_mark at command e (inl (is, inr (inl same, outside))) = ap is_mark same
misplaced_mark at command e (inl (is, inr (inr same, outside))) = ap is_mark same
misplaced_mark at command e (inr (is, name, inl same, unnamed)) = ap is_mark same
misplaced_mark at command e (inr (is, name, inr same, unnamed)) = ap is_mark same

no_mark : (schema : Schema) (declares : DeclaresRecords schema) (s : Statement) → is_mark (command_in schema declares s) ≡ false
no_mark schema declares (puts true tab key value) = refl
no_mark schema declares (puts false tab key value) = refl
no_mark schema declares (replaces number tab key value) = refl
no_mark schema declares (removes tab key) = refl
no_mark schema declares (takes number tab key) = refl

module _ (s : Statement) (old new : State) where
  abbrev sql : List ℕ
  sql = text_in s

  -- under the schema that declares the table, the statement is its command
  same_command : (declares : DeclaresRecords old.now.schema) (c : Compiled) → understood old.now.schema sql ≡ Ok c → (c.command ≡ command_in old.now.schema declares s) × (c.returning ≡ None)
  same_command declares c is =
      let its = is_command old.now.schema declares s in
      let same : c ≡ its.0 = (let both = sym is ∙ understood_is old.now.schema sql its.0 its.1.is in cc) in
      (ap (λ (x : Compiled). x.command) same ∙ its.2, ap (λ (x : Compiled). x.returning) same ∙ its.1.returns_nothing)

  -- so it shows no rows
  shows_none : (declares : DeclaresRecords old.now.schema) (c : Compiled) → understood old.now.schema sql ≡ Ok c → shows_rows false c ≡ false
  shows_none declares c is =
      let same = same_command declares c is in
      rw (same.0, same.1) (quiet_is _ _ (is_quiet old.now.schema declares s))

  is_whole : DeclaresRecords old.now.schema → IsWhole sql (length (params_in s)) (understood old.now.schema sql)
  is_whole declares =
      let its = is_command old.now.schema declares s in
      subst (IsWhole sql (length (params_in s))) (sym (understood_is old.now.schema sql its.0 its.1.is)) (its.1.whole, its.1.given, its.1.reads_no_time)

  command_fails : (e : Error) (c : Compiled) (now : ℕ) → understood old.now.schema sql ≡ Ok c → (IsTrue old.is_open → DeclaresRecords old.now.schema) → e ≢ SqliteFailure OutOfMemory
      → RunsCommand old new sql c (timed (params_in s) c.formats now) (Err e) → CannotWrite old new s e
  command_fails e c now is declared other (inl (inl misplaced, unchanged)) =
      let declares = declared unchanged.0.was_open in
      absurd (true≢false (sym (misplaced_mark old c.command e misplaced) ∙ ap is_mark (same_command declares c is).0 ∙ no_mark old.now.schema declares s))
  command_fails e c now is declared other (inl (inr (may, does), unchanged)) = inr (inl (c, is, now, does))
  command_fails e c now is declared other (inr (store.OutOfMemory, told, why, back, tells)) = absurd (other told)
  command_fails e c now is declared other (inr (store.Io, told, why, back, tells)) = inl (store.Io, told, why)
  command_fails e c now is declared other (inr (store.Corrupt, told, why, back, tells)) = inl (store.Corrupt, told, why)
  command_fails e c now is declared other (inr (store.Full, told, why, back, tells)) = inl (store.Full, told, why)
  command_fails e c now is declared other (inr (store.Broken, told, why, back, tells)) = inl (store.Broken, told, inr why)
  command_fails e c now is declared other (inr (store.Unstorable, told, why, back, tells)) = inr (inr (told, (c, is, now, why)))

  -- unless the disk failed or memory ran out, the database refused it
  pub write_fails : (e : Error) → (IsTrue old.is_open → DeclaresRecords old.now.schema) → e ≢ SqliteFailure OutOfMemory → FailsAt old new s e → CannotWrite old new s e
  unfolding ExecutesIn IsNotRun
  write_fails e declared other (inl (inl it)) = absurd (is_statement old sql (params_in s) e (is_whole (declared it.1.0.was_open)) it.0)
  write_fails e declared other (inl (inr fails)) = inl (by_disk old new e ⊥ (λ none. none) other fails)
  write_fails e declared other (inr ran) = elim (cases_Bool (shows_rows false ran.0)) [
    | inl shows ↦
        let unchanged = (rw shows at ran.2).1 in
        absurd (true≢false (sym shows ∙ shows_none (declared unchanged.0.was_open) ran.0 ran.1.is))
    | inr runs ↦ command_fails e ran.0 ran.1.now ran.1.is declared other (rw runs at ran.2)
  ]

  -- it makes what its run ends with
  pub write_ends : (count : ℕ) → DeclaresRecords old.now.schema → Executes sql (params_in s) old new (Ok count) → (tally : Tally) × StatementEnds old.step_limit old.now s (Ok (tally, new.now))
  unfolding ExecutesIn
  write_ends count declares h =
      let c = h.0 in
      let it = h.1 in
      let params = timed (params_in s) c.formats it.now in
      let same = (same_command declares c it.is).0 in
      let ran : Runs old new c.returning c.command (text_of sql c) params count = rw (shows_none declares c it.is) at h.2 in
      let w = writes_so old.now.schema declares s old new c.returning (text_of sql c) params count (subst (λ k. Runs old new c.returning k (text_of sql c) params count) same ran) in
      (w.tally, (c, it.is, it.now, subst (λ k. Does old.step_limit (mode_of old) params old.now (text_of sql c) c.returning k (Ok (w.tally, new.now))) (sym same) w.changed))
