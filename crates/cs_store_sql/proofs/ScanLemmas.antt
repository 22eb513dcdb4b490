-- A scan, one row after another: what is known while it goes on, and where it ends.
use Rattle.std.proofs.Common.{◌≢◌, ℕ, ◌+◌, ◌-◌, ◌^◌, ◌<◌, ℤ, pos, negsuc, ◌<ℤ◌, w64, FitsSigned, IfSome, List, [], ◌∷◌, ◌++◌, Option, Some, None, Result, Ok, Err, IsSome, inl, inr, sym, subst, ◌∙◌, arith}
use Rattle.std.proofs.Math.Facts.{ltb_yes}
use Rattle.sqlite_value.specs.Order.{Row}
use Rattle.sqlite_trees.specs.declared.store.Store.{Ghosts}
use Rattle.sqlite_resolve.specs.declared.compiled.Compiled.{Compiled}
use Rattle.sqlite_resolve.specs.declared.error.CompileError.{CompileError}
use Rattle.sqlite.specs.declared.error.Error.{Error}
use Rattle.sqlite.specs.Effect.{Database}
use Rattle.sqlite.specs.Listing.{understood}
use Rattle.sqlite.specs.State.{State, HasCleanDisk, IsUnchanged, Survives, CommitsShowing, FailsToQuery}
use Rattle.sqlite.specs.Held.{Held, state}
use Rattle.sqlite.specs.Given.{Returns, HasGiven, HasBegun, Advances, FailsToAdvance}
use Rattle.sqlite.proofs.Callers.{unchanged_then, given_begin}
use Rattle.cs_store_sql.specs.Records.{RecordData, record_of, record_rows, records_tree, DeclaresRecords, HasNumberAbove, Pass, Rests, KeepsCrash, ShowsOnly}
use Rattle.cs_store_sql.specs.Failing.{CannotRead}
use Rattle.cs_store_sql.specs.Statements.{scan_text, up, no_limit}
use Rattle.cs_store_sql.proofs.ReadFailures.{query_fails, scan_accepted, read_from}
use Rattle.sqlite_sql.specs.Term.{col}
use Rattle.sqlite.specs.declared.error.Error.TheVariants.{SqliteFailure}
use Rattle.sqlite.specs.declared.error.ErrorCode.TheVariants.{OutOfMemory}
use Rattle.cs_store_sql.proofs.ContentLemmas.{crash_then}
use Rattle.cs_store_sql.proofs.QueryLemmas.{keeps_crash, fails_rests}
use Rattle.cs_store_sql.proofs.QueryTexts.{scan_is_query}
use Rattle.cs_store_sql.proofs.ScannedRows.{PassUpTo, pass_none, pass_on, scan_passed, scan_unnumbered, scan_failed}

-- what asks for nothing but rows returns none of a write
never_returns : (r : Result Compiled CompileError) → ShowsOnly r → Returns r → ⊥
never_returns (Ok c) none some = let it = subst IsSome none some in cc
never_returns (Err e) none some = some

-- what rests after nothing was changed rests
rests_then : (a b c : State) → IsUnchanged a b → Rests b c → Rests a c
rests_then a b c same (inl kept) = inl (unchanged_then a b c same kept)
rests_then a b c same (inr back) = inr (record {
  was_open = λ k. same.0.was_open;
  undone = λ k. let u = back.undone k in (u.0 ∙ same.0.committed_is, u.1 ∙ same.0.committed_is);
  autocommit = back.autocommit;
  unmarked = back.unmarked;
  counts = record { changes = back.counts.changes ∙ same.1.changes; last_rowid = back.counts.last_rowid ∙ same.1.last_rowid };
})

-- where the table is declared, a scan fails only as a read does
pub scan_fails : (old new : State) (e : Error) → DeclaresRecords old.now.schema → e ≢ SqliteFailure OutOfMemory → FailsToQuery scan_text [] old new e → CannotRead old new e
scan_fails old new e has other fails =
    query_fails scan_text (records_tree old.now.schema) [] (col 1 0 ∷ col 1 1 ∷ col 1 2 ∷ col 1 3 ∷ []) ((col 1 0, up) ∷ []) no_limit [] old new e scan_is_query
    (λ live. (has.statements.scans, scan_accepted old.now.schema has)) other fails

-- ---- the numbers of rows rise, so that there are only so many

-- how many numbers of 64 bits are above the last
abbrev pub room : Option ℤ → ℕ
room None = 2 ^ 64 + 1
room (Some (pos n)) = 2 ^ 63 - n
room (Some (negsuc n)) = 2 ^ 63 + n + 1

-- a number above it leaves less room
pub room_falls : (last : Option ℤ) (number : ℤ) → IfSome last (λ before. before <ℤ number) → FitsSigned w64 number → room (Some number) < room last
room_falls None (pos n) above fits = omega arith
room_falls None (negsuc n) above fits = omega (arith, fits.sfits)
room_falls (Some (pos a)) (pos b) above fits = let less : a < b = ltb_yes above.lt in omega (arith, less, fits.sfits)
room_falls (Some (pos a)) (negsuc b) above fits = absurd above.lt
room_falls (Some (negsuc a)) (pos b) above fits = omega arith
room_falls (Some (negsuc a)) (negsuc b) above fits = let less : b < a = ltb_yes above.lt in omega (arith, less)

module _ {S : Type 0} (g : Ghosts S) (Passes : RecordData → Type 0) (old : State) where
  -- the connection shows what it showed, and the rows that were shown so far passed
  pub record HasScanned (h : Held S) (last : Option ℤ) : Type 0 where
    pub given : List Row
    pub gives : HasGiven g scan_text [] h given
    pub same : IsUnchanged old (state g h)
    pub pass : PassUpTo Passes given last

  abbrev pub Scans : Held S → Option ℤ → Type 0
  Scans h last = KeepsCrash old (state g h) × (HasCleanDisk (state g h) → HasScanned h last)

  module _ (mid new : Held S) (last : Option ℤ) (so : Scans mid last) (survives : KeepsCrash (state g mid) (state g new)) where
    -- after one more step a crash leaves nothing more
    pub step_crash : KeepsCrash old (state g new)
    step_crash = crash_then old (state g mid) (state g new) so.0 survives

    module _ (clean : HasCleanDisk (state g new)) where
      before : HasScanned mid last
      before = so.1 (omega (arith, survives.clean, clean))

      -- a step that fails leaves the connection, or takes it back
      pub step_rests : (e : Error) → FailsToAdvance g mid new e → Rests old (state g new)
      step_rests e fails = rests_then old (state g mid) (state g new) before.same (fails_rests scan_text [] (state g mid) (state g new) e (fails scan_text [] before.given before.gives))

      -- a step fails for a reason that a read has
      pub step_fails : DeclaresRecords old.now.schema → (e : Error) → e ≢ SqliteFailure OutOfMemory → FailsToAdvance g mid new e → CannotRead old (state g new) e
      step_fails has e other fails =
          let s = before in
          let here = subst (λ (db : Database). DeclaresRecords db.schema) (sym s.same.0.now_is) has in
          read_from old (state g mid) (state g new) e so.0 s.same.0.is_open (scan_fails (state g mid) (state g new) e here other (fails scan_text [] s.given s.gives))

      -- after the last row, all passed
      pub step_passed : DeclaresRecords old.now.schema → Advances g mid new None → Pass Passes (record_rows old.now)
      step_passed has ends =
          let s = before in
          let same = s.same.0.now_is in
          subst (λ (db : Database). Pass Passes (record_rows db)) same
          (scan_passed Passes (state g mid) (state g new) s.given last (subst (λ (db : Database). DeclaresRecords db.schema) (sym same) has) s.pass (ends scan_text [] s.given s.gives))

      module _ (unchanged : IsUnchanged (state g mid) (state g new)) where
        -- one that shows a row, or the end, changes nothing
        pub step_same : IsUnchanged old (state g new)
        step_same = unchanged_then old (state g mid) (state g new) before.same unchanged

        module _ (row : Row) (shows : Advances g mid new (Some row)) where
          given_on : HasGiven g scan_text [] new (before.given ++ row ∷ [])
          given_on = shows scan_text [] before.given before.gives

          -- the row passes
          pub step_on : (number : ℤ) → HasNumberAbove last row number → Passes (record_of row) → HasScanned new (Some number)
          step_on number above passes = record { given = before.given ++ row ∷ []; gives = given_on; same = step_same; pass = pass_on Passes before.given last number row before.pass above passes }

          module _ (has : DeclaresRecords old.now.schema) where
            declares : DeclaresRecords (state g new).now.schema
            declares = subst (λ (db : Database). DeclaresRecords db.schema) (sym step_same.0.now_is) has

            there : Pass Passes (record_rows old.now) → Pass Passes (record_rows (state g new).now)
            there = subst (λ (db : Database). Pass Passes (record_rows db)) (sym step_same.0.now_is)

            -- it has no number above the last
            pub step_unnumbered : ((number : ℤ) → HasNumberAbove last row number → ⊥) → Pass Passes (record_rows old.now) → ⊥
            step_unnumbered none pass =
                scan_unnumbered Passes (state g new) (state g new) before.given last declares before.pass row (given_begin g scan_text [] new _ given_on) unchanged.0.is_open none (there pass)

            -- its record does not pass
            pub step_failed : (Passes (record_of row) → ⊥) → Pass Passes (record_rows old.now) → ⊥
            step_failed fails pass =
                scan_failed Passes (state g new) (state g new) before.given last declares before.pass row (given_begin g scan_text [] new _ given_on) unchanged.0.is_open fails (there pass)

-- the query begins
pub scan_begins : {S : Type 0} (g : Ghosts S) (Passes : RecordData → Type 0) (first new : Held S) → (HasCleanDisk (state g new) → HasBegun g scan_text [] first new)
    → Survives (state g first) (state g new) (CommitsShowing scan_text [] (state g first)) → Scans g Passes (state g first) new None
scan_begins {S} g Passes first new begun survives = (
  keeps_crash scan_text [] (state g first) (state g new) scan_is_query survives,
  λ clean. at (begun clean),
)
  where
    at : HasBegun g scan_text [] first new → HasScanned g Passes (state g first) new None
    at (inl h) = record { given = []; gives = h.0; same = h.1; pass = pass_none Passes }
    at (inr h) = absurd (never_returns (understood first.schema scan_text) (scan_is_query first.schema) h.0)
