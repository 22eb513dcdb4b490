-- What a whole run comes to.
use Rattle.std.proofs.Common.{◌≡◌, ℕ, ◌+◌, List, [], ◌++◌, length, map, filter_map, refl, sym, ap, subst, ◌∙◌, arith}
use Rattle.std.specs.Prelude.{string_bytes}
use Rattle.std.specs.List.{flat_map}
use Rattle.std.proofs.lemmas.List.{length-map}
use Rattle.std.proofs.lemmas.List.Elements.{All-nil}
use Rattle.cs_value.specs.State.{State, WrittenData}
use Rattle.cs_rows.specs.Editing.{written_of}
use Rattle.cs_wire.specs.Changeset.{GroupData}
use Rattle.cs_apply_conflict_kinds.specs.declared.conflict.Noop.{Noop}
use Rattle.cs_apply_conflict_kinds.specs.Applying.{NoneWider, heeded, ignored, met_at, written_for, skipped}
use Rattle.cs_apply_engine.specs.declared.conflict.Met.{Met}
use Rattle.cs_apply_engine.specs.declared.report.Report.{Report}
use Rattle.cs_apply_engine.specs.declared.tally.Tally.{Tally}
use Rattle.cs_apply_engine.specs.declared.report.Summary.{Summary}
use Rattle.cs_apply_engine.specs.declared.tally.Writings.{Writings}
use Rattle.cs_apply_engine.specs.declared.tally.Writings.TheVariants.{Listed, Counted}
use Rattle.cs_apply_engine.specs.Tally.{Tallies, count_in}
use Rattle.cs_apply_engine.specs.declared.running.Direction.{Direction}
use Rattle.cs_apply_engine.specs.declared.halt.Halt.{Halt}
use Rattle.cs_apply_engine.specs.declared.halt.Halt.TheVariants.{Aborted, Misused}
use Rattle.cs_apply_engine.specs.Report.{met_of}
use Rattle.cs_apply_engine.specs.Run.{IsEmpty}
use Rattle.cs_apply_engine.specs.Running.{Handler, IsReadAs, GoesOn, Applies, AppliesCounted, AppliesTallied, IsReached, EndsAt, Refuses, Summarizes}
use Rattle.cs_apply_engine.specs.Steps.{Carries, Stops, last_of, refusal_of}

module _ (chooses : Handler) (noop : Noop) (file : List ℕ) (direction : Direction) (old : State) (r t : Tally) (changeset : List GroupData)
    (read : IsReadAs file direction changeset) (none_wider : NoneWider old changeset) (empty : IsEmpty r) (mid : State) (same : mid ≡ old) where
  pub applies_from : (new : State) → Carries chooses (heeded noop mid changeset) mid r new t → map string_bytes t.skipped.items ≡ map string_bytes r.skipped.items ++ skipped mid changeset
      → t.ignored ≡ r.ignored + ignored noop mid changeset → AppliesTallied chooses noop file direction old t new
  applies_from new ran reported counted =
      let carried = subst (λ (s : State). Carries chooses (heeded noop s changeset) s r new t) same ran in
      let writes = filter_map (written_for old carried.choose) (heeded noop old changeset) in
      record {
        writes = writes;
        reported = carried.written [] empty.written;
        applies = record {
          changeset = changeset;
          read = read;
          none_wider = none_wider;
          choose = carried.choose;
          applied = carried.applied;
          conflicts = carried.conflicts ∙ ap (λ (l : List Met). map met_of l ++ flat_map (met_at old carried.choose) (heeded noop old changeset)) empty.conflicts;
          chosen = carried.chosen (rw empty.conflicts (All-nil (GoesOn chooses)));
          skipped = rw (empty.skipped, same) at reported;
          written = refl;
          ignored = let reported : t.ignored ≡ r.ignored + ignored noop old changeset = rw same at counted in omega (arith, reported, empty.ignored);
        };
      }

  reached : (last : Met) → Stops chooses (heeded noop old changeset) old r t last → IsReached chooses noop old changeset last
  reached last ended = record {
    choose = ended.choose;
    earlier = t.conflicts.items;
    later = ended.later;
    chosen = ended.chosen (rw empty.conflicts (All-nil (GoesOn chooses)));
    listed = rw empty.conflicts at ended.listed;
  }

  ends_at : (last : Met) → Stops chooses (heeded noop old changeset) old r t last → EndsAt chooses noop file direction old last
  ends_at last ended = record { changeset = changeset; read = read; none_wider = none_wider; reached = reached last ended; ended = ended.ended }

  refuses_now : (e : Halt) → Stops chooses (heeded noop old changeset) old r t (last_of e) → Refuses chooses noop file direction old (refusal_of e)
  refuses_now (Aborted k) h = ends_at (last_of (Aborted k)) h
  refuses_now (Misused k) h = ends_at (last_of (Misused k)) h

  pub refuses_from : (e : Halt) → Stops chooses (heeded noop mid changeset) mid r t (last_of e) → Refuses chooses noop file direction old (refusal_of e)
  refuses_from e ended = refuses_now e (subst (λ (s : State). Stops chooses (heeded noop s changeset) s r t (last_of e)) same ended)

-- a report has what a tally of listed entries has
pub told_reports : (chooses : Handler) (noop : Noop) (file : List ℕ) (direction : Direction) (old : State) (tally : Tally) (new : State) (report : Report) → AppliesTallied chooses noop file direction old tally new
    → report.conflicts ≡ tally.conflicts → report.skipped ≡ tally.skipped → ((reported : List WrittenData) → Tallies tally.written reported → map written_of report.written.items ≡ reported) → report.ignored ≡ tally.ignored
    → Applies chooses noop file direction old report new
told_reports chooses noop file direction old tally new report tells conflicts skips written passed = rw (conflicts, skips, written tells.writes tells.reported, passed) tells.applies

-- and a summary, with the number of what was written
pub told_counts : (chooses : Handler) (noop : Noop) (file : List ℕ) (direction : Direction) (old : State) (tally : Tally) (new : State) (summary : Summary) → AppliesTallied chooses noop file direction old tally new
    → summary.conflicts ≡ tally.conflicts → summary.skipped ≡ tally.skipped → summary.written ≡ count_in tally.written → summary.ignored ≡ tally.ignored → AppliesCounted chooses noop file direction old summary new
told_counts chooses noop file direction old tally new summary tells conflicts skips written passed = record {
  writes = tells.writes;
  counted = written ∙ count tally.written tells.reported;
  applies = rw (conflicts, skips, passed) tells.applies;
}
  where
    count : (w : Writings) → Tallies w tells.writes → count_in w ≡ length tells.writes
    count (Listed list) reported = sym (length-map list.items written_of) ∙ ap length reported
    count (Counted n) reported = reported

pub report_counts : (chooses : Handler) (noop : Noop) (file : List ℕ) (direction : Direction) (old : State) (report : Report) (new : State) (summary : Summary) → Applies chooses noop file direction old report new → Summarizes summary report
    → AppliesCounted chooses noop file direction old summary new
report_counts chooses noop file direction old report new summary applies is = record {
  writes = map written_of report.written.items;
  counted = is.written ∙ sym (length-map report.written.items written_of);
  applies = rw (is.conflicts, is.skipped, is.ignored) applies;
}
