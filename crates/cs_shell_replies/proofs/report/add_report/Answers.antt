-- `report::add_report`: what it ensures.
use Rattle.std.proofs.Common.{◌≡◌, ◌++◌, refl}
use Rattle.std.specs.Prelude.{string_bytes}
use Rattle.std.specs.List.{flat_map}
use Rattle.std.proofs.lemmas.List.Folds.{flat_map-map}
use Rattle.cs_apply_engine.specs.declared.report.Summary.{Summary}
use Rattle.cs_apply_engine.specs.Report.{met_of}
use Rattle.cs_file_texts.proofs.GatherLemmas.{Gathered-nil, Gathers-is, Gathers-stopped, Gathers-then}
use Rattle.cs_shell_replies.specs.Report.{skip_text, met_text, ignored_text, count_text, report_of}
use Rattle.cs_shell_replies.proofs.report.add_report.Goals as goal

-- the text, of what the code has
told : (report : Summary) → report_of report ≡ flat_map (λ table. skip_text (string_bytes table)) report.skipped.items
    ++ (flat_map (λ met. met_text (met_of met)) report.conflicts.items ++ (ignored_text report.ignored ++ count_text report.written))
told report = rw (flat_map-map skip_text string_bytes report.skipped.items, flat_map-map met_text met_of report.conflicts.items) refl

pub returns-in_err-add_skips : goal.returns-in_err-add_skips
returns-in_err-add_skips g c =
    let skips = rw c.deref.ensures.value at c.in_err-add_skips.ensures in
    Gathers-is _ (told c.args.report.now) (Gathers-stopped _ _ _ _ c.from_residual.ensures.0 refl (Gathered-nil _ _) skips)

pub returns-in_err-add_conflicts : goal.returns-in_err-add_conflicts
returns-in_err-add_conflicts g c =
    let skips = rw c.deref.ensures.value at c.in_ok-add_skips.ensures.gathered in
    let conflicts = rw c.deref-2.ensures.value at c.in_err-add_conflicts.ensures in
    Gathers-is _ (told c.args.report.now) (Gathers-stopped _ _ _ _ c.from_residual-in_err-add_conflicts.ensures.0 refl skips conflicts)

pub returns-in_err-add_ignored : goal.returns-in_err-add_ignored
returns-in_err-add_ignored g c =
    let skips = rw c.deref.ensures.value at c.in_ok-add_skips.ensures.gathered in
    let conflicts = rw c.deref-2.ensures.value at c.in_ok-add_conflicts.ensures.gathered in
    Gathers-is _ (told c.args.report.now) (Gathers-then _ refl skips (Gathers-stopped _ _ _ _ c.from_residual-in_err-add_ignored.ensures.0 refl conflicts c.in_err-add_ignored.ensures))

pub returns : goal.returns
returns g c =
    let skips = rw c.deref.ensures.value at c.in_ok-add_skips.ensures.gathered in
    let conflicts = rw c.deref-2.ensures.value at c.in_ok-add_conflicts.ensures.gathered in
    Gathers-is _ (told c.args.report.now) (Gathers-then _ refl skips (Gathers-then _ refl conflicts (Gathers-then _ refl c.in_ok-add_ignored.ensures.gathered c.add_count.ensures)))
