-- `conflict::row_after`: the clauses `fits`, `obeys` and `disobeys`.
use Rattle.std.proofs.Common.{◌≡◌, Some, option_map, rules}
use Rattle.cs_apply_conflict_kinds.specs.Conflicts.{row_after}
use Rattle.cs_apply_conflict_kinds.proofs.ConflictLemmas.{left_fits, keyed_now}
use Rattle.cs_apply_conflict_kinds.proofs.RuleLemmas.{keyed_kept, keyed_wide, left_obeys, left_disobeys}
use Rattle.cs_apply_conflict_kinds.proofs.conflict.row_after.Goals as goal

pub returns-in_ok-fill-in-Some-fields_after-clause-fits : goal.returns-in_ok-fill-in-Some-fields_after-clause-fits
returns-in_ok-fill-in-Some-fields_after-clause-fits c = λ keyed found.
    let seen = c.args.entry.now in
    let same : Some c.in_ok-fill-in-Some-fields_after.field-0 ≡ row_after seen.flags seen.entry.change (option_map (λ r. r.now) c.args.row) = search rules in
    let left = left_fits seen.flags seen.entry.change _ c.column_count.ensures.well_formed (keyed_now seen.flags c.args.row keyed) found in
    rw (← same) at left

pub returns-in_ok-fill-in-Some-fields_after-clause-obeys : goal.returns-in_ok-fill-in-Some-fields_after-clause-obeys
returns-in_ok-fill-in-Some-fields_after-clause-obeys c = λ refuses stood found kept.
    let seen = c.args.entry.now in
    let same : Some c.in_ok-fill-in-Some-fields_after.field-0 ≡ row_after seen.flags seen.entry.change (option_map (λ r. r.now) c.args.row) = search rules in
    let left = left_obeys refuses seen.flags seen.entry.change _ c.column_count.ensures.well_formed found kept (keyed_kept refuses seen.flags c.args.row stood) in
    rw (← same) at left

pub returns-in_ok-fill-in-Some-fields_after-clause-disobeys : goal.returns-in_ok-fill-in-Some-fields_after-clause-disobeys
returns-in_ok-fill-in-Some-fields_after-clause-disobeys c = λ refuses stood found broken.
    let seen = c.args.entry.now in
    let same : Some c.in_ok-fill-in-Some-fields_after.field-0 ≡ row_after seen.flags seen.entry.change (option_map (λ r. r.now) c.args.row) = search rules in
    let left = left_disobeys refuses seen.flags seen.entry.change _ c.column_count.ensures.well_formed found broken (keyed_wide seen.flags c.args.row stood) in
    rw (← same) at left
