-- `rehearsing::apply_chosen`: the file is applied with the choices, or what was found is not read or differs.
use Rattle.std.proofs.Common.{◌≡◌, inl, map, length, Ok, rules, sym, ◌∙◌}
use Rattle.std.proofs.lemmas.Bool.{iff_false}
use Rattle.std.proofs.lemmas.Result.{err_from_is_err_and}
use Rattle.sqlite.specs.Held.{state}
use Rattle.cs_apply_engine.specs.Report.{conflict_of}
use Rattle.cs_apply_engine.specs.Steps.{IsStoreRefusal}
use Rattle.cs_calls_answers.specs.Refusals.{out_of_memory}
use Rattle.cs_calls_executor.specs.Answered.{Reads}
use Rattle.cs_calls_executor.specs.Applying.{found_by}
use Rattle.cs_calls_executor.specs.declared.applying.ApplyCall.TheVariants.{Chosen}
use Rattle.cs_calls_executor.proofs.ReadLemmas.{no_memory}
use Rattle.cs_calls_executor.proofs.RehearsalLemmas.{choice_moved, chosen_works, differs_works, found_quiet, quiet_open, quiet_stopped, refused_works, rehearsed_quiet, same_count, unread_works}
use Rattle.cs_calls_executor.proofs.WorkLemmas.{open_within}
use Rattle.cs_calls_executor.proofs.rehearsing.apply_chosen.Goals as goal

pub returns-in-Err : goal.returns-in-Err
returns-in-Err g c =
    rw (← c.as_slice.ensures.same) (refused_works (Chosen c.as_slice.result.now c.args.noop c.args.choices.now) (state g.S.Store c.args.transaction.now) (state g.S.Store c.rehearse.new.transaction) (state g.S.Store c.finish.new.transaction) c.in-Err.fault c.finish.result _ c.in-Err.ensures.within
    (λ clean. inl (c.in-Err.ensures.refused clean)) (c.finish.ensures tt))

pub returns-in_err-conflicts : goal.returns-in_err-conflicts
returns-in_err-conflicts g c =
    let old = state g.S.Store c.args.transaction.now in
    let mid = state g.S.Store c.rehearse.new.transaction in
    let new = state g.S.Store c.found_conflicts.new.transaction in
    let quiet = rehearsed_quiet old mid c.in-Ok.ensures.within.kept c.in-Ok.ensures.shown in
    let p = err_from_is_err_and c.from_residual.result c.from_residual.ensures.1 in
    rw (p.1, p.2) (unread_works (Chosen c.args.file.now c.args.noop c.args.choices.now) old mid new (λ tables. map (found_by tables) c.in-Ok.found.items) c.in_err-conflicts.field-0.0 quiet
    (rw c.deref.ensures.value at (c.in_err-conflicts.ensures.read (quiet_open old mid quiet))))

pub returns-then-not-are_repeated : goal.returns-then-not-are_repeated
returns-then-not-are_repeated g c =
    let old = state g.S.Store c.args.transaction.now in
    let mid = state g.S.Store c.rehearse.new.transaction in
    let new = state g.S.Store c.found_conflicts.new.transaction in
    let quiet = rehearsed_quiet old mid c.in-Ok.ensures.within.kept c.in-Ok.ensures.shown in
    let two : Reads (λ tables. Ok (map (found_by tables) c.in-Ok.found.items)) mid new (Ok c.in_ok-conflicts.conflicts) = rw c.deref.ensures.value at (c.in_ok-conflicts.ensures.read (quiet_open old mid quiet)) in
    rw (← c.as_slice.ensures.same, c.plain.ensures) (differs_works c.as_slice.result.now c.args.noop old mid new c.in-Ok.found.items quiet c.in-Ok.ensures.rehearsed c.in_ok-conflicts.conflicts two c.args.choices.now
    (λ same. iff_false c.are_repeated.ensures c.if-not-are_repeated.true (rw (c.as_slice-2.ensures, c.as_slice-3.ensures) same)))

pub returns-in_err-list : goal.returns-in_err-list
returns-in_err-list g c =
    let old = state g.S.Store c.args.transaction.now in
    let mid = state g.S.Store c.rehearse.new.transaction in
    let new = state g.S.Store c.found_conflicts.new.transaction in
    let quiet = rehearsed_quiet old mid c.in-Ok.ensures.within.kept c.in-Ok.ensures.shown in
    let two : Reads (λ tables. Ok (map (found_by tables) c.in-Ok.found.items)) mid new (Ok c.in_ok-conflicts.conflicts) = rw c.deref.ensures.value at (c.in_ok-conflicts.ensures.read (quiet_open old mid quiet)) in
    let p = err_from_is_err_and c.from_residual-in_err-list.result c.from_residual-in_err-list.ensures.1 in
    rw (p.1, p.2) (quiet_stopped (Chosen c.args.file.now c.args.noop c.args.choices.now) old new out_of_memory (found_quiet c.as_slice.result.now c.args.noop old mid new c.in-Ok.found.items quiet c.in-Ok.ensures.rehearsed c.in_ok-conflicts.conflicts two) no_memory)

pub new-requires : goal.new-requires
new-requires g c =
    let repeated : c.in_ok-conflicts.conflicts ≡ map (λ c. c.conflict) c.args.choices.now = rw (c.as_slice-2.ensures, c.as_slice-3.ensures) at (c.are_repeated.ensures.0 c.if-not-are_repeated.false) in
    let counted : length c.in_ok-conflicts.conflicts ≡ length c.in-Ok.found.items = rw c.deref.ensures.value at c.in_ok-conflicts.ensures.counted in
    let list : c.in_ok-list.list.items ≡ map (λ c. c.choice) c.args.choices.now = rw c.as_slice-4.ensures at c.in_ok-list.ensures in
    rw c.deref-2.ensures.value (same_count c.args.choices.now c.in_ok-list.list.items c.in_ok-conflicts.conflicts (length c.in-Ok.found.items) list repeated counted)

pub returns-in_err-chosen : goal.returns-in_err-chosen
returns-in_err-chosen g c =
    let old = state g.S.Store c.args.transaction.now in
    let mid = state g.S.Store c.rehearse.new.transaction in
    let new = state g.S.Store c.found_conflicts.new.transaction in
    let quiet = rehearsed_quiet old mid c.in-Ok.ensures.within.kept c.in-Ok.ensures.shown in
    let two : Reads (λ tables. Ok (map (found_by tables) c.in-Ok.found.items)) mid new (Ok c.in_ok-conflicts.conflicts) = rw c.deref.ensures.value at (c.in_ok-conflicts.ensures.read (quiet_open old mid quiet)) in
    let p = err_from_is_err_and c.from_residual-in_err-chosen.result c.from_residual-in_err-chosen.ensures.1 in
    rw (p.1, p.2) (quiet_stopped (Chosen c.args.file.now c.args.noop c.args.choices.now) old new out_of_memory (found_quiet c.as_slice.result.now c.args.noop old mid new c.in-Ok.found.items quiet c.in-Ok.ensures.rehearsed c.in_ok-conflicts.conflicts two) no_memory)

pub returns : goal.returns
returns g c =
    let old = state g.S.Store c.args.transaction.now in
    let mid = state g.S.Store c.rehearse.new.transaction in
    let new = state g.S.Store c.found_conflicts.new.transaction in
    let quiet = rehearsed_quiet old mid c.in-Ok.ensures.within.kept c.in-Ok.ensures.shown in
    let two : Reads (λ tables. Ok (map (found_by tables) c.in-Ok.found.items)) mid new (Ok c.in_ok-conflicts.conflicts) = rw c.deref.ensures.value at (c.in_ok-conflicts.ensures.read (quiet_open old mid quiet)) in
    let run = c.apply_in_transaction-outcome in
    let done = state g.S.Store run.new.transaction in
    let repeated : c.in_ok-conflicts.conflicts ≡ map (λ c. c.conflict) c.args.choices.now = rw (c.as_slice-2.ensures, c.as_slice-3.ensures) at (c.are_repeated.ensures.0 c.if-not-are_repeated.false) in
    let list : c.deref-2.result.now ≡ map (λ c. c.choice) c.args.choices.now = c.deref-2.ensures.value ∙ (rw c.as_slice-4.ensures at c.in_ok-list.ensures) in
    let one : c.as_slice-5.result.now ≡ c.as_slice.result.now = c.as_slice-5.ensures.same ∙ sym c.as_slice.ensures.same in
    rw (← c.as_slice.ensures.same) (chosen_works c.as_slice.result.now c.args.noop old mid new c.in-Ok.found.items quiet c.in-Ok.ensures.rehearsed c.in_ok-conflicts.conflicts two c.args.choices.now repeated done _ c.as_slice-5.result.now one run.result _ run.ensures.within
    run.ensures.applied run.ensures.refused (state g.S.Store c.finish-2.new.transaction) c.finish-2.result
    (c.finish-2.ensures (open_within _ IsStoreRefusal new done run.result run.ensures.within)) (λ k chosen given. rw list at (c.in_ok-chosen.ensures (conflict_of k) chosen (first_of (search rules, search (choice_moved, given), search (given, choice_moved, rules))))))
