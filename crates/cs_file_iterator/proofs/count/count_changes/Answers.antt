-- `count::count_changes`: each step leaves one change less, and reads one more. A fault comes before the end.
use Rattle.std.proofs.Common.{◌≡◌, ℕ, ◌<◌, ◌≤◌, [], Option, None, Result, Ok, Err, length, refl, ap, subst, arith, inl, inr}
use Rattle.std.specs.Prelude.{◌↔◌}
use Rattle.std.proofs.lemmas.Bool.{cases_lt}
use Rattle.std.proofs.lemmas.List.Elements.{All-nil}
use Rattle.std.proofs.lemmas.Result.{err_from_is_err_and}
use Rattle.cs_wire_entries.specs.declared.fault.ReadFault.{ReadFault}
use Rattle.cs_file_iterator.specs.Changes.{TableChange, changes_of}
use Rattle.cs_file_iterator.specs.Readable.{ReadsAs, IsReadable}
use Rattle.cs_file_iterator.proofs.ReadableLemmas.{counted_more}
use Rattle.cs_file_iterator.proofs.WholeLemmas.{goes_on}
use Rattle.cs_file_iterator.proofs.count.count_changes.Goals as goal

-- a fault comes only before the end
before_end : {X : Type 0} (place end : ℕ) (fault : ReadFault) → place ≤ end → (◌≡◌ {A = Result (Option X) ReadFault} (Err fault) (Ok None) ↔ (place ≡ end)) → place < end
before_end {X = X} place end fault within ended =
    elim (cases_lt place end) [
      | inl before ↦ before
      | inr over ↦ absurd (no_end (ended.1 (omega arith)))
    ]
  where
    no_end : ◌≡◌ {A = Result (Option X) ReadFault} (Err fault) (Ok None) → ⊥
    no_end e = cc

pub changes-init : goal.changes-init
changes-init c = record {
  fewer = omega arith;
  within = omega arith;
  so_far = λ all is_file. (changes_of all, inl (record { place_is = refl; all_left = refl }), omega arith);
  read = ([], record { begins = record { each = All-nil IsReadable; stand = record { spelled = refl; within = omega arith } }; last = inl refl }, refl);
}

pub returns-in_err-change-clause-counted : goal.returns-in_err-change-clause-counted
returns-in_err-change-clause-counted c = λ all is_file.
    let so = c.changes.invariant.so_far all is_file in
    absurd (c.in_err-change.ensures.no_fault all so.0 is_file so.1)

pub returns-in_err-change-clause-checked : goal.returns-in_err-change-clause-checked
returns-in_err-change-clause-checked c = λ fault unreadable.
    let p = err_from_is_err_and c.from_residual.result c.from_residual.ensures.1 in
    let so = c.changes.invariant.read in
    rw (p.1, p.2) (ap Err (c.in_err-change.ensures.checked so.0 fault so.1 unreadable))

pub returns-in_err-change-clause-stopped : goal.returns-in_err-change-clause-stopped
returns-in_err-change-clause-stopped c =
    let p = err_from_is_err_and c.from_residual.result c.from_residual.ensures.1 in
    let so = c.changes.invariant.read in
    let more = before_end c.changes.place (length c.args.file.now) c.in_err-change.field-0.0 c.changes.invariant.within c.in_err-change.ensures.ended in
    rw p.1 (λ count counted. goes_on c.args.file.now so.0 counted.groups c.changes.place so.1.begins counted.begins more (c.in_err-change.ensures.stops so.0 so.1))

pub changes-preserved : goal.changes-preserved
changes-preserved c =
    let forward = rw c.in-Some.is at c.in_ok-change.ensures.forward in record {
      fewer = omega (arith, c.changes.invariant.fewer, forward.0);
      within = forward.1;
      so_far = λ all is_file.
          let so = c.changes.invariant.so_far all is_file in
          let step = rw c.in-Some.is at (c.in_ok-change.ensures.next all so.0 is_file so.1) in
          (step.others, step.are_left, omega (arith, so.2, ap (length {A = TableChange}) step.left_is));
      read =
          let so = c.changes.invariant.read in
          let step = rw c.in-Some.is at (c.in_ok-change.ensures.reads so.0 so.1) in
          (step.after, step.were_read, omega (arith, so.2, counted_more so.0 step.change step.after step.adds));
    }

pub returns-clause-counted : goal.returns-clause-counted
returns-clause-counted c = λ all is_file.
    let so = c.changes.invariant.so_far all is_file in
    let none = c.in_ok-change.ensures.done all so.0 is_file so.1 (ap Ok c.in_default.is) in
    omega (arith, so.2, ap (length {A = TableChange}) none)

pub returns-clause-read : goal.returns-clause-read
returns-clause-read c =
    let so = c.changes.invariant.read in
    let end = c.in_ok-change.ensures.ended.0 (ap Ok c.in_default.is) in
    record { groups = so.0; begins = subst (ReadsAs c.args.file.now so.0) end so.1.begins; counted = so.2 }

pub returns-clause-checked : goal.returns-clause-checked
returns-clause-checked c = λ fault unreadable.
    let so = c.changes.invariant.read in
    absurd (c.in_ok-change.ensures.unfinished so.0 fault so.1 unreadable (ap Ok c.in_default.is))
