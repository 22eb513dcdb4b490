-- `change::open_table`: the next table, which has a change.
use Rattle.std.proofs.Common.{ℕ, ◌++◌, ◌∙◌, ap, refl, subst, arith}
use Rattle.std.proofs.lemmas.Bool.{iff_false}
use Rattle.std.proofs.lemmas.Result.{err_from_is_err_and}
use Rattle.cs_wire_entries.specs.Entry.{entry_bytes}
use Rattle.cs_wire_entries.specs.declared.fault.ReadFault.{ReadFault}
use Rattle.cs_wire_entries.specs.declared.fault.ReadFaultKind.TheVariants.{EmptyGroup}
use Rattle.cs_wire_entries.specs.ReadFaults.{HasEntry}
use Rattle.cs_wire.specs.Headers.{header_of}
use Rattle.cs_file_iterator.proofs.CheckedLemmas.{fault_is, opened}
use Rattle.cs_file_iterator.proofs.ReadableLemmas.{bare_none, same_end}
use Rattle.cs_file_iterator.proofs.StepLemmas.{ShowsTable-header, header_length, opened_has_entry, table_next, table_opened}
use Rattle.cs_file_iterator.proofs.change.open_table.Goals as goal

abbrev the_fault : ℕ → ReadFault
the_fault place = record { kind = EmptyGroup; place = place }

pub returns-in_err-header-clause-no_fault : goal.returns-in_err-header-clause-no_fault
returns-in_err-header-clause-no_fault c = λ all left is_file so.
    let next = table_next c.args.file.now all left c.args.place is_file so c.requires in
    absurd (c.in_err-header.ensures.only next.0.header _ next.3.header next.4)

pub returns-then-not-has_entry-clause-no_fault : goal.returns-then-not-has_entry-clause-no_fault
returns-then-not-has_entry-clause-no_fault c = λ all left is_file so.
    absurd (opened_has_entry c.args.file.now all left c.args.place is_file so c.requires (header_of c.in_ok-header.header) c.in_ok-header.end c.in_ok-header.ensures.found c.in_ok-header.ensures.only
    (iff_false c.has_entry.ensures c.if-not-has_entry.true))

pub overflow_sub-name : goal.overflow_sub-name
overflow_sub-name c = omega (arith, header_length c.args.file.now c.args.place c.in_ok-header.end (header_of c.in_ok-header.header) c.in_ok-header.ensures.found (omega (arith, c.requires)))

pub overflow_sub-name-2 : goal.overflow_sub-name-2
overflow_sub-name-2 c = omega (arith, header_length c.args.file.now c.args.place c.in_ok-header.end (header_of c.in_ok-header.header) c.in_ok-header.ensures.found (omega (arith, c.requires)))

pub overflow_sub-table : goal.overflow_sub-table
overflow_sub-table c = omega (arith, header_length c.args.file.now c.args.place c.in_ok-header.end (header_of c.in_ok-header.header) c.in_ok-header.ensures.found (omega (arith, c.requires)))

pub returns-clause-next : goal.returns-clause-next
returns-clause-next c = λ all left is_file so.
    let stands = c.in_ok-header.ensures.found in
    table_opened c.args.file.now all left c.args.place is_file so c.requires (header_of c.in_ok-header.header) c.in_ok-header.end _ stands c.in_ok-header.ensures.only
    (ShowsTable-header c.args.file.now c.args.place c.in_ok-header.end (header_of c.in_ok-header.header) _ stands (omega (arith, c.requires)) refl refl refl refl)

pub returns-clause-forward : goal.returns-clause-forward
returns-clause-forward c = omega (arith, header_length c.args.file.now c.args.place c.in_ok-header.end (header_of c.in_ok-header.header) c.in_ok-header.ensures.found (omega (arith, c.requires)))

pub returns-in_err-header-clause-stops : goal.returns-in_err-header-clause-stops
returns-in_err-header-clause-stops c =
    let p = err_from_is_err_and c.from_residual.result c.from_residual.ensures.1 in
    rw p.1 (λ header entry rest is_header is_entry spelled. absurd (c.in_err-header.ensures.only header (entry_bytes entry ++ rest) is_header spelled))

pub returns-then-not-has_entry-clause-stops : goal.returns-then-not-has_entry-clause-stops
returns-then-not-has_entry-clause-stops c =
    bare_none c.args.file.now c.args.place c.in_ok-header.end (header_of c.in_ok-header.header) c.in_ok-header.ensures.found c.in_ok-header.ensures.only (iff_false c.has_entry.ensures c.if-not-has_entry.true)

pub returns-in_err-header-clause-checked : goal.returns-in_err-header-clause-checked
returns-in_err-header-clause-checked c = λ groups fault start none unreadable.
    let p = err_from_is_err_and c.from_residual.result c.from_residual.ensures.1 in
    rw (p.1, p.2) (fault_is c.args.file.now fault unreadable c.in_err-header.field-0.0 (c.in_err-header.ensures.fault groups start none))

pub returns-then-not-has_entry-clause-checked : goal.returns-then-not-has_entry-clause-checked
returns-then-not-has_entry-clause-checked c = λ groups fault start none unreadable.
    c.fault_at.ensures
    ∙ fault_is c.args.file.now fault unreadable (record { kind = EmptyGroup; place = c.in_ok-header.end }) (record {
      header = header_of c.in_ok-header.header;
      start = opened c.args.file.now fault unreadable c.args.place c.in_ok-header.end groups (header_of c.in_ok-header.header) start c.in_ok-header.ensures.well_formed c.in_ok-header.ensures.found;
      no_entry = iff_false c.has_entry.ensures c.if-not-has_entry.true;
    })

pub returns-clause-reads : goal.returns-clause-reads
returns-clause-reads c = record {
  header = header_of c.in_ok-header.header;
  is_header = c.in_ok-header.ensures.well_formed;
  stands = c.in_ok-header.ensures.found;
  only = c.in_ok-header.ensures.only;
  table = ShowsTable-header c.args.file.now c.args.place c.in_ok-header.end (header_of c.in_ok-header.header) _ c.in_ok-header.ensures.found (omega (arith, c.requires)) refl refl refl refl;
}

pub returns-in_err-header-clause-empty : goal.returns-in_err-header-clause-empty
returns-in_err-header-clause-empty c = λ header end is stands none. absurd (c.in_err-header.ensures.only header _ is stands.spelled)

pub returns-then-not-has_entry-clause-empty : goal.returns-then-not-has_entry-clause-empty
returns-then-not-has_entry-clause-empty c = λ header end is stands none.
    c.fault_at.ensures
    ∙ ap (λ (n : ℕ). the_fault n) (same_end c.args.file.now c.args.place c.in_ok-header.end end (header_of c.in_ok-header.header) header (omega (arith, c.requires)) c.in_ok-header.ensures.found c.in_ok-header.ensures.only is stands)

pub returns-clause-empty : goal.returns-clause-empty
returns-clause-empty c = λ header end is stands none.
    absurd (none (subst (HasEntry c.args.file.now) (same_end c.args.file.now c.args.place c.in_ok-header.end end (header_of c.in_ok-header.header) header (omega (arith, c.requires)) c.in_ok-header.ensures.found c.in_ok-header.ensures.only is stands) (c.has_entry.ensures.0 c.if-not-has_entry.false)))
