-- `reader::read_records`: what it ensures.
use Rattle.std.proofs.Common.{List, [], ℕ, length, ◌++◌, sym, ap, ap₂, refl, ◌∙◌}
use Rattle.std.proofs.lemmas.Result.{err_from_is_err_and}
use Rattle.std.proofs.lemmas.List.Concat.{flat_map-append}
use Rattle.cs_value.specs.declared.value.OwnedField.{OwnedField}
use Rattle.cs_value.specs.Spelling.{field_bytes, record_bytes}
use Rattle.cs_wire_entries.specs.declared.entry.Change.TheVariants.{Update}
use Rattle.cs_wire_entries.specs.Views.{byte_of}
use Rattle.cs_wire_entries.specs.Items.{fields_in}
use Rattle.cs_wire_entries.proofs.ReadingLemmas.{Stands-then}
use Rattle.cs_wire_entries.proofs.ChangeLemmas.{old_met, new_met, keyed_update, old_refused, new_refused, updated, spelled_update, behind_old}
use Rattle.cs_wire_entries.proofs.RecordLemmas.{Stands-bytes, row_found, has_row, row_refuses}
use Rattle.cs_wire_entries.proofs.reader.read_records.Goals as goal

pub returns-in_err-row-in-Insert : goal.returns-in_err-row-in-Insert
returns-in_err-row-in-Insert c =
    let p = err_from_is_err_and c.from_residual.result c.from_residual.ensures.1 in
    let none = c.in_err-row-in-Insert.ensures in
    rw (p.1, p.2) (record {
      found = tt;
      only = λ change rest is does e.
          let r = has_row c.args.flags.now c.args.file.now c.args.at c.args.at [] c.args.what c.in-Insert.is change rest is does e in
          none.only r.fields rest r.is_record r.met r.spelled;
      fault = row_refuses c.args.flags.now c.args.file.now c.args.at c.args.what c.in-Insert.is _ _ none.fault;
    })

pub returns-in_ok-row-in-Insert : goal.returns-in_ok-row-in-Insert
returns-in_ok-row-in-Insert c =
    let row = c.in_ok-row-in-Insert.row.now in
    let read = c.in_ok-row-in-Insert.ensures in record {
      found = row_found c.args.flags.now c.args.file.now c.args.at c.in_ok-row-in-Insert.end row c.args.what c.in-Insert.is read.found read.spelled;
      only = λ change rest is does e.
          let r = has_row c.args.flags.now c.args.file.now c.args.at c.args.at row c.args.what c.in-Insert.is change rest is does e in
          r.same [] (read.only r.fields rest r.is_record r.met r.spelled);
      fault = tt;
    }

pub returns-in_err-old-in-Update-clause-only : goal.returns-in_err-old-in-Update-clause-only
returns-in_err-old-in-Update-clause-only c = λ change rest is does e.
    let u = updated change (does ∙ ap byte_of c.in-Update.is) in
    let whole = rw u.2 at is in
    absurd (c.in_err-old-in-Update.ensures.only u.0 _ whole.0 (old_met c.args.flags.now u.0 u.1 whole.2) (spelled_update c.args.file.now c.args.at u.0 u.1 rest (rw u.2 at e)))

pub returns-in_err-old-in-Update-clause-fault : goal.returns-in_err-old-in-Update-clause-fault
returns-in_err-old-in-Update-clause-fault c =
    let p = err_from_is_err_and c.from_residual-in_err-old-in-Update.result c.from_residual-in_err-old-in-Update.ensures.1 in
    rw (p.1, p.2, ap byte_of c.in-Update.is) (old_refused c.args.flags.now c.args.file.now c.args.at _ _ c.in_err-old-in-Update.ensures.fault)

pub returns-in_err-new-in-Update-clause-only : goal.returns-in_err-new-in-Update-clause-only
returns-in_err-new-in-Update-clause-only c = λ change rest is does e.
    let u = updated change (does ∙ ap byte_of c.in-Update.is) in
    let whole = rw u.2 at is in
    let spelled = spelled_update c.args.file.now c.args.at u.0 u.1 rest (rw u.2 at e) in
    let same = c.in_ok-old-in-Update.ensures.only u.0 _ whole.0 (old_met c.args.flags.now u.0 u.1 whole.2) spelled in
    let behind = behind_old c.args.file.now c.args.at c.in_ok-old-in-Update.middle _ u.0 _ c.in_ok-old-in-Update.ensures.found.stands same spelled in
    absurd (c.in_err-new-in-Update.ensures.only u.1 rest whole.1 (rw same (new_met c.args.flags.now u.0 u.1 whole.2)) behind)

pub returns-in_err-new-in-Update-clause-fault : goal.returns-in_err-new-in-Update-clause-fault
returns-in_err-new-in-Update-clause-fault c =
    let p = err_from_is_err_and c.from_residual-in_err-new-in-Update.result c.from_residual-in_err-new-in-Update.ensures.1 in
    rw (p.1, p.2, ap byte_of c.in-Update.is)
    (new_refused c.args.flags.now c.args.file.now c.args.at _ c.in_ok-old-in-Update.middle c.in_ok-old-in-Update.ensures.found _ _ c.in_err-new-in-Update.ensures.fault)

pub returns-in_ok-new-in-Update-clause-found : goal.returns-in_ok-new-in-Update-clause-found
returns-in_ok-new-in-Update-clause-found c =
    let file = c.args.file.now in
    let flags = c.args.flags.now in
    let o = c.in_ok-old-in-Update.ensures in
    let n = c.in_ok-new-in-Update.ensures in
    let old : List OwnedField = fields_in (length flags) c.in_ok-old-in-Update.old.now in
    let new : List OwnedField = fields_in (length flags) c.in_ok-new-in-Update.new.now in
    rw c.in-Update.is (
      (o.found.is_record, n.found.is_record, keyed_update flags old new o.found.wanted n.found.wanted),
      ap₂ (λ (x y : List ℕ). x ++ y) o.spelled n.spelled ∙ sym (flat_map-append field_bytes old new),
      Stands-then file c.args.at c.in_ok-old-in-Update.middle c.in_ok-new-in-Update.end _ _
          (Stands-bytes file c.args.at _ (record_bytes old) c.in_ok-old-in-Update.middle o.spelled o.found.stands)
          (Stands-bytes file c.in_ok-old-in-Update.middle _ (record_bytes new) c.in_ok-new-in-Update.end n.spelled n.found.stands),
      record { is_record = o.found.is_record; spelled = o.spelled; fields = refl; key = refl },
    )

pub returns-in_ok-new-in-Update-clause-only : goal.returns-in_ok-new-in-Update-clause-only
returns-in_ok-new-in-Update-clause-only c = λ change rest is does e.
    let u = updated change (does ∙ ap byte_of c.in-Update.is) in
    let whole = rw u.2 at is in
    let spelled = spelled_update c.args.file.now c.args.at u.0 u.1 rest (rw u.2 at e) in
    let same = c.in_ok-old-in-Update.ensures.only u.0 _ whole.0 (old_met c.args.flags.now u.0 u.1 whole.2) spelled in
    let behind = behind_old c.args.file.now c.args.at c.in_ok-old-in-Update.middle _ u.0 _ c.in_ok-old-in-Update.ensures.found.stands same spelled in
    let read = c.in_ok-new-in-Update.ensures.only u.1 rest whole.1 (rw same (new_met c.args.flags.now u.0 u.1 whole.2)) behind in
    rw c.in-Update.is (ap₂ Update same read ∙ sym u.2)
