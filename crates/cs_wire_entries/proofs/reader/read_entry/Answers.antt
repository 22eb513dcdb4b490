-- `reader::read_entry`: what it ensures.
use Rattle.std.proofs.Common.{Bool, cond, ap, sym, ◌∙◌}
use Rattle.std.proofs.lemmas.Result.{err_from_is_err_and}
use Rattle.cs_wire_entries.proofs.ReadingLemmas.{Stands-then, behind_byte}
use Rattle.cs_wire_entries.proofs.EntryLemmas.{entry_bytes-append, Stands-entry, same_entry}
use Rattle.cs_wire_entries.proofs.EntryFaults.{change_case}
use Rattle.cs_wire_entries.specs.Items.{FlaggedEntry}
use Rattle.cs_wire_entries.proofs.RecordLemmas.{Stands-bytes, operation_in}
use Rattle.cs_wire_entries.proofs.reader.read_entry.Goals as goal

pub returns-in_err-operation-clause-only : goal.returns-in_err-operation-clause-only
returns-in_err-operation-clause-only c =
    λ entry rest h e. absurd (c.in_err-operation.ensures.only entry.change _ (e ∙ entry_bytes-append entry rest))

pub returns-in_err-indirect-clause-only : goal.returns-in_err-indirect-clause-only
returns-in_err-indirect-clause-only c =
    λ entry rest h e.
    let whole = e ∙ entry_bytes-append entry rest in
    let same = c.in_ok-operation.ensures.only entry.change _ whole in
    let behind = behind_byte c.args.file.now c.args.at c.in_ok-operation.start _ _ _ c.in_ok-operation.ensures.found same whole in
    absurd (c.in_err-indirect.ensures.only entry.indirect _ behind)

pub returns-in_err-first-clause-only : goal.returns-in_err-first-clause-only
returns-in_err-first-clause-only c =
    λ entry rest h e.
    let whole = e ∙ entry_bytes-append entry rest in
    let same = c.in_ok-operation.ensures.only entry.change _ whole in
    let behind = behind_byte c.args.file.now c.args.at c.in_ok-operation.start _ _ _ c.in_ok-operation.ensures.found same whole in
    let flag = c.in_ok-indirect.ensures.only entry.indirect _ behind in
    let records = behind_byte c.args.file.now c.in_ok-operation.start c.in_ok-indirect.start _ _ _ c.in_ok-indirect.ensures.found (ap (λ (b : Bool). cond b 1 0) flag) behind in
    absurd (c.in_err-first.ensures.only entry.change rest h (sym same) records)

pub returns-in_err-first-clause-fault : goal.returns-in_err-first-clause-fault
returns-in_err-first-clause-fault c =
    let p = err_from_is_err_and c.from_residual-in_err-first.result c.from_residual-in_err-first.ensures.1 in
    let file = c.args.file.now in
    let head = Stands-then file c.args.at c.in_ok-operation.start c.in_ok-indirect.start _ _ c.in_ok-operation.ensures.found c.in_ok-indirect.ensures.found in
    λ header entries same start. rw (p.1, p.2)
    (change_case file c.args.at c.in_ok-indirect.start header entries _ c.in_ok-indirect.indirect c.args.flags.now same start head _ _ c.in_err-first.ensures.fault)

pub from_bytes-requires : goal.from_bytes-requires
from_bytes-requires c =
    let found = c.in_ok-first.ensures.found in
    record { is_entry = found.0; spelled = found.1; has_first = found.3 }

pub returns-clause-well_formed : goal.returns-clause-well_formed
returns-clause-well_formed c = rw c.from_bytes.ensures c.in_ok-first.ensures.found.0

pub returns-clause-found : goal.returns-clause-found
returns-clause-found c =
    let file = c.args.file.now in
    let found = c.in_ok-first.ensures.found in
    let records = Stands-bytes file c.in_ok-indirect.start _ _ c.in_ok-first.end (sym found.1) found.2 in
    let parts = Stands-then file c.args.at c.in_ok-operation.start c.in_ok-first.end _ _ c.in_ok-operation.ensures.found
    (Stands-then file c.in_ok-operation.start c.in_ok-indirect.start c.in_ok-first.end _ _ c.in_ok-indirect.ensures.found records) in
    rw c.from_bytes.ensures (Stands-entry file c.args.at c.in_ok-first.end c.in_ok-indirect.indirect _ _ (operation_in _ c.in_ok-operation.operation _ _) parts)

pub returns-clause-only : goal.returns-clause-only
returns-clause-only c = λ entry rest h e.
    let whole = e ∙ entry_bytes-append entry rest in
    let same = c.in_ok-operation.ensures.only entry.change _ whole in
    let behind = behind_byte c.args.file.now c.args.at c.in_ok-operation.start _ _ _ c.in_ok-operation.ensures.found same whole in
    let flag = c.in_ok-indirect.ensures.only entry.indirect _ behind in
    let records = behind_byte c.args.file.now c.in_ok-operation.start c.in_ok-indirect.start _ _ _ c.in_ok-indirect.ensures.found (ap (λ (b : Bool). cond b 1 0) flag) behind in
    ap (λ (seen : FlaggedEntry). seen.entry) c.from_bytes.ensures ∙ same_entry c.in_ok-indirect.indirect _ entry flag (c.in_ok-first.ensures.only entry.change rest h (sym same) records)
