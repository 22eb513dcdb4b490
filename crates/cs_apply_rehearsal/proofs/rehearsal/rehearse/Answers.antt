-- `rehearsal::rehearse`: the conflicts of the apply are listed with the indices of their entries.
use Rattle.std.proofs.Common.{List, map, ap, ◌∙◌}
use Rattle.sqlite.specs.Held.{state}
use Rattle.cs_store.specs.Store.{tables_in}
use Rattle.cs_apply_rehearsal.specs.declared.places.Place.{Place}
use Rattle.cs_apply_rehearsal.specs.Places.{place_of}
use Rattle.cs_apply_rehearsal.proofs.TryLemmas.{rehearses, tried_along}
use Rattle.cs_apply_rehearsal.proofs.rehearsal.rehearse.Goals as goal

pub returns-clause-rehearsed : goal.returns-clause-rehearsed
returns-clause-rehearsed g c clean =
    let tables = tables_in (state g.S.Store c.args.transaction.now).now in
    let law = c.changeset_files_law.ensures in
    let met = c.in_ok-report.report.conflicts.items in
    let it = c.in_ok-report.ensures.met clean in
    let read = c.in_ok-changeset.ensures.found in
    let are = ap (λ (l : List Place). map place_of l) c.deref.ensures.value ∙ c.in_ok-places.ensures in
    let entries = map place_of c.deref.result.now in
    rehearses law c.args.noop c.args.file.now tables met it c.in_ok-changeset.changeset read.0 read.1 entries c.in_ok-found.found.items are
    (c.in_ok-found.ensures (tried_along law c.args.noop c.args.file.now tables met it c.in_ok-changeset.changeset read.0 read.1 entries are))
