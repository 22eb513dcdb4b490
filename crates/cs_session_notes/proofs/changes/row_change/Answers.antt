-- `changes::row_change`: what `net_row_change` asks for, the clause `fits`.
use Rattle.std.proofs.Common.{refl}
use Rattle.cs_value.specs.State.{IsRowAt}
use Rattle.cs_session_notes.proofs.EntriesLemmas.{widths, change_fits}
use Rattle.cs_value.proofs.ListLemmas.{IfSome-mapped}
use Rattle.cs_session_notes.proofs.changes.row_change.Goals as goal

pub net_row_change-requires-clause-before : goal.net_row_change-requires-clause-before
net_row_change-requires-clause-before g c = rw c.flags-flags.ensures.same (widths c.args.table.now.schema c.args.key.now c.args.former _ refl c.requires.fits)

pub net_row_change-requires-clause-after : goal.net_row_change-requires-clause-after
net_row_change-requires-clause-after g c =
    let schema = c.args.table.now.schema in
    let key = c.args.key.now in
    let fits = IfSome-mapped _ (IsRowAt schema key) c.as_ref.result c.in_ok-row.row c.as_ref.ensures.value c.in_ok-check_row.ensures.fits in
    rw c.flags-flags.ensures.same (widths schema key c.as_ref-2.result c.in_ok-row.row c.as_ref-2.ensures.value fits)

pub returns-clause-fits : goal.returns-clause-fits
returns-clause-fits g c =
    let schema = c.args.table.now.schema in
    let key = c.args.key.now in
    let fits = IfSome-mapped _ (IsRowAt schema key) c.as_ref.result c.in_ok-row.row c.as_ref.ensures.value c.in_ok-check_row.ensures.fits in
    let is = rw (c.flags-flags.ensures.same, c.as_ref-2.ensures.value) at c.in_ok-net_row_change.ensures in
    rw is (change_fits schema key _ c.in_ok-row.row c.requires.fits fits)
