-- `changes::net_changeset`: what `table_changes` and `push` ask for, the invariant of the loop at `table`, the clauses
-- `kept` and `caused`.
use Rattle.std.proofs.Common.{◌≡◌, ◌≢◌, ◌++◌, option_to_list, sym, ◌∙◌}
use Rattle.std.proofs.lemmas.List.{append-nil}
use Rattle.std.proofs.lemmas.Result.{err_from_is_err_and}
use Rattle.cs_wire.specs.Changeset.{GroupData}
use Rattle.cs_session_notes.specs.FirstImages.{AttachedTable, IsAttachedTable, HasAttached, net_group}
use Rattle.cs_session_notes.specs.Views.{attached_of}
use Rattle.cs_value.proofs.ListLemmas.{All-map_at, AllPairs-map_before, filter_map-map_more, map_more_at}
use Rattle.cs_session_notes.proofs.CauseLemmas.{caused_on}
use Rattle.cs_session_notes.proofs.EntriesLemmas.{no_other_more}
use Rattle.cs_session_notes.proofs.changes.net_changeset.Goals.{in-Some+in_ok-push, in_default}
use Rattle.cs_session_notes.proofs.changes.net_changeset.Goals as goal

pub table_changes-requires-clause-table : goal.table_changes-requires-clause-table
table_changes-requires-clause-table g c =
    All-map_at c.args.tables.now c.loop-table.table-index c.table-item.result c.loop-table-test.true c.table-item.is attached_of IsAttachedTable c.requires.each

pub table_changes-requires-clause-attached : goal.table_changes-requires-clause-attached
table_changes-requires-clause-attached g c = λ honest.
    let state = g.B.Rows.state c.args.rows.now in
    let so = c.loop-table.invariant.2 honest in
    rw so.1 (All-map_at c.args.tables.now c.loop-table.table-index c.table-item.result c.loop-table-test.true c.table-item.is attached_of (HasAttached state) so.3)

pub push-requires : goal.push-requires
push-requires g c =
    let apart = AllPairs-map_before c.args.tables.now c.loop-table.table-index c.table-item.result c.loop-table-test.true c.table-item.is attached_of
    (λ (s t : AttachedTable). s.name ≢ t.name) c.requires.once in
    let named = rw c.in-Some.is at c.in_ok-group.ensures.of_table in
    rw named (c.loop-table.invariant.1 _ apart)

pub returns-in_err-push-clause-kept : goal.returns-in_err-push-clause-kept
returns-in_err-push-clause-kept g c = g.B.Rows.keeps_refused _ _ _ _ (g.B.Rows.keeps_then _ _ _ _ _ c.loop-table.invariant.0 c.in_ok-group.ensures.kept)

pub loop-table-preserved : goal.loop-table-preserved
loop-table-preserved g c =
    let tables = c.args.tables.now in
    let i = c.loop-table.table-index in
    let table = c.table-item.result in
    let lt = c.loop-table-test.true in
    let is = c.table-item.is in
    let before = c.loop-table.changeset in
    let group = c.in_ok-group.field-0 in
    let grown : c.match-branch-3.changeset ≡ before ++ option_to_list group =
    elim c.match-branch-3.branch [
      | in-Some+in_ok-push w ↦ rw (w.changeset-is, w.in-Some.is) w.in_ok-push.ensures.ok
      | in_default w ↦ rw (w.changeset-is, w.in_default.is) (sym (append-nil before))
    ] in (
      g.B.Rows.keeps_then _ _ _ _ _ c.loop-table.invariant.0 c.in_ok-group.ensures.kept,
      rw (grown, map_more_at tables i table lt is attached_of)
          (no_other_more (λ (t : AttachedTable). t.name) (λ (g : GroupData). g.header.name) _ before c.loop-table.invariant.1 (attached_of table) group c.in_ok-group.ensures.of_table),
      λ honest.
          let so = c.loop-table.invariant.2 (c.table_changes.ensures.was_honest honest) in
          let made = rw so.1 at (c.in_ok-group.ensures.made honest) in
          let groups = net_group (g.B.Rows.state c.args.rows.now) in (
            so.0,
            c.in_ok-group.ensures.same honest ∙ so.1,
            grown ∙ filter_map-map_more tables i table lt is attached_of groups group before made so.2,
            so.3,
          ),
    )

pub returns-in_err-group-clause-caused : goal.returns-in_err-group-clause-caused
returns-in_err-group-clause-caused g c = λ honest.
    caused_on c.from_residual-in_err-group.result _ _ c.in_err-group.field-0.0 c.from_residual-in_err-group.ensures.1
    (λ why by. g.B.Rows.fails_then _ _ _ _ _ why c.loop-table.invariant.0 c.in_err-group.ensures.kept honest by) (c.in_err-group.ensures.caused honest)

pub returns-in_err-group-clause-kept : goal.returns-in_err-group-clause-kept
returns-in_err-group-clause-kept g c =
    let p = err_from_is_err_and c.from_residual-in_err-group.result c.from_residual-in_err-group.ensures.1 in
    rw (p.1, p.2, c.in_err-group.ensures.rows) (g.B.Rows.keeps_then _ _ _ _ _ c.loop-table.invariant.0 c.in_err-group.ensures.kept)
