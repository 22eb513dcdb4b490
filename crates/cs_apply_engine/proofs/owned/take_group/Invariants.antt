-- The run is past the entries so far.
use Rattle.std.proofs.Common.{◌≡◌, ◌≢◌, ◌+◌, ◌++◌, ◌∷◌, [], List, take, true}
use Rattle.std.specs.List.{AllByRecursion}
use Rattle.std.specs.Fn.{FnReturnsAt}
use Rattle.std.specs.Rc.{rc_str_bytes}
use Rattle.cs_value.specs.State.{State}
use Rattle.cs_wire.specs.Changeset.{GroupData}
use Rattle.cs_apply_conflict_kinds.specs.declared.conflict.Noop.TheVariants.{Report as Reported}
use Rattle.cs_apply_conflict_kinds.specs.Applying.{refuses_at}
use Rattle.cs_apply_conflict_kinds.specs.Judging.{judged}
use Rattle.cs_apply_engine.specs.Tally.{is_listed}
use Rattle.cs_apply_engine.specs.Run.{IsBehind, directed_group, group_of}
use Rattle.cs_apply_engine.specs.Writes.{IsGroupWrite}
use Rattle.cs_apply_engine.proofs.DirectedLemmas.{directed_entries}
use Rattle.cs_apply_engine.proofs.owned.take_group.Given as goal

abbrev pub invariant-loop-entry : goal.invariant-loop-entry
invariant-loop-entry g l =
    let rows = g.B.Rows in
    goal.H-IsAlwaysCallable g l.handler × rows.keeps (IsGroupWrite (directed_group l.direction l.group)) true l.fn.rows l.rows × (l.run.tables ≡ l.fn.run.tables + 1) × ((l.run.noop ≡ Reported) × (l.run.tally.ignored ≡ 0)) × (is_listed l.run.tally.written ≡ is_listed l.fn.run.tally.written)
    × (rows.is_honest l.rows → rows.is_honest l.fn.rows × (rc_str_bytes l.run.table ≡ l.group.header.name) × (l.run.judgement ≡ judged (rows.state l.rows) (group_of l.group.header []))
    × (l.run.refuses.items ≡ refuses_at (rows.state l.rows) l.group.header.name)
    × ((before : State) (closed : List GroupData) → AllByRecursion (λ k. k.header.name ≢ l.group.header.name) closed → IsBehind (FnReturnsAt g.H.Fn l.handler) before closed l.fn.run (rows.state l.fn.rows)
    → IsBehind (FnReturnsAt g.H.Fn l.handler) before (closed ++ group_of l.group.header (directed_entries l.direction l.group.header.flags (take l.entry-index l.group.entries)) ∷ []) l.run (rows.state l.rows)))
