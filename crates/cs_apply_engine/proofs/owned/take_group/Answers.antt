-- `owned::take_group`: the invariant of the loop at `entry`, what `take_entry` asks for, the clauses `caused`,
-- `kept` and `behind`.
use Rattle.std.proofs.Common.{◌≡◌, ◌<◌, [], List, ℕ, length, take, get_or, refl, sym, ap, ap₂, ◌∙◌}
use Rattle.std.specs.Fn.{FnReturnsAt}
use Rattle.std.specs.Rc.{rc_str_bytes}
use Rattle.std.proofs.lemmas.Result.{err_from_is_err_and}
use Rattle.std.proofs.lemmas.List.{take_all}
use Rattle.cs_wire_entries.specs.declared.entry.Entry.{Entry}
use Rattle.cs_wire.specs.Changeset.{HeaderData}
use Rattle.cs_wire.specs.Headers.{header_of}
use Rattle.cs_wire.specs.Items.{FlaggedEntry}
use Rattle.cs_apply_conflict_kinds.specs.Applying.{refuses_at}
use Rattle.cs_apply_conflict_kinds.proofs.ApplyLemmas.{judged_same, refuses_same}
use Rattle.cs_apply_engine.specs.Run.{directed_entry, directed_group, group_of}
use Rattle.cs_apply_engine.specs.Writes.{IsGroupWrite}
use Rattle.cs_apply_engine.specs.Steps.{header_in}
use Rattle.cs_apply_engine.proofs.BehindLemmas.{behind_table, has_judged_table}
use Rattle.cs_apply_engine.proofs.CauseLemmas.{caused_on, entry_write_as, group_write}
use Rattle.cs_apply_engine.proofs.DirectedLemmas.{directed_entries, entries_more, entry_new, group_begun, group_whole}
use Rattle.cs_apply_engine.proofs.owned.take_group.Goals as goal

pub loop-entry-init : goal.loop-entry-init
loop-entry-init g c =
    let h = c.args.group.now.header in
    let same : header_of (record { name = c.name.result; flags = c.flags.result }) ≡ h =
    ap₂ (λ (name flags : List ℕ). record { name = name; flags = flags }) (c.name.ensures ∙ ap (λ (x : HeaderData). x.name) c.header.ensures.same) c.flags.ensures.same in (
      c.requires.callable,
      g.B.Rows.keeps_so _ _ _ _ _ (λ held write h none. absurd none) c.in_ok-take_table.ensures.kept,
      c.in_ok-take_table.ensures.tables,
      (c.take_table.ensures.noop ∙ c.requires.reported.0, c.take_table.ensures.ignored ∙ c.requires.reported.1),
      c.take_table.ensures.listed,
      λ honest.
          let takes = rw same at c.in_ok-take_table.ensures.takes honest in (
            c.take_table.ensures.was_honest honest,
            takes.table,
            rw takes.same takes.judged,
            rw takes.same takes.rules,
            (λ before closed names is.
                rw (group_begun c.args.direction closed c.args.group.now)
                (behind_table before closed h (FnReturnsAt g.H.Fn c.args.handler.now) c.args.run.now c.take_table.new.self (g.B.Rows.state c.args.rows.now) (g.B.Rows.state c.take_table.new.rows) is takes)),
          ),
    )

pub take_entry-requires-clause-table : goal.take_entry-requires-clause-table
take_entry-requires-clause-table g c = λ honest compatible.
    let so = c.loop-entry.invariant in
    has_judged_table (g.B.Rows.state c.loop-entry.rows) c.loop-entry.run c.args.group.now.header c.directed.result (so.5 honest).1 (so.5 honest).2
    (ap (λ (x : FlaggedEntry). x.flags) c.directed.ensures ∙ ap (λ (x : FlaggedEntry). x.flags) c.from_entry-entry.ensures ∙ c.flags.ensures.same) compatible

pub take_entry-requires-clause-rules : goal.take_entry-requires-clause-rules
take_entry-requires-clause-rules g c = λ honest.
    let was = c.loop-entry.invariant.5 honest in
    was.3 ∙ ap (refuses_at (g.B.Rows.state c.loop-entry.rows)) (sym was.1)

pub returns-in_err-take_table-clause-caused : goal.returns-in_err-take_table-clause-caused
returns-in_err-take_table-clause-caused g c = λ honest.
    caused_on c.from_residual.result _ _ c.in_err-take_table.field-0.0 c.from_residual.ensures.1
    (λ why by. g.B.Rows.fails_so _ _ _ _ why (λ held write none. absurd none) by) (c.in_err-take_table.ensures.caused honest)

pub returns-in_err-take_table-clause-kept : goal.returns-in_err-take_table-clause-kept
returns-in_err-take_table-clause-kept g c =
    let p = err_from_is_err_and c.from_residual.result c.from_residual.ensures.1 in
    rw p.1 (g.B.Rows.keeps_so _ _ _ _ _ (λ held write h none. absurd none) c.in_err-take_table.ensures.kept)

pub returns-in_err-take_entry-clause-caused : goal.returns-in_err-take_entry-clause-caused
returns-in_err-take_entry-clause-caused g c = λ honest.
    let Is = IsGroupWrite (directed_group c.args.direction c.args.group.now) in
    let group = c.args.group.now in
    let h = group.header in
    let entries = c.entries-entry-items.ensures in
    let j = c.loop-entry.entry-index in
    let e = c.entry-item.result in
    let shown = c.directed.result in
    let within : j < length group.entries = rw entries.same at c.loop-entry-test.true in
    let is : e ≡ get_or group.entries j e = c.entry-item.is ∙ ap (λ (l : List Entry). get_or l j e) entries.same in
    let flags = ap (λ (x : FlaggedEntry). x.flags) c.from_entry-entry.ensures ∙ c.flags.ensures.same in
    let entry : shown.entry ≡ directed_entry c.args.direction h.flags e =
    ap (λ (x : FlaggedEntry). x.entry) c.directed.ensures ∙ ap₂ (λ (flags : List ℕ) (x : Entry). directed_entry c.args.direction flags x) flags (ap (λ (x : FlaggedEntry). x.entry) c.from_entry-entry.ensures) in
    let was = c.loop-entry.invariant.5 (c.take_entry.ensures.was_honest honest) in
    let header : header_in (rc_str_bytes c.loop-entry.run.table) shown ≡ h = ap₂ (λ (name flags : List ℕ). record { name = name; flags = flags }) was.1 (ap (λ (x : FlaggedEntry). x.flags) c.directed.ensures ∙ flags) in
    caused_on c.from_residual-in_err-take_entry.result _ _ c.in_err-take_entry.field-0.0 c.from_residual-in_err-take_entry.ensures.1
    (λ why by. g.B.Rows.fails_then Is _ _ _ _ why c.loop-entry.invariant.1
    (g.B.Rows.keeps_so _ Is _ _ _ (λ held write h wrote. group_write c.args.direction group j e held write within is (entry_write_as _ group.header _ _ held write header entry wrote)) c.in_err-take_entry.ensures.kept) honest
    (g.B.Rows.fails_so _ _ _ _ why (λ held write wrote. group_write c.args.direction group j e held write within is (entry_write_as _ h _ _ held write header entry wrote)) by))
    (c.in_err-take_entry.ensures.caused honest)

pub returns-in_err-take_entry-clause-kept : goal.returns-in_err-take_entry-clause-kept
returns-in_err-take_entry-clause-kept g c =
    let Is = IsGroupWrite (directed_group c.args.direction c.args.group.now) in
    let group = c.args.group.now in
    let h = group.header in
    let entries = c.entries-entry-items.ensures in
    let j = c.loop-entry.entry-index in
    let e = c.entry-item.result in
    let shown = c.directed.result in
    let within : j < length group.entries = rw entries.same at c.loop-entry-test.true in
    let is : e ≡ get_or group.entries j e = c.entry-item.is ∙ ap (λ (l : List Entry). get_or l j e) entries.same in
    let flags = ap (λ (x : FlaggedEntry). x.flags) c.from_entry-entry.ensures ∙ c.flags.ensures.same in
    let entry : shown.entry ≡ directed_entry c.args.direction h.flags e =
    ap (λ (x : FlaggedEntry). x.entry) c.directed.ensures ∙ ap₂ (λ (flags : List ℕ) (x : Entry). directed_entry c.args.direction flags x) flags (ap (λ (x : FlaggedEntry). x.entry) c.from_entry-entry.ensures) in
    let p = err_from_is_err_and c.from_residual-in_err-take_entry.result c.from_residual-in_err-take_entry.ensures.1 in
    rw p.1 (g.B.Rows.keeps_then Is _ _ _ _ c.loop-entry.invariant.1 (g.B.Rows.keeps_so _ Is _ _ _ (λ held write honest wrote.
    let was = c.loop-entry.invariant.5 (c.take_entry.ensures.was_honest honest) in
    let header : header_in (rc_str_bytes c.loop-entry.run.table) shown ≡ h = ap₂ (λ (name flags : List ℕ). record { name = name; flags = flags }) was.1 (ap (λ (x : FlaggedEntry). x.flags) c.directed.ensures ∙ flags) in
    group_write c.args.direction group j e held write within is (entry_write_as _ h _ _ held write header entry wrote)) c.in_err-take_entry.ensures.kept))

pub loop-entry-preserved : goal.loop-entry-preserved
loop-entry-preserved g c =
    let Is = IsGroupWrite (directed_group c.args.direction c.args.group.now) in
    let so = c.loop-entry.invariant in
    let group = c.args.group.now in
    let h = group.header in
    let entries = c.entries-entry-items.ensures in
    let j = c.loop-entry.entry-index in
    let e = c.entry-item.result in
    let within : j < length group.entries = rw entries.same at c.loop-entry-test.true in
    let is : e ≡ get_or group.entries j e = c.entry-item.is ∙ ap (λ (l : List Entry). get_or l j e) entries.same in
    let flags_are = ap (λ (x : FlaggedEntry). x.flags) c.from_entry-entry.ensures ∙ c.flags.ensures.same in
    let entry_is = ap (λ (x : FlaggedEntry). x.entry) c.from_entry-entry.ensures in
    let shown_flags : c.directed.result.flags ≡ h.flags = ap (λ (x : FlaggedEntry). x.flags) c.directed.ensures ∙ flags_are in
    let shown : c.directed.result.entry ≡ directed_entry c.args.direction h.flags e =
    ap (λ (x : FlaggedEntry). x.entry) c.directed.ensures ∙ ap₂ (λ (flags : List ℕ) (x : Entry). directed_entry c.args.direction flags x) flags_are entry_is in (
      so.0,
      g.B.Rows.keeps_then Is _ _ _ _ so.1
          (g.B.Rows.keeps_so _ Is _ _ _ (λ held write honest wrote.
          let was = so.5 (c.take_entry.ensures.was_honest honest) in
          let header : header_in (rc_str_bytes c.loop-entry.run.table) c.directed.result ≡ h = ap₂ (λ (name flags : List ℕ). record { name = name; flags = flags }) was.1 shown_flags in
          group_write c.args.direction group j e held write within is (entry_write_as _ h _ _ held write header shown wrote)) c.in_ok-take_entry.ensures.kept),
      c.take_entry.ensures.tables ∙ so.2,
      (c.take_entry.ensures.noop ∙ so.3.0, c.take_entry.ensures.reported so.3.0 ∙ so.3.1),
      c.take_entry.ensures.listed ∙ so.4,
      λ honest.
          let was = so.5 (c.take_entry.ensures.was_honest honest) in (
            was.0,
            ap (λ t. rc_str_bytes t) c.take_entry.ensures.table.0 ∙ was.1,
            c.take_entry.ensures.table.1 ∙ was.2 ∙ sym (judged_same (g.B.Rows.state c.loop-entry.rows) (g.B.Rows.state c.take_entry.new.rows) (c.in_ok-take_entry.ensures.schemas honest) (group_of h []) (group_of h []) refl),
            ap (λ v. v.items) c.take_entry.ensures.table.2 ∙ was.3 ∙ sym (refuses_same (g.B.Rows.state c.loop-entry.rows) (g.B.Rows.state c.take_entry.new.rows) (c.in_ok-take_entry.ensures.schemas honest) h.name),
            (λ before closed names start.
                let new = entry_new c.args.direction closed group j e entries.well_formed within is names in
                let next = c.in_ok-take_entry.ensures.behind honest before closed h (directed_entries c.args.direction h.flags (take j group.entries)) shown_flags (rw shown new) (was.4 before closed names start) in
                rw (entries_more c.args.direction h.flags group.entries j e within is, ← shown) next),
          ),
    )

pub returns-clause-behind : goal.returns-clause-behind
returns-clause-behind g c = λ honest before closed names is.
    let so = c.loop-entry.invariant in
    let group = c.args.group.now in
    let all = take_all c.loop-entry.entry-index group.entries (rw c.entries-entry-items.ensures.same at c.loop-entry-test.false) in
    let whole = ap (λ (es : List Entry). group_of group.header (directed_entries c.args.direction group.header.flags es)) all ∙ group_whole c.args.direction group in
    rw (← whole) ((so.5 honest).4 before closed names is)
