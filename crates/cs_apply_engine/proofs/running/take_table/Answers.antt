-- `running::take_table`: the invariant of the loop, what `take_entry` asks for, the clauses `caused`, `kept`,
-- `place`, `behind` and `left`.
use Rattle.std.proofs.Common.{◌≡◌, ℕ, List, [], ◌∷◌, ◌++◌, length, refl, sym, ap, ap₂, ◌∙◌, arith}
use Rattle.std.proofs.lemmas.Result.{err_from_is_err_and}
use Rattle.std.specs.Fn.{FnReturnsAt}
use Rattle.std.specs.Rc.{rc_str_bytes}
use Rattle.cs_wire_entries.specs.declared.entry.Entry.{Entry}
use Rattle.cs_wire.specs.Headers.{header_of}
use Rattle.cs_wire.specs.Items.{FlaggedEntry}
use Rattle.cs_apply_conflict_kinds.specs.Applying.{refuses_at}
use Rattle.cs_apply_conflict_kinds.proofs.ApplyLemmas.{judged_same, refuses_same}
use Rattle.cs_apply_engine.specs.Run.{directed_entry, directed_group, group_of}
use Rattle.cs_apply_engine.specs.Writes.{IsGroupWrite}
use Rattle.cs_apply_engine.specs.Steps.{header_in}
use Rattle.cs_apply_engine.proofs.BehindLemmas.{behind_table, has_judged_table}
use Rattle.cs_apply_engine.proofs.CauseLemmas.{caused_on, entry_write_as, next_entry_write}
use Rattle.cs_apply_engine.proofs.DirectedLemmas.{group_begun}
use Rattle.cs_apply_engine.proofs.FileLemmas.{entries_all, entries_next}
use Rattle.cs_apply_engine.proofs.running.take_table.Goals as goal

pub entries-init : goal.entries-init
entries-init g c =
    let h = header_of c.args.header in (
      c.requires.callable,
      (λ entries others left. g.B.Rows.keeps_so _ _ _ _ _ (λ held write h none. absurd none) c.in_ok-take_table.ensures.kept),
      refl,
      c.requires.flags,
      omega arith,
      c.requires.place,
      omega (arith, c.requires.ignored, c.take_table.ensures.ignored),
      c.in_ok-take_table.ensures.tables,
      c.take_table.ensures.noop,
      c.take_table.ensures.listed,
      λ honest.
          let takes = c.in_ok-take_table.ensures.takes honest in (
            c.take_table.ensures.was_honest honest,
            takes.table,
            rw takes.same takes.judged,
            rw takes.same takes.rules,
          ),
      λ entries others left. record {
        done = [];
        passed = record { others = entries; whole = refl; are_left = left };
        behind = λ honest before closed group names is.
            rw (group_begun c.args.direction closed (group_of h entries))
            (behind_table before closed h (FnReturnsAt g.H.Fn c.args.handler.now) c.args.run.now c.take_table.new.self (g.B.Rows.state c.args.rows.now) (g.B.Rows.state c.take_table.new.rows) is (c.in_ok-take_table.ensures.takes honest));
      },
    )

pub take_entry-requires-clause-count : goal.take_entry-requires-clause-count
take_entry-requires-clause-count g c =
    let so = c.entries.invariant in
    omega (arith, c.requires.room, so.6, c.in-Some.ensures.forward, ap length (c.in-Some.ensures.file ∙ so.2))

pub returns-clause-place : goal.returns-clause-place
returns-clause-place g c =
    let so = c.entries.invariant in
    let same = c.in_default.ensures.stays refl in
    rw same (so.4, so.5)

pub take_entry-requires-clause-table : goal.take_entry-requires-clause-table
take_entry-requires-clause-table g c = λ honest compatible.
    let was = c.entries.invariant.10 honest in
    has_judged_table (g.B.Rows.state c.entries.rows) c.entries.run (header_of c.args.header) c.directed.result was.1 was.2
    (ap (λ (x : FlaggedEntry). x.flags) c.directed.ensures ∙ c.in-Some.ensures.flags.1 ∙ c.entries.invariant.3) compatible

pub take_entry-requires-clause-rules : goal.take_entry-requires-clause-rules
take_entry-requires-clause-rules g c = λ honest.
    let was = c.entries.invariant.10 honest in
    was.3 ∙ ap (refuses_at (g.B.Rows.state c.entries.rows)) (sym was.1)

pub returns-in_err-take_table-clause-caused : goal.returns-in_err-take_table-clause-caused
returns-in_err-take_table-clause-caused g c = λ honest entries others left.
    caused_on c.from_residual.result _ _ c.in_err-take_table.field-0.0 c.from_residual.ensures.1
    (λ why by. g.B.Rows.fails_so _ _ _ _ why (λ held write none. absurd none) by) (c.in_err-take_table.ensures.caused honest)

pub returns-in_err-take_table-clause-kept : goal.returns-in_err-take_table-clause-kept
returns-in_err-take_table-clause-kept g c = λ entries others left.
    let p = err_from_is_err_and c.from_residual.result c.from_residual.ensures.1 in
    rw p.1 (g.B.Rows.keeps_so _ _ _ _ _ (λ held write h none. absurd none) c.in_err-take_table.ensures.kept)

pub returns-in_err-take_entry-clause-caused : goal.returns-in_err-take_entry-clause-caused
returns-in_err-take_entry-clause-caused g c = λ honest entries others left.
    let Is = IsGroupWrite (directed_group c.args.direction (group_of (header_of c.args.header) entries)) in
    let h = header_of c.args.header in
    let seen = c.in-Some.entry in
    let shown = c.directed.result in
    let it = c.entries.invariant.11 entries others left in
    let is = c.in-Some.ensures.next it.passed.others others it.passed.are_left in
    let flags : seen.flags ≡ h.flags = c.in-Some.ensures.flags.1 ∙ c.entries.invariant.3 in
    let entry : shown.entry ≡ directed_entry c.args.direction h.flags seen.entry = ap (λ (x : FlaggedEntry). x.entry) c.directed.ensures ∙ ap (λ (fs : List ℕ). directed_entry c.args.direction fs seen.entry) flags in
    let whole : entries ≡ it.done ++ seen.entry ∷ is.others = it.passed.whole ∙ ap (λ (es : List Entry). it.done ++ es) is.is in
    let was = c.entries.invariant.10 (c.take_entry.ensures.was_honest honest) in
    let header : header_in (rc_str_bytes c.entries.run.table) shown ≡ h = ap₂ (λ (name flags : List ℕ). record { name = name; flags = flags }) was.1 (ap (λ (x : FlaggedEntry). x.flags) c.directed.ensures ∙ flags) in
    caused_on c.from_residual-in_err-take_entry.result _ _ c.in_err-take_entry.field-0.0 c.from_residual-in_err-take_entry.ensures.1
    (λ why by. g.B.Rows.fails_then Is _ _ _ _ why (c.entries.invariant.1 entries others left)
    (g.B.Rows.keeps_so _ Is _ _ _ (λ held write k wrote. next_entry_write c.args.direction (group_of h entries) it.done is.others seen.entry held write whole (entry_write_as _ h _ _ held write header entry wrote)) c.in_err-take_entry.ensures.kept) honest
    (g.B.Rows.fails_so _ _ _ _ why (λ held write wrote. next_entry_write c.args.direction (group_of h entries) it.done is.others seen.entry held write whole (entry_write_as _ h _ _ held write header entry wrote)) by))
    (c.in_err-take_entry.ensures.caused honest)

pub returns-in_err-take_entry-clause-kept : goal.returns-in_err-take_entry-clause-kept
returns-in_err-take_entry-clause-kept g c = λ entries others left.
    let Is = IsGroupWrite (directed_group c.args.direction (group_of (header_of c.args.header) entries)) in
    let h = header_of c.args.header in
    let seen = c.in-Some.entry in
    let shown = c.directed.result in
    let it = c.entries.invariant.11 entries others left in
    let is = c.in-Some.ensures.next it.passed.others others it.passed.are_left in
    let flags : seen.flags ≡ h.flags = c.in-Some.ensures.flags.1 ∙ c.entries.invariant.3 in
    let entry : shown.entry ≡ directed_entry c.args.direction h.flags seen.entry = ap (λ (x : FlaggedEntry). x.entry) c.directed.ensures ∙ ap (λ (fs : List ℕ). directed_entry c.args.direction fs seen.entry) flags in
    let whole : entries ≡ it.done ++ seen.entry ∷ is.others = it.passed.whole ∙ ap (λ (es : List Entry). it.done ++ es) is.is in
    let p = err_from_is_err_and c.from_residual-in_err-take_entry.result c.from_residual-in_err-take_entry.ensures.1 in
    rw p.1 (g.B.Rows.keeps_then Is _ _ _ _ (c.entries.invariant.1 entries others left) (g.B.Rows.keeps_so _ Is _ _ _ (λ held write honest wrote.
    let was = c.entries.invariant.10 (c.take_entry.ensures.was_honest honest) in
    let header : header_in (rc_str_bytes c.entries.run.table) shown ≡ h = ap₂ (λ (name flags : List ℕ). record { name = name; flags = flags }) was.1 (ap (λ (x : FlaggedEntry). x.flags) c.directed.ensures ∙ flags) in
    next_entry_write c.args.direction (group_of h entries) it.done is.others seen.entry held write whole (entry_write_as _ h _ _ held write header entry wrote)) c.in_err-take_entry.ensures.kept))

pub entries-preserved : goal.entries-preserved
entries-preserved g c =
    let so = c.entries.invariant in
    let h = header_of c.args.header in
    let forward = c.in-Some.ensures.forward in (
      so.0,
      (λ entries others left.
          let Is = IsGroupWrite (directed_group c.args.direction (group_of (header_of c.args.header) entries)) in
          let h = header_of c.args.header in
          let seen = c.in-Some.entry in
          let shown = c.directed.result in
          let it = c.entries.invariant.11 entries others left in
          let is = c.in-Some.ensures.next it.passed.others others it.passed.are_left in
          let flags : seen.flags ≡ h.flags = c.in-Some.ensures.flags.1 ∙ c.entries.invariant.3 in
          let entry : shown.entry ≡ directed_entry c.args.direction h.flags seen.entry = ap (λ (x : FlaggedEntry). x.entry) c.directed.ensures ∙ ap (λ (fs : List ℕ). directed_entry c.args.direction fs seen.entry) flags in
          let whole : entries ≡ it.done ++ seen.entry ∷ is.others = it.passed.whole ∙ ap (λ (es : List Entry). it.done ++ es) is.is in
          g.B.Rows.keeps_then Is _ _ _ _ (so.1 entries others left)
          (g.B.Rows.keeps_so _ Is _ _ _ (λ held write honest wrote.
          let was = c.entries.invariant.10 (c.take_entry.ensures.was_honest honest) in
          let header : header_in (rc_str_bytes c.entries.run.table) shown ≡ h = ap₂ (λ (name flags : List ℕ). record { name = name; flags = flags }) was.1 (ap (λ (x : FlaggedEntry). x.flags) c.directed.ensures ∙ flags) in
          next_entry_write c.args.direction (group_of h entries) it.done is.others seen.entry held write whole (entry_write_as _ h _ _ held write header entry wrote)) c.in_ok-take_entry.ensures.kept)),
      c.in-Some.ensures.file ∙ so.2,
      c.in-Some.ensures.flags.0 ∙ so.3,
      omega (arith, so.4, forward.0),
      forward.1,
      omega (arith, so.6, forward.0, c.take_entry.ensures.ignored),
      c.take_entry.ensures.tables ∙ so.7,
      c.take_entry.ensures.noop ∙ so.8,
      c.take_entry.ensures.listed ∙ so.9,
      λ honest.
          let was = so.10 (c.take_entry.ensures.was_honest honest) in (
            was.0,
            ap (λ t. rc_str_bytes t) c.take_entry.ensures.table.0 ∙ was.1,
            c.take_entry.ensures.table.1 ∙ was.2 ∙ sym (judged_same (g.B.Rows.state c.entries.rows) (g.B.Rows.state c.take_entry.new.rows) (c.in_ok-take_entry.ensures.schemas honest) (group_of h []) (group_of h []) refl),
            ap (λ v. v.items) c.take_entry.ensures.table.2 ∙ was.3 ∙ sym (refuses_same (g.B.Rows.state c.entries.rows) (g.B.Rows.state c.take_entry.new.rows) (c.in_ok-take_entry.ensures.schemas honest) h.name),
          ),
      λ entries others left.
          let it = so.11 entries others left in
          entries_next (FnReturnsAt g.H.Fn c.args.handler.now) c.args.direction h c.entries.tables c.args.run.now c.entries.run _ _ _ entries others it so.3 c.next_entry.new.self c.in-Some.entry c.directed.result c.take_entry.new.self _ _
          (c.in-Some.ensures.next it.passed.others others it.passed.are_left) c.directed.ensures c.take_entry.ensures.was_honest c.in_ok-take_entry.ensures.behind,
    )

pub returns-clause-behind : goal.returns-clause-behind
returns-clause-behind g c = λ honest before closed entries others left.
    let so = c.entries.invariant in
    let it = so.11 entries others left in
    let none = c.in_default.ensures.next it.passed.others others it.passed.are_left in
    entries_all (FnReturnsAt g.H.Fn c.args.handler.now) c.args.direction (header_of c.args.header) c.entries.tables c.args.run.now c.entries.run _ _ _ entries others it so.3 none.0 honest before closed

pub returns-clause-left : goal.returns-clause-left
returns-clause-left g c = λ entries others left.
    let it = c.entries.invariant.11 entries others left in
    (c.in_default.ensures.next it.passed.others others it.passed.are_left).2
