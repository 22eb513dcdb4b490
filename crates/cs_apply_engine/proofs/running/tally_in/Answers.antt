-- `running::tally_in`: the invariant of the loop, what `take_table` asks for, the clauses `caused`,
-- `kept`, `leaves`, `applied`, `refused` and `named`.
use Rattle.std.proofs.Common.{◌≡◌, List, [], ◌∷◌, ◌++◌, length, refl, sym, ap, subst, ◌∙◌, arith}
use Rattle.std.proofs.lemmas.Result.{err_from_is_err_and}
use Rattle.std.specs.Fn.{FnReturnsAt}
use Rattle.cs_wire.specs.Changeset.{GroupData, HeaderData}
use Rattle.cs_wire.specs.Headers.{header_of}
use Rattle.cs_apply_engine.specs.Running.{directed}
use Rattle.cs_apply_engine.proofs.BehindLemmas.{behind_start}
use Rattle.cs_apply_engine.specs.Run.{directed_group, group_of}
use Rattle.cs_apply_engine.specs.Writes.{IsFileWrite, IsGroupWrite}
use Rattle.cs_apply_engine.proofs.CauseLemmas.{caused_on, next_table_write, not_own}
use Rattle.cs_apply_engine.proofs.DirectedLemmas.{directed_none, outcome_caused, outcome_named, read_as, run_outcome}
use Rattle.cs_apply_engine.proofs.FileLemmas.{tables_all, tables_next}
use Rattle.cs_apply_engine.proofs.running.tally_in.Goals as goal

pub tables-init : goal.tables-init
tables-init g c =
    let found = c.in_ok-tables.ensures.found in (
      c.requires.callable,
      g.B.Rows.keeps_itself _ _,
      c.in_ok-tables.ensures.file,
      omega (arith, c.in_ok-run.ensures.start.tables),
      found.2.within,
      omega (arith, c.in_ok-run.ensures.start.empty.ignored),
      c.in_ok-run.ensures.noop,
      c.in_ok-run.ensures.listed,
      record {
        groups = found.0;
        is_file = found.1;
        closed = [];
        others = found.0;
        whole = refl;
        are_left = found.2;
        behind = λ honest. (honest, rw (directed_none c.args.direction) (behind_start (FnReturnsAt g.H.Fn c.args.handler.now) (g.B.Rows.state c.args.rows.now) c.in_ok-run.run' c.in_ok-run.ensures.start));
      },
    )

pub take_table-requires-clause-count : goal.take_table-requires-clause-count
take_table-requires-clause-count g c =
    let so = c.tables.invariant in
    omega (arith, so.3, c.in-Some.ensures.forward, ap length (c.in-Some.ensures.file ∙ so.2))

pub take_table-requires-clause-room : goal.take_table-requires-clause-room
take_table-requires-clause-room g c = omega (arith, ap length (c.in-Some.ensures.file ∙ c.tables.invariant.2))

pub take_table-requires-clause-flags : goal.take_table-requires-clause-flags
take_table-requires-clause-flags g c =
    let so = c.tables.invariant in
    let is = c.in-Some.ensures.next [] so.8.others so.8.are_left in
    is.flags_are ∙ sym (ap (λ (h : HeaderData). h.flags) is.header_is)

pub returns-in_err-take_table-clause-caused : goal.returns-in_err-take_table-clause-caused
returns-in_err-take_table-clause-caused g c = λ honest.
    let Is = IsFileWrite c.args.direction c.args.file.now in
    let so = c.tables.invariant in
    let is = c.in-Some.ensures.next [] so.8.others so.8.are_left in
    let group : group_of (header_of c.in-Some.header) is.group.entries ≡ is.group = ap (λ (h : HeaderData). group_of h is.group.entries) is.header_is in
    let whole : so.8.groups ≡ so.8.closed ++ is.group ∷ is.others = so.8.whole ∙ ap (λ (gs : List GroupData). so.8.closed ++ gs) is.is in
    caused_on c.from_residual-in_err-take_table.result _ _ c.in_err-take_table.field-0.0 c.from_residual-in_err-take_table.ensures.1
    (λ why by. g.B.Rows.fails_then Is _ _ _ _ why so.1
    (g.B.Rows.keeps_so _ Is _ _ _ (λ held write h wrote. next_table_write c.args.direction c.args.file.now so.8.groups so.8.closed is.others is.group held write so.8.is_file whole
    (subst (λ (k : GroupData). IsGroupWrite (directed_group c.args.direction k) held write) group wrote)) (c.in_err-take_table.ensures.kept is.group.entries is.others is.are_left)) honest
    (g.B.Rows.fails_so _ _ _ _ why
    (λ held write wrote. next_table_write c.args.direction c.args.file.now so.8.groups so.8.closed is.others is.group held write so.8.is_file whole
    (subst (λ (k : GroupData). IsGroupWrite (directed_group c.args.direction k) held write) group wrote)) by))
    (c.in_err-take_table.ensures.caused honest is.group.entries is.others is.are_left)

pub returns-in_err-take_table-clause-kept : goal.returns-in_err-take_table-clause-kept
returns-in_err-take_table-clause-kept g c =
    let Is = IsFileWrite c.args.direction c.args.file.now in
    let so = c.tables.invariant in
    let is = c.in-Some.ensures.next [] so.8.others so.8.are_left in
    let group : group_of (header_of c.in-Some.header) is.group.entries ≡ is.group = ap (λ (h : HeaderData). group_of h is.group.entries) is.header_is in
    let whole : so.8.groups ≡ so.8.closed ++ is.group ∷ is.others = so.8.whole ∙ ap (λ (gs : List GroupData). so.8.closed ++ gs) is.is in
    let p = err_from_is_err_and c.from_residual-in_err-take_table.result c.from_residual-in_err-take_table.ensures.1 in
    rw (p.1, p.2, not_own _ c.in_err-take_table.ensures.named) (g.B.Rows.keeps_then Is _ _ _ _ so.1
    (g.B.Rows.keeps_so _ Is _ _ _ (λ held write h wrote. next_table_write c.args.direction c.args.file.now so.8.groups so.8.closed is.others is.group held write so.8.is_file whole
    (subst (λ (k : GroupData). IsGroupWrite (directed_group c.args.direction k) held write) group wrote)) (c.in_err-take_table.ensures.kept is.group.entries is.others is.are_left)))

pub returns-in_err-take_table-clause-leaves : goal.returns-in_err-take_table-clause-leaves
returns-in_err-take_table-clause-leaves g c = λ held first.
    let so = c.tables.invariant in
    let is = c.in-Some.ensures.next [] so.8.others so.8.are_left in
    g.B.Rows.leaves_still _ _ _ _ held (c.in_err-take_table.ensures.kept is.group.entries is.others is.are_left) (g.B.Rows.leaves_still _ _ _ _ held so.1 first)

pub tables-preserved : goal.tables-preserved
tables-preserved g c =
    let Is = IsFileWrite c.args.direction c.args.file.now in
    let so = c.tables.invariant in
    let is = c.in-Some.ensures.next [] so.8.others so.8.are_left in
    let group : group_of (header_of c.in-Some.header) is.group.entries ≡ is.group = ap (λ (h : HeaderData). group_of h is.group.entries) is.header_is in
    let whole : so.8.groups ≡ so.8.closed ++ is.group ∷ is.others = so.8.whole ∙ ap (λ (gs : List GroupData). so.8.closed ++ gs) is.is in
    let forward = c.in-Some.ensures.forward in (
      so.0,
      g.B.Rows.keeps_then Is _ _ _ _ so.1
          (g.B.Rows.keeps_so _ Is _ _ _ (λ held write h wrote. next_table_write c.args.direction c.args.file.now so.8.groups so.8.closed is.others is.group held write so.8.is_file whole
          (subst (λ (k : GroupData). IsGroupWrite (directed_group c.args.direction k) held write) group wrote)) (c.in_ok-take_table.ensures.kept is.group.entries is.others is.are_left)),
      c.take_table.ensures.file ∙ c.in-Some.ensures.file ∙ so.2,
      omega (arith, so.3, forward.0, c.in_ok-take_table.ensures.tables, c.take_table.ensures.place.0),
      c.take_table.ensures.place.1,
      c.in_ok-take_table.ensures.ignored,
      c.take_table.ensures.noop ∙ so.6,
      c.take_table.ensures.listed ∙ so.7,
      tables_next (FnReturnsAt g.H.Fn c.args.handler.now) c.args.direction c.args.file.now c.tables.tables c.tables.run _ _ _ _ so.8 c.in-Some.header c.next_table.new.self c.take_table.new.tables c.take_table.new.run _ _ is
          (c.in_ok-take_table.ensures.left is.group.entries is.others is.are_left) c.take_table.ensures.was_honest c.in_ok-take_table.ensures.behind,
    )

pub returns-clause-applied : goal.returns-clause-applied
returns-clause-applied g c = λ honest.
    let so = c.tables.invariant in
    let none = c.in_default.ensures.next [] so.8.others so.8.are_left in
    let behind = tables_all (FnReturnsAt g.H.Fn c.args.handler.now) c.args.direction c.args.file.now c.tables.tables c.tables.run _ _ _ _ so.8 none.0 honest in
    rw so.6 at (run_outcome (FnReturnsAt g.H.Fn c.args.handler.now) c.args.direction c.args.file.now (directed c.args.direction so.8.groups) _ c.tables.run _ (read_as c.args.direction c.args.file.now so.8.groups so.8.is_file) behind
    c.finish.result c.finish.ensures).0

pub returns-clause-refused : goal.returns-clause-refused
returns-clause-refused g c = λ honest.
    let so = c.tables.invariant in
    let none = c.in_default.ensures.next [] so.8.others so.8.are_left in
    let behind = tables_all (FnReturnsAt g.H.Fn c.args.handler.now) c.args.direction c.args.file.now c.tables.tables c.tables.run _ _ _ _ so.8 none.0 honest in
    rw so.6 at (run_outcome (FnReturnsAt g.H.Fn c.args.handler.now) c.args.direction c.args.file.now (directed c.args.direction so.8.groups) _ c.tables.run _ (read_as c.args.direction c.args.file.now so.8.groups so.8.is_file) behind
    c.finish.result c.finish.ensures).1

pub returns-clause-named : goal.returns-clause-named
returns-clause-named g c = outcome_named c.tables.run c.finish.result c.finish.ensures

pub returns-clause-caused : goal.returns-clause-caused
returns-clause-caused g c = λ honest. outcome_caused (g.B.Rows.fails (IsFileWrite c.args.direction c.args.file.now) c.args.rows.now c.tables.rows) c.tables.run c.finish.result c.finish.ensures

pub returns-clause-kept : goal.returns-clause-kept
returns-clause-kept g c = g.B.Rows.keeps_refused _ _ _ _ c.tables.invariant.1
