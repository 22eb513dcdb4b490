-- `entry::write`: what `put` asks for, the clauses `caused` and `kept`.
use Rattle.std.proofs.Common.{sym, ap, ◌∙◌, rules}
use Rattle.std.proofs.lemmas.Result.{err_from_is_err_and}
use Rattle.cs_value.specs.Value.{IsRow}
use Rattle.cs_apply_conflict_kinds.specs.Applying.{refuses_at}
use Rattle.cs_apply_engine.specs.Steps.{header_in, write_of}
use Rattle.cs_apply_engine.proofs.CauseLemmas.{rows_caused_on}
use Rattle.cs_apply_engine.proofs.EntryLemmas.{keyed_here, kept_here, fits_here}
use Rattle.cs_apply_engine.proofs.entry.write.Goals.{in-Some+in_ok-put-in-Some, in-None+in_ok-remove-in-None}
use Rattle.cs_apply_engine.proofs.entry.write.Goals as goal

pub put-requires : goal.put-requires
put-requires g c = λ honest.
    let state = g.B.Rows.state c.args.rows.now in
    let header = header_in c.args.table.now c.args.entry.now in
    let has = c.requires.table honest in
    let values : IsRow c.in-Some.row = search rules in
    let left = rw c.in-Some.is at c.in_ok-row.ensures.fits in
    let stood = keyed_here state header c.args.key.now c.args.current has (c.requires.row honest) in
    let fits = left stood c.requires.found in
    let obeys = rw c.in-Some.is at c.in_ok-row.ensures.obeys in
    let kept = obeys (refuses_at state c.args.table.now) (kept_here state header c.args.key.now c.args.current has (c.requires.row honest)) c.requires.found (c.requires.obeys honest) in
    fits_here state header c.args.key.now c.in-Some.row has values fits.0 (c.requires.key ∙ sym fits.1) kept

pub returns-in_err-put-in-Some-clause-caused : goal.returns-in_err-put-in-Some-clause-caused
returns-in_err-put-in-Some-clause-caused g c = λ honest.
    let left = rw c.in-Some.is at c.in_ok-row.ensures.same in
    rows_caused_on c.from_residual-in_err-put-in-Some.result _ _ c.in_err-put-in-Some.field-0.0 c.from_residual-in_err-put-in-Some.ensures.1
    (λ why by. g.B.Rows.fails_so _ _ _ _ why (λ held write is. (is.0, is.1 ∙ ap (write_of c.args.table.now c.args.key.now) left)) by) (c.in_err-put-in-Some.ensures.caused honest)

pub returns-in_err-remove-in-None-clause-caused : goal.returns-in_err-remove-in-None-clause-caused
returns-in_err-remove-in-None-clause-caused g c = λ honest.
    let left = rw c.in-None.is at c.in_ok-row.ensures.same in
    rows_caused_on c.from_residual-in_err-remove-in-None.result _ _ c.in_err-remove-in-None.field-0.0 c.from_residual-in_err-remove-in-None.ensures.1
    (λ why by. g.B.Rows.fails_so _ _ _ _ why (λ held write is. (is.0, is.1 ∙ ap (write_of c.args.table.now c.args.key.now) left)) by) (c.in_err-remove-in-None.ensures.caused honest)

pub returns-in_err-put-in-Some-clause-kept : goal.returns-in_err-put-in-Some-clause-kept
returns-in_err-put-in-Some-clause-kept g c =
    let left = rw c.in-Some.is at c.in_ok-row.ensures.same in
    let p = err_from_is_err_and c.from_residual-in_err-put-in-Some.result c.from_residual-in_err-put-in-Some.ensures.1 in
    rw p.1 (g.B.Rows.keeps_so _ _ _ _ _ (λ held write h is. (is.0, is.1 ∙ ap (write_of c.args.table.now c.args.key.now) left)) c.in_err-put-in-Some.ensures.kept)

pub returns-in_err-remove-in-None-clause-kept : goal.returns-in_err-remove-in-None-clause-kept
returns-in_err-remove-in-None-clause-kept g c =
    let left = rw c.in-None.is at c.in_ok-row.ensures.same in
    let p = err_from_is_err_and c.from_residual-in_err-remove-in-None.result c.from_residual-in_err-remove-in-None.ensures.1 in
    rw p.1 (g.B.Rows.keeps_so _ _ _ _ _ (λ held write h is. (is.0, is.1 ∙ ap (write_of c.args.table.now c.args.key.now) left)) c.in_err-remove-in-None.ensures.kept)

pub returns-clause-kept : goal.returns-clause-kept
returns-clause-kept g c =
    elim c.match-branch-2.branch [
      | in-Some+in_ok-put-in-Some w ↦
          let left = rw w.in-Some.is at c.in_ok-row.ensures.same in
          rw w.rows-is (g.B.Rows.keeps_so _ _ _ _ _ (λ held write h is. (is.0, is.1 ∙ ap (write_of c.args.table.now c.args.key.now) left)) w.in_ok-put-in-Some.ensures.kept)
      | in-None+in_ok-remove-in-None w ↦
          let left = rw w.in-None.is at c.in_ok-row.ensures.same in
          rw w.rows-is (g.B.Rows.keeps_so _ _ _ _ _ (λ held write h is. (is.0, is.1 ∙ ap (write_of c.args.table.now c.args.key.now) left)) w.in_ok-remove-in-None.ensures.kept)
    ]
