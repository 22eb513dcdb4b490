-- `records::query_rows`: the clauses `rests`, `keeps_crash` and `reads`.
use Rattle.sqlite.specs.Held.{state}
use Rattle.sqlite.specs.Values.{bound}
use Rattle.cs_store_sql.proofs.QueryLemmas.{shows_unchanged, keeps_crash, fails_rests, on_err}
use Rattle.cs_store_sql.proofs.records.query_rows.Goals as goal

pub returns-in_err-query_all-clause-rests : goal.returns-in_err-query_all-clause-rests
returns-in_err-query_all-clause-rests g c clean =
    on_err _ _ (fails_rests c.args.sql.now (bound c.args.params.now) (state g.S.Store c.args.conn.now) (state g.S.Store c.query_all.new.self) _ (rw c.in_err-query_all.was at (c.query_all.ensures.err clean)))

pub returns-in_err-query_all-clause-keeps_crash : goal.returns-in_err-query_all-clause-keeps_crash
returns-in_err-query_all-clause-keeps_crash g c =
    keeps_crash c.args.sql.now (bound c.args.params.now) (state g.S.Store c.args.conn.now) (state g.S.Store c.query_all.new.self) c.requires c.query_all.ensures.survives

pub returns-clause-reads : goal.returns-clause-reads
returns-clause-reads g c clean =
    shows_unchanged c.args.sql.now (bound c.args.params.now) (state g.S.Store c.args.conn.now) (state g.S.Store c.query_all.new.self) _ c.requires (c.in_ok-query_all.ensures.ok clean)

pub returns-clause-keeps_crash : goal.returns-clause-keeps_crash
returns-clause-keeps_crash g c =
    keeps_crash c.args.sql.now (bound c.args.params.now) (state g.S.Store c.args.conn.now) (state g.S.Store c.query_all.new.self) c.requires c.query_all.ensures.survives
