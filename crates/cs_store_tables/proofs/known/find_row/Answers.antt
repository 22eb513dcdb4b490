-- `known::find_row`: the clauses `kept`, `caused` and `found`.
use Rattle.std.proofs.Common.{ap, sym, ◌∙◌}
use Rattle.std.specs.Option.{option_map}
use Rattle.sqlite.specs.Held.{state}
use Rattle.cs_store_tables.specs.Laws.{keeps_then, read_then, was_clean}
use Rattle.cs_store_tables.proofs.ReadLemmas.{no_row}
use Rattle.cs_store_tables.proofs.FailureLemmas.{so_caused}
use Rattle.cs_store_tables.proofs.known.find_row.Goals as goal

pub returns-in_err-key-in-Ok-clause-kept : goal.returns-in_err-key-in-Ok-clause-kept
returns-in_err-key-in-Ok-clause-kept g c = keeps_then c.look_up.ensures.kept c.find_row.ensures.kept

pub returns-in-Err-clause-caused : goal.returns-in-Err-clause-caused
returns-in-Err-clause-caused g c clean =
    let kept = c.look_up.ensures.kept in
    let then = c.find_row.ensures.kept in
    so_caused _ _ c.in-Err.error (λ why fails. read_then (state g.S.Store c.args.conn.now) (state g.S.Store c.look_up.new.conn) (state g.S.Store c.find_row.new.conn) why kept.crash
    (was_clean (state g.S.Store c.look_up.new.conn) (state g.S.Store c.find_row.new.conn) then.crash clean) then.crash fails) (c.in-Err.ensures.caused (kept.sound c.requires.sound) clean)

pub returns-in-None-clause-found : goal.returns-in-None-clause-found
returns-in-None-clause-found g c clean = sym (no_row _ c.args.name.now c.args.key.now (sym (c.in_ok-look_up.ensures.found clean) ∙ ap (option_map (λ t. t.1)) c.in-None.is))
