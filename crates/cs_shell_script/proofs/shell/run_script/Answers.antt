-- `shell::run_script`: the clauses `ran`, `at_rest`, `disk` and `others`.
use Rattle.std.proofs.Common.{◌≡◌, false, true, refl, rules}
use Rattle.sqlite.specs.Held.{state}
use Rattle.cs_store.specs.Store.{tables_in}
use Rattle.cs_shell_script.proofs.LineLemmas.{begins, stays_at_rest}
use Rattle.cs_shell_script.proofs.shell.run_script.Goals as goal

pub returns-clause-ran : goal.returns-clause-ran
returns-clause-ran g c =
    let same : c.run_shell.new.shell.store.now ≡ c.store-1.given.0 = search rules in
    rw (← same)
    (begins g.R.Read.remaining g.W.Write.contents _ c.run_shell.new.shell.is_at_rest (state g.S.Store c.args.store.now) (state g.S.Store c.run_shell.new.shell.store.now) c.new-work.result c.run_shell.new.shell.work.now _ _ _ _ c.new-work.ensures.slots c.new-work.ensures.session
    (c.run_shell.ensures.ran false))

pub returns-clause-at_rest : goal.returns-clause-at_rest
returns-clause-at_rest g c =
    let same : c.run_shell.new.shell.store.now ≡ c.store-1.given.0 = search rules in
    rw (← same) (stays_at_rest (state g.S.Store c.args.store.now) (state g.S.Store c.run_shell.new.shell.store.now) _ (c.run_shell.ensures.ran true))

pub returns-clause-disk : goal.returns-clause-disk
returns-clause-disk g c =
    let same : c.run_shell.new.shell.store.now ≡ c.store-1.given.0 = search rules in
    rw (← same) (c.run_shell.ensures.ran false).disk

pub returns-clause-others : goal.returns-clause-others
returns-clause-others g c =
    let same : c.run_shell.new.shell.store.now ≡ c.store-1.given.0 = search rules in
    rw (← same) (λ clean. (c.run_shell.ensures.ran false).others clean (tables_in (state g.S.Store c.args.store.now).now) (λ is_open. refl))
