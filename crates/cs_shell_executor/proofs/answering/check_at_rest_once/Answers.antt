-- `answering::check_at_rest_once`: the clause `turns`.
use Rattle.std.proofs.Common.{◌||◌, refl}
use Rattle.sqlite.specs.Held.{state}
use Rattle.cs_store.specs.Turns.{AreSame, Known}
use Rattle.cs_shell_executor.proofs.TurnLemmas.{between_known, between_still}
use Rattle.cs_shell_executor.proofs.answering.check_at_rest_once.Goals as goal

pub returns-then-is_at_rest-clause-turns : goal.returns-then-is_at_rest-clause-turns
returns-then-is_at_rest-clause-turns g c = λ rests.
    between_still (Known (rests || c.args.is_at_rest.now) (state g.S.Store c.args.store.now)) AreSame (state g.S.Store c.args.store.now) (λ t. refl)

pub returns-in_err-check_at_rest-clause-turns : goal.returns-in_err-check_at_rest-clause-turns
returns-in_err-check_at_rest-clause-turns g c = λ rests. c.in_err-check_at_rest.ensures.kept (rests || c.args.is_at_rest.now)

pub returns-clause-turns : goal.returns-clause-turns
returns-clause-turns g c = λ rests.
    between_known (rests || c.args.is_at_rest.now) _ AreSame (state g.S.Store c.args.store.now) (state g.S.Store c.check_at_rest.new.store) c.in_ok-check_at_rest.ensures.at_rest
