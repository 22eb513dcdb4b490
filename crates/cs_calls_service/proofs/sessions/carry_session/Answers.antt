-- `sessions::carry_session`: there is no memory for the answer of *open session*.
use Rattle.std.proofs.Common.{Some, None, [], refl}
use Rattle.sqlite.specs.Held.{state}
use Rattle.cs_calls_answers.specs.declared.answer.Answer.TheVariants.{Done}
use Rattle.cs_calls_service.specs.declared.sessions.SessionCall.TheVariants.{Open}
use Rattle.cs_calls_service.proofs.SessionLemmas.{unspelled_session}
use Rattle.cs_calls_service.proofs.sessions.carry_session.Goals as goal

pub returns-in-Err : goal.returns-in-Err
returns-in-Err g c = rw (c.in_default.is, c.in-Open.is) (unspelled_session Open None (state g.S.Store c.args.store.now) (Some []) Done c.in-Err.why (λ tables. (refl, refl)) c.in-Err.ensures.err)
