-- `sessions::carry_in_session`: the answer of *is empty*, and no memory for that of *close session*.
use Rattle.std.proofs.Common.{Some, None, refl}
use Rattle.sqlite.specs.Held.{state}
use Rattle.cs_calls_answers.specs.declared.answer.Answer.TheVariants.{Done, Flag}
use Rattle.cs_calls_service.specs.declared.sessions.SessionCall.TheVariants.{Close, IsEmpty}
use Rattle.cs_calls_service.proofs.SessionLemmas.{sent_session, unspelled_session}
use Rattle.cs_calls_service.proofs.sessions.carry_in_session.Goals as goal

pub returns-in-IsEmpty : goal.returns-in-IsEmpty
returns-in-IsEmpty g c =
    rw c.in-IsEmpty.is (sent_session IsEmpty (Some c.args.session) (state g.S.Store c.args.store.now) (Flag c.is_empty.result) c.bytes_of-result.result (λ tables. (c.is_empty.result, refl, c.is_empty.ensures, refl)) c.bytes_of-result.ensures.ok c.bytes_of-result.ensures.err)

pub returns-in-Err : goal.returns-in-Err
returns-in-Err g c = rw c.in-Close.is (unspelled_session Close (Some c.args.session) (state g.S.Store c.args.store.now) None Done c.in-Err.why (λ tables. (refl, refl)) c.in-Err.ensures.err)
