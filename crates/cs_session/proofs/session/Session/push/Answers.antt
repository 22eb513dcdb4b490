-- `session::Session::push`: the invariant of `self`.
use Rattle.std.proofs.Common.{rules}
use Rattle.cs_session.proofs.AttachLemmas.{push_keeps}
use Rattle.cs_session.proofs.session.Session.push.Goals as goal

pub invariant_of-self-2 : goal.invariant_of-self-2
invariant_of-self-2 c =
    push_keeps c.self.inside.tables c.push.new.self c.args.name.now c.args.schema c.in_ok-push.ensures.pushed c.push.ensures.none_pending c.self.invariant c.requires.named (search rules) (rw c.self.view_is c.requires.fresh)
