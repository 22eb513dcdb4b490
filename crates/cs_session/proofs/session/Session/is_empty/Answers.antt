-- `session::Session::is_empty`: what it ensures.
use Rattle.cs_session.proofs.AttachLemmas.{unwritten}
use Rattle.cs_session.proofs.session.Session.is_empty.Goals as goal

pub returns : goal.returns
returns c = rw (c.are_unwritten.ensures, c.as_slice.ensures, ← c.self.view_is) (unwritten c.self.inside.tables)
