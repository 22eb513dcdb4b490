-- `first_images::FirstImages::note`: the clauses `noted` and `kept`.
use Rattle.cs_session_notes.proofs.ImageLemmas.{noted_behind, kept_then}
use Rattle.cs_session_notes.proofs.first_images.FirstImages.note.Goals as goal

pub returns-clause-noted : goal.returns-clause-noted
returns-clause-noted c =
    rw (← c.self.view_is) (noted_behind c.self.inside.kept c.self.inside.firsts.entries c.args.key c.args.row c.insert.new.self.entries c.in_ok-insert.ensures.entries (rw (← c.self.view_is) at c.requires))

pub returns-clause-kept : goal.returns-clause-kept
returns-clause-kept c =
    rw (← c.self.view_is) (kept_then c.self.inside.kept c.self.inside.firsts.entries c.args.key c.args.row c.insert.new.self.entries c.in_ok-insert.ensures.entries (rw (← c.self.view_is) at c.requires) c.self.invariant)
