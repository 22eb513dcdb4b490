-- `joining::columns::partner_of`: the clause `found`.
use Rattle.std.proofs.Common.{refl, ap, ◌∙◌}
use Rattle.cs_wire.specs.Changeset.{HeaderData}
use Rattle.cs_group.specs.Joining.{key_marks}
use Rattle.cs_files.proofs.JoiningLemmas.{unlisted, asked_there, partner_there}
use Rattle.cs_files.proofs.joining.columns.partner_of.Goals as goal

pub returns-in_err-index-clause-found : goal.returns-in_err-index-clause-found
returns-in_err-index-clause-found c = λ groups listed is asked.
    rw (unlisted c.args.named.now groups listed is c.args.header.now.name.now (c.in_err-index.ensures.absent.0 refl), c.from_residual.ensures) tt

pub returns-then-not-have_same_columns-clause-found : goal.returns-then-not-have_same_columns-clause-found
returns-then-not-have_same_columns-clause-found c = λ groups listed is asked.
    let own = ap (λ (h : HeaderData). key_marks h.flags) c.header.ensures.same in
    let same = c.have_same_columns.ensures.1 (own ∙ asked_there c.args.named.now groups listed is c.args.header.now.name.now c.in_ok-index.index c.in_ok-index.ensures.found c.args.header.now.flags.now asked) in
    absurd cc

pub returns-clause-found : goal.returns-clause-found
returns-clause-found c = λ groups listed is asked.
    rw c.open.ensures (partner_there c.args.named.now groups listed is c.args.header.now.name.now c.in_ok-index.index c.in_ok-index.ensures.found)
