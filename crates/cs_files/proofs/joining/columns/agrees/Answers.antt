-- `joining::columns::agrees`: what it ensures.
use Rattle.std.proofs.Common.{refl, sym, ap, ◌∙◌}
use Rattle.cs_wire.specs.Changeset.{HeaderData}
use Rattle.cs_group.specs.Joining.{key_marks}
use Rattle.cs_group.proofs.JoinLemmas.{agrees_unfound}
use Rattle.cs_files.proofs.JoiningLemmas.{unlisted, agrees_there, there_agrees}
use Rattle.cs_files.proofs.joining.columns.agrees.Goals as goal

pub returns-in-None : goal.returns-in-None
returns-in-None c = λ groups group listed is same. (
  λ yes. agrees_unfound groups group (sym (rw (ap (λ (h : HeaderData). h.name) same) at (unlisted c.args.known.now groups listed is c.args.header.now.name.now (c.in-None.ensures.absent.0 refl)))),
  λ agrees. refl,
)

pub returns-in-Some : goal.returns-in-Some
returns-in-Some c = λ groups group listed is same.
    let index = c.in-Some.index in
    let name = ap (λ (h : HeaderData). h.name) same in
    let flags = ap (λ (h : HeaderData). key_marks h.flags) same in
    let own = ap (λ (h : HeaderData). key_marks h.flags) c.header.ensures.same in
    let columns = c.have_same_columns.ensures in (
      λ yes. agrees_there c.args.known.now groups listed is c.args.header.now.name.now index c.in-Some.ensures.found group name (sym own ∙ columns.0 yes ∙ flags),
      λ agrees. columns.1 (own ∙ there_agrees c.args.known.now groups listed is c.args.header.now.name.now index c.in-Some.ensures.found group name agrees ∙ sym flags),
    )
