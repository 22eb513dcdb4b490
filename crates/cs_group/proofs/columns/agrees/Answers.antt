-- `columns::agrees`: what it ensures.
use Rattle.std.proofs.Common.{refl, ap, ◌∙◌}
use Rattle.cs_wire.specs.Changeset.{HeaderData, GroupData}
use Rattle.cs_group.specs.Joining.{with_text}
use Rattle.cs_group.proofs.JoinLemmas.{agrees_unfound, agrees_found, found_agrees}
use Rattle.cs_group.proofs.columns.agrees.Goals as goal

pub returns-in-None : goal.returns-in-None
returns-in-None c =
    let name = c.name.ensures ∙ ap (λ (h : HeaderData). h.name) c.header.ensures.same in
    let none = c.in-None.ensures.found ∙ ap (with_text (λ (g : GroupData). g.header.name) c.args.first.now) name in
    (λ yes. agrees_unfound c.args.first.now c.args.group.now none, λ all. refl)

pub returns-in-Some : goal.returns-in-Some
returns-in-Some c =
    let first = c.args.first.now in
    let group = c.args.group.now in
    let other = c.in-Some.other.now in
    let name = c.name.ensures ∙ ap (λ (h : HeaderData). h.name) c.header.ensures.same in
    let found = c.in-Some.ensures.found ∙ ap (with_text (λ (g : GroupData). g.header.name) first) name in
    let same = rw (c.flags.ensures.same, c.flags-in-Some.ensures.same) at c.have_same_columns.ensures in
    let once = c.in-Some.ensures.well_formed.once in
    (λ yes. agrees_found first group other once found (same.0 yes), λ all. same.1 (found_agrees first group other once found all))
