-- `changeset::Changeset::push`: the invariant of `self`, the clause `well_formed`.
use Rattle.std.proofs.Common.{◌≡◌, arith, rules}
use Rattle.cs_wire_entries.specs.Changeset.{GroupData, IsGroup}
use Rattle.cs_wire.proofs.GroupLemmas.{IsChangeset-push}
use Rattle.cs_wire.proofs.IndexLemmas.{IsIndex-grown}
use Rattle.cs_wire.proofs.changeset.Changeset.push.Goals as goal

pub invariant_of-self-in-Ok : goal.invariant_of-self-in-Ok
invariant_of-self-in-Ok c =
    let inside = c.self.inside in
    let fresh = rw (← c.self.view_is) at c.requires in
    let whole : IsGroup c.args.group = search rules in
    let name : c.args.group.header.name ≡ c.in_ok-name.name.items = cc (c.header.ensures.same, c.name.ensures, c.as_bytes.ensures.value, c.in_ok-name.ensures.items) in
    rw c.in_ok-push.ensures.items (
      IsChangeset-push inside.groups.items c.args.group c.self.invariant.0 whole fresh,
      IsIndex-grown (λ (g : GroupData). g.header.name) inside.indices c.insert.new.self inside.groups.items c.args.group c.in_ok-name.name.items c.len-index.result c.self.invariant.1 name (omega arith) (c.in-Ok.ensures.ok),
    )

pub returns-in-Ok-clause-well_formed : goal.returns-in-Ok-clause-well_formed
returns-in-Ok-clause-well_formed c =
    let whole : IsGroup c.args.group = search rules in
    rw c.in_ok-push.ensures.items (IsChangeset-push c.self.inside.groups.items c.args.group c.self.invariant.0 whole (rw (← c.self.view_is) at c.requires))
