-- `group::Group::push_with_key`: the invariant of `self`.
use Rattle.std.proofs.Common.{ℕ, List, ap, ◌∙◌, sym, arith}
use Rattle.std.specs.FinMap.{insert}
use Rattle.cs_wire_entries.specs.declared.entry.Entry.{Entry}
use Rattle.cs_wire_entries.specs.Entry.{key_of}
use Rattle.cs_wire.proofs.GroupLemmas.{IsGroup-push}
use Rattle.cs_wire.proofs.IndexLemmas.{IsIndex-grown}
use Rattle.cs_wire.proofs.group.Group.push_with_key.Goals as goal

pub invariant_of-self-in-Ok : goal.invariant_of-self-in-Ok
invariant_of-self-in-Ok c =
    let inside = c.self.inside in
    let fits = rw (← c.self.view_is) at c.requires.fits in
    let key = rw (← c.self.view_is) at c.requires.key in
    let fresh = rw (← c.self.view_is) at c.requires.fresh in
    rw c.in_ok-push.ensures.items (
      IsGroup-push (record { header = inside.header; entries = inside.entries.items }) c.args.entry c.self.invariant.0 fits (rw key at fresh),
      IsIndex-grown (λ (e : Entry). key_of inside.header.flags e.change) inside.indices c.insert.new.self inside.entries.items c.args.entry c.args.key c.len-index.result c.self.invariant.1 (sym key) (omega arith) (c.in-Ok.ensures.ok ∙ ap (λ (k : List ℕ). insert inside.indices k c.len-index.result) c.into_bytes.ensures),
    )
