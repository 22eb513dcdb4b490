-- `group::Group::invert`: the invariant of `self`, the clauses `inverse` and `well_formed`.
use Rattle.std.proofs.Common.{ℕ, List, length, map, ap, ◌∙◌, arith}
use Rattle.std.proofs.lemmas.List.{length-map}
use Rattle.cs_value.proofs.ListLemmas.{written_whole}
use Rattle.cs_wire_entries.specs.Changeset.{GroupData}
use Rattle.cs_wire_entries.specs.Views.{inverse_entry}
use Rattle.cs_wire_entries.proofs.InverseLemmas.{IsGroup-inverse, IsInverseGroup-is, index-inverse}
use Rattle.cs_wire.proofs.group.Group.invert.Goals as goal

pub invariant_of-self : goal.invariant_of-self
invariant_of-self c =
    let inside = c.self.inside in
    let group : GroupData = record { header = inside.header; entries = inside.entries.items } in
    let inverse = inverse_entry inside.header.flags in
    let changed = c.invert_entries.ensures ∙ ap (λ (f : List ℕ). map (inverse_entry f) c.deref_mut.result.now) c.flags.ensures.same ∙ ap (map inverse) c.deref_mut.ensures.value in
    let whole = written_whole inside.entries.items c.invert_entries.new.entries inside.entries.len (omega arith) (ap length changed ∙ length-map inside.entries.items inverse) ∙ changed in
    rw whole
    (IsGroup-inverse group c.self.invariant.0, index-inverse group inside.indices c.self.invariant.0 c.self.invariant.1)

pub returns-clause-inverse : goal.returns-clause-inverse
returns-clause-inverse c =
    let inside = c.self.inside in
    let group : GroupData = record { header = inside.header; entries = inside.entries.items } in
    let inverse = inverse_entry inside.header.flags in
    let changed = c.invert_entries.ensures ∙ ap (λ (f : List ℕ). map (inverse_entry f) c.deref_mut.result.now) c.flags.ensures.same ∙ ap (map inverse) c.deref_mut.ensures.value in
    let whole = written_whole inside.entries.items c.invert_entries.new.entries inside.entries.len (omega arith) (ap length changed ∙ length-map inside.entries.items inverse) ∙ changed in
    rw (← c.self.view_is, whole)
    (IsInverseGroup-is group c.self.invariant.0)

pub returns-clause-well_formed : goal.returns-clause-well_formed
returns-clause-well_formed c =
    let inside = c.self.inside in
    let group : GroupData = record { header = inside.header; entries = inside.entries.items } in
    let inverse = inverse_entry inside.header.flags in
    let changed = c.invert_entries.ensures ∙ ap (λ (f : List ℕ). map (inverse_entry f) c.deref_mut.result.now) c.flags.ensures.same ∙ ap (map inverse) c.deref_mut.ensures.value in
    let whole = written_whole inside.entries.items c.invert_entries.new.entries inside.entries.len (omega arith) (ap length changed ∙ length-map inside.entries.items inverse) ∙ changed in
    rw whole
    (IsGroup-inverse group c.self.invariant.0)
