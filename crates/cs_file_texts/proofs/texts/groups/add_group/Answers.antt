-- `texts::groups::add_group`: what it ensures.
use Rattle.std.proofs.Common.{refl, ap, ◌∙◌}
use Rattle.std.specs.List.{flat_map}
use Rattle.cs_wire.specs.Changeset.{HeaderData}
use Rattle.cs_file_texts.specs.Forms.{entry_part}
use Rattle.cs_file_texts.proofs.GatherLemmas.{Gathered-nil, Gathers-stopped, Gathers-then}
use Rattle.cs_file_texts.proofs.TablesLemmas.{group_parts}
use Rattle.cs_file_texts.proofs.texts.groups.add_group.Goals as goal

pub returns-in_err-add_header : goal.returns-in_err-add_header
returns-in_err-add_header g c =
    let group = c.args.group.now in
    let name = c.name.ensures ∙ ap (λ (h : HeaderData). h.name) c.header.ensures.same in
    Gathers-stopped _ _ _ (flat_map (entry_part c.args.form c.name.result.now) group.entries) c.from_residual.ensures.0
    (group_parts c.args.form group c.name.result.now c.flags.result.now group.entries name c.flags.ensures.same refl) (Gathered-nil _ _) c.in_err-add_header.ensures

pub returns : goal.returns
returns g c =
    let name = c.name.ensures ∙ ap (λ (h : HeaderData). h.name) c.header.ensures.same in
    Gathers-then _ (group_parts c.args.form c.args.group.now c.name.result.now c.flags.result.now _ name c.flags.ensures.same c.entries.ensures.same)
    c.in_ok-add_header.ensures.gathered c.add_entries.ensures
